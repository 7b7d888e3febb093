-- The size of a canonical satisfaction: there is a formal one that takes as many items, no less weight, and as many
-- keys of the `multi` fragments that are executed. So it keeps within the limits of its miniscript.
use Rattle.std.proofs.Common.{◌≡◌, ℕ, zero, suc, ◌+◌, ◌*◌, ◌≤◌, List, [], ◌∷◌, ◌++◌, length, reverse, replicate, All, inl, inr, IsTrue, refl, sym, ◌∙◌, ap, subst, arith, ◌^◌, false}
use Rattle.std.proofs.lemmas.List.{length-append, length-replicate, length-reverse, reverse-reverse}
use Rattle.std.proofs.lemmas.List.Elements.{All-nil, All-cons, All-head, All-tail, All-same, All-append, All-replicate}
use Rattle.def_script.specs.Bytes.{Bytes}
use Rattle.def_machine.specs.Stacks.{Stack, Checker, member}
use Rattle.def_script.specs.Key.{is_key}
use Rattle.def_script.specs.Signature.{MAX_SIGNATURE_SIZE}
use Rattle.def_machine.specs.MultiSig.{is_good}
use Rattle.def_tree.specs.declared.Two.TheVariants as kind
use Rattle.def_tree.specs.declared.Wrapper.TheVariants as wrapper
use Rattle.def_tree.specs.Tree.{Tree, Trees, Key, just_0, just_1, pk_k, pk_h, hash, and_or, two, thresh, multi, wrap, none, more}
use Rattle.def_tree.specs.Range.{IsKey, IsWritable, AreWritable}
use Rattle.def_limits.specs.Formal.{Takes, nothing, item, same_items, tried, plus, empty, Is, Both, Either, FormalSat, FormalDsat, FormalParts}
use Rattle.def_satisfaction.specs.StackSet as stacks
use Rattle.def_script.specs.Witness.{weight}
use Rattle.def_satisfaction.specs.Setting.{Setting}
use Rattle.def_satisfaction.specs.Rows.{EMPTY, ONE, ZEROS, AreSignatures, row, parts}
use Rattle.def_choice.proofs.Weights.{weight-append, weight-reverse}
use Rattle.def_script.proofs.KeyLemmas.{key_length}
use Rattle.ms_row_laws.proofs.RowLogs.{sat_log, dsat_log, parts_log}
use Rattle.std.proofs.lemmas.Bool.{false≢true}
use Rattle.std.specs.Prelude.{⊤}
use Rattle.def_emit.specs.Emit.{emit}
use Rattle.def_assets.specs.Assets.{Assets, AreAssets}
use Rattle.def_limits.specs.declared.Limits.{Limits}
use Rattle.def_limits.specs.Limits.{IsGreatest, AreLimits}
use Rattle.def_limits.specs.Scaffolding.Most.{limits_of}
use Rattle.def_script.specs.Instruction.{opcode_count}
use Rattle.def_sane.specs.declared.Rules.TheVariants.{Consensus}
use Rattle.def_sane.specs.Unfit.{IsValidUnder}
use Rattle.def_sane.proofs.Meanings.{valid_means_within}
use Rattle.def_limits.proofs.Greatest.{limits_are_computed}
use Rattle.def_height.proofs.Bounds.{items_are_within_ops}
use Rattle.def_satisfaction.specs.Satisfaction.{Sat, canonical}
use Rattle.def_satisfaction.proofs.Held.{good_is_signature}
use Rattle.ms_row_laws.proofs.KeyLists.{all_reversed}

-- a string has the length of a signature or less
abbrev pub IsShort : Bytes → Type 0
IsShort x = length x ≤ MAX_SIGNATURE_SIZE

abbrev pub AreShort : Stack → Type 0
AreShort = All IsShort

-- one of the formal ones has as many items and keys; and if signatures are short, no item is longer, and it has as much
-- weight or more
pub record SizedIf (S : Type 0) (P : Takes → Type 0) (w : Stack) (tries : ℕ) : Type 0 where
  pub takes : Takes
  pub formal : P takes
  pub items : length w ≡ takes.items
  pub keys : tries ≡ takes.keys
  pub light : S → weight w ≤ takes.weight
  pub short : S → AreShort w

sized-as : (S : Type 0) (P Q : Takes → Type 0) (w : Stack) (m n : ℕ) → ((t : Takes) → P t → Q t) → m ≡ n → SizedIf S P w m → SizedIf S Q w n
sized-as S P Q w m n f e p = record {
  takes = p.takes;
  formal = f p.takes p.formal;
  items = p.items;
  keys = sym e ∙ p.keys;
  light = p.light;
  short = p.short;
}

-- what is known of the items that a row takes
sized-is : (S : Type 0) (t : Takes) (w : Stack) → length w ≡ t.items → 0 ≡ t.keys → (S → weight w ≤ t.weight) → (S → AreShort w) → SizedIf S (Is t) w 0
sized-is S t w items keys light short = record { takes = t; formal = refl; items = items; keys = keys; light = light; short = short }

sized-nothing : (S : Type 0) (w : Stack) → w ≡ [] → SizedIf S (Is nothing) w 0
sized-nothing S w e =
    sized-is S nothing w (ap length e) refl (λ s. let h : weight w ≡ 0 = ap weight e in omega (arith, h)) (λ s. All-same IsShort w [] e (All-nil IsShort))

-- an item of n bytes or less
sized-one : (S : Type 0) (n : ℕ) (x : Bytes) (w : Stack) → n ≤ MAX_SIGNATURE_SIZE → (S → length x ≤ n) → w ≡ x ∷ [] → SizedIf S (Is (item n)) w 0
sized-one S n x w few short e =
    sized-is S (item n) w (ap length e) refl
    (λ s. let h : weight w ≡ 1 + length x + 0 = ap weight e in let l = short s in omega (arith, h, l))
    (λ s. let l = short s in All-same IsShort w (x ∷ []) e (All-cons IsShort x [] (omega (arith, few, l)) (All-nil IsShort)))

-- one below and one above
sized-both : (S : Type 0) (P Q : Takes → Type 0) (w below above : Stack) (m n k : ℕ) → w ≡ above ++ below → k ≡ n + m →
    SizedIf S P below m → SizedIf S Q above n → SizedIf S (Both P Q) w k
sized-both S P Q w below above m n k e f p q = record {
  takes = plus p.takes q.takes;
  formal = (p.takes, q.takes, p.formal, q.formal, refl);
  items = let h : length w ≡ length (above ++ below) = ap length e in omega (arith, h, length-append above below, p.items, q.items);
  keys = omega (arith, f, p.keys, q.keys);
  light = λ s.
      let h : weight w ≡ weight (above ++ below) = ap weight e in
      omega (arith, h, weight-append above below, p.light s, q.light s);
  short = λ s. All-same IsShort w (above ++ below) e (All-append IsShort above below (q.short s) (p.short s));
}

sized-joined : {S : Type 0} {A B : Takes → Type 0} {P Q : stacks.StackSet} {m n : ℕ} (w : Stack) (r : stacks.Both P Q w) → SizedIf S A r.0 m → SizedIf S B r.1 n → SizedIf S (Both A B) w (n + m)
sized-joined w r p q = sized-both _ _ _ w r.0 r.1 _ _ _ r.4 refl p q

sized-left : (S : Type 0) (P Q : Takes → Type 0) (w : Stack) (n : ℕ) → SizedIf S P w n → SizedIf S (Either P Q) w n
sized-left S P Q w n p = sized-as S P (Either P Q) w n n (λ t h. inl h) refl p

sized-right : (S : Type 0) (P Q : Takes → Type 0) (w : Stack) (n : ℕ) → SizedIf S Q w n → SizedIf S (Either P Q) w n
sized-right S P Q w n q = sized-as S Q (Either P Q) w n n (λ t h. inr h) refl q

-- two known sizes are one
both-is : (a b t : Takes) → Both (Is a) (Is b) t → Is (plus a b) t
both-is a b t h = h.4 ∙ ap (λ x. plus x h.1) h.2 ∙ ap (λ y. plus a y) h.3

-- the keys of a `multi`
sized-tried : (S : Type 0) (a : Takes) (w : Stack) (n : ℕ) → SizedIf S (Is a) w 0 → SizedIf S (Is (plus a (tried n))) w n
sized-tried S a w n p = record {
  takes = plus p.takes (tried n);
  formal = ap (λ x. plus x (tried n)) p.formal;
  items = omega (arith, p.items);
  keys = omega (arith, p.keys);
  light = λ s. omega (arith, p.light s);
  short = p.short;
}

pub weight-short : (w : Stack) → AreShort w → weight w ≤ length w * 74
weight-short [] h = omega arith
weight-short (x ∷ w) h =
    let l : length x ≤ MAX_SIGNATURE_SIZE = All-head IsShort x w h in
    let k = weight-short w (All-tail IsShort x w h) in
    omega (arith, l, k)

-- short items, so many
sized-signatures : (S : Type 0) (k : ℕ) (w : Stack) → length w ≡ k → (S → AreShort w) → SizedIf S (Is (same_items k MAX_SIGNATURE_SIZE)) w 0
sized-signatures S k w e short =
    sized-is S (same_items k MAX_SIGNATURE_SIZE) w e refl (λ s. omega (arith, e, weight-short w (short s))) short

weight-empties : (n : ℕ) → weight (replicate n EMPTY) ≡ n
weight-empties zero = refl
weight-empties (suc n) = let h = weight-empties n in omega (arith, h)

sized-empties : (S : Type 0) (n : ℕ) (w : Stack) → w ≡ replicate n EMPTY → SizedIf S (Is (same_items n 0)) w 0
sized-empties S n w e =
    sized-is S (same_items n 0) w (ap length e ∙ length-replicate n EMPTY) refl
    (λ s. let h : weight w ≡ weight (replicate n EMPTY) = ap weight e in omega (arith, h, weight-empties n))
    (λ s. All-same IsShort w (replicate n EMPTY) e (All-replicate IsShort n EMPTY (omega arith)))

-- of the children of a threshold
sized-satisfied : (S : Type 0) (x : Tree) (xs : Trees) (n m : ℕ) (w : Stack) (k : ℕ) → n ≡ suc m → SizedIf S (Both (FormalParts xs m) (FormalSat x)) w k →
    SizedIf S (FormalParts (more x xs) n) w k
sized-satisfied S x xs n m w k e p =
    subst (λ c. SizedIf S (FormalParts (more x xs) c) w k) (sym e)
    (sized-left S (Both (FormalParts xs m) (FormalSat x)) (Both (FormalParts xs (suc m)) (FormalDsat x)) w k p)

sized-dissatisfied : (S : Type 0) (x : Tree) (xs : Trees) (n : ℕ) (w : Stack) (k : ℕ) → SizedIf S (Both (FormalParts xs n) (FormalDsat x)) w k →
    SizedIf S (FormalParts (more x xs) n) w k
sized-dissatisfied S x xs zero w k p = p
sized-dissatisfied S x xs (suc n) w k p = sized-right S (Both (FormalParts xs n) (FormalSat x)) (Both (FormalParts xs (suc n)) (FormalDsat x)) w k p

sized-none : (S : Type 0) (n : ℕ) (w : Stack) → n ≡ 0 → w ≡ [] → SizedIf S (FormalParts none n) w 0
sized-none S zero w e f = sized-nothing S w f
sized-none S (suc n) w e f = absurd (omega (arith, e))

-- signatures, each of the length of one or less
short_signatures : (checker : Checker) → ((key sig : Bytes) → IsTrue (is_good checker key sig) → length sig ≤ MAX_SIGNATURE_SIZE) →
    (keys : List Key) (sigs : Stack) → AreSignatures checker keys sigs → AreShort sigs
short_signatures checker few keys [] h = All-nil IsShort
short_signatures checker few [] (sig ∷ sigs) h = absurd h
short_signatures checker few (key ∷ keys) (sig ∷ sigs) (inl h) =
    All-cons IsShort sig sigs (few key sig h.0) (short_signatures checker few keys sigs h.1)
short_signatures checker few (key ∷ keys) (sig ∷ sigs) (inr h) = short_signatures checker few keys (sig ∷ sigs) h

module _ (s : Setting) (no_more : IsTrue s.all_rows → ⊥) (S : Type 0) (few : S → (key sig : Bytes) → IsTrue (is_good s.given.checker key sig) → length sig ≤ MAX_SIGNATURE_SIZE) where
  -- with an item on top that tells which it is
  told : (P : Takes → Type 0) (n : ℕ) (x : Bytes) (w below above : Stack) (k : ℕ) → n ≤ MAX_SIGNATURE_SIZE → length x ≤ n → w ≡ above ++ below → above ≡ x ∷ [] →
      SizedIf S P below k → SizedIf S (Both P (Is (item n))) w k
  told P n x w below above k few short e f p =
      sized-both S P (Is (item n)) w below above k 0 k e (omega arith) p (sized-one S n x above few (λ h. short) f)

  -- a key and its signature, or the empty string
  with_key : (n : ℕ) (key other x : Bytes) (w below above : Stack) → IsKey key → IsTrue (is_key other) → n ≤ MAX_SIGNATURE_SIZE → (S → length x ≤ n) → w
      ≡ above ++ below → below ≡ x ∷ [] → above ≡ other ∷ [] →
      SizedIf S (Is (plus (item n) (item (length key)))) w 0
  with_key n key other x w below above is form few short e f g =
      let k = key_length key is.form in
      let l = key_length other form in
      sized-as S (Both (Is (item n)) (Is (item (length key)))) (Is (plus (item n) (item (length key)))) w 0 0 (both-is (item n) (item (length key))) refl
      (sized-both S (Is (item n)) (Is (item (length key))) w below above 0 0 0 e refl
      (sized-one S n x below few short f)
      (sized-one S (length key) other above (omega (arith, k)) (λ h. omega (arith, k, l)) g))

  multi_sat : (k : ℕ) (keys : List Key) (w : Stack) (r : (row s (multi k keys)).sat w) → SizedIf S (FormalSat (multi k keys)) w (length keys)
  multi_sat k keys w r =
      let both = sized-both S (Is empty) (Is (same_items k MAX_SIGNATURE_SIZE)) w r.0 r.1 0 0 0 r.4 refl
      (sized-one S 0 EMPTY r.0 (omega arith) (λ h. omega arith) r.2)
      (sized-signatures S k r.1 r.3.0 (λ h. short_signatures s.given.checker (few h) (reverse keys) r.1 r.3.1)) in
      sized-tried S (plus empty (same_items k MAX_SIGNATURE_SIZE)) w (length keys)
      (sized-as S (Both (Is empty) (Is (same_items k MAX_SIGNATURE_SIZE))) (Is (plus empty (same_items k MAX_SIGNATURE_SIZE))) w 0 0 (both-is empty (same_items k MAX_SIGNATURE_SIZE)) refl both)

  mutual
    pub sized_if_sat : (t : Tree) → IsWritable t → (w : Stack) (r : (row s t).sat w) → SizedIf S (FormalSat t) w (sat_log s t w r).keys
    sized_if_sat just_0 h w r = absurd r
    sized_if_sat just_1 h w r = sized-nothing S w r
    sized_if_sat (pk_k key) h w r = sized-one S 73 r.0 w (omega arith) (λ i. few i key r.0 r.1) r.2
    sized_if_sat (pk_h key) h w r =
        with_key 73 key r.0 r.4.2.0 w r.4.0 r.4.1 h r.1 (omega arith) (λ i. few i r.0 r.4.2.0 r.4.2.1) r.4.4 r.4.2.2 r.4.3
    sized_if_sat (hash kind value) h w r = sized-one S 32 r.0 w (omega arith) (λ i. let l : length r.0 ≡ 32 = r.1.0.0 in omega (arith, l)) r.2
    sized_if_sat (and_or x y z) h w (inl r) =
        sized-left S _ _ w _ (sized-joined w r (sized_if_sat y h.1 r.0 r.2) (sized_if_sat x h.0 r.1 r.3))
    sized_if_sat (and_or x y z) h w (inr r) =
        sized-right S _ _ w _ (sized-joined w r (sized_if_sat z h.2 r.0 r.2) (sized_if_dsat x h.0 r.1 r.3))
    sized_if_sat (two kind.AndV x y) h w r = sized-joined w r (sized_if_sat y h.1 r.0 r.2) (sized_if_sat x h.0 r.1 r.3)
    sized_if_sat (two kind.AndB x y) h w r = sized-joined w r (sized_if_sat y h.1 r.0 r.2) (sized_if_sat x h.0 r.1 r.3)
    sized_if_sat (two kind.OrB x z) h w (inl r) =
        sized-left S _ _ w _ (sized-joined w r (sized_if_dsat z h.1 r.0 r.2) (sized_if_sat x h.0 r.1 r.3))
    sized_if_sat (two kind.OrB x z) h w (inr (inl r)) =
        sized-right S _ _ w _ (sized-joined w r (sized_if_sat z h.1 r.0 r.2) (sized_if_dsat x h.0 r.1 r.3))
    sized_if_sat (two kind.OrB x z) h w (inr (inr r)) = absurd (no_more r.0)
    sized_if_sat (two kind.OrI x z) h w (inl r) =
        sized-left S _ _ w _ (told (FormalSat x) 1 ONE w r.0 r.1 _ (omega arith) (omega arith) r.4 r.3 (sized_if_sat x h.0 r.0 r.2))
    sized_if_sat (two kind.OrI x z) h w (inr r) =
        sized-right S _ _ w _ (told (FormalSat z) 0 EMPTY w r.0 r.1 _ (omega arith) (omega arith) r.4 r.3 (sized_if_sat z h.1 r.0 r.2))
    sized_if_sat (two which x z) h w (inl r) = sized-left S _ _ w _ (sized_if_sat x h.0 w r)
    sized_if_sat (two which x z) h w (inr r) =
        sized-right S _ _ w _ (sized-joined w r (sized_if_sat z h.1 r.0 r.2) (sized_if_dsat x h.0 r.1 r.3))
    sized_if_sat (thresh k xs) h w r = sized_if_parts xs h.2 k w r
    sized_if_sat (multi k keys) h w r = multi_sat k keys w r
    sized_if_sat (wrap wrapper.D x) h w r = told (FormalSat x) 1 ONE w r.0 r.1 _ (omega arith) (omega arith) r.4 r.3 (sized_if_sat x h r.0 r.2)
    sized_if_sat (wrap letter x) h w r = sized_if_sat x h w r
    sized_if_sat tree h w r = sized-nothing S w r.1

    pub sized_if_dsat : (t : Tree) → IsWritable t → (w : Stack) (r : (row s t).dsat w) → SizedIf S (FormalDsat t) w (dsat_log s t w r).keys
    sized_if_dsat just_0 h w r = sized-nothing S w r
    sized_if_dsat (pk_k key) h w r = sized-one S 0 EMPTY w (omega arith) (λ i. omega arith) r
    sized_if_dsat (pk_h key) h w r =
        with_key 0 key r.0 EMPTY w r.4.0 r.4.1 h r.1 (omega arith) (λ i. omega arith) r.4.4 r.4.2 r.4.3
    sized_if_dsat (hash kind value) h w (inl r) = sized-one S 32 ZEROS w (omega arith) (λ i. omega arith) r.1
    sized_if_dsat (hash kind value) h w (inr r) = absurd (no_more r.0)
    sized_if_dsat (and_or x y z) h w (inl r) = sized-joined w r (sized_if_dsat z h.2 r.0 r.2) (sized_if_dsat x h.0 r.1 r.3)
    sized_if_dsat (and_or x y z) h w (inr r) = absurd (no_more r.0)
    sized_if_dsat (two kind.AndV x y) h w r = absurd (no_more r.0)
    sized_if_dsat (two kind.AndB x y) h w (inl r) = sized-joined w r (sized_if_dsat y h.1 r.0 r.2) (sized_if_dsat x h.0 r.1 r.3)
    sized_if_dsat (two kind.AndB x y) h w (inr (fact, inl r)) = absurd (no_more fact)
    sized_if_dsat (two kind.AndB x y) h w (inr (fact, inr r)) = absurd (no_more fact)
    sized_if_dsat (two kind.OrC x z) h w r = absurd r
    sized_if_dsat (two kind.OrI x z) h w (inl r) =
        sized-left S _ _ w _ (told (FormalDsat x) 1 ONE w r.0 r.1 _ (omega arith) (omega arith) r.4 r.3 (sized_if_dsat x h.0 r.0 r.2))
    sized_if_dsat (two kind.OrI x z) h w (inr r) =
        sized-right S _ _ w _ (told (FormalDsat z) 0 EMPTY w r.0 r.1 _ (omega arith) (omega arith) r.4 r.3 (sized_if_dsat z h.1 r.0 r.2))
    sized_if_dsat (two which x z) h w r = sized-joined w r (sized_if_dsat z h.1 r.0 r.2) (sized_if_dsat x h.0 r.1 r.3)
    sized_if_dsat (thresh k xs) h w (inl r) = sized_if_parts xs h.2 0 w r
    sized_if_dsat (thresh k xs) h w (inr r) = absurd (no_more r.0)
    sized_if_dsat (multi k keys) h w r = sized-tried S (same_items (k + 1) 0) w (length keys) (sized-empties S (k + 1) w r)
    sized_if_dsat (wrap wrapper.D x) h w r = sized-one S 0 EMPTY w (omega arith) (λ i. omega arith) r
    sized_if_dsat (wrap wrapper.V x) h w r = absurd r
    sized_if_dsat (wrap wrapper.J x) h w (inl r) = sized-one S 0 EMPTY w (omega arith) (λ i. omega arith) r
    sized_if_dsat (wrap wrapper.J x) h w (inr r) = absurd (no_more r.0)
    sized_if_dsat (wrap letter x) h w r = sized_if_dsat x h w r
    sized_if_dsat tree h w r = absurd r

    pub sized_if_parts : (xs : Trees) → AreWritable xs → (n : ℕ) (w : Stack) (r : parts s xs n w) → SizedIf S (FormalParts xs n) w (parts_log s xs n w r).keys
    sized_if_parts none h n w r = sized-none S n w r.0 r.1
    sized_if_parts (more x xs) h n w (inl r) =
        sized-satisfied S x xs n r.0 w _ r.1 (sized-joined w r.2 (sized_if_parts xs h.1 r.0 r.2.0 r.2.2) (sized_if_sat x h.0 r.2.1 r.2.3))
    sized_if_parts (more x xs) h n w (inr r) =
        sized-dissatisfied S x xs n w _ (sized-joined w r (sized_if_parts xs h.1 n r.0 r.2) (sized_if_dsat x h.0 r.1 r.3))

good_short : (assets : Assets) → AreAssets assets → (key sig : Bytes) → IsTrue (is_good (member assets.pairs) key sig) → length sig ≤ MAX_SIGNATURE_SIZE
good_short assets are key sig h = let is = good_is_signature assets are key sig h in is.few

-- a formal one with as many items and keys, and as much weight or more
pub record Sized (P : Takes → Type 0) (w : Stack) (tries : ℕ) : Type 0 where
  pub takes : Takes
  pub formal : P takes
  pub items : length w ≡ takes.items
  pub weight : weight w ≤ takes.weight
  pub keys : tries ≡ takes.keys
  pub short : AreShort w

module _ (assets : Assets) (are : AreAssets assets) where
  pub sized_sat : (t : Tree) → IsWritable t → (w : Stack) (r : (row (canonical assets) t).sat w) → Sized (FormalSat t) w (sat_log (canonical assets) t w r).keys
  sized_sat t h w r =
      let p = sized_if_sat (canonical assets) false≢true ⊤ (λ i. good_short assets are) t h w r in
      record { takes = p.takes; formal = p.formal; items = p.items; weight = p.light tt; keys = p.keys; short = p.short tt }

-- whatever the table of signatures
pub keys_formal : (s : Setting) → s.all_rows ≡ false → (t : Tree) → IsWritable t → (w : Stack) (r : (row s t).sat w) →
    (takes : Takes) × FormalSat t takes × ((sat_log s t w r).keys ≡ takes.keys)
keys_formal s e t h w r =
    let p = sized_if_sat s (λ i. false≢true (sym e ∙ i)) ⊥ (λ i. absurd i) t h w r in
    (p.takes, p.formal, p.keys)

-- no more than the greatest
below_greatest : (P : Takes → Type 0) (number : Takes → ℕ) (n : ℕ) → IsGreatest P number n → (t : Takes) → P t → number t ≤ n
below_greatest P number n (inl g) t h = g.3 t h
below_greatest P number n (inr g) t h = absurd (g.0 t h)

-- a canonical satisfaction keeps within the limits of its miniscript
pub within_limits : (tree : Tree) (limits : Limits) (assets : Assets) (stack : List Bytes) → IsWritable tree → AreLimits tree limits → AreAssets assets →
    Sat tree assets stack → (length stack ≤ limits.items) × (weight stack ≤ limits.weight) × AreShort stack
within_limits tree limits assets stack writable are_limits are sat =
    let p = sized_sat assets are tree writable (reverse stack) sat in
    let i = below_greatest (FormalSat tree) (λ t. t.items) limits.items are_limits.items p.takes p.formal in
    let l = below_greatest (FormalSat tree) (λ t. t.weight) limits.weight are_limits.weight p.takes p.formal in
    let items = p.items in
    let light = p.weight in (
      omega (arith, i, items, length-reverse stack),
      omega (arith, l, light, weight-reverse stack),
      subst AreShort (reverse-reverse stack) (all_reversed IsShort (reverse stack) p.short),
    )

-- so do the opcodes of its Script with the keys that are tried
pub few_ops : (tree : Tree) (limits : Limits) (s : Setting) (w : Stack) → IsWritable tree → AreLimits tree limits → s.all_rows ≡ false →
    (r : (row s tree).sat w) → opcode_count (emit tree) + (sat_log s tree w r).keys ≤ limits.ops
few_ops tree limits s w writable are_limits e r =
    let k = keys_formal s e tree writable w r in
    let l = below_greatest (FormalSat tree) (λ t. t.keys) are_limits.ops.0 are_limits.ops.1 k.0 k.1 in
    let same : limits.ops ≡ opcode_count (emit tree) + are_limits.ops.0 = are_limits.ops.2 in
    omega (arith, l, same, k.2)

-- the limits of a valid miniscript. It takes no more items than it has opcodes
pub valid_limits : (tree : Tree) (limits : Limits) → IsValidUnder Consensus tree → AreLimits tree limits → (limits.size ≤ 10000) × (limits.ops ≤ 201) × (limits.items ≤ 201)
valid_limits tree limits valid are =
    let means = (valid_means_within Consensus tree limits are).0 valid in
    let few = items_are_within_ops tree means.0 means.1 limits are in
    (means.2, means.3, omega (arith, few, means.3))

-- a canonical satisfaction of a valid miniscript is light
pub light_stack : (tree : Tree) (assets : Assets) (stack : List Bytes) → IsWritable tree → IsValidUnder Consensus tree → AreAssets assets → Sat tree assets stack →
    weight stack ≤ 2 ^ 40
light_stack tree assets stack writable valid are sat =
    let limits = limits_of tree in
    let within = within_limits tree limits assets stack writable (limits_are_computed tree) are sat in
    let most = valid_limits tree limits valid (limits_are_computed tree) in
    let light = weight-short stack within.2 in
    omega (arith, within.0, most.2, light)
