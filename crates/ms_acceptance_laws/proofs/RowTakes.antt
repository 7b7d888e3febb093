-- What a row of the satisfaction table takes: with assets that have all that a miniscript can take, and signatures of the
-- greatest length, each formal satisfaction is that of a stack, with exactly its items, its weight and its keys.
use Rattle.std.proofs.Common.{◌≡◌, ℕ, zero, suc, ◌+◌, ◌*◌, List, [], ◌∷◌, ◌++◌, length, reverse, replicate, refl, sym, ap, subst, inl, inr, ◌⊎◌, arith}
use Rattle.std.proofs.lemmas.List.{length-append, length-replicate, length-reverse}
use Rattle.def_script.specs.Bytes.{Bytes}
use Rattle.def_script.specs.Signature.{MAX_SIGNATURE_SIZE}
use Rattle.def_script.specs.Witness.{weight}
use Rattle.def_machine.specs.Stacks.{Stack, member}
use Rattle.def_tree.specs.declared.Two.TheVariants as kind
use Rattle.def_tree.specs.declared.Wrapper.TheVariants as wrapper
use Rattle.def_tree.specs.Tree.{Tree, Trees, Key, just_0, just_1, pk_k, pk_h, older, after, hash, and_or, two, thresh, multi, wrap, none, more}
use Rattle.def_tree.specs.Range.{IsWritable, AreWritable}
use Rattle.def_types.specs.Typed.{IsTyped, AreTyped}
use Rattle.def_types.proofs.Facts.{typed-multi}
use Rattle.def_assets.specs.Assets.{Assets}
use Rattle.def_limits.specs.Formal.{Takes, nothing, item, same_items, tried, plus, empty, Is, Both, FormalSat, FormalDsat, FormalParts}
use Rattle.def_satisfaction.specs.StackSet as stacks
use Rattle.def_satisfaction.specs.Setting.{Setting}
use Rattle.def_satisfaction.specs.Satisfaction.{canonical}
use Rattle.def_satisfaction.specs.Rows.{EMPTY, ONE, ZEROS, AreSignatures, row, parts}
use Rattle.def_choice.proofs.Weights.{weight-append}
use Rattle.def_promises.specs.Courses.{Signs, HasAll, HaveAll}
use Rattle.def_promises.specs.Reached.{HasLongest}
use Rattle.ms_row_laws.proofs.KeyLists.{all_reversed}
use Rattle.ms_row_laws.proofs.RowLogs.{sat_log, dsat_log, parts_log}
use Rattle.ms_acceptance_laws.proofs.RowWays.{signed}

-- a stack with such a row takes exactly this; what it tries is told by its row
pub record TakenBy (A : stacks.StackSet) (tries : (stack : Stack) → A stack → ℕ) (takes : Takes) : Type 0 where
  pub stack : Stack
  pub row : A stack
  pub items : length stack ≡ takes.items
  pub light : weight stack ≡ takes.weight
  pub keys : tries stack row ≡ takes.keys

-- a row that takes one thing alone
taken_is : {A : stacks.StackSet} {f : (stack : Stack) → A stack → ℕ} (a : Takes) (stack : Stack) (r : A stack) →
    length stack ≡ a.items → weight stack ≡ a.weight → f stack r ≡ a.keys → (t : Takes) → t ≡ a → TakenBy A f t
taken_is {A = A} {f = f} a stack r items light keys t e =
    subst (TakenBy A f) (sym e) (record { stack = stack; row = r; items = items; light = light; keys = keys })

-- one below and one above
taken_both : {A B : stacks.StackSet} {f : (stack : Stack) → A stack → ℕ} {g : (stack : Stack) → B stack → ℕ} {X Y : Takes → Type 0} →
    ((t : Takes) → X t → TakenBy A f t) → ((t : Takes) → Y t → TakenBy B g t) → (t : Takes) → Both X Y t →
    TakenBy (stacks.Both A B) (λ stack r. g r.1 r.3 + f r.0 r.2) t
taken_both x y t h =
    let i = x h.0 h.2 in
    let j = y h.1 h.3 in
    let items : t.items ≡ h.0.items + h.1.items = ap (λ (t : Takes). t.items) h.4 in
    let light : t.weight ≡ h.0.weight + h.1.weight = ap (λ (t : Takes). t.weight) h.4 in
    let keys : t.keys ≡ h.0.keys + h.1.keys = ap (λ (t : Takes). t.keys) h.4 in
    record {
      stack = j.stack ++ i.stack;
      row = (i.stack, j.stack, i.row, j.row, refl);
      items = omega (arith, length-append j.stack i.stack, i.items, j.items, items);
      light = omega (arith, weight-append j.stack i.stack, i.light, j.light, light);
      keys = omega (arith, i.keys, j.keys, keys);
    }

-- an item of n bytes above, which tries no key
taken_told : {A : stacks.StackSet} {f : (stack : Stack) → A stack → ℕ} {X : Takes → Type 0} (n : ℕ) (x : Bytes) → length x ≡ n →
    ((t : Takes) → X t → TakenBy A f t) → (t : Takes) → Both X (Is (item n)) t → TakenBy (stacks.Both A (stacks.Is x)) (λ stack r. f r.0 r.2) t
taken_told n x size under t h =
    let i = under h.0 h.2 in
    let items : t.items ≡ h.0.items + h.1.items = ap (λ (t : Takes). t.items) h.4 in
    let light : t.weight ≡ h.0.weight + h.1.weight = ap (λ (t : Takes). t.weight) h.4 in
    let keys : t.keys ≡ h.0.keys + h.1.keys = ap (λ (t : Takes). t.keys) h.4 in
    let one : h.1.items ≡ 1 = ap (λ (t : Takes). t.items) h.3 in
    let own : h.1.weight ≡ 1 + n = ap (λ (t : Takes). t.weight) h.3 in
    let no_key : h.1.keys ≡ 0 = ap (λ (t : Takes). t.keys) h.3 in
    record {
      stack = x ∷ i.stack;
      row = (i.stack, x ∷ [], i.row, refl, refl);
      items = omega (arith, i.items, items, one);
      light = omega (arith, i.light, light, own, size);
      keys = omega (arith, i.keys, keys, no_key);
    }

-- one of two rows
taken_first : {A B : stacks.StackSet} {f : (stack : Stack) → A stack ⊎ B stack → ℕ} {t : Takes} → TakenBy A (λ stack r. f stack (inl r)) t
    → TakenBy (λ stack. A stack ⊎ B stack) f t
taken_first i = record { stack = i.stack; row = inl i.row; items = i.items; light = i.light; keys = i.keys }

taken_second : {A B : stacks.StackSet} {f : (stack : Stack) → A stack ⊎ B stack → ℕ} {t : Takes} → TakenBy B (λ stack r. f stack (inr r)) t
    → TakenBy (λ stack. A stack ⊎ B stack) f t
taken_second i = record { stack = i.stack; row = inr i.row; items = i.items; light = i.light; keys = i.keys }

weight-empties : (n : ℕ) → weight (replicate n EMPTY) ≡ n * 1
weight-empties zero = refl
weight-empties (suc n) = let h = weight-empties n in omega (arith, h)

module _ (assets : Assets) (long : HasLongest assets) where
  abbrev s : Setting
  s = canonical assets

  -- what signatures weigh
  weight-signatures : (keys : List Key) (sigs : Stack) → AreSignatures (member assets.pairs) keys sigs → weight sigs ≡ length sigs * (1 + MAX_SIGNATURE_SIZE)
  weight-signatures keys [] h = refl
  weight-signatures [] (sig ∷ sigs) h = absurd h
  weight-signatures (key ∷ keys) (sig ∷ sigs) (inl h) =
      let own = long key sig h.0 in
      let rest = weight-signatures keys sigs h.1 in
      omega (arith, own, rest)
  weight-signatures (key ∷ keys) (sig ∷ sigs) (inr h) = weight-signatures keys (sig ∷ sigs) h

  mutual
    pub taken_sat : (tree : Tree) → IsWritable tree → IsTyped tree → HasAll assets tree → (t : Takes) → FormalSat tree t →
        TakenBy (row s tree).sat (λ stack r. (sat_log s tree stack r).keys) t
    taken_sat just_0 w y a t h = absurd h
    taken_sat just_1 w y a t h = taken_is nothing [] refl refl refl refl t h
    taken_sat (pk_k key) w y a t h =
        let own = long key a.0 a.1 in taken_is (item MAX_SIGNATURE_SIZE) (a.0 ∷ []) (a.0, a.1, refl) refl (omega (arith, own)) refl t h
    taken_sat (pk_h key) w y a t h =
        let own = long key a.0 a.1 in
        taken_is (plus (item MAX_SIGNATURE_SIZE) (item (length key))) (key ∷ a.0 ∷ [])
        (key, w.form, refl, refl, (a.0 ∷ [], key ∷ [], (a.0, a.1, refl), refl, refl)) refl (omega (arith, own)) refl t h
    taken_sat (older n) w y a t h = taken_is nothing [] (a, refl) refl refl refl t h
    taken_sat (after n) w y a t h = taken_is nothing [] (a, refl) refl refl refl t h
    taken_sat (hash kind value) w y a t h =
        let own : length a.0 ≡ 32 = a.2.0 in taken_is (item 32) (a.0 ∷ []) (a.0, (a.2, a.1), refl) refl (omega (arith, own)) refl t h
    taken_sat (and_or x v z) w y a t (inl h) = taken_first (taken_both (taken_sat v w.1 y.1 a.1) (taken_sat x w.0 y.0 a.0) t h)
    taken_sat (and_or x v z) w y a t (inr h) = taken_second (taken_both (taken_sat z w.2 y.2 a.2) (taken_dsat x w.0 y.0 a.0) t h)
    taken_sat (two kind.AndV x v) w y a t h = taken_both (taken_sat v w.1 y.1 a.1) (taken_sat x w.0 y.0 a.0) t h
    taken_sat (two kind.AndB x v) w y a t h = taken_both (taken_sat v w.1 y.1 a.1) (taken_sat x w.0 y.0 a.0) t h
    taken_sat (two kind.OrB x z) w y a t (inl h) = taken_first (taken_both (taken_dsat z w.1 y.1 a.1) (taken_sat x w.0 y.0 a.0) t h)
    taken_sat (two kind.OrB x z) w y a t (inr h) = taken_second (taken_first (taken_both (taken_sat z w.1 y.1 a.1) (taken_dsat x w.0 y.0 a.0) t h))
    taken_sat (two kind.OrI x z) w y a t (inl h) = taken_first (taken_told 1 ONE refl (taken_sat x w.0 y.0 a.0) t h)
    taken_sat (two kind.OrI x z) w y a t (inr h) = taken_second (taken_told 0 EMPTY refl (taken_sat z w.1 y.1 a.1) t h)
    taken_sat (two which x z) w y a t (inl h) = taken_first (taken_sat x w.0 y.0 a.0 t h)
    taken_sat (two which x z) w y a t (inr h) = taken_second (taken_both (taken_sat z w.1 y.1 a.1) (taken_dsat x w.0 y.0 a.0) t h)
    taken_sat (thresh k xs) w y a t h = taken_parts xs w.2 y.0 a k t h
    taken_sat (multi k keys) w y a t h =
        let f = typed-multi k keys y in
        let i = signed assets (reverse keys) k (omega (arith, f.1, length-reverse keys)) (all_reversed (Signs assets) keys a) in
        taken_is (plus (plus empty (same_items k MAX_SIGNATURE_SIZE)) (tried (length keys))) (i.0 ++ EMPTY ∷ [])
        (EMPTY ∷ [], i.0, refl, (i.1, i.2), refl)
        (omega (arith, length-append i.0 (EMPTY ∷ []), i.1))
        (omega (arith, weight-append i.0 (EMPTY ∷ []), weight-signatures (reverse keys) i.0 i.2, i.1)) (omega arith) t h
    taken_sat (wrap wrapper.D x) w y a t h = taken_told 1 ONE refl (taken_sat x w y.0 a) t h
    taken_sat (wrap letter x) w y a t h = taken_sat x w y.0 a t h

    taken_dsat : (tree : Tree) → IsWritable tree → IsTyped tree → HasAll assets tree → (t : Takes) → FormalDsat tree t →
        TakenBy (row s tree).dsat (λ stack r. (dsat_log s tree stack r).keys) t
    taken_dsat just_0 w y a t h = taken_is nothing [] refl refl refl refl t h
    taken_dsat (pk_k key) w y a t h = taken_is empty (EMPTY ∷ []) refl refl refl refl t h
    taken_dsat (pk_h key) w y a t h =
        taken_is (plus empty (item (length key))) (key ∷ EMPTY ∷ []) (key, w.form, refl, refl, (EMPTY ∷ [], key ∷ [], refl, refl, refl)) refl
        (omega arith) refl t h
    taken_dsat (hash kind value) w y a t h = taken_is (item 32) (ZEROS ∷ []) (inl (a.3, refl)) refl refl refl t h
    taken_dsat (and_or x v z) w y a t h = taken_first (taken_both (taken_dsat z w.2 y.2 a.2) (taken_dsat x w.0 y.0 a.0) t h)
    taken_dsat (two kind.AndB x v) w y a t h = taken_first (taken_both (taken_dsat v w.1 y.1 a.1) (taken_dsat x w.0 y.0 a.0) t h)
    taken_dsat (two kind.OrB x z) w y a t h = taken_both (taken_dsat z w.1 y.1 a.1) (taken_dsat x w.0 y.0 a.0) t h
    taken_dsat (two kind.OrD x z) w y a t h = taken_both (taken_dsat z w.1 y.1 a.1) (taken_dsat x w.0 y.0 a.0) t h
    taken_dsat (two kind.OrI x z) w y a t (inl h) = taken_first (taken_told 1 ONE refl (taken_dsat x w.0 y.0 a.0) t h)
    taken_dsat (two kind.OrI x z) w y a t (inr h) = taken_second (taken_told 0 EMPTY refl (taken_dsat z w.1 y.1 a.1) t h)
    taken_dsat (thresh k xs) w y a t h = taken_first (taken_parts xs w.2 y.0 a 0 t h)
    taken_dsat (multi k keys) w y a t h =
        taken_is (plus (same_items (k + 1) 0) (tried (length keys))) (replicate (k + 1) EMPTY) refl
        (omega (arith, length-replicate (k + 1) EMPTY)) (omega (arith, weight-empties (k + 1))) (omega arith) t h
    taken_dsat (wrap wrapper.A x) w y a t h = taken_dsat x w y.0 a t h
    taken_dsat (wrap wrapper.S x) w y a t h = taken_dsat x w y.0 a t h
    taken_dsat (wrap wrapper.C x) w y a t h = taken_dsat x w y.0 a t h
    taken_dsat (wrap wrapper.D x) w y a t h = taken_is empty (EMPTY ∷ []) refl refl refl refl t h
    taken_dsat (wrap wrapper.J x) w y a t h = taken_is empty (EMPTY ∷ []) (inl refl) refl refl refl t h
    taken_dsat (wrap wrapper.N x) w y a t h = taken_dsat x w y.0 a t h
    taken_dsat tree w y a t h = absurd h

    taken_parts : (xs : Trees) → AreWritable xs → AreTyped xs → HaveAll assets xs → (n : ℕ) (t : Takes) → FormalParts xs n t →
        TakenBy (parts s xs n) (λ stack r. (parts_log s xs n stack r).keys) t
    taken_parts none w y a zero t h = taken_is nothing [] (refl, refl) refl refl refl t h
    taken_parts none w y a (suc n) t h = absurd h
    taken_parts (more x xs) w y a zero t h = taken_second (taken_both (taken_parts xs w.1 y.1 a.1 0) (taken_dsat x w.0 y.0 a.0) t h)
    taken_parts (more x xs) w y a (suc n) t (inl h) =
        let i = taken_both (taken_parts xs w.1 y.1 a.1 n) (taken_sat x w.0 y.0 a.0) t h in
        record { stack = i.stack; row = inl (n, refl, i.row); items = i.items; light = i.light; keys = i.keys }
    taken_parts (more x xs) w y a (suc n) t (inr h) =
        taken_second (taken_both (taken_parts xs w.1 y.1 a.1 (suc n)) (taken_dsat x w.0 y.0 a.0) t h)
