-- What a run logs along a canonical row: nothing along a dissatisfaction and along a satisfaction without
-- signatures, and otherwise pairs with keys of the miniscript.
use Rattle.std.proofs.Common.{◌≡◌, [], refl, IsTrue, inl, inr, arith, ℕ, ◌≤◌, List, ◌∷◌, ◌++◌, length, reverse, All, sym, subst, ◌⊎◌}
use Rattle.def_machine.specs.Stacks.{Stack, Pairs, member}
use Rattle.def_tree.specs.declared.Two.TheVariants as kind
use Rattle.def_tree.specs.declared.Wrapper.TheVariants as wrapper
use Rattle.def_tree.specs.Tree.{Tree, Trees, and_or, two, thresh, wrap, none, more, Key, just_0, pk_k, pk_h, multi}
use Rattle.def_satisfaction.specs.Setting.{Setting}
use Rattle.def_satisfaction.specs.Rows.{row, parts, AreSignatures}
use Rattle.ms_row_laws.proofs.RowLogs.{dsat_log, parts_log, multi_log, sat_log}
use Rattle.ms_row_laws.proofs.KeyLists.{Among, among_left, among_right}
use Rattle.ms_strict_laws.proofs.PairSets.{both_none, HasPair, pair_left, pair_right, has_one, Inside, inside_both, second_inside, first_inside, own_inside, none_inside}
use Rattle.std.proofs.lemmas.Bool.{false≢true}
use Rattle.def_script.specs.Bytes.{Bytes}
use Rattle.def_tree.specs.Range.{IsKey, IsWritable, AreWritable}
use Rattle.def_types.specs.Typed.{IsTyped, AreTyped}
use Rattle.def_types.proofs.Rows.{malleability_rows}
use Rattle.def_types.proofs.Facts.{typed-multi}
use Rattle.def_assets.specs.Assets.{Assets, unsigned}
use Rattle.def_sane.specs.Keys.{keys, keys_of_all}
use Rattle.def_satisfaction.specs.StackSet.{StackSet, Both}
use Rattle.def_satisfaction.specs.Satisfaction.{canonical}
use Rattle.def_choice.specs.Tight.{signed_row, free_row}
use Rattle.def_choice.proofs.TightFree.{free_dsat}
use Rattle.def_choice.proofs.Weights.{contains-reverse}
use Rattle.ms_strict_laws.proofs.MultisigPairs.{Matched, matched_log, matched_inside}
use Rattle.ms_strict_laws.proofs.UnsignedStacks.{signed_dsat, signs}

module _ (s : Setting) (canonical : IsTrue s.all_rows → ⊥) where
  mutual
    pub quiet_dsat : (t : Tree) (w : Stack) (r : (row s t).dsat w) → (dsat_log s t w r).checks ≡ []
    quiet_dsat (and_or x y z) w (inl r) = both_none _ _ (quiet_dsat x r.1 r.3) (quiet_dsat z r.0 r.2)
    quiet_dsat (and_or x y z) w (inr r) = absurd (canonical r.0)
    quiet_dsat (two kind.AndV x y) w r = absurd (canonical r.0)
    quiet_dsat (two kind.AndB x y) w (inl r) = both_none _ _ (quiet_dsat x r.1 r.3) (quiet_dsat y r.0 r.2)
    quiet_dsat (two kind.AndB x y) w (inr (fact, r)) = absurd (canonical fact)
    quiet_dsat (two kind.OrC x z) w r = refl
    quiet_dsat (two kind.OrI x z) w (inl r) = quiet_dsat x r.0 r.2
    quiet_dsat (two kind.OrI x z) w (inr r) = quiet_dsat z r.0 r.2
    quiet_dsat (two which x z) w r = both_none _ _ (quiet_dsat x r.1 r.3) (quiet_dsat z r.0 r.2)
    quiet_dsat (thresh k xs) w (inl r) = quiet_none xs w r
    quiet_dsat (thresh k xs) w (inr r) = absurd (canonical r.0)
    quiet_dsat (wrap wrapper.D x) w r = refl
    quiet_dsat (wrap wrapper.V x) w r = refl
    quiet_dsat (wrap wrapper.J x) w (inl r) = refl
    quiet_dsat (wrap wrapper.J x) w (inr r) = absurd (canonical r.0)
    quiet_dsat (wrap letter x) w r = quiet_dsat x w r
    quiet_dsat tree w r = refl

    -- all children dissatisfied
    quiet_none : (xs : Trees) (w : Stack) (r : parts s xs 0 w) → (parts_log s xs 0 w r).checks ≡ []
    quiet_none none w r = refl
    quiet_none (more x xs) w (inl r) = absurd (omega (arith, r.1))
    quiet_none (more x xs) w (inr r) = both_none _ _ (quiet_dsat x r.1 r.3) (quiet_none xs r.0 r.2)

-- where signatures are found there is a pair
first_pair : (key sig : Bytes) (rest : Pairs) → HasPair ((key, sig) ∷ rest)
first_pair key sig rest = pair_left ((key, sig) ∷ []) rest (key, sig, has_one key sig)

matched_pair : (keys : List Key) (sigs : Stack) (found : Pairs) → Matched keys sigs found → 1 ≤ length sigs → HasPair found
matched_pair keys [] found m some = absurd (omega (arith, some))
matched_pair [] (sig ∷ sigs) found m some = absurd m
matched_pair (key ∷ keys) (sig ∷ sigs) found (inl (rest, e, m)) some = subst HasPair (sym e) (first_pair key sig rest)
matched_pair (key ∷ keys) (sig ∷ sigs) found (inr m) some = matched_pair keys (sig ∷ sigs) found m some

-- a stack is free, or it has a pair
pub both_free : (F G : StackSet) (c d : Pairs) (w below above : Stack) → w ≡ above ++ below → F below ⊎ HasPair c → G above ⊎ HasPair d → Both F G w ⊎ HasPair (d ++ c)
both_free F G c d w below above e (inl f) (inl g) = inl (below, above, f, g, e)
both_free F G c d w below above e f (inr pair) = inr (pair_left d c pair)
both_free F G c d w below above e (inr pair) g = inr (pair_right d c pair)

pub then_free : {P Q R : Type 0} → (P → Q) → P ⊎ R → Q ⊎ R
then_free f (inl p) = inl (f p)
then_free f (inr r) = inr r

-- a stack is free or has a pair, and the keys of its pairs are among these
pub record Told (F : Type 0) (own : List Key) (c : Pairs) : Type 0 where
  pub free : F ⊎ HasPair c
  pub inside : Inside c own

told_as : {F G : Type 0} {a b : List Key} {c : Pairs} → (F → G) → Among a b → Told F a c → Told G b c
told_as f among x = record { free = then_free f x.free; inside = λ key sig h. among key (x.inside key sig h) }

both_told : {F G A B : StackSet} {a b : List Key} {c d : Pairs} (w : Stack) (r : Both B A w) → Told (G r.1) a c → Told (F r.0) b d
    → Told (Both F G w) (a ++ b) (c ++ d)
both_told {a = a} {b = b} w r x y = record { free = both_free _ _ _ _ w r.0 r.1 r.4 y.free x.free; inside = inside_both a b _ _ x.inside y.inside }

-- beside a free stack without pairs
second_told : {F G A B : StackSet} {b : List Key} {c d : Pairs} (w : Stack) (r : Both B A w) → G r.1 → c ≡ [] → Told (F r.0) b d → Told (Both F G w) b (c ++ d)
second_told {b = b} w r g quiet y = record { free = both_free _ _ _ _ w r.0 r.1 r.4 y.free (inl g); inside = second_inside _ _ b quiet y.inside }

first_told : {F G A B : StackSet} {a : List Key} {c d : Pairs} (w : Stack) (r : Both B A w) → Told (G r.1) a c → F r.0 → d ≡ [] → Told (Both F G w) a (c ++ d)
first_told {a = a} w r x f quiet = record { free = both_free _ _ _ _ w r.0 r.1 r.4 (inl f) x.free; inside = first_inside _ _ a quiet x.inside }

module _ (assets : Assets) where
  -- the pairs that are logged
  abbrev pub checks : (tree : Tree) (w : Stack) → (signed_row assets tree).sat w → Pairs
  checks tree w r = let log = sat_log (canonical assets) tree w r in log.checks

  abbrev pub dsat_checks : (tree : Tree) (w : Stack) → (signed_row assets tree).dsat w → Pairs
  dsat_checks tree w r = let log = dsat_log (canonical assets) tree w r in log.checks

  abbrev pub parts_checks : (xs : Trees) (n : ℕ) (w : Stack) → parts (canonical assets) xs n w → Pairs
  parts_checks xs n w r = let log = parts_log (canonical assets) xs n w r in log.checks

  multi_pair : (k : ℕ) (keys : List Key) (sigs : Stack) → All IsKey keys → 1 ≤ k → length sigs ≡ k → AreSignatures (member assets.pairs) (reverse keys) sigs →
      HasPair (multi_log (member assets.pairs) keys sigs).checks
  multi_pair k keys sigs forms some long h =
      matched_pair (reverse keys) sigs (multi_log (member assets.pairs) keys sigs).checks (matched_log (member assets.pairs) keys sigs forms h) (omega (arith, some, long))

  -- a dissatisfaction logs nothing
  pub dsat_quiet : (tree : Tree) (w : Stack) (r : (signed_row assets tree).dsat w) → dsat_checks tree w r ≡ []
  dsat_quiet tree w r = quiet_dsat (canonical assets) false≢true tree w r

  -- a free stack, by a row along which nothing is logged
  abbrev pub IsQuiet : (tree : Tree) (w : Stack) → Type 0
  IsQuiet tree w = (r : (signed_row assets tree).sat w) × (checks tree w r ≡ [])

  both_quiet : {P Q : Type 0} {c : P → Pairs} {d : Q → Pairs} → (p : P) × (c p ≡ []) → (q : Q) × (d q ≡ []) → (p : P) × (q : Q) × (d q ++ c p ≡ [])
  both_quiet below above = (below.0, above.0, both_none _ _ above.1 below.1)

  quiet_still : (x : Tree) (w : Stack) → (free_row assets x).dsat w → (r : (signed_row assets x).dsat w) × (dsat_checks x w r ≡ [])
  quiet_still x w f = let d = signed_dsat assets x w f in (d, dsat_quiet x w d)

  mutual
    unfolding malleability_rows

    pub free_quiet : (tree : Tree) → IsTyped tree → (w : Stack) → (free_row assets tree).sat w → IsQuiet tree w
    free_quiet just_0 t w f = absurd f
    free_quiet (pk_k key) t w f = absurd (signs assets (pk_k key) t refl w f)
    free_quiet (pk_h key) t w f = absurd (signs assets (pk_h key) t refl w f)
    free_quiet (and_or x y z) t w (inl f) =
        let b = both_quiet (free_quiet y t.1 f.0 f.2) (free_quiet x t.0 f.1 f.3) in (inl (f.0, f.1, b.0, b.1, f.4), b.2)
    free_quiet (and_or x y z) t w (inr f) =
        let b = both_quiet (free_quiet z t.2 f.0 f.2) (quiet_still x f.1 f.3) in (inr (f.0, f.1, b.0, b.1, f.4), b.2)
    free_quiet (two kind.OrB x z) t w (inl f) =
        let b = both_quiet (quiet_still z f.0 f.2) (free_quiet x t.0 f.1 f.3) in (inl (f.0, f.1, b.0, b.1, f.4), b.2)
    free_quiet (two kind.OrB x z) t w (inr (inl f)) =
        let b = both_quiet (free_quiet z t.1 f.0 f.2) (quiet_still x f.1 f.3) in (inr (inl (f.0, f.1, b.0, b.1, f.4)), b.2)
    free_quiet (two kind.OrB x z) t w (inr (inr f)) = absurd (false≢true f.0)
    free_quiet (two kind.OrI x z) t w (inl f) = let i = free_quiet x t.0 f.0 f.2 in (inl (f.0, f.1, i.0, f.3, f.4), i.1)
    free_quiet (two kind.OrI x z) t w (inr f) = let j = free_quiet z t.1 f.0 f.2 in (inr (f.0, f.1, j.0, f.3, f.4), j.1)
    free_quiet (two kind.AndV x y) t w f =
        let b = both_quiet (free_quiet y t.1 f.0 f.2) (free_quiet x t.0 f.1 f.3) in ((f.0, f.1, b.0, b.1, f.4), b.2)
    free_quiet (two kind.AndB x y) t w f =
        let b = both_quiet (free_quiet y t.1 f.0 f.2) (free_quiet x t.0 f.1 f.3) in ((f.0, f.1, b.0, b.1, f.4), b.2)
    free_quiet (two which x z) t w (inl f) = let i = free_quiet x t.0 w f in (inl i.0, i.1)
    free_quiet (two which x z) t w (inr f) =
        let b = both_quiet (free_quiet z t.1 f.0 f.2) (quiet_still x f.1 f.3) in (inr (f.0, f.1, b.0, b.1, f.4), b.2)
    free_quiet (thresh k xs) t w f = parts_quiet xs t.0 k w f
    free_quiet (multi k keys) t w f = absurd (signs assets (multi k keys) t refl w f)
    free_quiet (wrap wrapper.D x) t w f = let i = free_quiet x t.0 f.0 f.2 in ((f.0, f.1, i.0, f.3, f.4), i.1)
    free_quiet (wrap letter x) t w f = free_quiet x t.0 w f
    free_quiet tree t w f = (f, refl)

    parts_quiet : (xs : Trees) → AreTyped xs → (n : ℕ) (w : Stack) → parts (canonical (unsigned assets)) xs n w →
        (r : parts (canonical assets) xs n w) × (parts_checks xs n w r ≡ [])
    parts_quiet none t n w f = (f, refl)
    parts_quiet (more x xs) t n w (inl f) =
        let g = f.2 in
        let b = both_quiet (parts_quiet xs t.1 f.0 g.0 g.2) (free_quiet x t.0 g.1 g.3) in
        (inl (f.0, f.1, (g.0, g.1, b.0, b.1, g.4)), b.2)
    parts_quiet (more x xs) t n w (inr f) =
        let b = both_quiet (parts_quiet xs t.1 n f.0 f.2) (quiet_still x f.1 f.3) in (inr (f.0, f.1, b.0, b.1, f.4), b.2)

  mutual
    pub told : (tree : Tree) → IsWritable tree → IsTyped tree → (w : Stack) (r : (signed_row assets tree).sat w)
        → Told ((free_row assets tree).sat w) (keys tree) (checks tree w r)
    told just_0 k t w r = absurd r
    told (pk_k key) k t w r = record { free = inr (key, r.0, has_one key r.0); inside = own_inside key r.0 }
    told (pk_h key) k t w r = record {
      free = inr (r.0, r.4.2.0, has_one r.0 r.4.2.0);
      inside = subst (λ own. Inside (checks (pk_h key) w r) (own ∷ [])) r.3 (own_inside r.0 r.4.2.0);
    }
    told (and_or x y z) k t w (inl r) =
        told_as (λ f. inl f) (among_left (keys x ++ keys y) (keys z)) (both_told w r (told x k.0 t.0 r.1 r.3) (told y k.1 t.1 r.0 r.2))
    told (and_or x y z) k t w (inr r) =
        told_as (λ f. inr f) (among_right (keys x ++ keys y) (keys z))
        (second_told w r (free_dsat assets x r.1 r.3) (dsat_quiet x r.1 r.3) (told z k.2 t.2 r.0 r.2))
    told (two kind.AndV x y) k t w r = both_told w r (told x k.0 t.0 r.1 r.3) (told y k.1 t.1 r.0 r.2)
    told (two kind.AndB x y) k t w r = both_told w r (told x k.0 t.0 r.1 r.3) (told y k.1 t.1 r.0 r.2)
    told (two kind.OrB x z) k t w (inl r) =
        told_as (λ f. inl f) (among_left (keys x) (keys z)) (first_told w r (told x k.0 t.0 r.1 r.3) (free_dsat assets z r.0 r.2) (dsat_quiet z r.0 r.2))
    told (two kind.OrB x z) k t w (inr (inl r)) =
        told_as (λ f. inr (inl f)) (among_right (keys x) (keys z))
        (second_told w r (free_dsat assets x r.1 r.3) (dsat_quiet x r.1 r.3) (told z k.1 t.1 r.0 r.2))
    told (two kind.OrB x z) k t w (inr (inr r)) = absurd (false≢true r.0)
    told (two kind.OrI x z) k t w (inl r) = told_as (λ f. inl (r.0, r.1, f, r.3, r.4)) (among_left (keys x) (keys z)) (told x k.0 t.0 r.0 r.2)
    told (two kind.OrI x z) k t w (inr r) = told_as (λ f. inr (r.0, r.1, f, r.3, r.4)) (among_right (keys x) (keys z)) (told z k.1 t.1 r.0 r.2)
    told (two which x z) k t w (inl r) = told_as (λ f. inl f) (among_left (keys x) (keys z)) (told x k.0 t.0 w r)
    told (two which x z) k t w (inr r) =
        told_as (λ f. inr f) (among_right (keys x) (keys z))
        (second_told w r (free_dsat assets x r.1 r.3) (dsat_quiet x r.1 r.3) (told z k.1 t.1 r.0 r.2))
    told (thresh n xs) k t w r = told_parts xs k.2 t.0 n w r
    told (multi n own) k t w r = record {
      free = inr (multi_pair n own r.1 k.2 (typed-multi n own t).0 r.3.0 r.3.1);
      inside = λ key sig h.
          contains-reverse own key (matched_inside (reverse own) r.1 (checks (multi n own) w r) (matched_log (member assets.pairs) own r.1 k.2 r.3.1) key sig h);
    }
    told (wrap wrapper.D x) k t w r = told_as (λ f. (r.0, r.1, f, r.3, r.4)) (λ key i. i) (told x k t.0 r.0 r.2)
    told (wrap letter x) k t w r = told x k t.0 w r
    told tree k t w r = record { free = inl r; inside = none_inside [] }

    pub told_parts : (xs : Trees) → AreWritable xs → AreTyped xs → (n : ℕ) (w : Stack) (r : parts (canonical assets) xs n w) →
        Told (parts (canonical (unsigned assets)) xs n w) (keys_of_all xs) (parts_checks xs n w r)
    told_parts none k t n w r = record { free = inl r; inside = none_inside [] }
    told_parts (more x xs) k t n w (inl (m, e, r)) =
        told_as (λ f. inl (m, e, f)) (λ key i. i) (both_told w r (told x k.0 t.0 r.1 r.3) (told_parts xs k.1 t.1 m r.0 r.2))
    told_parts (more x xs) k t n w (inr r) =
        told_as (λ f. inr f) (among_right (keys x) (keys_of_all xs))
        (second_told w r (free_dsat assets x r.1 r.3) (dsat_quiet x r.1 r.3) (told_parts xs k.1 t.1 n r.0 r.2))
