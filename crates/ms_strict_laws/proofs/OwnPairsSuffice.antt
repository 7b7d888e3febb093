-- A stack satisfies a miniscript also under a table that has only the pairs which its run found good.
use Rattle.std.proofs.Common.{◌≡◌, ℕ, IsTrue, List, [], ◌∷◌, ◌++◌, reverse, All, Some, sym, subst, inl, inr}
use Rattle.std.proofs.lemmas.Bool.{false≢true}
use Rattle.def_script.specs.Bytes.{Bytes}
use Rattle.def_machine.specs.Stacks.{Stack, Pairs, Checker}
use Rattle.def_script.specs.Key.{is_key}
use Rattle.def_machine.specs.MultiSig.{is_good, tries}
use Rattle.def_tree.specs.declared.Two.TheVariants as kind
use Rattle.def_tree.specs.declared.Wrapper.TheVariants as wrapper
use Rattle.def_tree.specs.Tree.{Tree, Trees, Key, just_0, pk_k, pk_h, and_or, two, thresh, multi, wrap, none, more}
use Rattle.def_tree.specs.Range.{IsWritable, AreWritable}
use Rattle.def_satisfaction.specs.StackSet.{StackSet, Both}
use Rattle.def_satisfaction.specs.Setting.{Setting}
use Rattle.def_satisfaction.specs.Rows.{AreSignatures, row, parts}
use Rattle.ms_row_laws.proofs.RowLogs.{sat_log, dsat_log, parts_log, found_in, check_log}
use Rattle.ms_strict_laws.proofs.PairSets.{Has, has_cases, has_left, has_right, has_one, first_or_later}
use Rattle.ms_row_laws.proofs.MultisigTries.{same_found, good_tries, reversed_forms, ok_found, not_found, first_try, forms}

-- the pairs are good
abbrev pub AreGood : (checker : Checker) (pairs : Pairs) → Type 0
AreGood checker pairs = (key sig : Bytes) → Has pairs key sig → IsTrue (is_good checker key sig)

good_left : (checker : Checker) (a b : Pairs) → AreGood checker (a ++ b) → AreGood checker a
good_left checker a b h key sig i = h key sig (has_left a b key sig i)

good_right : (checker : Checker) (a b : Pairs) → AreGood checker (a ++ b) → AreGood checker b
good_right checker a b h key sig i = h key sig (has_right a b key sig i)

good_one : (checker : Checker) (key sig : Bytes) → AreGood checker (check_log key sig).checks → IsTrue (is_good checker key sig)
good_one checker key sig h = h key sig (has_one key sig)

good_both : (checker : Checker) (a b : Pairs) → AreGood checker a → AreGood checker b → AreGood checker (a ++ b)
good_both checker a b h i key sig j = elim (has_cases a b key sig j) [ inl k ↦ h key sig k | inr k ↦ i key sig k ]

good_alone : (checker : Checker) (key sig : Bytes) → IsTrue (is_good checker key sig) → AreGood checker ((key, sig) ∷ [])
good_alone checker key sig good k g h =
    elim (first_or_later key sig [] k g h) [
      | inl same ↦ subst (λ x. IsTrue (is_good checker k x)) same.1 (subst (λ x. IsTrue (is_good checker x sig)) same.0 good)
      | inr nowhere ↦ absurd (false≢true nowhere)
    ]

good_none : (checker : Checker) → AreGood checker []
good_none checker key sig h = absurd (false≢true h)

-- a setting with another checker
abbrev pub with_checker : Setting → Checker → Setting
with_checker s checker = record { given = record { checker = checker; locks = s.given.locks }; mode = s.mode; all_rows = s.all_rows }

-- what was found stays found
found_stays : (checker : Checker) (keys sigs : Stack) (found all : Pairs) (k g : Bytes) → tries checker keys sigs found ≡ ok_found (Some all) → Has found k g → Has all k g
unfolding tries
found_stays checker keys [] found all k g e h = subst (λ q. Has q k g) (same_found found all e) h
found_stays checker [] (sig ∷ sigs) found all k g e h = absurd (not_found all e)
found_stays checker (key ∷ keys) (sig ∷ sigs) found all k g e h =
    elim (first_try checker key sig keys sigs found all e) [
      | inl good ↦ found_stays checker keys sigs (found ++ (key, sig) ∷ []) all k g good.1 (has_left found ((key, sig) ∷ []) k g h)
      | inr bad ↦ found_stays checker keys (sig ∷ sigs) found all k g bad h
    ]

found_signs : (checker other : Checker) (keys sigs : Stack) (found all : Pairs) → tries checker keys sigs found ≡ ok_found (Some all) → AreGood other all → AreSignatures other keys sigs
unfolding tries
found_signs checker other keys [] found all e h = tt
found_signs checker other [] (sig ∷ sigs) found all e h = absurd (not_found all e)
found_signs checker other (key ∷ keys) (sig ∷ sigs) found all e h =
    elim (first_try checker key sig keys sigs found all e) [
      | inl good ↦ inl (
        h key sig (found_stays checker keys sigs (found ++ (key, sig) ∷ []) all key sig good.1 (has_right found ((key, sig) ∷ []) key sig (has_one key sig))),
        found_signs checker other keys sigs (found ++ (key, sig) ∷ []) all good.1 h,
      )
      | inr bad ↦ inr (found_signs checker other keys (sig ∷ sigs) found all bad h)
    ]

-- what tries find is good
found_good : (checker : Checker) (keys sigs : Stack) (found all : Pairs) → tries checker keys sigs found ≡ ok_found (Some all) → AreGood checker found → AreGood checker all
unfolding tries
found_good checker keys [] found all e h = subst (AreGood checker) (same_found found all e) h
found_good checker [] (sig ∷ sigs) found all e h = absurd (not_found all e)
found_good checker (key ∷ keys) (sig ∷ sigs) found all e h =
    elim (first_try checker key sig keys sigs found all e) [
      | inl good ↦ found_good checker keys sigs (found ++ (key, sig) ∷ []) all good.1 (good_both checker found ((key, sig) ∷ []) h (good_alone checker key sig good.0))
      | inr bad ↦ found_good checker keys (sig ∷ sigs) found all bad h
    ]

multi_kept : (checker other : Checker) (keys : List Key) (sigs : Stack) → All (λ key. IsTrue (is_key key)) keys → AreSignatures checker (reverse keys) sigs
    → AreGood other (found_in (tries checker (reverse keys) sigs [])) → AreSignatures other (reverse keys) sigs
multi_kept checker other keys sigs are h good =
    let all = good_tries checker (reverse keys) sigs [] (reversed_forms keys are) h in
    found_signs checker other (reverse keys) sigs [] all.0 all.1 (subst (λ t. AreGood other (found_in t)) all.1 good)

multi_good : (checker : Checker) (keys : List Key) (sigs : Stack) → All (λ key. IsTrue (is_key key)) keys → AreSignatures checker (reverse keys) sigs
    → AreGood checker (found_in (tries checker (reverse keys) sigs []))
multi_good checker keys sigs are h =
    let all = good_tries checker (reverse keys) sigs [] (reversed_forms keys are) h in
    subst (λ t. AreGood checker (found_in t)) (sym all.1) (found_good checker (reverse keys) sigs [] all.0 all.1 (good_none checker))

-- the pairs are good, and where another table has them too it has X
pub record Kept (own checker : Checker) (pairs : Pairs) (X : Type 0) : Type 0 where
  pub good : AreGood own pairs
  pub kept : AreGood checker pairs → X

module _ (s : Setting) (checker : Checker) where
  abbrev Keeps : Pairs → Type 0 → Type 0
  Keeps = Kept s.given.checker checker

  kept_as : {c : Pairs} {X Y : Type 0} → (X → Y) → Keeps c X → Keeps c Y
  kept_as f x = record { good = x.good; kept = λ h. f (x.kept h) }

  unlogged : {X : Type 0} → X → Keeps [] X
  unlogged x = record { good = good_none s.given.checker; kept = λ h. x }

  -- of two children
  both_kept : {c d : Pairs} {P Q A B : StackSet} (w : Stack) (r : Both B A w) → Keeps c (P r.1) → Keeps d (Q r.0) → Keeps (c ++ d) (Both Q P w)
  both_kept {c} {d} w r x y = record {
    good = good_both s.given.checker c d x.good y.good;
    kept = λ h. (r.0, r.1, y.kept (good_right checker c d h), x.kept (good_left checker c d h), r.4);
  }

  mutual
    -- what is logged along a row is good, and where another table has it the stack is one of that row there
    pub sat_kept : (t : Tree) → IsWritable t → (w : Stack) (r : (row s t).sat w) → Keeps (sat_log s t w r).checks ((row (with_checker s checker) t).sat w)
    sat_kept just_0 k w r = absurd r
    sat_kept (pk_k key) k w r = record { good = good_alone s.given.checker key r.0 r.1; kept = λ h. (r.0, good_one checker key r.0 h, r.2) }
    sat_kept (pk_h key) k w r = record {
      good = good_alone s.given.checker r.0 r.4.2.0 r.4.2.1;
      kept = λ h. (r.0, r.1, r.2, r.3, (r.4.0, r.4.1, (r.4.2.0, good_one checker r.0 r.4.2.0 h, r.4.2.2), r.4.3, r.4.4));
    }
    sat_kept (and_or x y z) k w (inl r) = kept_as (λ q. inl q) (both_kept w r (sat_kept x k.0 r.1 r.3) (sat_kept y k.1 r.0 r.2))
    sat_kept (and_or x y z) k w (inr r) = kept_as (λ q. inr q) (both_kept w r (dsat_kept x k.0 r.1 r.3) (sat_kept z k.2 r.0 r.2))
    sat_kept (two kind.AndV x y) k w r = both_kept w r (sat_kept x k.0 r.1 r.3) (sat_kept y k.1 r.0 r.2)
    sat_kept (two kind.AndB x y) k w r = both_kept w r (sat_kept x k.0 r.1 r.3) (sat_kept y k.1 r.0 r.2)
    sat_kept (two kind.OrB x z) k w (inl r) = kept_as (λ q. inl q) (both_kept w r (sat_kept x k.0 r.1 r.3) (dsat_kept z k.1 r.0 r.2))
    sat_kept (two kind.OrB x z) k w (inr (inl r)) = kept_as (λ q. inr (inl q)) (both_kept w r (dsat_kept x k.0 r.1 r.3) (sat_kept z k.1 r.0 r.2))
    sat_kept (two kind.OrB x z) k w (inr (inr (fact, r))) = kept_as (λ q. inr (inr (fact, q))) (both_kept w r (sat_kept x k.0 r.1 r.3) (sat_kept z k.1 r.0 r.2))
    sat_kept (two kind.OrI x z) k w (inl r) = kept_as (λ q. inl (r.0, r.1, q, r.3, r.4)) (sat_kept x k.0 r.0 r.2)
    sat_kept (two kind.OrI x z) k w (inr r) = kept_as (λ q. inr (r.0, r.1, q, r.3, r.4)) (sat_kept z k.1 r.0 r.2)
    sat_kept (two which x z) k w (inl r) = kept_as (λ q. inl q) (sat_kept x k.0 w r)
    sat_kept (two which x z) k w (inr r) = kept_as (λ q. inr q) (both_kept w r (dsat_kept x k.0 r.1 r.3) (sat_kept z k.1 r.0 r.2))
    sat_kept (thresh n xs) k w r = parts_kept xs k.2 n w r
    sat_kept (multi n keys) k w r = record {
      good = multi_good s.given.checker keys r.1 (forms keys k.2) r.3.1;
      kept = λ h. (r.0, r.1, r.2, (r.3.0, multi_kept s.given.checker checker keys r.1 (forms keys k.2) r.3.1 h), r.4);
    }
    sat_kept (wrap wrapper.D x) k w r = kept_as (λ q. (r.0, r.1, q, r.3, r.4)) (sat_kept x k r.0 r.2)
    sat_kept (wrap letter x) k w r = sat_kept x k w r
    sat_kept tree k w r = unlogged r

    dsat_kept : (t : Tree) → IsWritable t → (w : Stack) (r : (row s t).dsat w) → Keeps (dsat_log s t w r).checks ((row (with_checker s checker) t).dsat w)
    dsat_kept (and_or x y z) k w (inl r) = kept_as (λ q. inl q) (both_kept w r (dsat_kept x k.0 r.1 r.3) (dsat_kept z k.2 r.0 r.2))
    dsat_kept (and_or x y z) k w (inr (fact, r)) = kept_as (λ q. inr (fact, q)) (both_kept w r (sat_kept x k.0 r.1 r.3) (dsat_kept y k.1 r.0 r.2))
    dsat_kept (two kind.AndV x y) k w (fact, r) = kept_as (λ q. (fact, q)) (both_kept w r (sat_kept x k.0 r.1 r.3) (dsat_kept y k.1 r.0 r.2))
    dsat_kept (two kind.AndB x y) k w (inl r) = kept_as (λ q. inl q) (both_kept w r (dsat_kept x k.0 r.1 r.3) (dsat_kept y k.1 r.0 r.2))
    dsat_kept (two kind.AndB x y) k w (inr (fact, inl r)) = kept_as (λ q. inr (fact, inl q)) (both_kept w r (dsat_kept x k.0 r.1 r.3) (sat_kept y k.1 r.0 r.2))
    dsat_kept (two kind.AndB x y) k w (inr (fact, inr r)) = kept_as (λ q. inr (fact, inr q)) (both_kept w r (sat_kept x k.0 r.1 r.3) (dsat_kept y k.1 r.0 r.2))
    dsat_kept (two kind.OrC x z) k w r = unlogged r
    dsat_kept (two kind.OrI x z) k w (inl r) = kept_as (λ q. inl (r.0, r.1, q, r.3, r.4)) (dsat_kept x k.0 r.0 r.2)
    dsat_kept (two kind.OrI x z) k w (inr r) = kept_as (λ q. inr (r.0, r.1, q, r.3, r.4)) (dsat_kept z k.1 r.0 r.2)
    dsat_kept (two which x z) k w r = both_kept w r (dsat_kept x k.0 r.1 r.3) (dsat_kept z k.1 r.0 r.2)
    dsat_kept (thresh n xs) k w (inl r) = kept_as (λ q. inl q) (parts_kept xs k.2 0 w r)
    dsat_kept (thresh n xs) k w (inr (fact, r)) = kept_as (λ q. inr (fact, (r.0, r.1, r.2, q))) (parts_kept xs k.2 r.0 w r.3)
    dsat_kept (wrap wrapper.D x) k w r = unlogged r
    dsat_kept (wrap wrapper.V x) k w r = unlogged r
    dsat_kept (wrap wrapper.J x) k w (inl r) = unlogged (inl r)
    dsat_kept (wrap wrapper.J x) k w (inr (fact, r)) = kept_as (λ q. inr (fact, (r.0, q))) (dsat_kept x k w r.1)
    dsat_kept (wrap letter x) k w r = dsat_kept x k w r
    dsat_kept tree k w r = unlogged r

    parts_kept : (xs : Trees) → AreWritable xs → (n : ℕ) (w : Stack) (r : parts s xs n w)
        → Keeps (parts_log s xs n w r).checks (parts (with_checker s checker) xs n w)
    parts_kept none k n w r = unlogged r
    parts_kept (more x xs) k n w (inl (m, e, r)) = kept_as (λ q. inl (m, e, q)) (both_kept w r (sat_kept x k.0 r.1 r.3) (parts_kept xs k.1 m r.0 r.2))
    parts_kept (more x xs) k n w (inr r) = kept_as (λ q. inr q) (both_kept w r (dsat_kept x k.0 r.1 r.3) (parts_kept xs k.1 n r.0 r.2))
