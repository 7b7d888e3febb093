-- The cheapest satisfaction is the lightest one.
use Rattle.std.proofs.Common.{◌≡◌, ℕ, zero, suc, ◌+◌, [], ◌∷◌, map, replicate, refl, sym, ◌∙◌, ap, subst, inl, inr, arith}
use Rattle.std.proofs.Math.Numerals.{add-one}
use Rattle.def_machine.specs.Locks.{older_holds, after_holds}
use Rattle.def_tree.specs.declared.Two.TheVariants as kind
use Rattle.def_tree.specs.declared.Wrapper.TheVariants as wrapper
use Rattle.def_tree.specs.Tree.{Tree, Trees, just_0, just_1, pk_k, pk_h, older, after, hash, and_or, two, thresh, multi, wrap, none, more}
use Rattle.def_tree.specs.Range.{IsWritable, AreWritable, count}
use Rattle.def_assets.specs.Assets.{Assets, AreAssets}
use Rattle.def_satisfaction.specs.StackSet.{Is, Both}
use Rattle.def_satisfaction.specs.Rows.{EMPTY, ONE, PartsOf, PartsOfNone, row, parts}
use Rattle.def_satisfaction.specs.Satisfaction.{canonical}
use Rattle.def_choice.specs.Sets.{sets}
use Rattle.def_choice.specs.Least.{least}
use Rattle.def_choice.specs.Lightest.{IsLightest}
use Rattle.def_choice.specs.Cheapest.{all_dissatisfied, Child, stack_of, cheapest_of, cheapest_children}
use Rattle.def_choice.specs.Dissatisfaction.{dissatisfaction}
use Rattle.def_choice.proofs.Best.{none_best, one_best, best_as, best_both, best_two}
use Rattle.def_choice.proofs.Counted.{counted, least_counted, counted_best}
use Rattle.def_choice.proofs.Keys.{signature_best, keys_best}
use Rattle.def_choice.proofs.Leaves.{never_best, nothing_best, is_best, lock_best, canonical_best, no_canonical_best, pk_h_dsat_best, pk_h_sat_best, hash_dsat_best, hash_sat_best}

suc_not : (m : ℕ) → suc m ≡ zero → ⊥
suc_not m h = cc

module _ (assets : Assets) where
  mutual
    pub dsat_best : (tree : Tree) → IsWritable tree → IsLightest (row (canonical assets) tree).dsat (dissatisfaction tree)
    dsat_best just_0 w = nothing_best
    dsat_best (pk_k key) w = is_best EMPTY
    dsat_best (pk_h key) w = pk_h_dsat_best assets key w
    dsat_best (hash kind value) w = hash_dsat_best assets kind value
    dsat_best (and_or x y z) w = canonical_best assets _ _ _ (best_both _ _ _ _ (dsat_best z w.2) (dsat_best x w.0))
    dsat_best (two kind.AndV x y) w = no_canonical_best assets _
    dsat_best (two kind.AndB x y) w = canonical_best assets _ _ _ (best_both _ _ _ _ (dsat_best y w.1) (dsat_best x w.0))
    dsat_best (two kind.OrC x z) w = never_best
    dsat_best (two kind.OrI x z) w =
        best_two _ _ _ _ (best_both _ _ _ _ (dsat_best x w.0) (is_best ONE)) (best_both _ _ _ _ (dsat_best z w.1) (is_best EMPTY))
    dsat_best (two which x z) w = best_both _ _ _ _ (dsat_best z w.1) (dsat_best x w.0)
    dsat_best (thresh k xs) w = canonical_best assets _ _ _ (all_best xs w.2)
    dsat_best (multi k keys) w = one_best _ (replicate (k + 1) EMPTY) refl (λ v h. h)
    dsat_best (wrap wrapper.D x) w = is_best EMPTY
    dsat_best (wrap wrapper.V x) w = never_best
    dsat_best (wrap wrapper.J x) w = canonical_best assets _ _ _ (is_best EMPTY)
    dsat_best (wrap letter x) w = dsat_best x w
    dsat_best tree w = never_best

    all_best : (xs : Trees) → AreWritable xs → IsLightest (parts (canonical assets) xs 0) (all_dissatisfied xs)
    all_best none w = one_best (PartsOfNone 0) [] (refl, refl) (λ v h. h.1)
    all_best (more x xs) w =
        best_as (Both (parts (canonical assets) xs 0) (row (canonical assets) x).dsat) _ _
        (λ v h. inr h) (λ v h. elim h [ inl i ↦ absurd (omega (arith, i.1)) | inr i ↦ i ])
        (best_both _ _ _ _ (all_best xs w.1) (dsat_best x w.0))

module _ (assets : Assets) (are : AreAssets assets) where
  mutual
    pub sat_best : (tree : Tree) → IsWritable tree → IsLightest (row (canonical assets) tree).sat (cheapest_of assets tree)
    sat_best just_0 w = never_best
    sat_best just_1 w = nothing_best
    sat_best (pk_k key) w = signature_best assets are key
    sat_best (pk_h key) w = pk_h_sat_best assets key w are
    sat_best (older n) w = lock_best (older_holds n assets.locks)
    sat_best (after n) w = lock_best (after_holds n assets.locks)
    sat_best (hash kind value) w = hash_sat_best assets are kind value
    sat_best (and_or x y z) w =
        best_two _ _ _ _
        (best_both _ _ _ _ (sat_best y w.1) (sat_best x w.0))
        (best_both _ _ _ _ (sat_best z w.2) (dsat_best assets x w.0))
    sat_best (two kind.OrB x z) w =
        best_two _ _ _ _
        (best_both _ _ _ _ (dsat_best assets z w.1) (sat_best x w.0))
        (canonical_best assets _ _ _ (best_both _ _ _ _ (sat_best z w.1) (dsat_best assets x w.0)))
    sat_best (two kind.OrC x z) w = best_two _ _ _ _ (sat_best x w.0) (best_both _ _ _ _ (sat_best z w.1) (dsat_best assets x w.0))
    sat_best (two kind.OrD x z) w = best_two _ _ _ _ (sat_best x w.0) (best_both _ _ _ _ (sat_best z w.1) (dsat_best assets x w.0))
    sat_best (two kind.OrI x z) w =
        best_two _ _ _ _ (best_both _ _ _ _ (sat_best x w.0) (is_best ONE)) (best_both _ _ _ _ (sat_best z w.1) (is_best EMPTY))
    sat_best (two which x y) w = best_both _ _ _ _ (sat_best y w.1) (sat_best x w.0)
    sat_best (thresh k xs) w = parts_best xs w.2 k
    sat_best (multi k keys) w = best_both (Is EMPTY) _ _ _ (is_best EMPTY) (keys_best assets are keys k)
    sat_best (wrap wrapper.D x) w = best_both _ _ _ _ (sat_best x w) (is_best ONE)
    sat_best (wrap letter x) w = sat_best x w

    parts_best : (xs : Trees) → AreWritable xs → (k : ℕ) →
        IsLightest (parts (canonical assets) xs k) (least (map (stack_of (cheapest_children assets xs)) (sets (count xs) k)))
    parts_best none w zero = one_best (PartsOfNone zero) [] (refl, refl) (λ v h. h.1)
    parts_best none w (suc k) = none_best (PartsOfNone (suc k)) (λ v h. suc_not k h.0)
    parts_best (more x xs) w k =
        let c : Child = record { sat = cheapest_of assets x; dsat = dissatisfaction x } in
        let cs = cheapest_children assets xs in
        let e : least (map (stack_of (c ∷ cs)) (sets (count xs + 1) k)) ≡ counted c.sat c.dsat (λ j. least (map (stack_of cs) (sets (count xs) j))) k =
        ap (λ n. least (map (stack_of (c ∷ cs)) (sets n k))) (add-one (count xs)) ∙ least_counted c cs (count xs) k
        in
        subst (λ o. IsLightest (PartsOf (row (canonical assets) x) (parts (canonical assets) xs) k) o) (sym e)
        (counted_best (row (canonical assets) x) (parts (canonical assets) xs) c.sat c.dsat _
        (sat_best x w.0) (dsat_best assets x w.0) (parts_best xs w.1) k)
