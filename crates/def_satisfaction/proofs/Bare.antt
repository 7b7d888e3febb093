-- Canonical dissatisfactions have no signature: they don't depend on the table, nor on the locks.
use Rattle.std.proofs.Common.{IsTrue, arith}
use Rattle.def_tree.specs.declared.Two.TheVariants as kind
use Rattle.def_tree.specs.declared.Wrapper.TheVariants as wrapper
use Rattle.def_tree.specs.Tree.{Tree, Trees, Key, pk_h, hash, and_or, two, thresh, wrap, none, more}
use Rattle.def_satisfaction.specs.StackSet.{StackSet}
use Rattle.def_satisfaction.specs.Setting.{Setting, CountsAsKey}
use Rattle.def_satisfaction.specs.Rows.{NotCanonical, row, parts}
use Rattle.def_satisfaction.proofs.Wider.{Within, both_within, either_within, same}

module _ (s t : Setting) (canonical : IsTrue s.all_rows → ⊥) (keys : (key other : Key) → CountsAsKey s.mode key other → CountsAsKey t.mode key other) where
  no_extra : (P Q : StackSet) → Within (NotCanonical s P) Q
  no_extra P Q stack h = absurd (canonical h.0)

  mutual
    pub dsat_within : (tree : Tree) → Within (row s tree).dsat (row t tree).dsat
    dsat_within (pk_h key) = λ stack h. (h.0, h.1, h.2, keys key h.0 h.3, h.4)
    dsat_within (hash kind value) = either_within _ _ _ _ (same _) (no_extra _ _)
    dsat_within (and_or x y z) = either_within _ _ _ _ (both_within _ _ _ _ (dsat_within z) (dsat_within x)) (no_extra _ _)
    dsat_within (two kind.AndV x y) = no_extra _ _
    dsat_within (two kind.AndB x y) = either_within _ _ _ _ (both_within _ _ _ _ (dsat_within y) (dsat_within x)) (no_extra _ _)
    dsat_within (two kind.OrC x z) = same _
    dsat_within (two kind.OrI x z) =
        either_within _ _ _ _ (both_within _ _ _ _ (dsat_within x) (same _)) (both_within _ _ _ _ (dsat_within z) (same _))
    dsat_within (two which x z) = both_within _ _ _ _ (dsat_within z) (dsat_within x)
    dsat_within (thresh k xs) = either_within _ _ _ _ (none_within xs) (no_extra _ _)
    dsat_within (wrap wrapper.D x) = same _
    dsat_within (wrap wrapper.V x) = same _
    dsat_within (wrap wrapper.J x) = either_within _ _ _ _ (same _) (no_extra _ _)
    dsat_within (wrap letter x) = dsat_within x
    dsat_within tree = same _

    -- all children dissatisfied
    none_within : (xs : Trees) → Within (parts s xs 0) (parts t xs 0)
    none_within none = same _
    none_within (more x xs) = either_within _ _ _ _ (λ stack h. absurd (omega (arith, h.1))) (both_within _ _ _ _ (none_within xs) (dsat_within x))
