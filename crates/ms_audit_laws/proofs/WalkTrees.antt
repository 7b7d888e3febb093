-- The walk over a miniscript with a type finds its derivations.
use Rattle.std.proofs.Common.{◌≡◌, ℕ, ◌+◌, ◌≤◌, Bool, true, false, List, [], ◌∷◌, reverse, Option, Some, None, refl, sym, ◌∙◌, ap, subst}
use Rattle.std.proofs.lemmas.Option.{none-some}
use Rattle.std.proofs.lemmas.List.{append-nil}
use Rattle.def_machine.specs.Stacks.{Stack}
use Rattle.def_machine.specs.Locks.{older_holds, after_holds}
use Rattle.def_machine.specs.Machine.{Given}
use Rattle.def_tree.specs.declared.Two.TheVariants as kind
use Rattle.def_tree.specs.declared.Wrapper.TheVariants as wrapper
use Rattle.def_tree.specs.Size.{nodes}
use Rattle.def_tree.specs.Tree.{Tree, Trees, just_0, just_1, pk_k, pk_h, older, after, hash, and_or, two, thresh, multi, wrap, none, more}
use Rattle.def_types.specs.Typed.{IsTyped, AreTyped}
use Rattle.def_types.proofs.Facts.{typed-multi, typed-thresh, typed-thresh_none, typed-wrap_j}
use Rattle.def_satisfaction.specs.Setting.{any}
use Rattle.def_satisfaction.specs.Satisfaction.{full}
use Rattle.def_audit.specs.declared.Step.{Step}
use Rattle.def_audit.specs.TrailRows.{TrailRow, trails, trails_of}
use Rattle.def_audit.proofs.Erased.{row_same, derives_is_full}
use Rattle.ms_acceptance_laws.proofs.Accepted.{inversion_of}
use Rattle.ms_row_laws.proofs.ConsensusLimits.{valid_consensus}
use Rattle.ms_row_laws.proofs.RowTops.{takes_item}
use Rattle.ms_audit_laws.specs.Laws.{WalkIsTrail, TrailIsUnique, AcceptedHasTrail, TrailIsAccepted}
use Rattle.ms_audit_laws.specs.Walk.{Found, walk, walk_all, whole}
use Rattle.ms_audit_laws.proofs.Walks.{Taken, IsWalk, some_is}
use Rattle.ms_audit_laws.proofs.WalkLeaves.{just_0_walk, just_1_walk, lock_walk, pk_k_walk, pk_h_walk, hash_walk, multi_walk}
use Rattle.ms_audit_laws.proofs.WalkParts.{IsCount, wrap_walk, wrap_v_walk, wrap_d_walk, wrap_j_walk, and_or_walk, and_v_walk, and_b_walk, or_b_walk, or_c_walk, or_d_walk, or_i_walk, none_count, more_count, thresh_walk}

at_least_one : (k : ℕ) (xs : Trees) → IsTyped (thresh k xs) → 1 ≤ k
at_least_one k none typed = absurd (typed-thresh_none k typed)
at_least_one k (more x xs) typed = (typed-thresh k x xs typed).2

module _ (given : Given) where
  mutual
    pub tree_walk : (first : ℕ) (tree : Tree) → IsTyped tree → IsWalk (trails given first tree) (walk given first tree)
    tree_walk first just_0 typed = just_0_walk first
    tree_walk first just_1 typed = just_1_walk first
    tree_walk first (pk_k key) typed = pk_k_walk given first key
    tree_walk first (pk_h key) typed = pk_h_walk given first key
    tree_walk first (older n) typed = lock_walk first (older_holds n given.locks)
    tree_walk first (after n) typed = lock_walk first (after_holds n given.locks)
    tree_walk first (hash kind value) typed = hash_walk given first kind value
    tree_walk first (and_or x y z) typed =
        and_or_walk _ _ _ _ _ _ _ (tree_walk first x typed.0) (tree_walk (first + nodes x) y typed.1) (tree_walk (first + nodes x + nodes y) z typed.2)
    tree_walk first (two kind.AndV x y) typed = and_v_walk _ _ _ _ _ (tree_walk first x typed.0) (tree_walk (first + nodes x) y typed.1)
    tree_walk first (two kind.AndB x y) typed = and_b_walk _ _ _ _ _ (tree_walk first x typed.0) (tree_walk (first + nodes x) y typed.1)
    tree_walk first (two kind.OrB x z) typed = or_b_walk _ _ _ _ _ (tree_walk first x typed.0) (tree_walk (first + nodes x) z typed.1)
    tree_walk first (two kind.OrC x z) typed = or_c_walk _ _ _ _ _ (tree_walk first x typed.0) (tree_walk (first + nodes x) z typed.1)
    tree_walk first (two kind.OrD x z) typed = or_d_walk _ _ _ _ _ (tree_walk first x typed.0) (tree_walk (first + nodes x) z typed.1)
    tree_walk first (two kind.OrI x z) typed = or_i_walk _ _ _ _ _ (tree_walk first x typed.0) (tree_walk (first + nodes x) z typed.1)
    tree_walk first (thresh k xs) typed = thresh_walk _ k _ _ (at_least_one k xs typed) (trees_walk first xs typed.0)
    tree_walk first (multi k keys) typed = multi_walk given first k keys (typed-multi k keys typed).0
    tree_walk first (wrap wrapper.D x) typed = wrap_d_walk _ _ _ (tree_walk first x typed.0)
    tree_walk first (wrap wrapper.V x) typed = wrap_v_walk _ _ _ (tree_walk first x typed.0)
    tree_walk first (wrap wrapper.J x) typed =
        let items = takes_item (full given any) x typed.0 (typed-wrap_j x typed).2 in
        let same = row_same given first x in
        wrap_j_walk _ _ _ (tree_walk first x typed.0)
        (λ taken steps h. items.dsat taken (same.dsat.from taken steps h))
        (λ taken steps h. items.sat taken (same.sat.from taken steps h))
    tree_walk first (wrap wrapper x) typed = wrap_walk _ _ _ (tree_walk first x typed.0)

    pub trees_walk : (first : ℕ) (xs : Trees) → AreTyped xs → IsCount (trails_of given first xs) (walk_all given first xs)
    trees_walk first none typed = none_count
    trees_walk first (more x xs) typed = more_count _ _ _ _ (tree_walk first x typed.0) (trees_walk (first + nodes x) xs typed.1)

-- what takes the whole stack
whole_sat : (t : TrailRow) (stack : Stack) (steps found : List Step) (sat : Bool) (rest : Stack)
    → Taken t stack (record { sat = sat; steps = found; rest = rest }) → whole (Some (record { sat = sat; steps = found; rest = rest })) ≡ Some steps
    → t.sat stack steps
whole_sat t stack steps found true [] h e =
    subst (λ s. t.sat stack s) (some_is found steps e) (subst (λ w. t.sat w found) (sym (h.2 ∙ append-nil h.0)) h.1)
whole_sat t stack steps found true (item ∷ rest) h e = absurd (none-some steps e)
whole_sat t stack steps found false rest h e = absurd (none-some steps e)

whole_some : (o : Option Found) (steps : List Step) → whole o ≡ Some steps → (f : Found) × (o ≡ Some f) × (whole (Some f) ≡ Some steps)
whole_some None steps e = absurd (none-some steps e)
whole_some (Some f) steps e = (f, refl, e)

pub walk_is_trail : WalkIsTrail
walk_is_trail tree given steps stack valid =
    let i = tree_walk given 0 tree (valid_consensus tree valid).typed in (
      (λ e. let f = whole_some (walk given 0 tree (reverse stack)) steps e in
          whole_sat (trails given 0 tree) (reverse stack) steps f.0.steps f.0.sat f.0.rest (i.sound (reverse stack) f.0 f.1) f.2),
      (λ h. ap (λ w. whole (walk given 0 tree w)) (sym (append-nil (reverse stack))) ∙ ap whole (i.complete true (reverse stack) steps [] h)),
    )

pub trail_is_unique : TrailIsUnique
trail_is_unique tree given a b stack valid p q =
    some_is a b (sym ((walk_is_trail tree given a stack valid).1 p) ∙ (walk_is_trail tree given b stack valid).1 q)

pub accepted_has_trail : AcceptedHasTrail
accepted_has_trail tree given stack checks writable valid accepted =
    let sat = (inversion_of tree writable valid).satisfaction given stack checks accepted in
    let trail = (derives_is_full tree given stack).0.0 sat in
    (trail.0, (walk_is_trail tree given trail.0 stack valid).1 trail.1)

pub trail_is_accepted : TrailIsAccepted
trail_is_accepted tree given steps stack writable valid trail =
    (inversion_of tree writable valid).acceptance given stack ((derives_is_full tree given stack).0.1 (steps, trail))
