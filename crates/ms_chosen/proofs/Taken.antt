-- The children of a threshold, pushed from the last to the first.
use Rattle.std.proofs.Common.{◌≡◌, ℕ, suc, ◌+◌, ◌-◌, ◌<◌, ◌≤◌, Bool, List, ◌∷◌, length, map, get_or, drop, sym, ◌∙◌, ap, subst, Option, arith, add-one, if◌then◌else◌}
use Rattle.std.proofs.lemmas.List.{drop_more}
use Rattle.def_script.specs.Bytes.{Bytes}
use Rattle.def_choice.specs.Cheapest.{Child, stack_of}
use Rattle.ms_tree.specs.declared.tree.Tree.{Tree}
use Rattle.ms_choice.specs.declared.slot.Slot.{Slot}
use Rattle.ms_choice.specs.declared.children.Costs.{Costs}
use Rattle.ms_chosen.specs.Scaffolding.Costs.{weight_of, costs_of, costs_of_child}
use Rattle.ms_choice.specs.Marks.{takes, set_by}
use Rattle.ms_chosen.specs.Scaffolding.Pushed.{IsPushed}
use Rattle.ms_chosen.proofs.Pushed.{pushed_both}

module _ (child : Tree → Child) (last : Option Slot) where
  -- the children from a place on are pushed
  abbrev pub FromOn : (place : ℕ) → List Tree → (before after : List Bytes) → Type 0
  FromOn place xs before after = IsPushed (stack_of (map child xs) (set_by last place (costs_of (map child xs)))) before after

  -- a child is pushed, satisfied or dissatisfied
  abbrev pub ChildPushed : (satisfied : Bool) → Tree → (before after : List Bytes) → Type 0
  ChildPushed satisfied x before after = IsPushed (if satisfied then (child x).sat else (child x).dsat) before after

  from_cons : (i : ℕ) (x : Tree) (xs : List Tree) (b : Bool) (before now after : List Bytes)
      → FromOn (suc i) xs before now
      → b ≡ takes last i (weight_of (child x).sat) (weight_of (child x).dsat)
      → ChildPushed b x now after
      → FromOn i (x ∷ xs) before after
  from_cons i x xs b before now after h is k =
      pushed_both (stack_of (map child xs) (set_by last (suc i) (costs_of (map child xs)))) _ before now after h
      (subst (λ test. ChildPushed test x now after) is k)

  -- a further one, at a place that a loop goes down to
  pub from_less : (xs : List Tree) (p : ℕ) (x : Tree) (c : Costs) (b : Bool) (before now after : List Bytes)
      → 0 < p → p ≤ length xs → x ≡ get_or xs (p - 1) x
      → c ≡ costs_of_child (child x)
      → b ≡ takes last (p - 1) c.sat c.dsat
      → FromOn p (drop p xs) before now
      → ChildPushed b x now after
      → FromOn (p - 1) (drop (p - 1) xs) before after
  from_less xs p x c b before now after some within at costs is h k =
      let i : ℕ = p - 1 in
      let below : i < length xs = omega (arith, some, within) in
      let next : p ≡ suc i = omega (arith, some) in
      let opened : drop i xs ≡ x ∷ drop (i + 1) xs = drop_more xs i x below ∙ ap (λ y. y ∷ drop (i + 1) xs) (sym at) in
      let others : FromOn (suc i) (drop (suc i) xs) before now = subst (λ n. FromOn n (drop n xs) before now) next h in
      let rest : FromOn (suc i) (drop (i + 1) xs) before now = subst (λ n. FromOn (suc i) (drop n xs) before now) (sym (add-one i)) others in
      let taken = is ∙ ap (λ d. takes last i d.sat d.dsat) costs in
      subst (λ ys. FromOn i ys before after) (sym opened) (from_cons i x (drop (i + 1) xs) b before now after rest taken k)
