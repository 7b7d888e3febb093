-- The steps of a derivation are those of nodes of the tree.
use Rattle.std.proofs.Common.{ℕ, ◌+◌, ◌<◌, ◌≤◌, List, [], All, Bool, true, false, inl, inr, reverse, sym, subst, arith}
use Rattle.std.proofs.lemmas.List.Elements.{All-append, All-push}
use Rattle.def_script.specs.Bytes.{Bytes}
use Rattle.def_machine.specs.Stacks.{Stack}
use Rattle.def_machine.specs.Machine.{Given}
use Rattle.def_tree.specs.declared.Two.{Two}
use Rattle.def_tree.specs.declared.Two.TheVariants as kind
use Rattle.def_tree.specs.declared.Wrapper.TheVariants as wrapper
use Rattle.def_tree.specs.Size.{nodes, nodes_of}
use Rattle.def_tree.specs.Tree.{Tree, Trees, pk_h, hash, and_or, two, thresh, wrap, none, more}
use Rattle.def_satisfaction.specs.StackSet.{StackSet}
use Rattle.def_satisfaction.specs.Rows.{Row}
use Rattle.def_audit.specs.declared.Step.{Step}
use Rattle.def_audit.specs.TrailSet.{TrailSet, Never, Bare, Both, Either, Where, Then}
use Rattle.def_audit.specs.TrailRows.{TrailRow, WithTop, TrailsOf, bare_row, thresh_trails, wrap_trails, trails, trails_of}
use Rattle.def_audit.specs.Laws.{StepsAreOfTree}

module _ (n : ℕ) where
  abbrev IsBelow : Step → Type 0
  IsBelow step = step.node < n

  -- all steps of a set are those of nodes before this number
  abbrev Below : TrailSet → Type 0
  Below P = (stack : Stack) (steps : List Step) → P stack steps → All IsBelow steps

  record BelowRow (t : TrailRow) : Type 0 where
    dsat : Below t.dsat
    sat : Below t.sat

  none_below : All IsBelow []
  none_below i d h = omega (arith, h)

  never : Below Never
  never stack steps h = absurd h

  bare : (P : StackSet) → Below (Bare P)
  bare P stack steps h = subst (All IsBelow) (sym h.1) none_below

  both : {P Q : TrailSet} → Below P → Below Q → Below (Both P Q)
  both p q stack steps (below, above, first, later, lower, upper, s, e) =
      subst (All IsBelow) (sym e) (All-append IsBelow first later (q above first upper) (p below later lower))

  either : {P Q : TrailSet} → Below P → Below Q → Below (Either P Q)
  either p q stack steps (inl h) = p stack steps h
  either p q stack steps (inr h) = q stack steps h

  where_fact : (F : Stack → Type 0) {P : TrailSet} → Below P → Below (Where F P)
  where_fact F p stack steps h = p stack steps h.1

  own : {step : Step} {P : TrailSet} → step.node < n → Below P → Below (Then step P)
  own {step} is p stack steps (before, h, e) = subst (All IsBelow) (sym e) (All-push IsBelow before step (p stack before h) is)

  with_top : (item : Bytes) (node : ℕ) (sat : Bool) (P : StackSet) → node < n → Below (WithTop item node sat P)
  with_top item node sat P is =
      either (own is (where_fact _ (bare P))) (own is (where_fact _ (bare P)))

  leaf : (node : ℕ) (r : Row) → node < n → BelowRow (bare_row node r)
  leaf node r is = record { dsat = own is (bare r.dsat); sat = own is (bare r.sat) }

  -- the parts of a threshold
  parts_more : (x : TrailRow) (others : ℕ → TrailSet) → BelowRow x → ((count : ℕ) → Below (others count)) → (count : ℕ) → Below (TrailsOf x others count)
  parts_more x others b o count stack steps (inl (m, e, h)) = both (o m) b.sat stack steps h
  parts_more x others b o count stack steps (inr h) = both (o count) b.dsat stack steps h

  thresh_below : (node k : ℕ) (parts : ℕ → TrailSet) → node < n → ((count : ℕ) → Below (parts count)) → BelowRow (thresh_trails node k parts)
  thresh_below node k parts is b = record {
    dsat = either (own is (b 0)) (own is (λ stack steps h. b h.0 stack steps h.3));
    sat = own is (b k);
  }

  wrapped : (node : ℕ) (x : TrailRow) → node < n → BelowRow x → BelowRow (wrap_trails node x)
  wrapped node x is b = record { dsat = own is b.dsat; sat = own is b.sat }

  module _ (given : Given) where
    two_below : (first : ℕ) (kind : Two) (x y : Tree) → first + nodes x + nodes y < n → BelowRow (trails given first x) →
        BelowRow (trails given (first + nodes x) y) → BelowRow (trails given first (two kind x y))
    two_below first kind.AndV x y is i j = record { dsat = own is (both j.dsat i.sat); sat = own is (both j.sat i.sat) }
    two_below first kind.AndB x y is i j = record {
      dsat = either (own is (both j.dsat i.dsat)) (own is (either (both j.sat i.dsat) (both j.dsat i.sat)));
      sat = own is (both j.sat i.sat);
    }
    two_below first kind.OrB x y is i j = record {
      dsat = own is (both j.dsat i.dsat);
      sat = either (own is (either (both j.dsat i.sat) (both j.sat i.dsat))) (own is (both j.sat i.sat));
    }
    two_below first kind.OrC x y is i j = record { dsat = never; sat = own is (either i.sat (both j.sat i.dsat)) }
    two_below first kind.OrD x y is i j = record { dsat = own is (both j.dsat i.dsat); sat = own is (either i.sat (both j.sat i.dsat)) }
    two_below first kind.OrI x y is i j = record {
      dsat = own is (either (both i.dsat (bare _)) (both j.dsat (bare _)));
      sat = own is (either (both i.sat (bare _)) (both j.sat (bare _)));
    }

    mutual
      tree_below : (first : ℕ) (t : Tree) → first + nodes t ≤ n → BelowRow (trails given first t)
      tree_below first (pk_h key) fits =
          let is : first < n = omega (arith, fits) in record { dsat = with_top _ _ _ _ is; sat = with_top _ _ _ _ is }
      tree_below first (hash kind value) fits =
          let is : first < n = omega (arith, fits) in record { dsat = with_top _ _ _ _ is; sat = own is (bare _) }
      tree_below first (and_or x y z) fits =
          let is : first + nodes x + nodes y + nodes z < n = omega (arith, fits) in
          let i = tree_below first x (omega (arith, fits)) in
          let j = tree_below (first + nodes x) y (omega (arith, fits)) in
          let k = tree_below (first + nodes x + nodes y) z (omega (arith, fits)) in
          record {
            dsat = either (own is (both k.dsat i.dsat)) (own is (both j.dsat i.sat));
            sat = own is (either (both j.sat i.sat) (both k.sat i.dsat));
          }
      tree_below first (two kind x y) fits =
          two_below first kind x y (omega (arith, fits)) (tree_below first x (omega (arith, fits))) (tree_below (first + nodes x) y (omega (arith, fits)))
      tree_below first (thresh k xs) fits = thresh_below _ k _ (omega (arith, fits)) (parts_below first xs (omega (arith, fits)))
      tree_below first (wrap wrapper.D x) fits =
          let is : first + nodes x < n = omega (arith, fits) in
          let i = tree_below first x (omega (arith, fits)) in
          record { dsat = own is (bare _); sat = own is (both i.sat (bare _)) }
      tree_below first (wrap wrapper.V x) fits =
          let i = tree_below first x (omega (arith, fits)) in
          record { dsat = never; sat = own (omega (arith, fits)) i.sat }
      tree_below first (wrap wrapper.J x) fits =
          let is : first + nodes x < n = omega (arith, fits) in
          let i = tree_below first x (omega (arith, fits)) in
          record { dsat = either (own is (bare _)) (own is (where_fact _ i.dsat)); sat = own is i.sat }
      tree_below first (wrap wrapper x) fits = wrapped _ _ (omega (arith, fits)) (tree_below first x (omega (arith, fits)))
      tree_below first fragment fits = leaf first _ (omega (arith, fits))

      parts_below : (first : ℕ) (xs : Trees) → first + nodes_of xs ≤ n → (count : ℕ) → Below (trails_of given first xs count)
      parts_below first none fits count = where_fact _ (bare _)
      parts_below first (more x xs) fits count =
          parts_more _ _ (tree_below first x (omega (arith, fits))) (parts_below (first + nodes x) xs (omega (arith, fits))) count

pub steps_are_of_tree : StepsAreOfTree
steps_are_of_tree tree given true steps stack h = (tree_below (nodes tree) given 0 tree (omega arith)).sat (reverse stack) steps h
steps_are_of_tree tree given false steps stack h = (tree_below (nodes tree) given 0 tree (omega arith)).dsat (reverse stack) steps h
