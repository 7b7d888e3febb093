-- The ways of a row are those of its fragment, by each rule.
use Rattle.std.proofs.Common.{◌≡◌, ℕ, ◌<◌, Bool, true, false, [], ◌∷◌, Option, Some, None, is_some, refl, sym, ◌∙◌, ap, subst, arith, nat_lt, if◌then◌else◌}
use Rattle.std.specs.Prelude.{◌||◌}
use Rattle.def_machine.specs.Stacks.{Stack}
use Rattle.def_script.specs.Witness.{weight}
use Rattle.def_tree.specs.declared.Two.{Two}
use Rattle.def_tree.specs.declared.Two.TheVariants as kind
use Rattle.def_tree.specs.declared.Wrapper.{Wrapper}
use Rattle.def_tree.specs.declared.Wrapper.TheVariants as wrapper
use Rattle.def_tree.specs.Tree as model
use Rattle.def_tree.specs.Size.{nodes}
use Rattle.def_table.specs.Table.{Row, and_or_row}
use Rattle.def_assets.specs.Assets.{Assets}
use Rattle.def_choice.specs.Least.{both, least}
use Rattle.def_choice.specs.Cheapest.{cheapest_of}
use Rattle.def_choice.specs.Dissatisfaction.{dissatisfaction}
use Rattle.ms_rows.specs.declared.ways.Ways.{Ways}
use Rattle.ms_rows.specs.declared.ways.Row as rust
use Rattle.ms_rows.specs.Written.{table, known, two_row, wrap_row, IsRow}
use Rattle.def_choice.specs.declared.choice.Choice.{Choice as Rule}
use Rattle.def_choice.specs.declared.choice.Choice.TheVariants.{Cheapest, Strict}
use Rattle.ms_chosen.specs.declared.way.Seen.{Seen}
use Rattle.ms_chosen.specs.Rule.{stack_by, free_by, first_of}
use Rattle.ms_chosen.specs.Scaffolding.Way.{tree_of, sat_of, dsat_of, is_free, nodes_of_ways, IsRowOf}

-- a tree with this row, by this rule: what satisfies it, and whether without a signature
abbrev pub IsSat : Rule → Assets → model.Tree → Ways Seen → Type 0
IsSat rule assets t ways = (stack_by rule assets t ≡ sat_of rule assets ways) × (is_some (free_by rule assets t) ≡ is_free rule assets ways)

some_least : (a b : Option Stack) → is_some (least (a ∷ b ∷ [])) ≡ (is_some a || is_some b)
some_least None None = refl
some_least None (Some b) = refl
some_least (Some a) None = refl
some_least (Some a) (Some b) = go (nat_lt (weight b) (weight a))
  where
    go : (test : Bool) → is_some (if test then Some b else Some a) ≡ true
    go true = refl
    go false = refl

none_above : (o : Option Stack) → both o None ≡ None
none_above None = refl
none_above (Some v) = refl

module _ (assets : Assets) where
  and_or_sat : (rule : Rule) (x y z : Seen) → IsSat rule assets (model.and_or (tree_of x) (tree_of y) (tree_of z)) (and_or_row table (known x) (known y) (known z)).sat
  and_or_sat Cheapest x y z = (refl, refl)
  and_or_sat Strict x y z = (refl, some_least _ _)

  two_sat : (rule : Rule) (k : Two) (x z : Seen) → IsSat rule assets (model.two k (tree_of x) (tree_of z)) (two_row table k (known x) (known z)).sat
  two_sat Cheapest kind.OrB x z =
      let none = ap is_some (sym (none_above (dissatisfaction (tree_of z)))) in
      let former = both (dissatisfaction (tree_of z)) (cheapest_of assets (tree_of x)) in
      let latter = both (cheapest_of assets (tree_of z)) (dissatisfaction (tree_of x)) in
      (ap (λ b. first_of b false former latter) none, ap (λ b. b || false) none)
  two_sat Cheapest other x z = (refl, refl)
  two_sat Strict kind.AndV x z = (refl, refl)
  two_sat Strict kind.AndB x z = (refl, refl)
  two_sat Strict other x z = (refl, some_least _ _)

  wrap_sat : (rule : Rule) (w : Wrapper) (x : Seen) → IsSat rule assets (model.wrap w (tree_of x)) (wrap_row table w (known x)).sat
  wrap_sat Cheapest wrapper.D x = (refl, refl)
  wrap_sat Cheapest other x = (refl, refl)
  wrap_sat Strict wrapper.D x = (refl, refl)
  wrap_sat Strict other x = (refl, refl)

  two_dsat : (rule : Rule) (k : Two) (x z : Seen) → dissatisfaction (model.two k (tree_of x) (tree_of z)) ≡ dsat_of rule assets (two_row table k (known x) (known z)).dsat
  two_dsat rule kind.AndV x z = refl
  two_dsat rule other x z = refl

  wrap_dsat : (rule : Rule) (w : Wrapper) (x : Seen) → dissatisfaction (model.wrap w (tree_of x)) ≡ dsat_of rule assets (wrap_row table w (known x)).dsat
  wrap_dsat rule wrapper.D x = refl
  wrap_dsat rule other x = refl

-- the trees in the ways have fewer nodes than the fragment
abbrev IsFewer : ℕ → Row (Ways Seen) (Ways Seen) → Type 0
IsFewer n row = (nodes_of_ways row.sat < n) × (nodes_of_ways row.dsat < n)

two_fewer : (k : Two) (x z : Seen) → IsFewer (nodes (model.two k (tree_of x) (tree_of z))) (two_row table k (known x) (known z))
two_fewer kind.AndV x z = (omega arith, omega arith)
two_fewer other x z = (omega arith, omega arith)

wrap_fewer : (w : Wrapper) (x : Seen) → IsFewer (nodes (model.wrap w (tree_of x))) (wrap_row table w (known x))
wrap_fewer wrapper.A x = (omega arith, omega arith)
wrap_fewer other x = (omega arith, omega arith)

row_of : (t : model.Tree) (row : rust.Row Seen) (of : Row (Ways Seen) (Ways Seen)) → IsRow row of → ((rule : Rule) (assets : Assets) → IsSat rule assets t of.sat)
    → ((rule : Rule) (assets : Assets) → dissatisfaction t ≡ dsat_of rule assets of.dsat) → IsFewer (nodes t) of → IsRowOf t row
row_of t row of is sat dsat fewer = record {
  sat = λ rule assets. (sat rule assets).0 ∙ sym (ap (sat_of rule assets) is.sat);
  free = λ rule assets. (sat rule assets).1 ∙ sym (ap (is_free rule assets) is.sat);
  dsat = λ rule assets. dsat rule assets ∙ sym (ap (dsat_of rule assets) is.dsat);
  fewer_sat = subst (λ ways. nodes_of_ways ways < nodes t) (sym is.sat) fewer.0;
  fewer_dsat = subst (λ ways. nodes_of_ways ways < nodes t) (sym is.dsat) fewer.1;
}

pub and_or_is : (x y z : Seen) (row : rust.Row Seen) → IsRow row (and_or_row table (known x) (known y) (known z)) → IsRowOf (model.and_or (tree_of x) (tree_of y) (tree_of z)) row
and_or_is x y z row is = row_of _ row _ is (λ rule assets. and_or_sat assets rule x y z) (λ rule assets. refl) (omega arith, omega arith)

pub two_is : (k : Two) (x z : Seen) (row : rust.Row Seen) → IsRow row (two_row table k (known x) (known z)) → IsRowOf (model.two k (tree_of x) (tree_of z)) row
two_is k x z row is = row_of _ row _ is (λ rule assets. two_sat assets rule k x z) (λ rule assets. two_dsat assets rule k x z) (two_fewer k x z)

pub wrap_is : (w : Wrapper) (x : Seen) (row : rust.Row Seen) → IsRow row (wrap_row table w (known x)) → IsRowOf (model.wrap w (tree_of x)) row
wrap_is w x row is = row_of _ row _ is (λ rule assets. wrap_sat assets rule w x) (λ rule assets. wrap_dsat assets rule w x) (wrap_fewer w x)
