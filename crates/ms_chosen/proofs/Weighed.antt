-- What a row weighs is what its fragment weighs.
use Rattle.std.proofs.Common.{◌≡◌, refl, ◌∙◌, ap}
use Rattle.def_tree.specs.declared.Two.{Two}
use Rattle.def_tree.specs.declared.Two.TheVariants as kind
use Rattle.def_tree.specs.declared.Wrapper.{Wrapper}
use Rattle.def_tree.specs.declared.Wrapper.TheVariants as wrapper
use Rattle.def_tree.specs.Tree as model
use Rattle.def_table.specs.Table.{and_or_row}
use Rattle.def_assets.specs.Assets.{Assets}
use Rattle.def_choice.specs.Cheapest.{cheapest_of}
use Rattle.def_choice.specs.Dissatisfaction.{dissatisfaction}
use Rattle.ms_choice.specs.declared.children.Costs.{Costs}
use Rattle.ms_rows.specs.declared.ways.Row as rust
use Rattle.ms_rows.specs.declared.ways.Argument.{Argument}
use Rattle.ms_rows.specs.declared.ways.Argument.TheVariants.{X, Y, Z}
use Rattle.ms_rows.specs.Reading.{by_letters, ways_in}
use Rattle.ms_rows.specs.Written.{table, known, two_row, wrap_row, IsRow}
use Rattle.ms_chosen.specs.Scaffolding.Costs.{weight_of, weights, AreCosts, IsOfRow}
use Rattle.ms_chosen.proofs.Weights.{both_weighs, least_weighs}

module _ (assets : Assets) where
  sat_two : (k : Two) (x z : Costs) (tx tz : model.Tree) → AreCosts assets tx x → AreCosts assets tz z
      → ways_in (by_letters weights x z z) (two_row table k (known X) (known Z)).sat ≡ weight_of (cheapest_of assets (model.two k tx tz))
  sat_two kind.OrB x z tx tz a c = least_weighs _ _ _ _ (both_weighs _ _ _ _ c.dsat a.sat) (both_weighs _ _ _ _ c.sat a.dsat)
  sat_two kind.OrC x z tx tz a c = least_weighs _ _ _ _ a.sat (both_weighs _ _ _ _ c.sat a.dsat)
  sat_two kind.OrD x z tx tz a c = least_weighs _ _ _ _ a.sat (both_weighs _ _ _ _ c.sat a.dsat)
  sat_two kind.OrI x z tx tz a c = least_weighs _ _ _ _ (both_weighs _ _ _ _ a.sat refl) (both_weighs _ _ _ _ c.sat refl)
  sat_two other x z tx tz a c = both_weighs _ _ _ _ c.sat a.sat

  dsat_two : (k : Two) (x z : Costs) (tx tz : model.Tree) → AreCosts assets tx x → AreCosts assets tz z
      → ways_in (by_letters weights x z z) (two_row table k (known X) (known Z)).dsat ≡ weight_of (dissatisfaction (model.two k tx tz))
  dsat_two kind.AndV x z tx tz a c = refl
  dsat_two kind.OrC x z tx tz a c = refl
  dsat_two kind.OrI x z tx tz a c = least_weighs _ _ _ _ (both_weighs _ _ _ _ a.dsat refl) (both_weighs _ _ _ _ c.dsat refl)
  dsat_two other x z tx tz a c = both_weighs _ _ _ _ c.dsat a.dsat

  sat_wrap : (w : Wrapper) (x : Costs) (tx : model.Tree) → AreCosts assets tx x
      → ways_in (by_letters weights x x x) (wrap_row table w (known X)).sat ≡ weight_of (cheapest_of assets (model.wrap w tx))
  sat_wrap wrapper.D x tx a = both_weighs _ _ _ _ a.sat refl
  sat_wrap other x tx a = a.sat

  dsat_wrap : (w : Wrapper) (x : Costs) (tx : model.Tree) → AreCosts assets tx x
      → ways_in (by_letters weights x x x) (wrap_row table w (known X)).dsat ≡ weight_of (dissatisfaction (model.wrap w tx))
  dsat_wrap wrapper.D x tx a = refl
  dsat_wrap wrapper.V x tx a = refl
  dsat_wrap wrapper.J x tx a = refl
  dsat_wrap other x tx a = a.dsat

  pub weighs_and_or : (x y z m : Costs) (row : rust.Row Argument) (tx ty tz : model.Tree) → IsOfRow m row x y z → IsRow row (and_or_row table (known X) (known Y) (known Z))
      → AreCosts assets tx x → AreCosts assets ty y → AreCosts assets tz z → AreCosts assets (model.and_or tx ty tz) m
  weighs_and_or x y z m row tx ty tz of_row is a b c = record {
    sat = of_row.sat ∙ ap (ways_in (by_letters weights x y z)) is.sat ∙ least_weighs _ _ _ _ (both_weighs _ _ _ _ b.sat a.sat) (both_weighs _ _ _ _ c.sat a.dsat);
    dsat = of_row.dsat ∙ ap (ways_in (by_letters weights x y z)) is.dsat ∙ both_weighs _ _ _ _ c.dsat a.dsat;
  }

  pub weighs_two : (k : Two) (x z m : Costs) (row : rust.Row Argument) (tx tz : model.Tree) → IsOfRow m row x z z → IsRow row (two_row table k (known X) (known Z))
      → AreCosts assets tx x → AreCosts assets tz z → AreCosts assets (model.two k tx tz) m
  weighs_two k x z m row tx tz of_row is a c = record {
    sat = of_row.sat ∙ ap (ways_in (by_letters weights x z z)) is.sat ∙ sat_two k x z tx tz a c;
    dsat = of_row.dsat ∙ ap (ways_in (by_letters weights x z z)) is.dsat ∙ dsat_two k x z tx tz a c;
  }

  pub weighs_wrap : (w : Wrapper) (x m : Costs) (row : rust.Row Argument) (tx : model.Tree) → IsOfRow m row x x x → IsRow row (wrap_row table w (known X))
      → AreCosts assets tx x → AreCosts assets (model.wrap w tx) m
  weighs_wrap w x m row tx of_row is a = record {
    sat = of_row.sat ∙ ap (ways_in (by_letters weights x x x)) is.sat ∙ sat_wrap w x tx a;
    dsat = of_row.dsat ∙ ap (ways_in (by_letters weights x x x)) is.dsat ∙ dsat_wrap w x tx a;
  }
