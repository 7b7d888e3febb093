use Rattle.std.proofs.Common.{length, arith, ap}
use Rattle.def_psbt.specs.Map.{Psbt}
use Rattle.ms_psbt.proofs.Holding.{places_count, each_has_map}
use Rattle.ms_psbt.proofs.psbt.Psbt.input_count.Goals as goal

pub overflow_sub-result : goal.overflow_sub-result
overflow_sub-result c = omega (arith, places_count c.self.invariant, c.self.inside.places.ok.0)

pub returns-clause-maps : goal.returns-clause-maps
returns-clause-maps c = omega (arith, places_count c.self.invariant, c.self.inside.places.ok.0, ap (λ (p : Psbt). length p.inputs) c.self.view_is)

pub returns-clause-inputs : goal.returns-clause-inputs
returns-clause-inputs c =
    omega (
      arith,
      places_count c.self.invariant,
      c.self.inside.places.ok.0,
      each_has_map c.self.invariant,
      ap
          (λ (p : Psbt). length p.transaction.inputs) c.self.view_is,
    )
