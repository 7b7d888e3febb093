use Rattle.std.proofs.Common.{Bor, option_map, true, false, Some, sym, ◌∙◌, ap}
use Rattle.def_script.specs.Bytes.{Bytes}
use Rattle.ms_held.specs.Scaffolding.Order.{shortest_with}
use Rattle.ms_held.proofs.Orders.{walked}
use Rattle.ms_held.proofs.signatures.shortest_by_walk.Goals as goal
use Rattle.ms_held.proofs.signatures.shortest_by_walk.Goals.{then-has_key, else-has_key}

pub pairs-preserved : goal.pairs-preserved
pairs-preserved c =
    let found = option_map (λ (sig : Bor Bytes). sig.now) c.pairs.found in
    elim c.if-has_key.branch [
      | then-has_key w ↦
          walked c.args.table.now c.pairs.pair-index c.pair-item.result c.args.key.now found _ true c.pairs-test.true c.pair-item.is c.pairs.invariant
          (sym w.if-has_key.true ∙ c.has_key.ensures)
          (ap (option_map (λ (sig : Bor Bytes). sig.now)) w.found-is ∙ ap Some (w.shorter.ensures ∙ ap (shortest_with found) w.sig.ensures))
      | else-has_key w ↦
          walked c.args.table.now c.pairs.pair-index c.pair-item.result c.args.key.now found _ false c.pairs-test.true c.pair-item.is c.pairs.invariant
          (sym w.if-has_key.false ∙ c.has_key.ensures)
          (ap (option_map (λ (sig : Bor Bytes). sig.now)) w.found-is)
    ]
