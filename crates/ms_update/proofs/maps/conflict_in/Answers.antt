use Rattle.std.proofs.Common.{◌+◌, ◌-◌, length, map, sym, ◌∙◌, arith}
use Rattle.ms_update.specs.Seen.{pair_at}
use Rattle.def_psbt.specs.Map.{Pair}
use Rattle.ms_update.proofs.Walks.{next, conflict_next, conflict_here, conflict_nowhere}
use Rattle.ms_update.proofs.maps.conflict_in.Goals as goal

pub returns-then-is_barred : goal.returns-then-is_barred
returns-then-is_barred c =
    let pair : Pair = record { key = c.in-Some.key.now; value = c.in-Some.value.now } in
    conflict_here (map pair_at c.args.belonging.now) (c.args.at + (length c.args.bytes.now - length c.pairs.rest.now)) c.pairs.rest.now pair c.in-Some.behind.now _
    (next c.pairs.rest.now pair c.in-Some.behind.now c.pairs.invariant.0 c.in-Some.ensures) (sym c.is_barred.ensures ∙ c.if-is_barred.true) c.pairs.invariant.2

pub pairs-smaller : goal.pairs-smaller
pairs-smaller c =
    let pair : Pair = record { key = c.in-Some.key.now; value = c.in-Some.value.now } in
    (next c.pairs.rest.now pair c.in-Some.behind.now c.pairs.invariant.0 c.in-Some.ensures).less

pub pairs-preserved : goal.pairs-preserved
pairs-preserved c =
    let pair : Pair = record { key = c.in-Some.key.now; value = c.in-Some.value.now } in
    let n = next c.pairs.rest.now pair c.in-Some.behind.now c.pairs.invariant.0 c.in-Some.ensures in
    let less = n.less in
    let within = c.pairs.invariant.1 in (
      n.map,
      omega (arith, less, within),
      conflict_next (map pair_at c.args.belonging.now) c.args.at (length c.args.bytes.now) c.pairs.rest.now pair c.in-Some.behind.now _ n within
          (sym c.is_barred.ensures ∙ c.if-is_barred.false) c.pairs.invariant.2,
    )

pub returns : goal.returns
returns c = conflict_nowhere (map pair_at c.args.belonging.now) (c.args.at + (length c.args.bytes.now - length c.pairs.rest.now)) c.pairs.rest.now _ c.in_default.ensures c.pairs.invariant.2
