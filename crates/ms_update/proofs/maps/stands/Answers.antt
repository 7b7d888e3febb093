use Rattle.std.proofs.Common.{sym, ◌∙◌}
use Rattle.def_psbt.specs.Map.{Pair}
use Rattle.ms_update.proofs.Walks.{next, stands_next, stands_here, stands_nowhere}
use Rattle.ms_update.proofs.maps.stands.Goals as goal

pub returns-then-eq : goal.returns-then-eq
returns-then-eq c =
    let pair : Pair = record { key = c.in-Some.other.now; value = c.in-Some.field-0-1.now } in
    stands_here c.args.key.now c.pairs.rest.now pair c.in-Some.behind.now _ (next c.pairs.rest.now pair c.in-Some.behind.now c.pairs.invariant.0 c.in-Some.ensures)
    (sym c.eq.ensures ∙ c.if-eq.true) c.pairs.invariant.1

pub pairs-smaller : goal.pairs-smaller
pairs-smaller c =
    let pair : Pair = record { key = c.in-Some.other.now; value = c.in-Some.field-0-1.now } in
    (next c.pairs.rest.now pair c.in-Some.behind.now c.pairs.invariant.0 c.in-Some.ensures).less

pub pairs-preserved : goal.pairs-preserved
pairs-preserved c =
    let pair : Pair = record { key = c.in-Some.other.now; value = c.in-Some.field-0-1.now } in
    let n = next c.pairs.rest.now pair c.in-Some.behind.now c.pairs.invariant.0 c.in-Some.ensures in
    (n.map, stands_next c.args.key.now c.pairs.rest.now pair c.in-Some.behind.now _ n (sym c.eq.ensures ∙ c.if-eq.false) c.pairs.invariant.1)

pub returns : goal.returns
returns c = stands_nowhere c.args.key.now c.pairs.rest.now _ c.in_default.ensures c.pairs.invariant.1
