use Rattle.std.proofs.Common.{◌+◌, ◌-◌, ◌≡◌, length, arith}
use Rattle.def_psbt.specs.Map.{Pair, map_text}
use Rattle.ms_psbt.specs.Pairs.{pairs_in}
use Rattle.ms_update.proofs.Fronts.{next, one_left, cut}
use Rattle.ms_update.proofs.maps.first_map.Goals as goal

pub pairs-smaller : goal.pairs-smaller
pairs-smaller c =
    let pair : Pair = record { key = c.in-Some.field-0-0.now; value = c.in-Some.field-0-1.now } in
    (next c.pairs.rest.now pair c.in-Some.behind.now c.pairs.invariant.0 c.in-Some.ensures).less

pub pairs-preserved : goal.pairs-preserved
pairs-preserved c =
    let pair : Pair = record { key = c.in-Some.field-0-0.now; value = c.in-Some.field-0-1.now } in
    let n = next c.pairs.rest.now pair c.in-Some.behind.now c.pairs.invariant.0 c.in-Some.ensures in
    let long = n.long in
    let map = n.map in
    let within = c.pairs.invariant.1 in
    let held = c.pairs.invariant.2 in (n.front, omega (arith, long, within), omega (arith, long, map, held))

pub returns : goal.returns
returns c =
    let one = one_left c.pairs.rest.now c.pairs.invariant.0 c.in_default.ensures in
    let within = c.pairs.invariant.1 in
    let held = c.pairs.invariant.2 in
    let is = one.0 in
    let long : length (map_text (pairs_in c.args.bytes.now)) ≡ length c.args.bytes.now - length c.pairs.rest.now + 1 = omega (arith, held, is, within) in
    cut c.args.bytes.now (length c.args.bytes.now - length c.pairs.rest.now + 1) c.requires long
