use Rattle.std.proofs.Common.{None, option_map, arith}
use Rattle.ms_psbt.specs.Scaffolding.Repeats.{places_of}
use Rattle.ms_psbt.proofs.Unsigned.{places_ok, places_short, places_err, if_ok}
use Rattle.ms_psbt.proofs.transaction.outpoint_places.Goals as goal

pub returns-then-bytes-lt4-clause-places : goal.returns-then-bytes-lt4-clause-places
returns-then-bytes-lt4-clause-places c = places_short c.args.bytes.now None c.if-bytes-lt4.true

pub returns-in-Ok-clause-places : goal.returns-in-Ok-clause-places
returns-in-Ok-clause-places c =
    if_ok c.input_places.result _ _ c.input_places.ensures.places
    (λ places h. places_ok c.args.bytes.now (λ i. omega (arith, c.type_inv.bytes i)) (c.in-Ok.count, c.in-Ok.from) c.if-bytes-lt4.false c.in-Ok.ensures (option_map (λ v. places_of v.items) places) h)

pub returns-in-Err-clause-places : goal.returns-in-Err-clause-places
returns-in-Err-clause-places c = places_err c.args.bytes.now c.in-Err.field-0 c.in-Err.ensures
