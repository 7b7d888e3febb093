use Rattle.std.proofs.Common.{ℕ, ◌<◌, length, slice_index_or, slice_set, ap, ◌∙◌, arith}
use Rattle.std.proofs.lemmas.List.{get_or_default}
use Rattle.std.proofs.lemmas.List.Edits.{map_over_more}
use Rattle.ms_psbt.specs.declared.repeats.Marked.{Marked}
use Rattle.ms_psbt.specs.Scaffolding.Repeats.{hash_of, hashed}
use Rattle.ms_psbt.proofs.repeats.mark_by_hash.Goals as goal

pub loop-place-preserved : goal.loop-place-preserved
loop-place-preserved c =
    let i = c.loop-place.place-index in
    let places = c.loop-place.places in
    let none : Marked = record { mark = 0; place = 0 } in
    let place = slice_index_or places i none in
    let inside : i < length c.args.places.now = omega (arith, c.loop-place-test.true, c.loop-place.auto.places) in
    let within : i < length places = omega (arith, c.loop-place-test.true, c.loop-place.auto.places) in
    ap (λ (mark : ℕ). slice_set places i (record { mark = mark; place = place.place })) (c.hash_of-place.ensures ∙ ap hash_of c.key_at.ensures)
    ∙ map_over_more (hashed c.args.keys c.args.bytes.now) c.args.places.now places i place inside c.loop-place.invariant (get_or_default places i none place within)
