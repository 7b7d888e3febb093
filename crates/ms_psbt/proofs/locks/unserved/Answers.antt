use Rattle.std.proofs.Common.{sym, ap, ◌∙◌, ◌||◌, ◌+◌, length, get_or}
use Rattle.def_psbt.specs.declared.PsbtVersion.TheVariants as version
use Rattle.def_psbt.specs.Listed.{input_form}
use Rattle.def_psbt.specs.Map.{map_text}
use Rattle.def_psbt.specs.Reading.{input_rules}
use Rattle.ms_psbt.proofs.Leaving.{next_map}
use Rattle.ms_psbt.proofs.Locking.{unserved_here, unserved_next, none_unserved, whole_is_map}
use Rattle.ms_psbt.proofs.locks.unserved.Goals as goal

pub returns-then-not-is_locked : goal.returns-then-not-is_locked
returns-then-not-is_locked c = λ at inputs placed. sym (none_unserved at inputs (sym (c.requires at inputs placed) ∙ c.if-not-is_locked.true))

pub returns-then-both : goal.returns-then-both
returns-then-both c = λ at inputs placed.
    let place = get_or c.args.places.now c.loop-place.place-index 0 in
    let n = next_map (input_rules version.Two) c.args.psbt.now c.args.places.now c.loop-place.place-index _ (c.loop-place.invariant at inputs placed) c.loop-place-test.true in
    let map_is = whole_is_map (input_rules version.Two) c.args.psbt.now place (n.map, n.here.end) n.here.read in
    let time = c.either-time.ensures ∙ ap (λ b. c.loop-place.time || b) (c.locks_alone-alone.ensures.time (input_form version.Two) (n.map, n.here.end) map_is) in
    let height = c.either-height.ensures ∙ ap (λ b. c.loop-place.height || b) (c.locks_alone-alone.ensures.height (input_form version.Two) (n.map, n.here.end) map_is) in
    unserved_here c.loop-place.time c.loop-place.height c.either-time.result c.either-height.result place n.map n.rest time height (sym c.both.ensures ∙ c.if-both.true) ∙ n.said

pub loop-place-preserved : goal.loop-place-preserved
loop-place-preserved c = λ start inputs placed.
    let place = get_or c.args.places.now c.loop-place.place-index 0 in
    let n = next_map (input_rules version.Two) c.args.psbt.now c.args.places.now c.loop-place.place-index _ (c.loop-place.invariant start inputs placed) c.loop-place-test.true in
    let map_is = whole_is_map (input_rules version.Two) c.args.psbt.now place (n.map, n.here.end) n.here.read in
    let time = c.either-time.ensures ∙ ap (λ b. c.loop-place.time || b) (c.locks_alone-alone.ensures.time (input_form version.Two) (n.map, n.here.end) map_is) in
    let height = c.either-height.ensures ∙ ap (λ b. c.loop-place.height || b) (c.locks_alone-alone.ensures.height (input_form version.Two) (n.map, n.here.end) map_is) in
    record {
      at = place + length (map_text n.map);
      maps = n.rest;
      placed = n.placed;
      said = sym (unserved_next c.loop-place.time c.loop-place.height c.either-time.result c.either-height.result place n.map n.rest time height (sym c.both.ensures ∙ c.if-both.false)) ∙ n.said;
    }
