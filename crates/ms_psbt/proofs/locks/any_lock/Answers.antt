use Rattle.std.proofs.Common.{sym, ◌∙◌, ◌+◌, length, get_or}
use Rattle.def_psbt.specs.declared.PsbtVersion.TheVariants as version
use Rattle.def_psbt.specs.Listed.{input_form}
use Rattle.def_psbt.specs.Map.{map_text}
use Rattle.def_psbt.specs.Reading.{input_rules}
use Rattle.ms_psbt.proofs.Leaving.{next_map}
use Rattle.ms_psbt.specs.Scaffolding.Locks.{is_meant}
use Rattle.ms_psbt.proofs.Locking.{any_here, any_next, whole_is_map}
use Rattle.ms_psbt.proofs.locks.any_lock.Goals as goal

pub returns-then-has_lock : goal.returns-then-has_lock
returns-then-has_lock c = λ at inputs placed.
    let n = next_map (input_rules version.Two) c.args.psbt.now c.args.places.now c.loop-place.place-index _ (c.loop-place.invariant at inputs placed) c.loop-place-test.true in
    let is = c.has_lock.ensures (input_form version.Two) (n.map, n.here.end) (whole_is_map (input_rules version.Two) c.args.psbt.now _ (n.map, n.here.end) n.here.read) in
    any_here (is_meant c.args.lock) n.map n.rest _ (sym is ∙ c.if-has_lock.true) n.said

pub loop-place-preserved : goal.loop-place-preserved
loop-place-preserved c = λ at inputs placed.
    let n = next_map (input_rules version.Two) c.args.psbt.now c.args.places.now c.loop-place.place-index _ (c.loop-place.invariant at inputs placed) c.loop-place-test.true in
    let is = c.has_lock.ensures (input_form version.Two) (n.map, n.here.end) (whole_is_map (input_rules version.Two) c.args.psbt.now _ (n.map, n.here.end) n.here.read) in
    record {
      at = get_or c.args.places.now c.loop-place.place-index 0 + length (map_text n.map);
      maps = n.rest;
      placed = n.placed;
      said = any_next (is_meant c.args.lock) n.map n.rest _ (sym is ∙ c.if-has_lock.false) n.said;
    }
