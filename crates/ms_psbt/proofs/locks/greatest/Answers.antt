use Rattle.std.proofs.Common.{ap, ◌∙◌, max, ◌+◌, length, get_or}
use Rattle.def_psbt.specs.declared.PsbtVersion.TheVariants as version
use Rattle.def_psbt.specs.Listed.{input_form}
use Rattle.def_psbt.specs.Map.{map_text}
use Rattle.def_psbt.specs.Reading.{input_rules}
use Rattle.ms_psbt.proofs.Leaving.{next_map}
use Rattle.def_psbt.specs.Fields.{number_or, greatest}
use Rattle.def_psbt.specs.Map.{value_of_type}
use Rattle.ms_psbt.proofs.Locking.{most_on, locks_are_long, whole_is_map}
use Rattle.ms_psbt.proofs.locks.greatest.Goals as goal

pub loop-place-preserved : goal.loop-place-preserved
loop-place-preserved c = λ at inputs placed.
    let place = get_or c.args.places.now c.loop-place.place-index 0 in
    let n = next_map (input_rules version.Two) c.args.psbt.now c.args.places.now c.loop-place.place-index _ (c.loop-place.invariant at inputs placed) c.loop-place-test.true in
    let map_is = whole_is_map (input_rules version.Two) c.args.psbt.now place (n.map, n.here.end) n.here.read in
    let number = c.number_or-number.ensures (input_form version.Two) (n.map, n.here.end) map_is
    (λ value there. locks_are_long c.args.psbt.now place (n.map, n.here.end) value c.args.type_number c.requires map_is there) in
    record {
      at = place + length (map_text n.map);
      maps = n.rest;
      placed = n.placed;
      said = most_on c.loop-place.most (number_or 0 (value_of_type c.args.type_number n.map)) (greatest c.args.type_number n.rest) _ _
          (c.larger-most.ensures ∙ ap (max c.loop-place.most) number) n.said;
    }
