use Rattle.std.proofs.Common.{length, get_or, refl, sym, ◌∙◌, ◌+◌}
use Rattle.def_psbt.specs.declared.PsbtVersion.TheVariants as version
use Rattle.def_psbt.specs.Map.{map_text}
use Rattle.def_psbt.specs.Reading.{input_rules}
use Rattle.ms_psbt.proofs.Leaving.{next_map, no_map, all_maps}
use Rattle.def_psbt.specs.Fields.{input_of}
use Rattle.def_psbt.specs.Transaction.{input_text}
use Rattle.ms_psbt.proofs.Finding.{or_none}
use Rattle.ms_psbt.proofs.Locking.{whole_is_map, needed_is, locked_on}
use Rattle.ms_psbt.proofs.Texts.{more_text, all_texts}
use Rattle.ms_psbt.proofs.written.push_inputs.Goals as goal

pub loop-place-init : goal.loop-place-init
loop-place-init c = λ at maps placed. record {
  at = at;
  maps = maps;
  placed = placed;
  said = (refl, refl);
}

pub loop-place-preserved : goal.loop-place-preserved
loop-place-preserved c = λ at maps placed.
    let place = get_or c.args.places.now c.loop-place.place-index 0 in
    let n = next_map (input_rules version.Two) c.args.psbt.now c.args.places.now c.loop-place.place-index _ (c.loop-place.invariant at maps placed) c.loop-place-test.true in
    let map_is = whole_is_map (input_rules version.Two) c.args.psbt.now place (n.map, n.here.end) n.here.read in
    let needed = needed_is (input_rules version.Two) c.args.psbt.now place (n.map, n.here.end) n.here.read in
    record {
      at = place + length (map_text n.map);
      maps = n.rest;
      placed = n.placed;
      said = (
        more_text input_text input_of _ _ n.map n.rest _ (c.in_ok-is_one.ensures.text (n.map, n.here.end) map_is needed) n.said.0,
        locked_on c.loop-place.is_locked c.in_ok-is_one.is_one c.either-is_locked.result n.map n.rest _ c.either-is_locked.ensures (c.in_ok-is_one.ensures.locked (n.map, n.here.end) map_is) n.said.1,
      );
    }

pub returns-clause-text : goal.returns-clause-text
returns-clause-text c = λ at maps placed.
    let all = all_maps (input_rules version.Two) c.args.psbt.now at c.args.places.now maps placed in
    let end = no_map (input_rules version.Two) c.args.psbt.now c.args.places.now c.loop-place.place-index _ (c.loop-place.invariant at maps placed) c.loop-place-test.false in
    all_texts input_text input_of c.args.out.now.items c.push_size.new.out.items _ (length c.args.places.now) maps c.in_ok-push_size.ensures all end.1.0

pub returns-clause-locked : goal.returns-clause-locked
returns-clause-locked c = λ at maps placed.
    let end = no_map (input_rules version.Two) c.args.psbt.now c.args.places.now c.loop-place.place-index _ (c.loop-place.invariant at maps placed) c.loop-place-test.false in
    sym (or_none c.loop-place.is_locked) ∙ end.1.1
