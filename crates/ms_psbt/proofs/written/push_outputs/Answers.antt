use Rattle.std.proofs.Common.{length, get_or, refl, ◌+◌}
use Rattle.def_psbt.specs.declared.PsbtVersion.TheVariants as version
use Rattle.def_psbt.specs.Map.{map_text}
use Rattle.def_psbt.specs.Reading.{output_rules}
use Rattle.ms_psbt.proofs.Leaving.{next_map, no_map, all_maps}
use Rattle.def_psbt.specs.Fields.{output_of}
use Rattle.def_psbt.specs.Transaction.{output_text}
use Rattle.ms_psbt.proofs.Locking.{whole_is_map, needed_is}
use Rattle.ms_psbt.proofs.Texts.{more_text, all_texts}
use Rattle.ms_psbt.proofs.written.push_outputs.Goals as goal

pub loop-place-init : goal.loop-place-init
loop-place-init c = λ at maps placed. record {
  at = at;
  maps = maps;
  placed = placed;
  said = refl;
}

pub loop-place-preserved : goal.loop-place-preserved
loop-place-preserved c = λ at maps placed.
    let place = get_or c.args.places.now c.loop-place.place-index 0 in
    let n = next_map (output_rules version.Two) c.args.psbt.now c.args.places.now c.loop-place.place-index _ (c.loop-place.invariant at maps placed) c.loop-place-test.true in
    let map_is = whole_is_map (output_rules version.Two) c.args.psbt.now place (n.map, n.here.end) n.here.read in
    let needed = needed_is (output_rules version.Two) c.args.psbt.now place (n.map, n.here.end) n.here.read in
    record {
      at = place + length (map_text n.map);
      maps = n.rest;
      placed = n.placed;
      said = more_text output_text output_of _ _ n.map n.rest _ (c.in_ok-push_output.ensures (n.map, n.here.end) map_is needed) n.said;
    }

pub returns : goal.returns
returns c = λ at maps placed.
    let all = all_maps (output_rules version.Two) c.args.psbt.now at c.args.places.now maps placed in
    let end = no_map (output_rules version.Two) c.args.psbt.now c.args.places.now c.loop-place.place-index _ (c.loop-place.invariant at maps placed) c.loop-place-test.false in
    all_texts output_text output_of c.args.out.now.items c.push_size.new.out.items _ (length c.args.places.now) maps c.in_ok-push_size.ensures all end.1
