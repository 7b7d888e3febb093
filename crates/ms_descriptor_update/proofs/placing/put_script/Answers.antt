use Rattle.ms_descriptor_update.proofs.Places.{put_behind, none_there}
use Rattle.ms_descriptor_update.proofs.placing.put_script.Goals as goal

pub returns-in_ok-insert : goal.returns-in_ok-insert
returns-in_ok-insert c other =
    put_behind other c.args.script c.args.place c.args.places.now c.insert.new.self
    (none_there c.args.script.items c.as_slice.result.now c.args.places.now _ c.as_slice.ensures.value c.contains_key.ensures c.if-not-contains_key.true) c.in_ok-insert.ensures.entries
