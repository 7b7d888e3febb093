use Rattle.std.proofs.Common.{ap, ◌∙◌}
use Rattle.std.specs.Prelude.{is_some}
use Rattle.def_spend.specs.Reading.{has_final}
use Rattle.ms_psbt.proofs.Pairing.{sound_text}
use Rattle.ms_update.specs.Seen.{known_at}
use Rattle.ms_update.proofs.Placed.{one_at, own_is, fields_are, some_of, input_put, input_barred}
use Rattle.ms_update.proofs.updating.push_input.Goals as goal

pub push_map-requires-clause-map : goal.push_map-requires-clause-map
push_map-requires-clause-map g c = sound_text _ c.bytes.result.now c.input_map-map.result c.bytes.ensures c.input_map-map.ensures.sound

pub returns-in-Ok : goal.returns-in-Ok
returns-in-Ok g c input fields at_input at_map =
    let same = one_at c.args.psbt.now.inputs c.args.number c.input_map-map.result fields c.input_map-map.ensures.map at_map in
    let first = one_at c.args.psbt.now.inputs c.args.number c.input_map.result fields c.input_map.ensures.map at_map in
    let found = c.in_ok-found.ensures input fields at_input at_map in
    let own = own_is (g.K.Book.known c.args.known.now) input fields _ c.has_final-is_final.result _ c.unless_final-own.ensures (c.has_final-is_final.ensures ∙ ap has_final first) found in
    let pairs = fields_are _ c.bytes.result.now c.input_map-map.result c.bytes.ensures c.input_map-map.ensures.sound ∙ same in
    input_put (g.K.Book.known c.args.known.now) input fields _ _ c.args.at c.args.out.now.items c.push_map.new.out.items _ c.in-Ok.ensures own pairs
    (c.is_some-is_known.ensures ∙ (some_of known_at c.in_ok-found.found ∙ ap is_some found))

pub returns : goal.returns
returns g c input fields at_input at_map =
    let same = one_at c.args.psbt.now.inputs c.args.number c.input_map-map.result fields c.input_map-map.ensures.map at_map in
    let first = one_at c.args.psbt.now.inputs c.args.number c.input_map.result fields c.input_map.ensures.map at_map in
    let found = c.in_ok-found.ensures input fields at_input at_map in
    let own = own_is (g.K.Book.known c.args.known.now) input fields _ c.has_final-is_final.result _ c.unless_final-own.ensures (c.has_final-is_final.ensures ∙ ap has_final first) found in
    let pairs = fields_are _ c.bytes.result.now c.input_map-map.result c.bytes.ensures c.input_map-map.ensures.sound ∙ same in
    input_barred (g.K.Book.known c.args.known.now) input fields _ _ c.args.at c.args.out.now.items c.push_map.new.out.items c.in-Err.why c.in-Err.ensures own pairs
