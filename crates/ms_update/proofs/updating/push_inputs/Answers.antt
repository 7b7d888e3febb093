use Rattle.std.proofs.Common.{◌+◌, ◌<◌, length, ap, ◌∙◌, arith}
use Rattle.std.specs.List.{flat_map}
use Rattle.def_script.specs.Bytes.{Bytes}
use Rattle.def_psbt.specs.Map.{map_text}
use Rattle.def_psbt.specs.Transaction.{Transaction}
use Rattle.ms_update.proofs.Going.{some_at, input_within, input_next, input_stop, known_next}
use Rattle.ms_update.proofs.Whole.{size_is, inputs_place}
use Rattle.ms_update.proofs.updating.push_inputs.Goals as goal

pub push_input-requires-clause-room : goal.push_input-requires-clause-room
push_input-requires-clause-room g c fields at_map =
    let size = ap length c.bytes-size.ensures ∙ size_is c.args.psbt.now.global c.args.psbt.now.inputs c.args.psbt.now.outputs in
    let place = inputs_place c.args.psbt.now.global c.before_inputs-at.result.now c.before_inputs-at.ensures in
    let all : length c.bytes-size.result.now < 18446744073709551616 = omega arith in
    let few : length c.before_inputs-at.result.now + length (flat_map map_text c.args.psbt.now.inputs) < 18446744073709551616 = omega (arith, all, size, place) in
    input_within _ c.args.psbt.now.inputs c.inputs.number fields c.inputs.at c.inputs.out.items _ _ _ 18446744073709551616 at_map c.inputs.invariant.0 few

pub returns-in-Err : goal.returns-in-Err
returns-in-Err g c =
    let test = c.inputs-test.true in
    let maps = c.input_count-number-end.ensures.maps in
    let inputs = c.input_count-number-end.ensures.inputs in
    let same = ap (λ (t : Transaction). length t.inputs) c.requires.same in
    let inside : c.inputs.number < length c.args.transaction.now.inputs = omega (arith, test, inputs, same) in
    let there : c.inputs.number < length c.args.psbt.now.inputs = omega (arith, test, maps) in
    let input = some_at c.args.transaction.now.inputs c.inputs.number inside in
    let fields = some_at c.args.psbt.now.inputs c.inputs.number there in
    input_stop (g.K.Book.known c.args.known.now) c.args.transaction.now.inputs c.args.psbt.now.inputs c.inputs.number input.0 fields.0 c.inputs.at (length c.before_inputs-at.result.now)
    (5 + length (map_text c.args.psbt.now.global)) c.inputs.out.items c.push_input.new.out.items c.args.out.now.items c.push_input.new.out.items _ _ c.in-Err.why input.1 fields.1
    (inputs_place c.args.psbt.now.global c.before_inputs-at.result.now c.before_inputs-at.ensures) c.inputs.invariant.0 (c.in-Err.ensures input.0 fields.0 input.1 fields.1)

pub inputs-preserved : goal.inputs-preserved
inputs-preserved g c =
    let test = c.inputs-test.true in
    let inputs = c.input_count-number-end.ensures.inputs in
    let same = ap (λ (t : Transaction). length t.inputs) c.requires.same in
    let inside : c.inputs.number < length c.args.transaction.now.inputs = omega (arith, test, inputs, same) in
    let input = some_at c.args.transaction.now.inputs c.inputs.number inside in
    let put = c.in-Ok.ensures input.0 c.input_map.result input.1 c.input_map.ensures.map in (
      input_next (g.K.Book.known c.args.known.now) c.args.transaction.now.inputs c.args.psbt.now.inputs c.inputs.number input.0 c.input_map.result c.inputs.at _ c.inputs.out.items
          c.push_input.new.out.items
          _ _ _ c.in-Ok.is_known input.1 c.input_map.ensures.map c.inputs.invariant.0 put (ap (λ (b : Bytes). c.inputs.at + length b) c.bytes.ensures),
      known_next (g.K.Book.known c.args.known.now) c.args.transaction.now.inputs c.args.psbt.now.inputs c.inputs.number input.0 c.input_map.result c.inputs.has_known c.in-Ok.is_known
          c.either-has_known.result _
          input.1 c.input_map.ensures.map put.2 c.either-has_known.ensures c.inputs.invariant.1,
    )
