use Rattle.std.proofs.Common.{is_some, true, ◌&&◌, ◌∙◌}
use Rattle.std.proofs.lemmas.Bool.{and_parts}
use Rattle.def_psbt.specs.declared.PsbtVersion.TheVariants as version
use Rattle.def_psbt.specs.Listed.{input_form}
use Rattle.def_psbt.specs.Map.{pair_of_type, value_of_type}
use Rattle.ms_psbt.proofs.Locking.{has_value, index_is_long, sequence_is_long}
use Rattle.ms_psbt.proofs.Texts.{input_is, number_there}
use Rattle.ms_psbt.proofs.written.push_input.Goals as goal

pub returns-clause-text : goal.returns-clause-text
returns-clause-text c = λ map e needed.
    let psbt = c.args.psbt.now in
    let parts = and_parts (is_some (pair_of_type 0x0e map.0)) (is_some (pair_of_type 0x0f map.0) && true) needed in
    let there = has_value 0x0f map.0 ((and_parts (is_some (pair_of_type 0x0f map.0)) true parts.1).0) in
    let found = c.input_fields-fields.ensures (input_form version.Two) map e in
    input_is c.args.out.now.items c.bytes_or-id.result.now _ _ _ _ c.number_by-index.result c.number_by-sequence.result map.0
    (c.bytes_or-id.ensures (value_of_type 0x0e map.0) found.0)
    (c.number_by-index.ensures (value_of_type 0x0f map.0) found.1 (λ value is. index_is_long psbt c.args.from map value e is)
    ∙ number_there 0x0f map.0 there.0 there.1)
    (c.number_by-sequence.ensures (value_of_type 0x10 map.0) found.2 (λ value is. sequence_is_long psbt c.args.from map value e is))
    c.in_ok-extend_from_slice.ensures.items c.in_ok-push_number.ensures c.in_ok-push.ensures.items c.in_ok-push_number-2.ensures

pub returns-clause-locked : goal.returns-clause-locked
returns-clause-locked c = λ map e. (c.input_fields-fields.ensures (input_form version.Two) map e).3
