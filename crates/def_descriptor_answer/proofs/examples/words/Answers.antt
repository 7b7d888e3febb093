use Rattle.std.proofs.Common.{◌≤◌, length, codes, refl, Err, arith}
use Rattle.std.specs.Fmt.{digits}
use Rattle.def_text.specs.Refusal.{MOST_BYTES}
use Rattle.def_descriptor.specs.declared.DescriptorFault.TheVariants.{Syntax}
use Rattle.def_descriptor.specs.Parts.{read_parts}
use Rattle.def_descriptor.specs.Answer.{wrong_parts}
use Rattle.def_descriptor_answer.proofs.examples.words.Goals as goal

pub returns-clause-no_descriptor : goal.returns-clause-no_descriptor
returns-clause-no_descriptor c = refl

pub returns-clause-last_index : goal.returns-clause-last_index
returns-clause-last_index c = refl

pub returns-clause-leading_zero : goal.returns-clause-leading_zero
returns-clause-leading_zero c = refl

pub returns-clause-options : goal.returns-clause-options
returns-clause-options c = refl

pub returns-clause-updates : goal.returns-clause-updates
returns-clause-updates c = (refl, refl, refl, refl)

pub returns-clause-no_form : goal.returns-clause-no_form
returns-clause-no_form c = record { replies = refl }

pub returns-clause-no_text : goal.returns-clause-no_text
unfolding read_parts digits
returns-clause-no_text c =
    let short : length (codes "x") ≤ MOST_BYTES = omega arith in
    record { replies = (Err (Syntax 0), wrong_parts short refl, refl) }

pub returns-clause-no_text_either : goal.returns-clause-no_text_either
unfolding read_parts digits
returns-clause-no_text_either c =
    let short : length (codes "x") ≤ MOST_BYTES = omega arith in
    record { replies = (Err (Syntax 0), wrong_parts short refl, refl) }
