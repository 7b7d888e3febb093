-- A text of no bytes, and one of some.
use Rattle.std.proofs.Common.{ap, ◌∙◌}
use Rattle.def_derive.specs.Extended.{read_extended}
use Rattle.ms_address.proofs.Checked.{match_none, match_some}
use Rattle.ms_derive.proofs.Texts.{none_of_text, key_of_text}
use Rattle.ms_derive.proofs.extended.extended_of.Goals as goal

pub returns-in_default : goal.returns-in_default
returns-in_default c = none_of_text c.args.text.now (match_none _ _ _ c.in_default.is c.in_ok-bytes.ensures)

pub returns : goal.returns
returns c =
    let read = match_some _ _ _ c.in-Some.bytes c.in-Some.is c.in_ok-bytes.ensures in
    c.read_extended.ensures ∙ (ap read_extended c.deref.ensures.value ∙ key_of_text c.args.text.now c.in-Some.bytes.items read)
