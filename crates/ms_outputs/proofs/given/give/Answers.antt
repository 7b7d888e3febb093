-- The text with the keys is read.
use Rattle.std.proofs.Common.{◌∙◌, sym, subst}
use Rattle.std.specs.Prelude.{IsUtf8}
use Rattle.ms_descriptor.specs.Bodies.{descriptor_at}
use Rattle.ms_outputs.specs.Keys.{expressions_of_body}
use Rattle.ms_outputs.specs.Starts.{AreStarts}
use Rattle.ms_key_laws.proofs.Read.{text_utf8, text_read}
use Rattle.ms_outputs.proofs.Together.{readable_is}
use Rattle.ms_outputs.proofs.given.give.Goals as goal

pub script_for-requires-clause-utf8 : goal.script_for-requires-clause-utf8
script_for-requires-clause-utf8 c =
    let text = c.args.text.now in
    let found = c.args.descriptor.now in
    let keys = c.in_ok-spelled.spelled.keys.items in
    let g =
    c.in_ok-spelled.ensures.spelled c.args.branch
    (subst (AreStarts c.args.branch (expressions_of_body found.body)) (sym c.deref.ensures.value) c.in_ok-starts.ensures) in
    subst IsUtf8 (sym (c.deref-2.ensures.value ∙ g.text)) (text_utf8 text (descriptor_at text found) keys c.utf8.text c.requires.read)

pub script_for-requires-clause-read : goal.script_for-requires-clause-read
script_for-requires-clause-read c =
    let text = c.args.text.now in
    let found = c.args.descriptor.now in
    let keys = c.in_ok-spelled.spelled.keys.items in
    let g =
    c.in_ok-spelled.ensures.spelled c.args.branch
    (subst (AreStarts c.args.branch (expressions_of_body found.body)) (sym c.deref.ensures.value) c.in_ok-starts.ensures) in
    readable_is text c.deref-2.result.now found.body keys (c.deref-2.ensures.value ∙ g.text)
    (text_read text (descriptor_at text found) c.args.branch c.args.index keys c.utf8.text c.requires.read g.keys)
