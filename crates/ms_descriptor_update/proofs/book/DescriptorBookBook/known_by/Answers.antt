use Rattle.std.proofs.Common.{◌/◌, ◌%◌, ap, sym, subst, ◌∙◌}
use Rattle.std.specs.Option.{option_copied}
use Rattle.ms_descriptor.specs.Bodies.{body_at}
use Rattle.ms_outputs.specs.Given.{IsNotGiven}
use Rattle.ms_descriptor_update.proofs.Looking.{absent, found, has_key}
use Rattle.ms_descriptor_update.proofs.book.DescriptorBookBook.known_by.Goals as goal

pub returns-in_default : goal.returns-in_default
returns-in_default c =
    let book = c.args.self.now in
    absent book.text.now book.descriptor book.count book.places book.known.0 c.requires c.args.script.now (sym c.get.ensures.value ∙ ap option_copied c.in_default.is)

pub unreachable-requires : goal.unreachable-requires
unreachable-requires c =
    let book = c.args.self.now in
    let at = c.in-Some.place.now in
    has_key book.text.now book.descriptor book.count book.places book.known.0 c.requires c.args.script.now at (sym c.get.ensures.value ∙ ap option_copied c.in-Some.is)
    c.in-Err-NoKey.field-0-0
    (subst (IsNotGiven (body_at book.text.now book.descriptor.body) (at / book.count) (at % book.count)) c.in-Err-NoKey.field-0-is c.in-Err-NoKey.ensures.refused)

pub returns-in_ok-known_of-in-Ok : goal.returns-in_ok-known_of-in-Ok
returns-in_ok-known_of-in-Ok c =
    let book = c.args.self.now in
    let at = c.in-Some.place.now in
    found book.text.now book.descriptor book.count book.places book.known.0 c.requires c.args.script.now at (sym c.get.ensures.value ∙ ap option_copied c.in-Some.is)
    c.in-Ok.given c.in_ok-known_of-in-Ok.field-0 c.in-Ok.ensures.given (c.in_ok-known_of-in-Ok.ensures book.text.now)
