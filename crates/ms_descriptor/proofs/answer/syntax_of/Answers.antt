-- No key is refused, one is at the end, and one is behind the place.
use Rattle.std.proofs.Common.{ap, sym, ◌∙◌}
use Rattle.def_descriptor.specs.declared.DescriptorFault.TheVariants as fault
use Rattle.def_descriptor.specs.Gives.{pieces_in}
use Rattle.ms_descriptor.specs.Bodies.{body_at, found_at}
use Rattle.ms_descriptor.proofs.Answering.{no_key, key_there, before_key, place_there}
use Rattle.ms_descriptor.proofs.answer.syntax_of.Goals as goal

pub returns-in_default : goal.returns-in_default
returns-in_default c =
    let text = c.args.text.now in
    let found = c.args.found.now in
    let ps = pieces_in (body_at text found.body) in
    no_key ps (found_at text found) c.args.at c.in_default.is
    ∙ ap fault.Syntax (place_there text found.refused found.rest ps c.args.at c.place_in.result c.place_in.ensures.place)

pub returns-then-at-end : goal.returns-then-at-end
returns-then-at-end c =
    let text = c.args.text.now in
    let found = c.args.found.now in
    key_there (pieces_in (body_at text found.body)) (found_at text found) c.args.at c.in-Some.fault (c.if-at-end.true ∙ c.requires.end) c.in-Some.is

pub returns : goal.returns
returns c =
    let text = c.args.text.now in
    let found = c.args.found.now in
    let ps = pieces_in (body_at text found.body) in
    before_key ps (found_at text found) c.args.at (λ e. c.if-at-end.false (e ∙ sym c.requires.end))
    ∙ ap fault.Syntax (place_there text found.refused found.rest ps c.args.at c.place_in.result c.place_in.ensures.place)
