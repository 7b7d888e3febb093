-- A token that can't stand there, and one that is too deep.
use Rattle.std.proofs.Common.{ap, ◌∙◌}
use Rattle.def_descriptor.specs.declared.DescriptorFault.TheVariants as fault
use Rattle.def_descriptor.specs.Gives.{pieces_in}
use Rattle.def_descriptor.specs.Answer.{refusal_of}
use Rattle.ms_descriptor.specs.Bodies.{body_at, found_at}
use Rattle.ms_descriptor.proofs.Answering.{place_there}
use Rattle.ms_descriptor.proofs.answer.refusal_of.Goals as goal

pub returns-in-TooDeep : goal.returns-in-TooDeep
returns-in-TooDeep c =
    let text = c.args.text.now in
    let found = c.args.found.now in
    let ps = pieces_in (body_at text found.body) in
    ap (refusal_of ps (found_at text found)) c.in-TooDeep.is
    ∙ ap fault.TooDeep (place_there text found.refused found.rest ps c.in-TooDeep.at c.place_in.result c.place_in.ensures.place)
