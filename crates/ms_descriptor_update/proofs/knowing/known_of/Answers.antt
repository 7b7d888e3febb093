use Rattle.std.proofs.Common.{ap, ◌∙◌}
use Rattle.def_descriptor_answer.specs.Update.{with_origins}
use Rattle.ms_descriptor.specs.Bodies.{descriptor_at}
use Rattle.ms_outputs.specs.Keys.{expressions_of_body}
use Rattle.ms_outputs.proofs.Finding.{expressions_are}
use Rattle.ms_descriptor_update.proofs.Numbered.{known_made}
use Rattle.ms_descriptor_update.proofs.knowing.known_of.Goals as goal

pub returns : goal.returns
returns c text =
    let own = c.args.descriptor.now in
    known_made (descriptor_at text own) c.args.branch c.args.index c.args.given.program.items c.args.given.script c.args.given.keys.items
    _ _ _ _ (expressions_of_body own.body) c.requires c.redeem_of.ensures c.in_ok-witness.ensures
    (c.in_ok-keys.ensures ∙ ap (with_origins c.args.branch c.args.index (expressions_of_body own.body)) c.deref.ensures.value) (expressions_are text own.body)
