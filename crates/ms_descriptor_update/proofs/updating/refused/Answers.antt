use Rattle.std.proofs.Common.{ap}
use Rattle.def_descriptor_answer.specs.declared.status.Status.TheVariants as status
use Rattle.def_descriptor_answer.specs.Reply.{reply}
use Rattle.def_psbt_answer.specs.Reply.{reply as psbt_reply}
use Rattle.def_spend.specs.declared.Verification.TheVariants.{Unverified}
use Rattle.def_psbt_answer.specs.declared.words.Command.TheVariants.{Inspect}
use Rattle.ms_descriptor_update.proofs.Replying.{refused_report}
use Rattle.ms_descriptor_update.proofs.updating.refused.Goals as goal

pub returns : goal.returns
returns c refusal is =
    ap (reply status.PsbtRefused)
    (refused_report (Inspect Unverified) c.args.source.now refusal (psbt_reply c.in_ok-made.made.status c.in_ok-made.made.report.items) is c.in_ok-made.ensures)
