use Rattle.std.proofs.Common.{◌<◌, sym, ap, ◌∙◌, arith}
use Rattle.def_spend.specs.declared.Verification.TheVariants.{Unverified}
use Rattle.def_psbt_answer.specs.declared.status.Status.TheVariants as status
use Rattle.def_psbt_answer.specs.Reply.{reply}
use Rattle.ms_psbt_report.proofs.Extracted.{all_extracted}
use Rattle.ms_psbt_report.proofs.replies.extracting.extract.Goals as goal

pub returns-in_ok-network_line-in-None : goal.returns-in_ok-network_line-in-None
returns-in_ok-network_line-in-None c inputs are =
    let more : 0 < c.input_count.result = omega arith in
    ap (reply status.Done) c.in_ok-network_line-in-None.ensures
    ∙ all_extracted Unverified c.args.psbt.now inputs c.input_count.result are c.input_count.ensures.maps c.input_count.ensures.inputs more
    (sym c.in-None.is ∙ c.in_ok-number.ensures inputs are)
