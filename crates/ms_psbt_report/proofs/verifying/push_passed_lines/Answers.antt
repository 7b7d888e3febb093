use Rattle.std.proofs.Common.{◌≤◌, length, arith}
use Rattle.def_psbt_answer.specs.Verified.{passed_line}
use Rattle.ms_psbt_report.proofs.InputLines.{no_more}
use Rattle.ms_psbt_report.proofs.Validity.{one_passed}
use Rattle.ms_psbt_report.proofs.verifying.push_passed_lines.Goals as goal

pub loop-pair-preserved : goal.loop-pair-preserved
loop-pair-preserved c spend is =
    one_passed (passed_line spend c.args.check.now.script) _ _ _ c.args.pairs.now c.loop-pair.pair-index _ c.loop-pair-test.true c.pair-item.is
    (c.in_ok-push_passed.ensures spend is) (c.loop-pair.invariant spend is)

pub returns : goal.returns
returns c spend is =
    let past : length c.args.pairs.now ≤ c.loop-pair.pair-index = omega arith in
    no_more (passed_line spend c.args.check.now.script) _ _ c.args.pairs.now c.loop-pair.pair-index past (c.loop-pair.invariant spend is)
