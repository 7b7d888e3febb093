use Rattle.std.proofs.Common.{◌≡◌, ◌+◌, ◌*◌, ◌≤◌, ◌++◌, length}
use Rattle.def_psbt_answer.specs.Fee.{paid}
use Rattle.def_psbt_answer.specs.Lines.{output_lines}
use Rattle.ms_psbt_report.proofs.transactions.push_outputs.Given as goal

-- the lines so far and those of the outputs that are left, and what both get
abbrev pub invariant-loop-output : goal.invariant-loop-output
invariant-loop-output l =
    (l.report.items ++ output_lines l.number l.output-iterator ≡ l.initial.report.items ++ output_lines 0 l.fn.transaction.outputs)
    × (l.paid + paid l.output-iterator ≡ paid l.fn.transaction.outputs)
    × (l.number + length l.output-iterator ≡ length l.fn.transaction.outputs)
    × (l.paid ≤ l.number * 0xffff_ffff_ffff_ffff)
