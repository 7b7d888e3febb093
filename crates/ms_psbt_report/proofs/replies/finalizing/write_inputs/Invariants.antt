use Rattle.std.proofs.Common.{◌≡◌, List, take, drop}
use Rattle.def_spend.specs.Reading.{Input, AreInputs}
use Rattle.ms_psbt_report.specs.Scaffolding.Written.{IsWritten}
use Rattle.ms_psbt_report.proofs.replies.finalizing.write_inputs.Given as goal

-- the maps of the inputs so far are written, and the outputs from the next input's number on are left
abbrev pub invariant-loop-number : goal.invariant-loop-number
invariant-loop-number l =
    ((inputs : List Input) → AreInputs l.fn.verification l.psbt inputs → IsWritten l.psbt (take l.number inputs) l.written)
    × (l.outputs ≡ drop l.number l.psbt.transaction.outputs)
