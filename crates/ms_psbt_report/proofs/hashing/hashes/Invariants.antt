use Rattle.std.proofs.Common.{◌≡◌, List, take, drop}
use Rattle.std.specs.List.{flat_map}
use Rattle.def_spend.specs.Reading.{Input, AreInputs}
use Rattle.def_psbt_answer.specs.Report.{input_hashes}
use Rattle.ms_psbt_report.proofs.hashing.hashes.Given as goal

-- the lines of the inputs so far, and the outputs from the next input's number on
abbrev pub invariant-loop-number : goal.invariant-loop-number
invariant-loop-number l =
    ((inputs : List Input) → AreInputs l.verification l.psbt inputs → l.report.items ≡ flat_map input_hashes (take l.number inputs))
    × (l.outputs ≡ drop l.number l.psbt.transaction.outputs)
