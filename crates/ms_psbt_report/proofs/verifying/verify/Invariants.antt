use Rattle.std.proofs.Common.{◌≡◌, List, take, drop}
use Rattle.std.specs.List.{flat_map, list_all}
use Rattle.def_spend.specs.declared.Verification.TheVariants.{Verified}
use Rattle.def_spend.specs.Reading.{Input, AreInputs}
use Rattle.def_psbt_answer.specs.Verified.{input_verdict}
use Rattle.ms_psbt_report.proofs.Validity.{valid_input}
use Rattle.ms_psbt_report.proofs.verifying.verify.Given as goal

-- the lines of the inputs so far, whether all of them are valid, and the outputs from the next input's number on
abbrev pub invariant-loop-number : goal.invariant-loop-number
invariant-loop-number l =
    ((inputs : List Input) → AreInputs Verified l.psbt inputs → l.report.items ≡ flat_map input_verdict (take l.number inputs))
    × ((inputs : List Input) → AreInputs Verified l.psbt inputs → l.are_valid ≡ list_all valid_input (take l.number inputs))
    × (l.outputs ≡ drop l.number l.psbt.transaction.outputs)
