use Rattle.std.proofs.Common.{◌≡◌, List, drop}
use Rattle.def_spend.specs.declared.Verification.TheVariants.{Unverified}
use Rattle.def_spend.specs.Reading.{Input, AreInputs}
use Rattle.def_psbt_answer.specs.Reply.{first_open}
use Rattle.ms_psbt_report.proofs.open.first_open.Given as goal

-- the first open one is among those that are left
abbrev pub invariant-loop-number : goal.invariant-loop-number
invariant-loop-number l = (inputs : List Input) → AreInputs Unverified l.psbt inputs → first_open (drop l.number inputs) ≡ first_open inputs
