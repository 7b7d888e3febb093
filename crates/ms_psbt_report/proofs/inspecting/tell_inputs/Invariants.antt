use Rattle.std.proofs.Common.{◌≡◌, ◌*◌, ◌≤◌, List, take, drop}
use Rattle.std.specs.Prelude.{IfSome}
use Rattle.def_spend.specs.Reading.{Input, AreInputs}
use Rattle.ms_psbt_report.specs.Scaffolding.Told.{AreTold}
use Rattle.ms_psbt_report.proofs.inspecting.tell_inputs.Given as goal

-- what the inputs so far tell, and the outputs from the next input's number on
abbrev pub invariant-loop-number : goal.invariant-loop-number
invariant-loop-number l =
    ((inputs : List Input) → AreInputs l.fn.verification l.psbt inputs → AreTold l.transaction (take l.number inputs) l.told)
    × IfSome l.told.spent.satoshis (λ satoshis. satoshis ≤ l.number * 0xffff_ffff_ffff_ffff)
    × (l.outputs ≡ drop l.number l.transaction.outputs)
