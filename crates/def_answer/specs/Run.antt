-- The report of `run`.
use Rattle.std.specs.Prelude.{ℕ, ◌++◌, codes, decimal, flat_map}
use Rattle.hex.specs.Hex.{encode_lower}
use Rattle.def_script.specs.Bytes.{Bytes}
use Rattle.def_machine.specs.declared.ScriptFault.{ScriptFault}
use Rattle.def_machine.specs.declared.ScriptFault.TheVariants as fault
use Rattle.def_machine.specs.Run.{Outcome, accepted, refused}
use Rattle.def_answer.specs.Lines.{line}

-- the name of a fault
abbrev pub script_fault_name : ScriptFault → Bytes
script_fault_name fault.ScriptSize = codes "ScriptSize"
script_fault_name fault.ElementSize = codes "ElementSize"
script_fault_name fault.Truncated = codes "Truncated"
script_fault_name fault.NonMinimalPush = codes "NonMinimalPush"
script_fault_name fault.Unsupported = codes "Unsupported"
script_fault_name fault.OpCount = codes "OpCount"
script_fault_name fault.StackUnderflow = codes "StackUnderflow"
script_fault_name fault.AltUnderflow = codes "AltUnderflow"
script_fault_name fault.Unbalanced = codes "Unbalanced"
script_fault_name fault.MinimalIf = codes "MinimalIf"
script_fault_name fault.Verify = codes "Verify"
script_fault_name fault.NumberForm = codes "NumberForm"
script_fault_name fault.NegativeLock = codes "NegativeLock"
script_fault_name fault.UnmetLock = codes "UnmetLock"
script_fault_name fault.KeyForm = codes "KeyForm"
script_fault_name fault.NullFail = codes "NullFail"
script_fault_name fault.NullDummy = codes "NullDummy"
script_fault_name fault.KeyCount = codes "KeyCount"
script_fault_name fault.SigCount = codes "SigCount"
script_fault_name fault.StackSize = codes "StackSize"
script_fault_name fault.CleanStack = codes "CleanStack"
script_fault_name fault.EvalFalse = codes "EvalFalse"

-- the refusal of a script, at the instruction of this number
abbrev pub script_refused_line : ScriptFault → (place : ℕ) → Bytes
script_refused_line fault place =
    line (codes "refused script " ++ script_fault_name fault ++ codes " at " ++ decimal place)

-- a pair of key and signature that was found good
abbrev pub check_line : Bytes × Bytes → Bytes
check_line pair = line (codes "check " ++ encode_lower pair.0 ++ codes " " ++ encode_lower pair.1)

-- the opcodes and the greatest height of an accepted run
abbrev pub accepted_line : (ops peak : ℕ) → Bytes
accepted_line ops peak = line (codes "accepted ops " ++ decimal ops ++ codes " peak " ++ decimal peak)

unfoldable pub run_report : Outcome → Bytes
run_report (accepted ops peak checks) = accepted_line ops peak ++ flat_map check_line checks
run_report (refused fault place) = script_refused_line fault place
