-- What a run comes to, as plain bytes and numbers.
use Rattle.std.specs.Prelude.{◌≢◌, ℕ, zero, suc, List, [], ◌∷◌, Result}
use Rattle.def_script.specs.Bytes.{Bytes}
use Rattle.def_machine.specs.declared.Locks.{Locks}
use Rattle.def_machine.specs.declared.ScriptFault.{ScriptFault}
use Rattle.def_machine.specs.declared.ScriptFault.TheVariants as fault
use Rattle.def_machine.specs.Stacks.{Pairs}
use Rattle.def_machine.specs.Run.{Outcome, accepted, refused}
use Rattle.def_files.specs.declared.AssetFault.{AssetFault}
use Rattle.def_files.specs.RunFile.{RunFile}
use Rattle.ms_replies.specs.Runs.{outcome_of}
use Rattle.ms_arrays.specs.ArrayRun.{RunArrays, run_of_arrays}
use Rattle.ms_calls.specs.declared.outcome.RunOutcome.{RunOutcome}
use Rattle.ms_calls.specs.Items.{Joined, joined}
use Rattle.ms_calls.specs.Reasons.{code_of_file}
use Rattle.ms_calls.specs.TextReply.{TextReply, told, text_refused, file_refused, no_satisfaction, with_file}

-- faults are numbered from 1 on, in the order of their definition
abbrev pub number_of_fault : ScriptFault → ℕ
number_of_fault fault.ScriptSize = 1
number_of_fault fault.ElementSize = 2
number_of_fault fault.Truncated = 3
number_of_fault fault.NonMinimalPush = 4
number_of_fault fault.Unsupported = 5
number_of_fault fault.OpCount = 6
number_of_fault fault.StackUnderflow = 7
number_of_fault fault.AltUnderflow = 8
number_of_fault fault.Unbalanced = 9
number_of_fault fault.MinimalIf = 10
number_of_fault fault.Verify = 11
number_of_fault fault.NumberForm = 12
number_of_fault fault.NegativeLock = 13
number_of_fault fault.UnmetLock = 14
number_of_fault fault.KeyForm = 15
number_of_fault fault.NullFail = 16
number_of_fault fault.NullDummy = 17
number_of_fault fault.KeyCount = 18
number_of_fault fault.SigCount = 19
number_of_fault fault.StackSize = 20
number_of_fault fault.CleanStack = 21
number_of_fault fault.EvalFalse = 22

-- the counts of a run that is accepted, or the fault and the place of one that is refused
abbrev pub counted : (ops peak : ℕ) → RunOutcome
counted ops peak = record { ops = ops; peak = peak; fault = 0; place = 0 }

abbrev pub faulty : (fault place : ℕ) → RunOutcome
faulty fault place = record { ops = 0; peak = 0; fault = fault; place = place }

abbrev pub numbers_of : Outcome → RunOutcome
numbers_of (accepted ops peak checks) = counted ops peak
numbers_of (refused fault place) = faulty (number_of_fault fault) place

-- the good pairs that a run passed, in order
abbrev pub checks_of : Outcome → Pairs
checks_of (accepted ops peak checks) = checks
checks_of (refused fault place) = []

-- each key, and its signature after it
abbrev pub pair_items : Pairs → List Bytes
pair_items [] = []
pair_items (pair ∷ pairs) = pair.0 ∷ pair.1 ∷ pair_items pairs

pub record Ran : Type 0 where
  pub outcome : RunOutcome
  pub checks : Joined

abbrev pub ran : Outcome → Ran
ran outcome = record { outcome = numbers_of outcome; checks = joined (pair_items (checks_of outcome)) }

-- the run that arrays give, or their refusal
abbrev pub ran_given : (held : Result RunFile AssetFault) → TextReply Ran
ran_given held = with_file code_of_file (λ file. told (ran (outcome_of file))) held

-- by the values of the locks and arrays
abbrev pub ran_by : Locks → RunArrays → TextReply Ran
ran_by locks arrays = ran_given (run_of_arrays locks arrays)

-- ---- what stands after the call

-- so it is with what is given, unless the call's code says that memory was wanting
abbrev pub HoldsOfRun : {A : Type 0} → (code : ℕ) → (given : TextReply A) → (IsSo : TextReply A → Type 0) → Type 0
HoldsOfRun code given IsSo = code ≢ 7 → IsSo given

-- the code of an outcome: 0 without a fault, and else another one
abbrev pub code_without : (otherwise : ℕ) → (fault : ℕ) → ℕ
code_without otherwise zero = 0
code_without otherwise (suc n) = otherwise

abbrev pub run_code : TextReply Ran → ℕ
run_code (told found) = code_without 8 found.outcome.fault
run_code (text_refused reason) = 2
run_code (file_refused reason) = 3
run_code no_satisfaction = 4

-- the outcome, and the checks
abbrev pub ran_outcome : TextReply Ran → TextReply RunOutcome
ran_outcome (told found) = told found.outcome
ran_outcome (text_refused reason) = text_refused reason
ran_outcome (file_refused reason) = file_refused reason
ran_outcome no_satisfaction = no_satisfaction

abbrev pub ran_checks : TextReply Ran → TextReply Joined
ran_checks (told found) = told found.checks
ran_checks (text_refused reason) = text_refused reason
ran_checks (file_refused reason) = file_refused reason
ran_checks no_satisfaction = no_satisfaction
