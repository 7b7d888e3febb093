-- Steps on the way to what a call gives, and why one stops.
use Rattle.std.specs.Prelude.{◌≡◌, ℕ, ⊤, List, IsUtf8, Option, Some, option_map, Result, Ok, Err}
use Rattle.def_script.specs.Bytes.{Bytes}
use Rattle.def_text.specs.declared.TextFault.{TextFault}
use Rattle.def_text.specs.declared.TextFault.TheVariants as text_fault
use Rattle.def_sane.specs.declared.Unfit.{Unfit}
use Rattle.def_answer.specs.Reading.{Reading, refused, HasReading}
use Rattle.ms_calls.specs.declared.reason.Reason.{Reason}
use Rattle.ms_calls.specs.declared.stopping.Stop.{Stop}
use Rattle.ms_calls.specs.declared.stopping.Stop.TheVariants as stop
use Rattle.def_files.specs.declared.AssetFault.{AssetFault}
use Rattle.def_files.specs.declared.AssetFault.TheVariants as file_fault
use Rattle.def_plan.specs.declared.PlanFault.{PlanFault}
use Rattle.def_plan.specs.declared.PlanFault.TheVariants as plan_fault
use Rattle.ms_calls.specs.Reasons.{code_of_fault, code_of_reason, code_of_file, code_of_plan_file}
use Rattle.def_files.specs.RunFile.{RunFile}
use Rattle.ms_assets.specs.declared.run_file.RunFile.{RunFile as ReadFile}
use Rattle.ms_replies.specs.Runs.{file_seen}
use Rattle.ms_calls.specs.TextReply.{TextReply, told, text_refused, file_refused, no_satisfaction, with_file}

-- a step found what is given, unless memory was wanting
abbrev pub Finds : {A : Type 0} → TextReply A → Result A Stop → Type 0
Finds given (Ok a) = given ≡ told a
Finds given (Err (stop.TextRefused reason)) = given ≡ text_refused reason
Finds given (Err (stop.FileRefused reason)) = given ≡ file_refused reason
Finds given (Err stop.NoSatisfaction) = given ≡ no_satisfaction
Finds given (Err stop.Unreadable) = ⊥
Finds given (Err stop.Memory) = ⊤

-- a step on a text found what its reading gives, or the text isn't UTF-8
abbrev pub FindsOf : {A : Type 0} → (text : Bytes) → (Reading → TextReply A) → Result A Stop → Type 0
FindsOf text given (Err stop.Unreadable) = ¬ IsUtf8 text
FindsOf text given result = IsUtf8 text × ((reading : Reading) → HasReading text reading → Finds (given reading) result)

-- a step found the run that arrays give
abbrev pub FindsRun : (held : Result RunFile AssetFault) → Result ReadFile Stop → Type 0
FindsRun held (Ok file) = held ≡ Ok (file_seen file)
FindsRun held (Err s) = Finds (with_file {A = RunFile} code_of_file told held) (Err s)

-- the code of a stop, and the reason that stands after it
abbrev pub stopped : Stop → (before : Reason) → ℕ × Reason
stopped (stop.TextRefused reason) before = (2, reason)
stopped (stop.FileRefused reason) before = (3, reason)
stopped stop.NoSatisfaction before = (4, before)
stopped stop.Unreadable before = (11, before)
stopped stop.Memory before = (7, before)

-- the stop of a text that is refused
abbrev pub refusal : TextFault → Stop
refusal text_fault.TooLong = stop.TextRefused (code_of_fault text_fault.TooLong)
refusal (text_fault.Syntax at) = stop.TextRefused (code_of_fault (text_fault.Syntax at))
refusal (text_fault.TooDeep at) = stop.TextRefused (code_of_fault (text_fault.TooDeep at))
refusal text_fault.Memory = stop.Memory

-- why a text isn't read
abbrev pub StopsReading : (text : Bytes) → Stop → Type 0
StopsReading text (stop.TextRefused reason) =
    IsUtf8 text × ((fault : TextFault) × HasReading text (refused fault) × (reason ≡ code_of_fault fault))
StopsReading text (stop.FileRefused reason) = ⊥
StopsReading text stop.NoSatisfaction = ⊥
StopsReading text stop.Unreadable = ¬ IsUtf8 text
StopsReading text stop.Memory = IsUtf8 text

-- why a tree doesn't pass: for the first reason against it, or for want of memory
abbrev pub StopsFitting : (reason : Option Unfit) → (offsets : List ℕ) → Stop → Type 0
StopsFitting reason offsets (stop.TextRefused why) = option_map (code_of_reason offsets) reason ≡ Some why
StopsFitting reason offsets (stop.FileRefused why) = ⊥
StopsFitting reason offsets stop.NoSatisfaction = ⊥
StopsFitting reason offsets stop.Unreadable = ⊥
StopsFitting reason offsets stop.Memory = ⊤

-- the stop of a file that is refused
abbrev pub file_refusal : AssetFault → Stop
file_refusal file_fault.NotJson = stop.FileRefused (code_of_file file_fault.NotJson)
file_refusal (file_fault.Shape m) = stop.FileRefused (code_of_file (file_fault.Shape m))
file_refusal (file_fault.Number m) = stop.FileRefused (code_of_file (file_fault.Number m))
file_refusal (file_fault.Hex m i) = stop.FileRefused (code_of_file (file_fault.Hex m i))
file_refusal (file_fault.KeyForm i) = stop.FileRefused (code_of_file (file_fault.KeyForm i))
file_refusal (file_fault.SigLength i) = stop.FileRefused (code_of_file (file_fault.SigLength i))
file_refusal (file_fault.PreimageLength i) = stop.FileRefused (code_of_file (file_fault.PreimageLength i))
file_refusal (file_fault.TooMany m) = stop.FileRefused (code_of_file (file_fault.TooMany m))
file_refusal (file_fault.RepeatedKey i) = stop.FileRefused (code_of_file (file_fault.RepeatedKey i))
file_refusal file_fault.Memory = stop.Memory

-- the stop of what a plan is made by, where it is refused
abbrev pub plan_file_refusal : PlanFault → Stop
plan_file_refusal plan_fault.NotJson = stop.FileRefused (code_of_plan_file plan_fault.NotJson)
plan_file_refusal (plan_fault.Shape m) = stop.FileRefused (code_of_plan_file (plan_fault.Shape m))
plan_file_refusal (plan_fault.Number m) = stop.FileRefused (code_of_plan_file (plan_fault.Number m))
plan_file_refusal (plan_fault.Hex m i) = stop.FileRefused (code_of_plan_file (plan_fault.Hex m i))
plan_file_refusal (plan_fault.KeyForm i) = stop.FileRefused (code_of_plan_file (plan_fault.KeyForm i))
plan_file_refusal (plan_fault.Length i) = stop.FileRefused (code_of_plan_file (plan_fault.Length i))
plan_file_refusal (plan_fault.PreimageLength i) = stop.FileRefused (code_of_plan_file (plan_fault.PreimageLength i))
plan_file_refusal (plan_fault.TooMany m) = stop.FileRefused (code_of_plan_file (plan_fault.TooMany m))
plan_file_refusal (plan_fault.RepeatedKey i) = stop.FileRefused (code_of_plan_file (plan_fault.RepeatedKey i))
plan_file_refusal plan_fault.Memory = stop.Memory
