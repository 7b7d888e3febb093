-- What a call of the interpreter left, and what a definition gives.
use Rattle.std.specs.Prelude.{◌≡◌, ◌^◌, ◌≤ℤ◌, ℕ, ℤ, pos, neg_ℤ, Result, Ok, Err}
use Rattle.def_machine.specs.declared.ScriptFault.{ScriptFault}
use Rattle.def_machine.specs.Faults.{OrFault}
use Rattle.ms_interp.specs.declared.report.RunStop.{RunStop}
use Rattle.ms_interp.specs.declared.report.RunStop.TheVariants as ended
use Rattle.ms_interp.specs.declared.stop.Stop.{Stop}
use Rattle.ms_interp.specs.declared.stop.Stop.TheVariants.{Fault, Memory}

-- a call that can't want memory left what the definition gives, or answered its fault
abbrev pub IsResult : {X A : Type 0} → Result X ScriptFault → A → OrFault A → Type 0
IsResult (Ok x) left expected = expected ≡ Ok left
IsResult (Err fault) left expected = expected ≡ Err fault

-- a call that can't want memory answered what the definition gives
abbrev pub GivesFault : {X A : Type 0} → Result X ScriptFault → (X → A) → OrFault A → Type 0
GivesFault (Ok x) seen expected = expected ≡ Ok (seen x)
GivesFault (Err fault) seen expected = expected ≡ Err fault

-- a number has at most five bytes, so two may be added
abbrev pub HasRoom : ℤ → Type 0
HasRoom n = (neg_ℤ (pos (2 ^ 39)) ≤ℤ n) × (n ≤ℤ pos (2 ^ 39))

-- a stop is the definition's fault, or want of memory
abbrev pub StopsAs : {A : Type 0} → Stop → OrFault A → Type 0
StopsAs (Fault fault) expected = expected ≡ Err fault
StopsAs Memory expected = Unit {0}

-- a call left what the definition gives, or stopped as it says
abbrev pub Leaves : {X A : Type 0} → Result X Stop → A → OrFault A → Type 0
Leaves (Ok x) left expected = expected ≡ Ok left
Leaves (Err stop) left expected = StopsAs stop expected

-- a call whose result counts answered what the definition gives, or stopped as it says
abbrev pub Gives : {X A : Type 0} → Result X Stop → (X → A) → OrFault A → Type 0
Gives (Ok x) seen expected = expected ≡ Ok (seen x)
Gives (Err stop) seen expected = StopsAs stop expected

-- a stop at a place
abbrev pub run_stop : Stop → (place : ℕ) → RunStop
run_stop (Fault fault) place = ended.Refused fault place
run_stop Memory place = ended.Memory
