-- A value, or the fault that refuses the run.
use Rattle.std.specs.Prelude.{Result, Ok, Err}
use Rattle.def_machine.specs.declared.ScriptFault.{ScriptFault}

abbrev pub OrFault : Type 0 → Type 0
OrFault A = Result A ScriptFault

-- one step after the other; the first fault ends them
infixl 10 ◌>>=◌
abbrev pub ◌>>=◌ : {A B : Type 0} → Result A ScriptFault → (A → Result B ScriptFault) → Result B ScriptFault
(Ok x) >>= next = next x
(Err fault) >>= next = Err fault
