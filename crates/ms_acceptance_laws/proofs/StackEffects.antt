-- What a part of a Script does to the main stack, and what it leaves behind beside it: how many keys it tried and
-- which pairs it found good.
use Rattle.std.specs.Prelude.{Bool, [], ◌∷◌, Ok, Err, if◌then◌else◌}
use Rattle.def_script.specs.Bytes.{Bytes}
use Rattle.def_machine.specs.declared.ScriptFault.TheVariants as fault
use Rattle.def_machine.specs.Faults.{OrFault, ◌>>=◌}
use Rattle.def_machine.specs.Stacks.{Stack}
use Rattle.def_machine.specs.Effects.{condition}
use Rattle.std.proofs.Common.{Bool, [], ◌∷◌, Ok}
use Rattle.ms_row_laws.proofs.RunLog.{Log, quiet, then_log}

-- a stack with what was logged on the way to it
pub record Left : Type 0 where
  pub main : Stack
  pub log : Log

abbrev pub Effect : Type 0
Effect = Stack → OrFault Left

-- behind another log
abbrev pub behind : Log → Left → Left
behind log left = record { main = left.main; log = then_log log left.log }

-- one after the other
abbrev pub on_left : Effect → Left → OrFault Left
on_left g left = g left.main >>= λ next. Ok (behind left.log next)

abbrev pub both : Effect → Effect → Effect
both f g main = f main >>= on_left g

-- with nothing to log
abbrev pub silent : Stack → OrFault Left
silent main = Ok (record { main = main; log = quiet })

abbrev pub plain : (Stack → OrFault Stack) → Effect
plain f main = f main >>= silent

-- puts a string on the stack
abbrev pub pushes : Bytes → Effect
pushes bytes main = silent (bytes ∷ main)

-- takes the top, and goes on with the one where it is true and with the other where it is false
abbrev pub chosen : Effect → Effect → Bool × Stack → OrFault Left
chosen f g taken = if taken.0 then f taken.1 else g taken.1

abbrev pub choose : (on_true on_false : Effect) → Effect
choose f g main = condition main >>= chosen f g

-- the top is set aside, and put back
abbrev pub put_back : Bytes → Left → Left
put_back top left = record { main = top ∷ left.main; log = left.log }

abbrev pub aside : Effect → Effect
aside f [] = Err fault.StackUnderflow
aside f (top ∷ main) = f main >>= λ left. Ok (put_back top left)

abbrev pub left : Stack → Log → Left
left main log = record { main = main; log = log }
