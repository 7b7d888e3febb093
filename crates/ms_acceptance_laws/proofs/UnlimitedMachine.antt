-- The machine without limits: how it carries out instructions. Every push of a Script is minimal.
use Rattle.std.specs.Prelude.{ℕ, ◌+◌, ◌||◌, ◌++◌, List, [], ◌∷◌, Ok}
use Rattle.def_script.specs.declared.Op.{Op}
use Rattle.def_script.specs.declared.Op.TheVariants as op
use Rattle.def_script.specs.Bytes.{Bytes}
use Rattle.def_script.specs.Instruction.{Instruction, push, code}
use Rattle.def_machine.specs.Faults.{OrFault, ◌>>=◌}
use Rattle.def_machine.specs.Effects.{verify}
use Rattle.def_machine.specs.Machine.{Given, State, on_main, act, only_if, is_branching, is_live}
use Rattle.ms_acceptance_laws.proofs.StackEffects.{Left, Effect}
use Rattle.ms_acceptance_laws.proofs.TreeEffects.{checks_multi_sig}

-- the state after so many opcodes that left this
abbrev pub reached : State → ℕ → Left → State
reached s n left = record s { main = left.main; ops = s.ops + n + left.log.keys; checks = s.checks ++ left.log.checks }

-- an effect on a state
abbrev pub affect : Effect → State → OrFault State
affect f s = f s.main >>= λ left. Ok (reached s 0 left)

-- what each opcode does: the keys of a multisignature are counted without a limit
abbrev pub free_act : Given → Op → State → OrFault State
free_act given op.CheckMultiSig s = affect (checks_multi_sig given.checker) s
free_act given op.CheckMultiSigVerify s = affect (checks_multi_sig given.checker) s >>= on_main verify
free_act given other s = act given other s

abbrev pub push_on : Bytes → State → OrFault State
push_on bytes s = Ok (record s { main = bytes ∷ s.main })

abbrev pub one_more : State → State
one_more s = record s { ops = s.ops + 1 }

abbrev pub free_step : Given → Instruction → State → OrFault State
free_step given (push bytes) s = only_if (is_live s) (push_on bytes) s
free_step given (code op) s = only_if (is_branching op || is_live s) (free_act given op) (one_more s)

-- one instruction after the other
abbrev pub free_steps : Given → List Instruction → State → OrFault State
free_steps given [] s = Ok s
free_steps given (i ∷ rest) s = free_step given i s >>= free_steps given rest
