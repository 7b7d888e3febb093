-- The machine: its state, and one step of it (Bitcoin Core: `EvalScript` in script/interpreter.cpp).
use Rattle.std.specs.Prelude.{ℕ, ◌+◌, ◌||◌, not, max, nat_lt, Bool, true, false, List, [], ◌∷◌, length, if◌then◌else◌, Ok, Err}
use Rattle.std.specs.List.{list_all}
use Rattle.def_hash.specs.declared.HashKind.TheVariants as kind
use Rattle.def_script.specs.declared.Op.{Op}
use Rattle.def_script.specs.declared.Op.TheVariants as op
use Rattle.def_script.specs.declared.InstrFault.{InstrFault}
use Rattle.def_script.specs.declared.InstrFault.TheVariants as unread
use Rattle.def_script.specs.Bytes.{Bytes}
use Rattle.def_script.specs.Item.{Item}
use Rattle.def_script.specs.Item as item
use Rattle.def_machine.specs.declared.Locks.{Locks}
use Rattle.def_machine.specs.declared.ScriptFault.{ScriptFault}
use Rattle.def_machine.specs.declared.ScriptFault.TheVariants as fault
use Rattle.def_script.specs.Limits.{MAX_SCRIPT_ELEMENT_SIZE, MAX_STACK_SIZE}
use Rattle.def_machine.specs.Locks.{after_holds, older_holds}
use Rattle.def_machine.specs.Faults.{OrFault, ◌>>=◌}
use Rattle.def_machine.specs.Stacks.{Stack, Pairs, Checker}
use Rattle.def_machine.specs.Effects.{verify, condition, to_alt_stack, from_alt_stack, if_dup, dup, swap, size, equal, zero_not_equal, add, bool_and, bool_or, hash, check_sig, lock}
use Rattle.def_machine.specs.MultiSig.{within_op_limit, check_multi_sig}

-- what a run is given: which pairs of key and signature are good, and the locks
pub record Given : Type 0 where
  pub checker : Checker
  pub locks : Locks

pub record State : Type 0 where
  -- the main and the alternative stack, the top first
  pub main : Stack
  pub alt : Stack
  -- whether each open branch is taken, the innermost first
  pub branches : List Bool
  -- how many opcodes there were, with the keys of executed multisignatures
  pub ops : ℕ
  -- the greatest number of elements of both stacks together
  pub peak : ℕ
  -- the pairs that were found good, in order
  pub checks : Pairs

-- an effect on the main stack, on both stacks, on the main stack and the checks, on these and the
-- count, on the branches
abbrev pub on_main : (Stack → OrFault Stack) → State → OrFault State
on_main effect s = do
  main ← effect s.main
  Ok (record s { main = main })

abbrev pub on_both : (Stack → Stack → OrFault (Stack × Stack)) → State → OrFault State
on_both effect s = do
  stacks ← effect s.main s.alt
  Ok (record s { main = stacks.0; alt = stacks.1 })

abbrev pub on_checks : (Stack → Pairs → OrFault (Stack × Pairs)) → State → OrFault State
on_checks effect s = do
  left ← effect s.main s.checks
  Ok (record s { main = left.0; checks = left.1 })

abbrev pub on_multi : (Stack → ℕ → Pairs → OrFault (Stack × ℕ × Pairs)) → State → OrFault State
on_multi effect s = do
  left ← effect s.main s.ops s.checks
  Ok (record s { main = left.0; ops = left.1; checks = left.2 })

abbrev pub on_branches : (List Bool → OrFault (List Bool)) → State → OrFault State
on_branches effect s = do
  branches ← effect s.branches
  Ok (record s { branches = branches })

-- all open branches are taken
abbrev pub is_live : State → Bool
is_live s = list_all (λ taken. taken) s.branches

-- opens a branch that is taken where the top is as wanted; in a branch that isn't taken, another
-- such one
abbrev pub opened : (live wanted : Bool) → State → OrFault State
opened true wanted s = do
  top ← condition s.main
  Ok (record s { main = top.1; branches = (if wanted then top.0 else not top.0) ∷ s.branches })
opened false wanted s = Ok (record s { branches = false ∷ s.branches })

unfoldable pub open_branch : (wanted : Bool) → State → OrFault State
open_branch wanted s = opened (is_live s) wanted s

-- ELSE turns the innermost branch round
unfoldable pub turned : List Bool → OrFault (List Bool)
turned [] = Err fault.Unbalanced
turned (taken ∷ branches) = Ok (not taken ∷ branches)

-- ENDIF closes it
unfoldable pub closed : List Bool → OrFault (List Bool)
closed [] = Err fault.Unbalanced
closed (taken ∷ branches) = Ok branches

-- what each opcode does
unfoldable pub act : Given → Op → State → OrFault State
act given op.If s = open_branch true s
act given op.NotIf s = open_branch false s
act given op.Else s = on_branches turned s
act given op.EndIf s = on_branches closed s
act given op.Verify s = on_main verify s
act given op.ToAltStack s = on_both to_alt_stack s
act given op.FromAltStack s = on_both from_alt_stack s
act given op.IfDup s = on_main if_dup s
act given op.Dup s = on_main dup s
act given op.Swap s = on_main swap s
act given op.Size s = on_main size s
act given op.Equal s = on_main equal s
act given op.EqualVerify s = on_main equal s >>= on_main verify
act given op.ZeroNotEqual s = on_main zero_not_equal s
act given op.Add s = on_main add s
act given op.BoolAnd s = on_main bool_and s
act given op.BoolOr s = on_main bool_or s
act given op.Ripemd160 s = on_main (hash kind.Ripemd160) s
act given op.Sha256 s = on_main (hash kind.Sha256) s
act given op.Hash160 s = on_main (hash kind.Hash160) s
act given op.Hash256 s = on_main (hash kind.Hash256) s
act given op.CheckSig s = on_checks (check_sig given.checker) s
act given op.CheckSigVerify s = on_checks (check_sig given.checker) s >>= on_main verify
act given op.CheckMultiSig s = on_multi (check_multi_sig given.checker) s
act given op.CheckMultiSigVerify s = on_multi (check_multi_sig given.checker) s >>= on_main verify
act given op.CheckLockTimeVerify s = on_main (lock (λ n. after_holds n given.locks)) s
act given op.CheckSequenceVerify s = on_main (lock (λ n. older_holds n given.locks)) s

-- the opcodes that are carried out whether or not the branches are taken
abbrev pub is_branching : Op → Bool
is_branching op.If = true
is_branching op.NotIf = true
is_branching op.Else = true
is_branching op.EndIf = true
is_branching other = false

-- a step that is carried out, or leaves the state as it is
abbrev pub only_if : Bool → (State → OrFault State) → State → OrFault State
only_if true next s = next s
only_if false next s = Ok s

-- puts a string on the main stack; its push must be minimal
unfoldable pub pushed : Bytes → (minimal : Bool) → State → OrFault State
pushed bytes minimal s = if minimal then Ok (record s { main = bytes ∷ s.main }) else Err fault.NonMinimalPush

-- one opcode more
abbrev pub count_op : State → OrFault State
count_op s = do
  ops ← within_op_limit (s.ops + 1)
  Ok (record s { ops = ops })

abbrev pub fault_of : InstrFault → ScriptFault
fault_of unread.Truncated = fault.Truncated
fault_of unread.Unsupported = fault.Unsupported

-- an item is carried out: it must be readable, a push must not be too long, and an opcode is
-- counted, also where the branches aren't taken
unfoldable pub carry_out : Given → Item → State → OrFault State
carry_out given (item.fault e) s = Err (fault_of e)
carry_out given (item.push bytes minimal) s =
    if nat_lt MAX_SCRIPT_ELEMENT_SIZE (length bytes) then Err fault.ElementSize
    else only_if (is_live s) (pushed bytes minimal) s
carry_out given (item.code op) s = do
  t ← count_op s
  only_if (is_branching op || is_live t) (act given op) t

-- how many elements both stacks have
abbrev pub height : State → ℕ
height s = length s.main + length s.alt

-- the stacks must not be too high
unfoldable pub settle : State → OrFault State
settle s = if nat_lt MAX_STACK_SIZE (height s) then Err fault.StackSize else Ok (record s { peak = max s.peak (height s) })

-- one step
unfoldable pub step : Given → Item → State → OrFault State
step given item s = do
  t ← carry_out given item s
  settle t
