-- The machine as the code keeps it, with two numbers in place of the list of open branches, and the
-- same steps of it.
use Rattle.std.specs.Prelude.{ℕ, ◌+◌, ◌||◌, not, max, nat_lt, Bool, true, false, List, [], ◌∷◌, length, if◌then◌else◌, Ok, Err}
use Rattle.def_hash.specs.declared.HashKind.TheVariants as kind
use Rattle.def_script.specs.declared.Op.{Op}
use Rattle.def_script.specs.declared.Op.TheVariants as op
use Rattle.def_script.specs.Bytes.{Bytes}
use Rattle.def_script.specs.Item.{Item}
use Rattle.def_script.specs.Item as item
use Rattle.def_machine.specs.declared.ScriptFault.TheVariants as fault
use Rattle.def_script.specs.Limits.{MAX_SCRIPT_ELEMENT_SIZE, MAX_STACK_SIZE}
use Rattle.def_machine.specs.Locks.{after_holds, older_holds}
use Rattle.def_machine.specs.Faults.{OrFault, ◌>>=◌}
use Rattle.def_machine.specs.Stacks.{Stack, Pairs}
use Rattle.def_machine.specs.Effects.{verify, condition, to_alt_stack, from_alt_stack, if_dup, dup, swap, size, equal, zero_not_equal, add, bool_and, bool_or, hash, check_sig, lock}
use Rattle.def_machine.specs.MultiSig.{within_op_limit, check_multi_sig}
use Rattle.def_machine.specs.Machine.{Given, State, is_branching, fault_of}
use Rattle.def_machine.specs.Run.{Outcome, accepted, refused, is_clean}
use Rattle.ms_interp.specs.declared.branches.Branches.{Branches}
use Rattle.ms_interp.specs.declared.machine.Machine.{Machine}
use Rattle.ms_interp.specs.Scaffolding.Branches.{branches_of, all_taken, with_branch, turned, closed, balanced}

-- a state as the code keeps it
abbrev pub machine_of : State → Machine
machine_of s = record { main = s.main; alt = s.alt; branches = branches_of s.branches; ops = s.ops; peak = s.peak; checks = s.checks }

-- an effect on the main stack, on both stacks, on the main stack and the checks, on these and the
-- count, on the branches
abbrev pub on_main : (Stack → OrFault Stack) → Machine → OrFault Machine
on_main effect m = do
  main ← effect m.main
  Ok (record m { main = main })

abbrev pub on_both : (Stack → Stack → OrFault (Stack × Stack)) → Machine → OrFault Machine
on_both effect m = do
  stacks ← effect m.main m.alt
  Ok (record m { main = stacks.0; alt = stacks.1 })

abbrev pub on_checks : (Stack → Pairs → OrFault (Stack × Pairs)) → Machine → OrFault Machine
on_checks effect m = do
  left ← effect m.main m.checks
  Ok (record m { main = left.0; checks = left.1 })

abbrev pub on_multi : (Stack → ℕ → Pairs → OrFault (Stack × ℕ × Pairs)) → Machine → OrFault Machine
on_multi effect m = do
  left ← effect m.main m.ops m.checks
  Ok (record m { main = left.0; ops = left.1; checks = left.2 })

abbrev pub on_branches : (Branches → OrFault Branches) → Machine → OrFault Machine
on_branches effect m = do
  branches ← effect m.branches
  Ok (record m { branches = branches })

-- opens a branch
abbrev pub opened : (live wanted : Bool) → Machine → OrFault Machine
opened true wanted m = do
  top ← condition m.main
  Ok (record m { main = top.1; branches = with_branch (if wanted then top.0 else not top.0) m.branches })
opened false wanted m = Ok (record m { branches = with_branch false m.branches })

unfoldable pub open_branch : (wanted : Bool) → Machine → OrFault Machine
open_branch wanted m = opened (all_taken m.branches) wanted m

-- what each opcode does
unfoldable pub act : Given → Op → Machine → OrFault Machine
act given op.If m = open_branch true m
act given op.NotIf m = open_branch false m
act given op.Else m = on_branches turned m
act given op.EndIf m = on_branches closed m
act given op.Verify m = on_main verify m
act given op.ToAltStack m = on_both to_alt_stack m
act given op.FromAltStack m = on_both from_alt_stack m
act given op.IfDup m = on_main if_dup m
act given op.Dup m = on_main dup m
act given op.Swap m = on_main swap m
act given op.Size m = on_main size m
act given op.Equal m = on_main equal m
act given op.EqualVerify m = on_main equal m >>= on_main verify
act given op.ZeroNotEqual m = on_main zero_not_equal m
act given op.Add m = on_main add m
act given op.BoolAnd m = on_main bool_and m
act given op.BoolOr m = on_main bool_or m
act given op.Ripemd160 m = on_main (hash kind.Ripemd160) m
act given op.Sha256 m = on_main (hash kind.Sha256) m
act given op.Hash160 m = on_main (hash kind.Hash160) m
act given op.Hash256 m = on_main (hash kind.Hash256) m
act given op.CheckSig m = on_checks (check_sig given.checker) m
act given op.CheckSigVerify m = on_checks (check_sig given.checker) m >>= on_main verify
act given op.CheckMultiSig m = on_multi (check_multi_sig given.checker) m
act given op.CheckMultiSigVerify m = on_multi (check_multi_sig given.checker) m >>= on_main verify
act given op.CheckLockTimeVerify m = on_main (lock (λ n. after_holds n given.locks)) m
act given op.CheckSequenceVerify m = on_main (lock (λ n. older_holds n given.locks)) m

abbrev pub only_if : Bool → (Machine → OrFault Machine) → Machine → OrFault Machine
only_if true next m = next m
only_if false next m = Ok m

-- a push is carried out
unfoldable pub pushed : Bytes → (minimal : Bool) → Machine → OrFault Machine
pushed bytes minimal m = if minimal then Ok (record m { main = bytes ∷ m.main }) else Err fault.NonMinimalPush

unfoldable pub carry_push : Bytes → (minimal : Bool) → Machine → OrFault Machine
carry_push bytes minimal m =
    if nat_lt MAX_SCRIPT_ELEMENT_SIZE (length bytes) then Err fault.ElementSize
    else only_if (all_taken m.branches) (pushed bytes minimal) m

-- an opcode is counted and carried out
abbrev pub count_op : Machine → OrFault Machine
count_op m = do
  ops ← within_op_limit (m.ops + 1)
  Ok (record m { ops = ops })

unfoldable pub carry_op : Given → Op → Machine → OrFault Machine
carry_op given op m = do
  t ← count_op m
  only_if (is_branching op || all_taken t.branches) (act given op) t

unfoldable pub carry_out : Given → Item → Machine → OrFault Machine
carry_out given (item.fault e) m = Err (fault_of e)
carry_out given (item.push bytes minimal) m = carry_push bytes minimal m
carry_out given (item.code op) m = carry_op given op m

-- the stacks must not be too high
abbrev pub height : Machine → ℕ
height m = length m.main + length m.alt

unfoldable pub settle : Machine → OrFault Machine
settle m = if nat_lt MAX_STACK_SIZE (height m) then Err fault.StackSize else Ok (record m { peak = max m.peak (height m) })

-- one step
unfoldable pub step : Given → Item → Machine → OrFault Machine
step given item m = do
  t ← carry_out given item m
  settle t

-- what comes after a machine; a fault refuses the run at the place
abbrev pub leads : OrFault Machine → (place : ℕ) → (Machine → Outcome) → Outcome
leads (Ok m) place next = next m
leads (Err e) place next = refused e place

-- the tests at the end
unfoldable pub finish : Machine → OrFault Machine
finish m = do
  none ← balanced m.branches
  one ← is_clean m.main
  Ok m

abbrev pub ended : ℕ → Machine → Outcome
ended place m = leads (finish m) place (λ t. accepted t.ops t.peak t.checks)

-- items carried out one after the other, to the end
unfoldable pub steps : Given → List Item → (place : ℕ) → Machine → Outcome
steps given [] place m = ended place m
steps given (item ∷ items) place m = leads (step given item m) place (λ t. steps given items (place + 1) t)
