-- The parts of the report on a PSBT, as single calls write them. No public clause cites it, so it need not be believed.
use Rattle.std.specs.Prelude.{ℕ, Bool, [], ◌++◌, if◌then◌else◌, Option}
use Rattle.def_script.specs.Bytes.{Bytes}
use Rattle.def_tree.specs.Tree.{Tree}
use Rattle.def_policy.specs.Print.{printed as printed_policy}
use Rattle.def_psbt.specs.Transaction.{Transaction}
use Rattle.def_spend.specs.declared.State.{State}
use Rattle.def_spend.specs.Good.{assets_of}
use Rattle.def_spend.specs.Input.{Spend}
use Rattle.def_spend.specs.Reading.{Input}
use Rattle.def_spend.specs.States.{state_of, is_read, is_sane, stack_of}
use Rattle.def_spend.specs.Asking.{plan_with}
use Rattle.def_answer.specs.Decode.{decode_report}
use Rattle.def_answer.specs.Policy.{policy_of}
use Rattle.def_psbt_answer.specs.Fee.{paid, fee_line_by}
use Rattle.def_psbt_answer.specs.Lines.{psbt_line, final_id_line, output_lines, policy_line}
use Rattle.def_psbt_answer.specs.Report.{tree_lines, last_lines, plan_lines}

-- what a transaction that has this id with its final scriptSigs, where there is one, does with so many satoshis, which are known
-- and proved or not
abbrev pub money_lines : Transaction → (id : Option Bytes) → (satoshis : Option ℕ) → (are_proved : Bool) → Bytes
money_lines transaction id satoshis are_proved =
    psbt_line transaction ++ final_id_line id ++ output_lines 0 transaction.outputs ++ fee_line_by satoshis (paid transaction.outputs) are_proved

-- what is told of an input's miniscript, where it has one
abbrev pub lines_of_tree : Input → Spend → Bytes
lines_of_tree input spend = tree_lines (state_of input) input.tree spend (stack_of input)

-- the printed form of a miniscript and its policy, as far as the state goes
abbrev pub told_tree : State → Tree → Bytes
told_tree state tree =
    (if is_read state then decode_report tree else []) ++ (if is_sane state then policy_line (printed_policy (policy_of tree)) else [])

-- what is lacking of an input with this miniscript, or what its satisfaction weighs
abbrev pub last_lines_of : Input → Spend → Tree → Bytes
last_lines_of input spend tree = last_lines (state_of input) tree spend (stack_of input)

-- the plan for a miniscript
abbrev pub lines_of_plan : Spend → Tree → Bytes
lines_of_plan spend tree = plan_lines (assets_of spend) (plan_with tree (assets_of spend))
