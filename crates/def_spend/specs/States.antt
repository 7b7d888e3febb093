-- The state of an input, and the satisfaction of one that is Ready.
use Rattle.std.specs.Prelude.{ℕ, ◌==◌, ◌&&◌, ◌||◌, not, nat_lt, Bool, true, false, List, length, is_some, [], if◌then◌else◌, Option, Some, None, unwrap_or, Result, Ok, Err}
use Rattle.std.specs.List.{list_any}
use Rattle.std.specs.Option.{option_and_then}
use Rattle.def_script.specs.Bytes.{Bytes}
use Rattle.def_machine.specs.Stacks.{Pairs}
use Rattle.def_tree.specs.Tree.{Tree}
use Rattle.def_sane.specs.declared.Unfit.{Unfit}
use Rattle.def_sane.specs.Unfit.{first_unfit}
use Rattle.def_choice.specs.Strict.{strict}
use Rattle.def_psbt.specs.Map.{Map}
use Rattle.def_spend.specs.declared.State.{State}
use Rattle.def_spend.specs.declared.State.TheVariants as state
use Rattle.def_spend.specs.Fields.{signatures_in, preimages_in, last_byte, asked_type}
use Rattle.def_spend.specs.HashTypes.{hash_type_of}
use Rattle.def_spend.specs.Input.{Spend}
use Rattle.def_spend.specs.Good.{assets_of}
use Rattle.def_spend.specs.Reading.{Input, script_code}

-- a signature of another type than this one
abbrev pub has_other_type : (type : ℕ) → Pairs → Bool
has_other_type type pairs = list_any (λ pair. not (last_byte pair.1 == type)) pairs

-- where there is a signature, what is asked is a hash type, and each signature ends in it
abbrev pub is_sighash_wrong : (type : ℕ) → Pairs → Bool
is_sighash_wrong type pairs = nat_lt 0 (length pairs) && (not (is_some (hash_type_of type)) || has_other_type type pairs)

-- how many signatures, and how many preimages, are taken
abbrev pub MOST_HELD : ℕ
MOST_HELD = 256

abbrev pub are_too_many : (fields : Map) → Bool
are_too_many fields = nat_lt MOST_HELD (length (signatures_in fields)) || nat_lt MOST_HELD (length (preimages_in fields))

abbrev pub choice_state : Option (List Bytes) → State
choice_state None = state.Unsatisfied
choice_state (Some stack) = state.Ready

abbrev pub held_state : Tree → Spend → State
held_state tree spend =
    if is_sighash_wrong (asked_type spend.fields) (signatures_in spend.fields) then state.WrongSighash
    else if are_too_many spend.fields then state.TooMany
    else choice_state (strict tree (assets_of spend))

abbrev pub unless_unfit : Option Unfit → State → State
unless_unfit None next = next
unless_unfit (Some unfit) next = state.Unfit unfit

abbrev pub tree_state : Option Tree → Spend → State
tree_state None spend = state.NoReading
tree_state (Some tree) spend = unless_unfit (first_unfit tree) (held_state tree spend)

abbrev pub state_by : Result Bytes State → Option Tree → Spend → State
state_by (Ok script) found spend = tree_state found spend
state_by (Err state) found spend = state

-- the state of an input
abbrev pub state_of : Input → State
state_of input = state_by (script_code input.spend) input.tree input.spend

-- ---- what states have

-- the states in which the miniscript is told, and those in which it is sane
abbrev pub is_read : State → Bool
is_read state.Final = false
is_read state.NoUtxo = false
is_read state.WrongUtxo = false
is_read state.OtherOutput = false
is_read state.NoScript = false
is_read state.WrongScript = false
is_read state.NoReading = false
is_read (state.Unfit unfit) = true
is_read state.WrongSighash = true
is_read state.TooMany = true
is_read state.Unsatisfied = true
is_read state.Ready = true

abbrev pub is_sane : State → Bool
is_sane (state.Unfit unfit) = false
is_sane other = is_read other

abbrev pub is_final : State → Bool
is_final state.Final = true
is_final other = false

abbrev pub is_ready : State → Bool
is_ready state.Ready = true
is_ready other = false

-- ---- the satisfaction

-- the strict satisfaction of the miniscript, where there is one
abbrev pub choice_of : Input → Option (List Bytes)
choice_of input = option_and_then (λ tree. strict tree (assets_of input.spend)) input.tree

-- the stack of a Ready input
abbrev pub stack_of : Input → List Bytes
stack_of input = unwrap_or (choice_of input) []
