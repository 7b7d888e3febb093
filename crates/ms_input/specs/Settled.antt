-- What is found of an input whose Script is known.
use Rattle.std.specs.Prelude.{◌≡◌, ◌||◌, Bool, true, false, List, [], map, filter, Option, Some, None, unwrap_or, if◌then◌else◌}
use Rattle.def_machine.specs.declared.Locks.{Locks}
use Rattle.def_machine.specs.Stacks.{Pairs}
use Rattle.def_script.specs.Bytes.{Bytes}
use Rattle.def_tree.specs.Tree.{Tree}
use Rattle.def_assets.specs.Assets.{Assets}
use Rattle.def_curve.specs.declared.Judgement.{Judgement}
use Rattle.def_curve.specs.Judgement.{judge}
use Rattle.def_spend.specs.declared.State.{State}
use Rattle.def_spend.specs.declared.State.TheVariants as state
use Rattle.def_spend.specs.declared.Verification.{Verification}
use Rattle.def_spend.specs.declared.Verification.TheVariants.{Verified, Unverified}
use Rattle.def_spend.specs.Fields.{signatures_in, asked_type}
use Rattle.def_spend.specs.Hashes.{hash_by}
use Rattle.def_spend.specs.Input.{Spend, locks_of}
use Rattle.def_spend.specs.Good.{word_of, is_good, assets_of}
use Rattle.def_spend.specs.Reading.{Input}
use Rattle.def_spend.specs.States.{is_ready, choice_of}
use Rattle.ms_input.specs.Held.{Held, held_in}
use Rattle.ms_input.specs.declared.finalize.judging.Judging.{Judging}
use Rattle.ms_input.specs.declared.finalize.judging.Judging.TheVariants as judging

-- ---- what is told of an input

-- what a signature of the asked type signs, or no byte where that is no hash type
abbrev pub asked_hash : Spend → Bytes
asked_hash spend = unwrap_or (hash_by (asked_type spend.fields) spend) []

-- which signatures count, and where the good ones do, what those of the asked type sign
abbrev pub IsJudged : Judging → Spend → Type 0
IsJudged judging.Unverified spend = spend.verification ≡ Unverified
IsJudged (judging.Verified hash) spend = (spend.verification ≡ Verified) × (hash.now ≡ asked_hash spend)

-- these are the fields of the input's map, and the values of its locks, and so its signatures are judged
pub record IsOf (spend : Spend) (held : Held) (locks : Locks) (told : Judging) : Type 0 where
  pub fields : held ≡ held_in spend.fields
  pub values : locks ≡ locks_of spend
  pub judged : IsJudged told spend

abbrev pub input_of : Spend → Option Tree → Input
input_of spend tree = record { spend = spend; tree = tree }

-- ---- what is found

-- the strict satisfaction of an input in this state, where that is Ready
abbrev pub chosen_in : State → Input → Option (List Bytes)
chosen_in state input = if is_ready state then choice_of input else None

-- the states that hang on what the map holds
abbrev pub is_unsatisfied : State → Bool
is_unsatisfied state.Unsatisfied = true
is_unsatisfied other = false

abbrev pub is_late : State → Bool
is_late state = is_ready state || is_unsatisfied state

-- the assets of an input in this state, where it hangs on them
abbrev pub assets_in : State → Spend → Option Assets
assets_in state spend = if is_late state then Some (assets_of spend) else None

-- what each signature is, where the good ones count
abbrev pub words_by : Verification → Spend → Option (List Judgement)
words_by Verified spend = Some (map (word_of spend) (signatures_in spend.fields))
words_by Unverified spend = None

-- and where the state hangs on them
abbrev pub words_in : State → Spend → Option (List Judgement)
words_in state spend = if is_late state then words_by spend.verification spend else None

-- ---- by one hash

-- what a signature by a key is for a hash
abbrev pub word_for : (hash : Bytes) → (pair : Bytes × Bytes) → Judgement
word_for hash pair = judge pair.0 hash pair.1

-- the signatures that are good for it
abbrev pub good_for : (hash : Bytes) → Pairs → Pairs
good_for hash pairs = filter (λ pair. is_good (word_for hash pair)) pairs
