-- What a call on a text gives: what was asked for, or a refusal.
use Rattle.std.specs.Prelude.{◌≢◌, ℕ, nat_lt, Bool, true, false, List, [], ◌∷◌, ◌++◌, length, if◌then◌else◌, Option, None, Some, option_map, Result, Ok, Err}
use Rattle.def_script.specs.Bytes.{Bytes}
use Rattle.def_tree.specs.Tree.{Tree}
use Rattle.def_emit.specs.Emit.{script_of}
use Rattle.def_assets.specs.Assets.{Assets}
use Rattle.def_files.specs.declared.AssetFault.{AssetFault}
use Rattle.def_files.specs.AssetFile.{assets_of}
use Rattle.def_sane.specs.declared.Rules.{Rules}
use Rattle.def_sane.specs.declared.Rules.TheVariants.{Policy, Consensus}
use Rattle.def_sane.specs.declared.Unfit.{Unfit}
use Rattle.def_sane.specs.Unfit.{first_unfit_under, first_unfit_valid_under}
use Rattle.def_script.specs.Witness.{weight}
use Rattle.def_choice.specs.Cheapest.{cheapest}
use Rattle.def_answer.specs.Reading.{Reading, read, refused, HasReading}
use Rattle.def_answer.specs.Lines.{MOST_FILE}
use Rattle.def_choice.specs.declared.choice.Choice.{Choice}
use Rattle.def_choice.specs.declared.choice.Choice.TheVariants as choice
use Rattle.def_answer.specs.Satisfy.{chosen_by, reason_by}
use Rattle.ms_calls.specs.declared.reason.Reason.{Reason}
use Rattle.ms_calls.specs.declared.facts.Facts.{Facts}
use Rattle.ms_calls.specs.Buffers.{written_over}
use Rattle.ms_calls.specs.Facts.{facts_of}
use Rattle.ms_calls.specs.Items.{Joined, joined}
use Rattle.ms_calls.specs.Reasons.{code_of_fault, code_of_reason, code_of_file, file_too_long}

pub data TextReply (A : Type 0) : Type 0 where
  -- what was asked for
  told : A → TextReply A
  -- the text or the asset file is refused
  text_refused : Reason → TextReply A
  file_refused : Reason → TextReply A
  -- there is no canonical satisfaction with the file's assets
  no_satisfaction : TextReply A

-- so it is with what is given for a text's reading, unless the call's code says that memory was wanting or that the text
-- isn't UTF-8
abbrev pub HoldsOfReply : {A : Type 0} → (text : Bytes) → (code : ℕ) → (given : Reading → TextReply A) → (IsSo : TextReply A → Type 0) → Type 0
HoldsOfReply text code given IsSo = (reading : Reading) → HasReading text reading → code ≢ 7 → code ≢ 11 → IsSo (given reading)

-- ---- what stands after the call

-- its code, as the program's own
abbrev pub code_given : {A : Type 0} → TextReply A → ℕ
code_given (told a) = 0
code_given (text_refused reason) = 2
code_given (file_refused reason) = 3
code_given no_satisfaction = 4

-- the reason, in place of the one before where there is a refusal
abbrev pub reason_after : {A : Type 0} → (before : Reason) → TextReply A → Reason
reason_after before (told a) = before
reason_after before (text_refused reason) = reason
reason_after before (file_refused reason) = reason
reason_after before no_satisfaction = before

-- a value, in place of the one before where it is told
abbrev pub value_after : {A : Type 0} → (before : A) → TextReply A → A
value_after before (told a) = a
value_after before (text_refused reason) = before
value_after before (file_refused reason) = before
value_after before no_satisfaction = before

-- bytes or the like, over the beginning of a buffer where they are told, and how many they are
abbrev pub buffer_after : {A : Type 0} → (before : List A) → TextReply (List A) → List A
buffer_after before (told items) = written_over before items
buffer_after before (text_refused reason) = before
buffer_after before (file_refused reason) = before
buffer_after before no_satisfaction = before

abbrev pub needed_after : {A : Type 0} → (before : ℕ) → TextReply (List A) → ℕ
needed_after before (told items) = length items
needed_after before (text_refused reason) = before
needed_after before (file_refused reason) = before
needed_after before no_satisfaction = before

-- ---- what is given

-- the limits that hold
abbrev pub rules_for : (consensus : Bool) → Rules
rules_for true = Consensus
rules_for false = Policy

-- how a satisfaction is chosen: the strict one of a sane text, or the cheapest one of a valid text, which may be malleable
abbrev pub choice_for : (malleable : Bool) → Choice
choice_for false = choice.Strict
choice_for true = choice.Cheapest

-- the reason against a tree, or else what comes next
abbrev pub unless_unfit : {A : Type 0} → Option Unfit → (offsets : List ℕ) → TextReply A → TextReply A
unless_unfit None offsets next = next
unless_unfit (Some unfit) offsets next = text_refused (code_of_reason offsets unfit)

-- the refusal of a text, the first reason against its tree, or else what comes next
abbrev pub text_given : {A : Type 0} → (first_reason : Tree → Option Unfit) → (next : Tree → TextReply A) → Reading → TextReply A
text_given first_reason next (read tree offsets) = unless_unfit (first_reason tree) offsets (next tree)
text_given first_reason next (refused fault) = text_refused (code_of_fault fault)

-- the refusal of a file, or of arrays in its place, or else what comes next
abbrev pub with_file : {A B E : Type 0} → (code : E → Reason) → (next : B → TextReply A) → Result B E → TextReply A
with_file code next (Ok file) = next file
with_file code next (Err fault) = file_refused (code fault)

-- the refusal of an asset file, or else what comes next
abbrev pub with_assets : {A : Type 0} → (next : Assets → TextReply A) → Result Assets AssetFault → TextReply A
with_assets next (Ok assets) = next assets
with_assets next (Err fault) = file_refused (code_of_file fault)

abbrev pub file_given : {A : Type 0} → (next : Assets → TextReply A) → (file : Bytes) → TextReply A
file_given next file =
    if nat_lt MOST_FILE (length file) then file_refused file_too_long else with_assets next (assets_of file)

-- what is told of a satisfaction, where there is one
abbrev pub where_one : {A : Type 0} → Option A → TextReply A
where_one None = no_satisfaction
where_one (Some a) = told a

-- the Script of a valid text
abbrev pub script_given : Rules → Reading → TextReply Bytes
script_given rules = text_given (first_unfit_valid_under rules) (λ tree. told (script_of tree))

-- what is known of a sane text
abbrev pub facts_given : Rules → Reading → TextReply Facts
facts_given rules = text_given (first_unfit_under rules) (λ tree. told (facts_of tree))

-- the least weight of a canonical satisfaction
abbrev pub least_weight_given : (file : Bytes) → Tree → TextReply ℕ
least_weight_given file tree = file_given (λ assets. where_one (option_map weight (cheapest tree assets))) file

-- that of a valid text
abbrev pub weight_given : Rules → (file : Bytes) → Reading → TextReply ℕ
weight_given rules file = text_given (first_unfit_valid_under rules) (least_weight_given file)

-- the items of the witness of a satisfaction: its stack, bottom first, and the Script
abbrev pub witness_items : Tree → (stack : List Bytes) → Joined
witness_items tree stack = joined (stack ++ script_of tree ∷ [])

-- those of a satisfaction that is chosen
abbrev pub chosen_given : (choice : Tree → Assets → Option (List Bytes)) → (file : Bytes) → Tree → TextReply Joined
chosen_given choice file tree =
    file_given (λ assets. where_one (option_map (witness_items tree) (choice tree assets))) file

-- those of the satisfaction of a text
abbrev pub witness_given : Choice → Rules → (file : Bytes) → Reading → TextReply Joined
witness_given choice rules file = text_given (reason_by choice rules) (chosen_given (chosen_by choice) file)

-- those by assets in arrays, which may be refused as those of a file
abbrev pub held_given : (choice : Tree → Assets → Option (List Bytes)) → (held : Result Assets AssetFault) → Tree → TextReply Joined
held_given choice held tree = with_assets (λ assets. where_one (option_map (witness_items tree) (choice tree assets))) held

abbrev pub satisfied_given : Choice → Rules → (held : Result Assets AssetFault) → Reading → TextReply Joined
satisfied_given choice rules held = text_given (reason_by choice rules) (held_given (chosen_by choice) held)

-- by what a wallet holds, and by an asset file, as the two words say how to choose
abbrev pub satisfied_by : (malleable consensus : Bool) → (held : Result Assets AssetFault) → Reading → TextReply Joined
satisfied_by malleable consensus = satisfied_given (choice_for malleable) (rules_for consensus)

abbrev pub witness_by : (malleable consensus : Bool) → (file : Bytes) → Reading → TextReply Joined
witness_by malleable consensus = witness_given (choice_for malleable) (rules_for consensus)

-- their bytes and their lengths
abbrev pub bytes_given : TextReply Joined → TextReply Bytes
bytes_given (told items) = told items.bytes
bytes_given (text_refused reason) = text_refused reason
bytes_given (file_refused reason) = file_refused reason
bytes_given no_satisfaction = no_satisfaction

abbrev pub lengths_given : TextReply Joined → TextReply (List ℕ)
lengths_given (told items) = told items.lengths
lengths_given (text_refused reason) = text_refused reason
lengths_given (file_refused reason) = file_refused reason
lengths_given no_satisfaction = no_satisfaction

-- what stands in the places of a call for items: their bytes and their lengths over the beginnings of two buffers, and how many
-- bytes and how many items there are
abbrev pub bytes_after : (before : Bytes) → TextReply Joined → Bytes
bytes_after before given = buffer_after before (bytes_given given)

abbrev pub bytes_needed_after : (before : ℕ) → TextReply Joined → ℕ
bytes_needed_after before given = needed_after before (bytes_given given)

abbrev pub lengths_after : (before : List ℕ) → TextReply Joined → List ℕ
lengths_after before given = buffer_after before (lengths_given given)

abbrev pub items_count_after : (before : ℕ) → TextReply Joined → ℕ
items_count_after before given = needed_after before (lengths_given given)
