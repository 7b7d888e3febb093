-- Why a file is refused, by the faults of its kind. The refusals are listed in the order of their numbers, and those of one number in
-- the order of the members; the first that applies is the one that is given, with the least place.
use Rattle.std.specs.Prelude.{ℕ, not, nat_le, Bool, is_some, if◌then◌else◌, List, [], ◌∷◌, length, take, position, Option, Some, None, option_map, Result, Ok, Err}
use Rattle.std.specs.List.{list_any, enumerate_from}
use Rattle.serde_json.specs.Data.{Data}
use Rattle.def_files.specs.declared.Member.{Member}
use Rattle.def_files.specs.declared.Member.TheVariants as member
use Rattle.def_files.specs.declared.AssetFault.{AssetFault}
use Rattle.def_files.specs.declared.AssetFault.TheVariants as fault
use Rattle.def_files.specs.Json.{is_object, is_list_of}
use Rattle.def_files.specs.Parts.{version, sequence, locktime, format, list, elements}

-- a refusal of an asset file or a run file, where it applies
abbrev pub Refusal : Type 0
Refusal = Option AssetFault

-- a refusal unless a test holds
abbrev pub unless : {E : Type 0} → Bool → E → Option E
unless holds fault = if holds then None else Some fault

-- the refusal of the first element for which a test doesn't hold
abbrev pub unless_each : {A E : Type 0} → (holds : A → Bool) → (ℕ → E) → List A → Option E
unless_each holds fault xs = option_map fault (position (λ x. not (holds x)) xs)

-- the value, unless one of the refusals applies: then the first of them
abbrev pub unless_any : {A E : Type 0} → List (Option E) → A → Result A E
unless_any [] value = Ok value
unless_any (None ∷ refusals) value = unless_any refusals value
unless_any (Some fault ∷ refusals) value = Err fault

-- what a file gives: where it has no reading, it is refused
abbrev pub given : {A : Type 0} → (Data → Result A AssetFault) → Option Data → Result A AssetFault
given value None = Err fault.NotJson
given value (Some file) = value file

-- ---- the refusals that both files have

-- the file isn't an object
abbrev pub no_object : Data → Refusal
no_object file = unless (is_object file) (fault.Shape member.Whole)

-- a member isn't a list, or an element of it is wrong
abbrev pub no_list_of : (right : Data → Bool) → Member → Data → Refusal
no_list_of right m file = unless (is_list_of right (list m file)) (fault.Shape m)

-- the numbers of the locks
abbrev pub no_version : Data → Refusal
no_version file = unless (is_some (version file)) (fault.Number member.Version)

abbrev pub no_sequence : Data → Refusal
no_sequence file = unless (is_some (sequence file)) (fault.Number member.Sequence)

abbrev pub no_locktime : Data → Refusal
no_locktime file = unless (is_some (locktime file)) (fault.Number member.Locktime)

-- the format of an asset file
abbrev pub no_format : Data → Refusal
no_format file = unless (is_some (format file)) (fault.Number member.Format)

-- a text of an element is no string of hexadecimal digits, two for each byte
abbrev pub no_hex : (right : Data → Bool) → Member → Data → Refusal
no_hex right m file = unless_each right (fault.Hex m) (elements m file)

-- a list is too long
abbrev pub too_many : (most : ℕ) → Member → Data → Refusal
too_many most m file = unless (nat_le (length (elements m file)) most) (fault.TooMany m)

-- the first element of a list that is the same as an earlier one
abbrev pub no_repeat : {A E : Type 0} → (same : A → A → Bool) → (ℕ → E) → List A → Option E
no_repeat same fault xs =
    unless_each (λ entry. not (list_any (same entry.1) (take entry.0 xs))) fault (enumerate_from 0 xs)

-- how many signatures a file may have
abbrev pub MOST_SIGNATURES : ℕ
MOST_SIGNATURES = 256
