-- What reading a part of a file answers.
use Rattle.std.specs.Prelude.{◌≡◌, ◌⊎◌, ℕ, not, nat_le, Bool, List, [], ◌∷◌, length, map, Option, Some, None, is_some, option_map, Result, Ok, Err}
use Rattle.std.specs.List.{position_from}
use Rattle.std.specs.Str.{bytes_eq}
use Rattle.serde_json.specs.Data.{Data}
use Rattle.def_script.specs.Bytes.{Bytes}
use Rattle.def_files.specs.declared.Format.{Format}
use Rattle.def_files.specs.declared.AssetFault.{AssetFault}
use Rattle.def_files.specs.declared.AssetFault.TheVariants as fault
use Rattle.def_files.specs.declared.Member.TheVariants as member
use Rattle.def_machine.specs.Stacks.{Pairs}
use Rattle.def_script.specs.Key.{is_key}
use Rattle.def_files.specs.Parts.{version, sequence, locktime, same_under}
use Rattle.def_files.specs.Refusals.{Refusal, unless, no_repeat, MOST_SIGNATURES}
use Rattle.def_files.specs.AssetFile.{is_signature, is_preimage, MOST_PREIMAGES}

-- the first of refusals that applies
abbrev pub first : {E : Type 0} → List (Option E) → Option E
first [] = None
first (None ∷ refusals) = first refusals
first (Some fault ∷ refusals) = Some fault

-- the refusals of a file's numbers of the locks, each by its own fault
abbrev pub lock_refusals : {E : Type 0} → Data → (no_version no_sequence no_locktime : E) → List (Option E)
lock_refusals file no_version no_sequence no_locktime =
    unless (is_some (version file)) no_version ∷
    unless (is_some (sequence file)) no_sequence ∷
    unless (is_some (locktime file)) no_locktime ∷ []

-- the refusal of the first element for which a test doesn't hold
abbrev pub first_refused : {A E : Type 0} → (holds : A → Bool) → (ℕ → E) → List A → Option E
first_refused holds fault xs = option_map fault (position_from (λ x. not (holds x)) 0 xs)

-- a part of a file is refused, or isn't and has this value, as contracts see what was read
abbrev pub Reads : {A B E : Type 0} → Option E → (seen : B → A) → A → Result B E → Type 0
Reads refusal seen value (Ok part) = (refusal ≡ None) × (seen part ≡ value)
Reads refusal seen value (Err why) = refusal ≡ Some why

-- the same, want of memory aside, which is this fault
abbrev pub ReadsOr : {A B E : Type 0} → (memory : E) → Option E → (seen : B → A) → A → Result B E → Type 0
ReadsOr memory refusal seen value (Ok part) = (refusal ≡ None) × (seen part ≡ value)
ReadsOr memory refusal seen value (Err why) = (why ≡ memory) ⊎ (refusal ≡ Some why)

-- this is the answer, want of memory aside
abbrev pub IsOr : {A E : Type 0} → (memory : E) → (answer result : Result A E) → Type 0
IsOr memory answer result = (result ≡ answer) ⊎ (result ≡ Err memory)

-- of an asset file or a run file
abbrev pub ReadsOrMemory : {A B : Type 0} → Refusal → (seen : B → A) → A → Result B AssetFault → Type 0
ReadsOrMemory refusal seen value result = ReadsOr fault.Memory refusal seen value result

abbrev pub IsOrMemory : {A : Type 0} → (answer result : Result A AssetFault) → Type 0
IsOrMemory answer result = IsOr fault.Memory answer result

-- the first key that stands earlier too
unfoldable pub repeated : {B E : Type 0} → (ℕ → E) → List (Bytes × B) → Option E
repeated fault pairs = no_repeat bytes_eq fault (map (λ pair. pair.0) pairs)

-- the first pair that is the same as an earlier one, in a file of a format
unfoldable pub repeats : {E : Type 0} → Format → (ℕ → E) → Pairs → Option E
repeats format fault pairs = no_repeat (same_under format) fault pairs

-- the refusals of an asset file that speak of its byte strings
abbrev pub value_refusals : Format → Pairs → (preimages : List Bytes) → List Refusal
value_refusals format pairs preimages =
    first_refused (λ pair. is_key pair.0) fault.KeyForm pairs ∷
    first_refused (λ pair. is_signature pair.1) fault.SigLength pairs ∷
    first_refused is_preimage fault.PreimageLength preimages ∷
    unless (nat_le (length pairs) MOST_SIGNATURES) (fault.TooMany member.Signatures) ∷
    unless (nat_le (length preimages) MOST_PREIMAGES) (fault.TooMany member.Preimages) ∷
    repeats format fault.RepeatedKey pairs ∷ []
