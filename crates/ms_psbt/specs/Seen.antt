-- What is read, as contracts see it.
use Rattle.std.specs.Prelude.{◌≡◌, ℕ, List, length, Option, Some, None, Result, Ok, Err}
use Rattle.def_script.specs.Bytes.{Bytes}
use Rattle.def_psbt.specs.declared.Refusal.{Refusal}
use Rattle.ms_psbt.specs.declared.stop.ReadStop.{ReadStop}
use Rattle.ms_psbt.specs.declared.stop.ReadStop.TheVariants as stop

-- what a definition gives is what was read, as contracts see it
abbrev pub Reads : {A B : Type 0} → (seen : B → A) → Result B Refusal → Result A Refusal → Type 0
Reads seen (Ok read) reading = reading ≡ Ok (seen read)
Reads seen (Err refusal) reading = reading ≡ Err refusal

-- the same; only want of memory may come in its place
abbrev pub ReadsOr : {A B : Type 0} → (seen : B → A) → Result B ReadStop → Result A Refusal → Type 0
ReadsOr seen (Ok read) reading = reading ≡ Ok (seen read)
ReadsOr seen (Err (stop.Refused refusal)) reading = reading ≡ Err refusal
ReadsOr seen (Err stop.Memory) reading = Unit {0}

-- a part that is there, and none where there is none
abbrev pub IsPart : {A B : Type 0} → (seen : B → A) → Option B → Option A → Type 0
IsPart seen (Some part) reading = reading ≡ Some (seen part)
IsPart seen None reading = reading ≡ None

-- the bytes behind a part
abbrev pub rest_of : {A : Type 0} → Option (A × Bytes) → Option Bytes
rest_of (Some part) = Some part.1
rest_of None = None

-- how many parts a list has, and the bytes behind it
abbrev pub counted_part : {A : Type 0} → Option (List A × Bytes) → Option (ℕ × Bytes)
counted_part (Some part) = Some (length part.0, part.1)
counted_part None = None
