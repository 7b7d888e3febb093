-- What is read, as contracts see it.
use Rattle.std.specs.Prelude.{◌≡◌, Option, Some, None}

-- what was read is what a definition gives, and nothing where it gives nothing
abbrev pub IsSeen : {A B : Type 0} → (seen : B → A) → Option B → Option A → Type 0
IsSeen seen (Some read) reading = reading ≡ Some (seen read)
IsSeen seen None reading = reading ≡ None
