-- A call that answers words: what it did to its source and to its sink, and with which status it ended.
use Rattle.std.specs.Prelude.{◌≡◌, ℕ, ◌-◌, ◌^◌, ◌<◌, ◌⊎◌, List, Option}

-- of a source the bytes that are left, of a sink those that were written, where it tells them, and its count of
-- faults, before a call and after it
pub record Side : Type 0 where
  pub old : Option (List ℕ)
  pub new : Option (List ℕ)
  pub before : ℕ
  pub now : ℕ

-- by what tells the bytes and the faults
abbrev pub side : {X : Type 0} → (bytes : X → Option (List ℕ)) → (faults : X → ℕ) → (old new : X) → Side
side bytes faults old new = record { old = bytes old; new = bytes new; before = faults old; now = faults new }

-- the words of a call, what it did to the source and to the sink, and its status
pub record CallWith (S : Type 0) : Type 0 where
  pub words : List (List ℕ)
  pub source : Side
  pub sink : Side
  pub status : S

abbrev pub call : {S : Type 0} → (words : List (List ℕ)) → (source sink : Side) → S → CallWith S
call words source sink status = record { words = words; source = source; sink = sink; status = status }

-- ---- faults, whose counts stop at the last value of their counter

-- the last value of a counter of 64 bits
abbrev pub LAST_COUNT : ℕ
LAST_COUNT = 2 ^ 64 - 1

-- a count rose: it is greater than before, or stands at the last value of its counter
abbrev pub Rose : ℕ → ℕ → Type 0
Rose before now = (before < now) ⊎ (now ≡ LAST_COUNT)
