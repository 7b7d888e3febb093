-- Bytes that go to a sink through a buffer, which holds those that the sink hasn't got yet.
use Rattle.std.specs.Prelude.{◌≡◌, ◌++◌, List, ℕ, MatchResult, Option, Result}
use Rattle.std.specs.Io.KnownBytes.{Appends}
use Rattle.ms_io.specs.Faults.{HasCause}
use Rattle.ms_io.specs.Moves.{AppendsPrefix}
use Rattle.ms_io.specs.Sides.{Side}

-- what was held and then these bytes: a front of them was written, and the rest is held
pub record Passes (old new : Option (List ℕ)) (held rest bytes : List ℕ) : Type 0 where
  pub front : List ℕ
  pub written : Appends old new front
  pub whole : front ++ rest ≡ held ++ bytes

-- so it is, or the sink failed, and its count of faults rose: a prefix of them was written
abbrev pub PassesOrFails : {E : Type 0} → (sink : Side) → (held rest bytes : List ℕ) → Result Unit E → Type 0
PassesOrFails sink held rest bytes result =
    MatchResult result (λ _. Passes sink.old sink.new held rest bytes) (λ _. AppendsPrefix sink.old sink.new (held ++ bytes))
    × HasCause sink.before sink.now result
