-- A walk over the pairs of a map that leaves keys that stand twice aside. No public clause cites it, so it need not be believed.
use Rattle.std.specs.Prelude.{ℕ, zero, suc, ◌<◌, ◌≤◌, ◌==◌, List, [], ◌∷◌, if◌then◌else◌, Option, Some, None, Result, Ok, Err}
use Rattle.def_script.specs.Bytes.{Bytes}
use Rattle.def_psbt.specs.declared.PsbtFault.{PsbtFault}
use Rattle.def_psbt.specs.declared.PsbtFault.TheVariants.{Truncated, RepeatedKey}
use Rattle.def_psbt.specs.declared.Refusal.{Refusal}
use Rattle.def_psbt.specs.declared.Refusal.TheVariants.{At}
use Rattle.def_psbt.specs.Map.{Pair, Map}
use Rattle.def_psbt.specs.Listed.{Form, shape_fault}
use Rattle.def_psbt.specs.Reading.{Read, size_at, pair_at, Rules, whole_map_at}
use Rattle.ms_psbt.specs.declared.maps.Step.{Step}
use Rattle.ms_psbt.specs.declared.maps.Step.TheVariants as step
use Rattle.ms_psbt.specs.Scaffolding.Repeats.{marked}

-- what follows a pair that was read whole
abbrev pub after_test : Option PsbtFault → (key : Bytes) → (at next : ℕ) → Step
after_test (Some fault) key at next = step.Fault (marked key at) (At fault at)
after_test None key at next = step.Pair (marked key at) next

abbrev pub after_pair : (forms : ℕ → Form) → (at : ℕ) → Read Pair → Step
after_pair forms at (Ok read) = after_test (shape_fault forms read.0) read.0.key at read.1
after_pair forms at (Err refusal) = step.Cut refusal

abbrev pub after_size : (forms : ℕ → Form) → (psbt : Bytes) → (at : ℕ) → Read ℕ → Step
after_size forms psbt at (Ok size) = if size.0 == 0 then step.End size.1 else after_pair forms at (pair_at psbt at)
after_size forms psbt at (Err refusal) = step.Cut refusal

-- what stands at a place
abbrev pub step_at : (forms : ℕ → Form) → (psbt : Bytes) → (at : ℕ) → Step
step_at forms psbt at = after_size forms psbt at (size_at psbt at)

-- the places of the pairs that were read whole, and the place behind the map or the first refusal
pub record Walk : Type 0 where
  pub places : List ℕ
  pub outcome : Result ℕ Refusal

abbrev pub ended : Result ℕ Refusal → Walk
ended outcome = record { places = []; outcome = outcome }

abbrev pub behind : (place : ℕ) → Walk → Walk
behind place walk = record { places = place ∷ walk.places; outcome = walk.outcome }

abbrev pub walk_step : (at : ℕ) → Step → (next : ℕ → Walk) → Walk
walk_step at (step.End end) next = ended (Ok end)
walk_step at (step.Cut refusal) next = ended (Err refusal)
walk_step at (step.Fault place refusal) next = behind at (ended (Err refusal))
walk_step at (step.Pair place end) next = behind at (next end)

unfoldable pub walk_from : (forms : ℕ → Form) → (psbt : Bytes) → (room at : ℕ) → Walk
walk_from forms psbt zero at = ended (Err (At Truncated at))
walk_from forms psbt (suc room) at = walk_step at (step_at forms psbt at) (walk_from forms psbt room)

-- a place of a key that stood before, or else the outcome
abbrev pub repeated_or : Option ℕ → Result ℕ Refusal → Result ℕ Refusal
repeated_or (Some place) outcome = Err (At RepeatedKey place)
repeated_or None outcome = outcome

-- the place behind what was read
abbrev pub end_of : {A : Type 0} → Read A → Result ℕ Refusal
end_of (Ok read) = Ok read.1
end_of (Err refusal) = Err refusal

-- a pair at a place ends behind it and within the bytes, and so does the end of a map
abbrev pub IsStepWithin : (at size : ℕ) → Step → Type 0
IsStepWithin at size (step.End end) = (at < end) × (end ≤ size)
IsStepWithin at size (step.Pair place end) = (at < end) × (end ≤ size)
IsStepWithin at size (step.Fault place refusal) = Unit {0}
IsStepWithin at size (step.Cut refusal) = Unit {0}

-- a walk of these places with this outcome
abbrev pub walk_of : (places : List ℕ) → Result ℕ Refusal → Walk
walk_of places outcome = record { places = places; outcome = outcome }

abbrev pub starts_behind : Read Map → (next : ℕ → List ℕ) → List ℕ
starts_behind (Ok read) next = next read.1
starts_behind (Err refusal) next = []

-- the places of so many maps, one after the other, from a place on
unfoldable pub starts_from : Rules → (psbt : Bytes) → (count at : ℕ) → List ℕ
starts_from rules psbt zero at = []
starts_from rules psbt (suc count) at = at ∷ starts_behind (whole_map_at rules psbt at) (starts_from rules psbt count)
