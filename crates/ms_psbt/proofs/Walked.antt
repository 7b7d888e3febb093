-- A walk, step by step.
use Rattle.std.proofs.Common.{◌≡◌, ℕ, zero, suc, ◌+◌, ◌<◌, ◌≤◌, List, [], ◌∷◌, ◌++◌, length, length-append, get_or, Result, Err, append_assoc, arith}
use Rattle.std.proofs.lemmas.Grind.{common_steps}
use Rattle.std.proofs.lemmas.List.{append-nil}
use Rattle.std.specs.List.Sorted.{IsStrictlyIncreasing}
use Rattle.def_script.specs.Bytes.{Bytes}
use Rattle.def_psbt.specs.declared.Refusal.{Refusal}
use Rattle.def_psbt.specs.Listed.{Form}
use Rattle.ms_psbt.specs.declared.maps.Step.{Step}
use Rattle.ms_psbt.specs.declared.maps.Step.TheVariants as step
use Rattle.ms_psbt.specs.declared.repeats.Marked.{Marked}
use Rattle.ms_psbt.specs.Scaffolding.Walks.{step_at, Walk, ended, walk_step, walk_from, walk_of}

-- places before another one, in ascending order
pub record Before (places : List ℕ) (at : ℕ) : Type 0 where
  pub up : IsStrictlyIncreasing places
  pub below : (k : ℕ) → k < length places → get_or places k 0 < at

pub none_before : (at : ℕ) → Before [] at
none_before at = record { up = λ k h. absurd (omega arith); below = λ k h. absurd (omega arith) }

pub more_before : (places : List ℕ) (at next : ℕ) → Before places at → at < next → Before (places ++ at ∷ []) next
more_before places at next h later = record {
  up = λ k inside. grind (arith, common_steps, h.up k, h.below k, length-append places (at ∷ []));
  below = λ k inside. grind (arith, common_steps, h.below k, length-append places (at ∷ []));
}

-- a walk behind some places
abbrev pub behind_all : (places : List ℕ) → Walk → Walk
behind_all places walk = record { places = places ++ walk.places; outcome = walk.outcome }

-- a walk that has come to a place, with some places so far
pub record WalksOn (forms : ℕ → Form) (psbt : Bytes) (at : ℕ) (places : List ℕ) (total : Walk) : Type 0 where
  pub room : ℕ
  pub more : length psbt < at + room
  pub rest : behind_all places (walk_from forms psbt room at) ≡ total

module _ (forms : ℕ → Form) (psbt : Bytes) (at : ℕ) (places : List ℕ) (total : Walk) (inside : at ≤ length psbt) (on : WalksOn forms psbt at places total) where
  -- what the next step leaves
  next_walk : (s : Step) → step_at forms psbt at ≡ s → (room : ℕ) × (length psbt < at + suc room)
      × (behind_all places (walk_step at s (walk_from forms psbt room)) ≡ total)
  unfolding walk_from
  next_walk s e = go on.room on.more on.rest
    where
      go : (room : ℕ) → length psbt < at + room → behind_all places (walk_from forms psbt room at) ≡ total
          → (room : ℕ) × (length psbt < at + suc room) × (behind_all places (walk_step at s (walk_from forms psbt room)) ≡ total)
      go zero more is = absurd (omega arith)
      go (suc room) more is = (room, more, rw (← e) is)

  pub walk_ended : (outcome : Result ℕ Refusal) (s : Step) → step_at forms psbt at ≡ s → ((next : ℕ → Walk) → walk_step at s next ≡ ended outcome) → walk_of places outcome ≡ total
  walk_ended outcome s e is = let next = next_walk s e in rw (is (walk_from forms psbt next.0), append-nil places) at next.2

  pub walk_fault : (place : Marked) (refusal : Refusal) → step_at forms psbt at ≡ step.Fault place refusal → walk_of (places ++ at ∷ []) (Err refusal) ≡ total
  walk_fault place refusal e = (next_walk (step.Fault place refusal) e).2

  pub walk_pair : (place : Marked) (end : ℕ) → step_at forms psbt at ≡ step.Pair place end → at < end → WalksOn forms psbt end (places ++ at ∷ []) total
  walk_pair place end e later =
      let next = next_walk (step.Pair place end) e in
      record { room = next.0; more = omega (arith, next.1); rest = rw (append_assoc places (at ∷ []) (walk_from forms psbt next.0 end).places) next.2 }
