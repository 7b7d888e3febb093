-- A walk goes on behind each pair, and ends where the map does.
use Rattle.std.proofs.Common.{◌≡◌, ℕ, zero, suc, ◌-◌, ◌<◌, ◌≤◌, min, List, [], ◌∷◌, ◌++◌, length, map, Option, Some, None, ap, subst, ◌∙◌, append_assoc, arith}
use Rattle.def_script.specs.Bytes.{Bytes}
use Rattle.ms_combine.specs.declared.keys.Marked.{Marked}
use Rattle.ms_combine.specs.Scaffolding.Places.{key_at, next_at}
use Rattle.ms_combine.specs.Scaffolding.Order.{mark_of}
use Rattle.ms_combine.specs.Scaffolding.Walk.{onward, places_from, behind, behind_from, marked_at}
use Rattle.ms_combine.proofs.Onward.{later}

-- room for what is left of a walk, of which this holds: the places, and the place behind the map
pub record Left (bytes : Bytes) (at : ℕ) (Holds : List ℕ → ℕ → Type 0) : Type 0 where
  pub inside : at ≤ length bytes
  pub room : ℕ
  pub enough : length bytes - at ≤ room
  pub holds : Holds (places_from bytes room at) (behind_from bytes room at)

pub starts : (bytes : Bytes) (from : ℕ) (Holds : List ℕ → ℕ → Type 0) → from ≤ length bytes → Holds (places_from bytes (length bytes) from) (behind_from bytes (length bytes) from)
    → Left bytes from Holds
starts bytes from Holds inside h = record { inside = inside; room = length bytes; enough = omega arith; holds = h }

pub goes_on : (bytes : Bytes) (at next : ℕ) (Holds : List ℕ → ℕ → Type 0) → next_at bytes at ≡ Some next → Left bytes at Holds
    → Left bytes next (λ places end. Holds (at ∷ places) end)
unfolding places_from behind_from
goes_on bytes at next Holds e h = go h.room h.enough h.holds
  where
    later_on : (at < next) × (next ≤ length bytes)
    later_on = later bytes at next e

    go : (room : ℕ) → length bytes - at ≤ room → Holds (places_from bytes room at) (behind_from bytes room at) → Left bytes next (λ places end. Holds (at ∷ places) end)
    go zero few held = absurd (let less = later_on.0 in let most = later_on.1 in omega (arith, few, less, most))
    go (suc room) few held = record {
      inside = later_on.1;
      room = room;
      enough = let less = later_on.0 in let most = later_on.1 in omega (arith, few, less, most);
      holds = subst (λ (o : Option ℕ). Holds (onward at o (places_from bytes room)) (behind (length bytes) at o (behind_from bytes room))) e held;
    }

pub ends : (bytes : Bytes) (at : ℕ) (Holds : List ℕ → ℕ → Type 0) → next_at bytes at ≡ None → Left bytes at Holds → Holds [] (min (suc at) (length bytes))
unfolding places_from behind_from
ends bytes at Holds e h = go h.room h.holds
  where
    go : (room : ℕ) → Holds (places_from bytes room at) (behind_from bytes room at) → Holds [] (min (suc at) (length bytes))
    go zero held = held
    go (suc room) held = subst (λ (o : Option ℕ). Holds (onward at o (places_from bytes room)) (behind (length bytes) at o (behind_from bytes room))) e held

pub so : (bytes : Bytes) (at : ℕ) (P Q : List ℕ → ℕ → Type 0) → ((places : List ℕ) (end : ℕ) → P places end → Q places end) → Left bytes at P → Left bytes at Q
so bytes at P Q change h =
    record { inside = h.inside; room = h.room; enough = h.enough; holds = change (places_from bytes h.room at) (behind_from bytes h.room at) h.holds }

-- no more places than room
pub few : (bytes : Bytes) (room at : ℕ) → length (places_from bytes room at) ≤ room
unfolding places_from
few bytes zero at = omega arith
few bytes (suc room) at = go (next_at bytes at) (few bytes room)
  where
    go : (o : Option ℕ) → ((next : ℕ) → length (places_from bytes room next) ≤ room) → length (onward at o (places_from bytes room)) ≤ suc room
    go None rest = omega arith
    go (Some next) rest = let less = rest next in omega (arith, less)

pub one_marked : (bytes : Bytes) (m : Marked) (place : ℕ) → m.mark ≡ mark_of (key_at bytes m.place) → m.place ≡ place → m ≡ marked_at bytes place
one_marked bytes m place mark is = ap (λ (n : ℕ). record { mark = n; place = m.place }) mark ∙ ap (marked_at bytes) is

-- what was added, and what is left to add
pub added : (bytes : Bytes) (before old now : List Marked) (m : Marked) (at : ℕ) (places : List ℕ) → now ≡ before ++ m ∷ [] → m ≡ marked_at bytes at
    → before ++ map (marked_at bytes) (at ∷ places) ≡ old → now ++ map (marked_at bytes) places ≡ old
added bytes before old now m at places is one e =
    ap (λ (l : List Marked). l ++ map (marked_at bytes) places) is ∙ append_assoc before (m ∷ []) (map (marked_at bytes) places)
    ∙ ap (λ (x : Marked). before ++ x ∷ map (marked_at bytes) places) one ∙ e
