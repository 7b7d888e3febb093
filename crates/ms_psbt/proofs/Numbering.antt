-- Which input has the outpoint of one before it, by the places of the outpoints.
use Rattle.std.proofs.Common.{◌≡◌, ℕ, suc, ◌+◌, ◌-◌, ◌*◌, ◌/◌, ◌<◌, Bool, true, false, cond, List, [], ◌∷◌, ◌++◌, length, map, get_or, Option, Some, None, option_map, refl, ap, arith}
use Rattle.std.specs.Prelude.{⊤}
use Rattle.std.specs.List.{list_any}
use Rattle.std.specs.Str.{bytes_eq}
use Rattle.def_script.specs.Bytes.{Bytes}
use Rattle.ms_psbt.specs.declared.repeats.Keys.TheVariants as keys
use Rattle.ms_psbt.specs.Scaffolding.Repeats.{key_at, repeat_in}
use Rattle.ms_psbt.specs.Scaffolding.Outpoints.{number_from, first_repeated}

-- a place is that of the input with this number
abbrev Agrees : (first : ℕ) → Option ℕ → Option ℕ → Type 0
Agrees first (Some place) (Some number) = place ≡ first + 41 * number
Agrees first None None = ⊤
Agrees first (Some place) None = ⊥
Agrees first None (Some number) = ⊥

later : (first : ℕ) (place number : Option ℕ) → Agrees (first + 41) place number → Agrees first place (option_map suc number)
later first (Some place) (Some number) h = omega arith
later first None None h = tt
later first (Some place) None h = absurd h
later first None (Some number) h = absurd h

agree : (bytes : Bytes) (before : List Bytes) (first : ℕ) (places : List ℕ) → ((k : ℕ) → k < length places → get_or places k 0 ≡ first + 41 * k)
    → Agrees first (repeat_in keys.Outpoints bytes before places) (first_repeated before (map (key_at keys.Outpoints bytes) places))
unfolding repeat_in
agree bytes before first [] row = tt
agree bytes before first (place ∷ places) row =
    let own : place ≡ first + 41 * 0 = row 0 (omega arith) in
    let again = agree bytes (before ++ key_at keys.Outpoints bytes place ∷ []) (first + 41) places (next first place places row) in
    go first place (repeat_in keys.Outpoints bytes (before ++ key_at keys.Outpoints bytes place ∷ []) places)
    (first_repeated (before ++ key_at keys.Outpoints bytes place ∷ []) (map (key_at keys.Outpoints bytes) places)) own again (list_any (bytes_eq (key_at keys.Outpoints bytes place)) before)
  where
    next : (first place : ℕ) (places : List ℕ) → ((k : ℕ) → k < length (place ∷ places) → get_or (place ∷ places) k 0 ≡ first + 41 * k)
        → (k : ℕ) → k < length places → get_or places k 0 ≡ (first + 41) + 41 * k
    next first place places row k inside = let at = row (suc k) (omega arith) in omega arith

    go : (first place : ℕ) (o n : Option ℕ) → place ≡ first + 41 * 0 → Agrees (first + 41) o n → (b : Bool) → Agrees first (cond b (Some place) o) (cond b (Some 0) (option_map suc n))
    go first place o n own again true = own
    go first place o n own again false = later first o n again

tells : (first : ℕ) (place number : Option ℕ) → Agrees first place number → number_from first place ≡ number
tells first (Some place) (Some number) h = let is : (place - first) / 41 ≡ number = omega arith in ap Some is
tells first None None h = refl
tells first (Some place) None h = absurd h
tells first None (Some number) h = absurd h

pub number_is : (bytes : Bytes) (first : ℕ) (places : List ℕ) → ((k : ℕ) → k < length places → get_or places k 0 ≡ first + 41 * k)
    → number_from first (repeat_in keys.Outpoints bytes [] places) ≡ first_repeated [] (map (key_at keys.Outpoints bytes) places)
number_is bytes first places row =
    tells first (repeat_in keys.Outpoints bytes [] places) (first_repeated [] (map (key_at keys.Outpoints bytes) places)) (agree bytes [] first places row)
