-- Rows of maps at their places, of which the first maps are put together and passed.
use Rattle.std.proofs.Common.{◌≡◌, ℕ, zero, suc, ◌+◌, ◌^◌, ◌<◌, ◌≤◌, min, List, [], ◌∷◌, ◌++◌, length, map, All, Option, Some, None, refl, sym, ap, subst, ◌∙◌, append_assoc, length-append, arith}
use Rattle.std.specs.List.{flat_map, AllByRecursion}
use Rattle.std.proofs.lemmas.List.{append-nil, flat_map_more}
use Rattle.std.proofs.lemmas.List.Concat.{flat_map-cons}
use Rattle.std.proofs.lemmas.List.Elements.{All-from_recursion}
use Rattle.def_script.specs.Bytes.{Bytes}
use Rattle.def_psbt.specs.Map.{Map, pair_text, map_text, magic}
use Rattle.ms_combine.specs.Scaffolding.Places.{next_at}
use Rattle.ms_combine.specs.Scaffolding.Walk.{places_from, behind, behind_from, marked_at}
use Rattle.ms_combine.specs.Scaffolding.Earliest.{earliest_text, all_places}
use Rattle.ms_combine.specs.Scaffolding.Rows.{IsAt, AreAt, IsPlain, rows_joined, first_of, AreRows}
use Rattle.ms_combine.proofs.Onward.{later}
use Rattle.ms_combine.proofs.Joins.{all_joined, together, all_joined_is, Row, whole_row, heads, tails, wholes, rows_split, nothing_joined}
use Rattle.ms_combine.proofs.Spots.{cut, AreSpots, lower, higher, behind_each, walk, some_text, firsts_are}

-- ---- the place behind a map, whatever stands there

behind_least : (bytes : Bytes) (room at : ℕ) → min (suc at) (length bytes) ≤ behind_from bytes room at
unfolding behind_from
behind_least bytes zero at = omega arith
behind_least bytes (suc room) at = go (next_at bytes at) refl (behind_least bytes room)
  where
    go : (o : Option ℕ) → next_at bytes at ≡ o → ((next : ℕ) → min (suc next) (length bytes) ≤ behind_from bytes room next)
        → min (suc at) (length bytes) ≤ behind (length bytes) at o (behind_from bytes room)
    go None e rest = omega arith
    go (Some next) e rest = let on = later bytes at next e in let less = on.0 in let most = rest next in omega (arith, less, most)

pub behind_later : (bytes : Bytes) (room at : ℕ) → at < length bytes → at < behind_from bytes room at
behind_later bytes room at less = let least = behind_least bytes room at in omega (arith, less, least)

pub behind_inside : (bytes : Bytes) (room at : ℕ) → behind_from bytes room at ≤ length bytes
unfolding behind_from
behind_inside bytes zero at = omega arith
behind_inside bytes (suc room) at = go (next_at bytes at) (behind_inside bytes room)
  where
    go : (o : Option ℕ) → ((next : ℕ) → behind_from bytes room next ≤ length bytes) → behind (length bytes) at o (behind_from bytes room) ≤ length bytes
    go None rest = omega arith
    go (Some next) rest = rest next

pub first_later : (bytes : Bytes) (end : ℕ) (places next : List ℕ) → end ≤ length bytes → length bytes < 2 ^ 32 → first_of places < end
    → next ≡ map (behind_from bytes (length bytes)) places → first_of places < first_of next
first_later bytes end [] next most room less is = absurd (omega (arith, most, room, less))
first_later bytes end (place ∷ places) next most room less is =
    subst (λ (l : List ℕ). place < first_of l) (sym is) (behind_later bytes (length bytes) place (omega (arith, less, most)))

pub all_inside : (bytes : Bytes) (places : List ℕ) → All (λ place. place ≤ length bytes) (map (behind_from bytes (length bytes)) places)
all_inside bytes places = All-from_recursion (λ place. place ≤ length bytes) (map (behind_from bytes (length bytes)) places) (go places)
  where
    go : (places : List ℕ) → AllByRecursion (λ place. place ≤ length bytes) (map (behind_from bytes (length bytes)) places)
    go [] = tt
    go (place ∷ places) = (behind_inside bytes (length bytes) place, go places)

-- ---- a step behind the first map of each row

abbrev ArePlain : List (List Map) → Type 0
ArePlain rows = AllByRecursion (AllByRecursion IsPlain) rows

abbrev all_behind : (bytes : Bytes) → List ℕ → List ℕ
all_behind bytes places = map (behind_from bytes (length bytes)) places

record Step (bytes : Bytes) (low : ℕ) (places : List ℕ) (rows : List Row) : Type 0 where
  high : ℕ
  spots : AreSpots bytes low high (all_places bytes places) (together (heads rows))
  behind : AreAt bytes low (all_behind bytes places) (tails rows)

row_long : (row : Row) → length (flat_map map_text (whole_row row)) ≡ length (map_text row.0) + length (flat_map map_text row.1)
row_long row = ap length (flat_map-cons map_text row.0 row.1) ∙ length-append (map_text row.0) (flat_map map_text row.1)

end_of : (bytes : Bytes) (place : ℕ) (row : Row) → IsPlain row.0 → IsAt bytes place (flat_map map_text (whole_row row)) → behind_from bytes (length bytes) place ≡ place + length (map_text row.0)
end_of bytes place row plain h =
    let both = cut bytes place (map_text row.0) (flat_map map_text row.1) (subst (IsAt bytes place) (flat_map-cons map_text row.0 row.1) h) in
    (walk bytes row.0 (length bytes) place plain.spelled (omega arith) both.0).end

step : (bytes : Bytes) (low : ℕ) (places : List ℕ) (rows : List Row) → ArePlain (wholes rows) → AreAt bytes low places (wholes rows) → Step bytes low places rows
step bytes low [] [] plain h = record { high = low; spots = omega arith; behind = tt }
step bytes low [] (row ∷ rows) plain h = absurd h
step bytes low (place ∷ places) [] plain h = absurd h
step bytes low (place ∷ places) (row ∷ rows) plain h =
    let both = cut bytes place (map_text row.0) (flat_map map_text row.1) (subst (IsAt bytes place) (flat_map-cons map_text row.0 row.1) h.1) in
    let w = walk bytes row.0 (length bytes) place plain.0.0.spelled (omega arith) both.0 in
    let long = row_long row in
    let end = w.end in
    let first = h.0 in
    let next : ℕ = place + length (flat_map map_text (whole_row row)) in
    let rest = step bytes (place + length (flat_map map_text (whole_row row))) places rows plain.1 h.2 in
    record {
      high = rest.high;
      spots = subst (λ (l : List ℕ). AreSpots bytes low rest.high l (row.0 ++ together (heads rows))) (sym (flat_map-cons (places_from bytes (length bytes)) place places))
          (behind_each bytes low next rest.high (places_from bytes (length bytes) place) (all_places bytes places) row.0 (together (heads rows))
          (lower bytes low place next (places_from bytes (length bytes) place) row.0 h.0
          (higher bytes place (place + length (map_text row.0)) next (places_from bytes (length bytes) place) row.0 (omega (arith, long)) w.spots)) rest.spots);
      behind = (
        omega (arith, first, end),
        subst (λ (n : ℕ). IsAt bytes n (flat_map map_text row.1)) (sym w.end) both.1,
        subst (λ (n : ℕ). AreAt bytes n (all_behind bytes places) (tails rows)) (omega (arith, long, end)) rest.behind,
      );
    }

heads_plain : (rows : List Row) → ArePlain (wholes rows) → AllByRecursion IsPlain (heads rows)
heads_plain [] h = tt
heads_plain (row ∷ rows) h = (h.0.0, heads_plain rows h.1)

tails_plain : (rows : List Row) → ArePlain (wholes rows) → ArePlain (tails rows)
tails_plain [] h = tt
tails_plain (row ∷ rows) h = (h.0.1, tails_plain rows h.1)

tails_same : (n : ℕ) (rows : List Row) → AllByRecursion (λ (other : List Map). length other ≡ suc n) (wholes rows) → AllByRecursion (λ (other : List Map). length other ≡ n) (tails rows)
tails_same n [] h = tt
tails_same n (row ∷ rows) h = let long = h.0 in (omega (arith, long), tails_same n rows h.1)

-- rows of some maps are split
split : (n : ℕ) (rows : List (List Map)) → AllByRecursion (λ (other : List Map). length other ≡ suc n) rows → (cells : List Row) × (rows ≡ wholes cells)
split n [] h = ([], refl)
split n ([] ∷ rows) h = let long = h.0 in absurd (omega (arith, long))
split n ((fields ∷ maps) ∷ rows) h = let rest = split n rows h.1 in ((fields, maps) ∷ rest.0, ap (λ (l : List (List Map)). (fields ∷ maps) ∷ l) rest.1)

-- what is added for the first maps
added_is : (bytes : Bytes) (places : List ℕ) (row : Row) (rows : List Row) → ArePlain (wholes (row ∷ rows)) → (s : Step bytes 0 places (row ∷ rows))
    → earliest_text bytes (map (marked_at bytes) (all_places bytes places)) (all_places bytes places) ++ 0x00 ∷ [] ≡ map_text (all_joined row.0 (heads rows))
added_is bytes places row rows plain s =
    ap (λ (l : Bytes). l ++ 0x00 ∷ [])
    (firsts_are bytes 0 0 s.high [] (all_places bytes places) [] (together (heads (row ∷ rows))) (omega arith) s.spots
    ∙ ap (flat_map pair_text) (sym (all_joined_is row.0 (heads rows) (heads_plain (row ∷ rows) plain))))

-- ---- rows that are put together, of which some maps are done

pub record Joining (bytes : Bytes) (end : ℕ) (places : List ℕ) (out : Bytes) (whole : List Map) : Type 0 where
  pub done : List Map
  pub row : List Map
  pub rows : List (List Map)
  pub text : out ≡ magic ++ flat_map map_text done
  pub whole_is : done ++ rows_joined row rows ≡ whole
  pub left : AreRows bytes end places row rows

pub joining_starts : (bytes : Bytes) (end : ℕ) (places : List ℕ) (row : List Map) (rows : List (List Map)) → AreRows bytes end places row rows
    → Joining bytes end places magic (rows_joined row rows)
joining_starts bytes end places row rows h = record { done = []; row = row; rows = rows; text = refl; whole_is = refl; left = h }

pub joining_ends : (bytes : Bytes) (end : ℕ) (places : List ℕ) (out : Bytes) (whole : List Map) → (first_of places < end → ⊥) → Joining bytes end places out whole
    → out ≡ magic ++ flat_map map_text whole
joining_ends bytes end places out whole past h = h.text ∙ ap (λ (l : List Map). magic ++ flat_map map_text l) (go h.row h.left h.whole_is)
  where
    go : (row : List Map) → AreRows bytes end places row h.rows → h.done ++ rows_joined row h.rows ≡ whole → h.done ≡ whole
    go [] left e = sym (append-nil h.done) ∙ ap (λ (l : List Map). h.done ++ l) (sym (nothing_joined h.rows)) ∙ e
    go (fields ∷ maps) left e =
        let last = left.last in
        let long = row_long (fields, maps) in
        let some = some_text fields in
        absurd (past (omega (arith, last, long, some)))

passed : (bytes : Bytes) (end : ℕ) (places : List ℕ) (row : Row) (rows : List Row) → AreRows bytes end places (whole_row row) (wholes rows)
    → Step bytes 0 places (row ∷ rows) → AreRows bytes end (all_behind bytes places) row.1 (tails rows)
passed bytes end [] row rows h s = absurd h.at
passed bytes end (place ∷ places) row rows h s =
    let last = h.last in
    let long = row_long row in
    let behind = end_of bytes place row h.plain.0.0 h.at.1 in
    record {
      at = s.behind;
      last = omega (arith, last, long, behind);
      same = tails_same (length row.1) rows h.same;
      plain = tails_plain (row ∷ rows) h.plain;
    }

pub joining_goes_on : (bytes : Bytes) (end : ℕ) (places next : List ℕ) (out new : Bytes) (whole : List Map) → first_of places < end
    → new ≡ out ++ (earliest_text bytes (map (marked_at bytes) (all_places bytes places)) (all_places bytes places) ++ 0x00 ∷ [])
    → next ≡ map (behind_from bytes (length bytes)) places → Joining bytes end places out whole → Joining bytes end next new whole
joining_goes_on bytes end places next out new whole less text is h =
    subst (λ (l : List ℕ). Joining bytes end l new whole) (sym is) (go h.row h.rows h.left h.whole_is)
  where
    go : (row : List Map) (rows : List (List Map)) → AreRows bytes end places row rows → h.done ++ rows_joined row rows ≡ whole → Joining bytes end (all_behind bytes places) new whole
    go [] rows left e = let last = left.last in absurd (omega (arith, last, less))
    go (fields ∷ maps) rows left e =
        let cells = split (length maps) rows left.same in
        let row : Row = (fields, maps) in
        let there : AreRows bytes end places (fields ∷ maps) (wholes cells.0) = subst (λ (l : List (List Map)). AreRows bytes end places (fields ∷ maps) l) cells.1 left in
        let s = step bytes 0 places ((fields, maps) ∷ cells.0) there.plain there.at in
        let joined : Map = all_joined fields (heads cells.0) in
        record {
          done = h.done ++ joined ∷ [];
          row = maps;
          rows = tails cells.0;
          text = text ∙ ap (λ (l : Bytes). l ++ (earliest_text bytes (map (marked_at bytes) (all_places bytes places)) (all_places bytes places) ++ 0x00 ∷ [])) h.text
              ∙ ap (λ (l : Bytes). (magic ++ flat_map map_text h.done) ++ l) (added_is bytes places row cells.0 there.plain s)
              ∙ append_assoc magic (flat_map map_text h.done) (map_text joined) ∙ ap (λ (l : Bytes). magic ++ l) (one_more h.done joined);
          whole_is = append_assoc h.done (joined ∷ []) (rows_joined maps (tails cells.0))
              ∙ ap (λ (l : List Map). h.done ++ l) (sym (rows_split row cells.0)) ∙ ap (λ (l : List (List Map)). h.done ++ rows_joined (fields ∷ maps) l) (sym cells.1) ∙ e;
          left = passed bytes end places row cells.0 there s;
        }
      where
        one_more : (done : List Map) (joined : Map) → flat_map map_text done ++ map_text joined ≡ flat_map map_text (done ++ joined ∷ [])
        one_more done joined = flat_map_more map_text [] done joined
