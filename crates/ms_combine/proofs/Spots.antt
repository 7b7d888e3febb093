-- The places of the pairs of maps, and what stands there.
use Rattle.std.proofs.Common.{◌≡◌, ℕ, zero, suc, ◌+◌, ◌-◌, ◌<◌, ◌≤◌, ◌||◌, not, nat_lt, nat_le, Bool, true, false, List, [], ◌∷◌, ◌++◌, length, map, filter, take, drop, Option, Some, None, inl, inr, refl, sym, ap, subst, ◌∙◌, append_assoc, length-append, arith}
use Rattle.std.specs.List.{flat_map, list_any, AllByRecursion}
use Rattle.std.specs.Str.{bytes_eq}
use Rattle.std.proofs.lemmas.Bool.{cases_Bool, lt-ltb, le-ltb, le-leb}
use Rattle.std.proofs.lemmas.List.{length-drop, drop_at, take_at, map-append}
use Rattle.std.proofs.Math.Seq.{drop-nil}
use Rattle.std.proofs.lemmas.List.Concat.{flat_map-cons}
use Rattle.std.proofs.lemmas.List.Folds.{list_any-append}
use Rattle.def_script.specs.Bytes.{Bytes}
use Rattle.def_script.specs.Sizes.{size_bytes, read_size}
use Rattle.def_script.specs.Witness.{sized}
use Rattle.def_psbt.specs.Map.{Pair, Map, pair_text, map_text}
use Rattle.def_psbt.specs.Listed.{stands}
use Rattle.def_psbt.specs.Part.{first_string, first_size, first_bytes}
use Rattle.def_combine.specs.Joined.{is_new}
use Rattle.ms_psbt.specs.Pairs.{first_pair}
use Rattle.ms_psbt.specs.Scaffolding.Pairs.{IsSpelled}
use Rattle.ms_psbt.proofs.Pairing.{pair_back, map_cons}
use Rattle.ms_combine.specs.declared.keys.Marked.{Marked}
use Rattle.ms_combine.specs.Scaffolding.Places.{key_of, part_text, part_end, key_at, pair_text_at, next_at}
use Rattle.ms_combine.specs.Scaffolding.Walk.{onward, places_from, behind, behind_from, marked_at}
use Rattle.ms_combine.specs.Scaffolding.Earliest.{is_earlier, is_earliest, earliest_text}
use Rattle.ms_combine.specs.Scaffolding.Rows.{IsAt}
use Rattle.ms_combine.proofs.Joins.{firsts}

-- ---- texts one behind the other

drop_twice : {A : Type 0} (n m : ℕ) (xs : List A) → drop (n + m) xs ≡ drop m (drop n xs)
drop_twice zero m xs = ap (λ (k : ℕ). drop k xs) (omega arith)
drop_twice (suc n) m [] = drop-nil (suc n + m) ∙ sym (drop-nil m)
drop_twice (suc n) m (x ∷ xs) = let more : suc n + m ≡ suc (n + m) = omega arith in ap (λ (k : ℕ). drop k (x ∷ xs)) more ∙ drop_twice n m xs

pub cut : (bytes : Bytes) (at : ℕ) (a b : Bytes) → IsAt bytes at (a ++ b) → IsAt bytes at a × IsAt bytes (at + length a) b
cut bytes at a b h =
    let long = length-append a b in
    let inside = h.inside in
    let rest : Bytes = drop (at + length (a ++ b)) bytes in
    let there : drop (at + length a) bytes ≡ b ++ drop (at + length (a ++ b)) bytes =
    drop_twice at (length a) bytes ∙ ap (drop (length a)) (h.is ∙ append_assoc a b (drop (at + length (a ++ b)) bytes)) ∙ drop_at a (b ++ drop (at + length (a ++ b)) bytes) (length a) refl in
    let same : at + length (a ++ b) ≡ (at + length a) + length b = omega (arith, long) in (
      record {
        inside = omega (arith, long, inside);
        is = h.is ∙ append_assoc a b (drop (at + length (a ++ b)) bytes) ∙ ap (λ (l : Bytes). a ++ l) (sym there);
      },
      record {
        inside = omega (arith, long, inside);
        is = there ∙ ap (λ (n : ℕ). b ++ drop n bytes) same;
      },
    )

-- ---- what stands at the place of a fields

pub end_here : (rest : Bytes) → first_pair (0x00 ∷ rest) ≡ None
unfolding first_pair first_string first_size first_bytes read_size
end_here rest = let there : nat_le 0 (length rest) ≡ true = le-leb 0 (length rest) (omega arith) in rw there refl

none_at : (bytes : Bytes) (at : ℕ) → IsAt bytes at (map_text []) → next_at bytes at ≡ None
none_at bytes at h = ap (part_end (length bytes)) (ap first_pair h.is ∙ end_here (drop (at + 1) bytes))

-- a pair at its place, and the rest of its fields behind it
record Here (bytes : Bytes) (at : ℕ) (pair : Pair) (fields : Map) : Type 0 where
  pair_here : IsAt bytes at (pair_text pair)
  map_here : IsAt bytes (at + length (pair_text pair)) (map_text fields)
  read : first_pair (drop at bytes) ≡ Some (pair, drop (at + length (pair_text pair)) bytes)

here : (bytes : Bytes) (at : ℕ) (pair : Pair) (fields : Map) → IsSpelled pair → IsAt bytes at (map_text (pair ∷ fields)) → Here bytes at pair fields
here bytes at pair fields spelled h =
    let both = cut bytes at (pair_text pair) (map_text fields) (subst (IsAt bytes at) (map_cons pair fields) h) in
    record {
      pair_here = both.0;
      map_here = both.1;
      read = ap first_pair both.0.is ∙ pair_back pair (drop (at + length (pair_text pair)) bytes) spelled;
    }

next_here : (bytes : Bytes) (at : ℕ) (pair : Pair) (fields : Map) → Here bytes at pair fields → next_at bytes at ≡ Some (at + length (pair_text pair))
next_here bytes at pair fields h =
    let inside = h.pair_here.inside in
    let long = length-drop (at + length (pair_text pair)) bytes in
    ap (part_end (length bytes)) h.read ∙ ap Some (omega (arith, inside, long))

text_here : (bytes : Bytes) (at : ℕ) (pair : Pair) (fields : Map) → Here bytes at pair fields → pair_text_at bytes at ≡ pair_text pair
text_here bytes at pair fields h =
    let inside = h.pair_here.inside in
    let long = length-drop (at + length (pair_text pair)) bytes in
    let whole = length-drop at bytes in
    let size : length (drop at bytes) - length (drop (at + length (pair_text pair)) bytes) ≡ length (pair_text pair) = omega (arith, inside, long, whole) in
    ap (part_text (drop at bytes)) h.read ∙ ap (λ (n : ℕ). take n (drop at bytes)) size
    ∙ ap (take (length (pair_text pair))) h.pair_here.is ∙ take_at (pair_text pair) (drop (at + length (pair_text pair)) bytes) (length (pair_text pair)) refl

-- ---- places with their pairs, from a place up to another one

pub record IsSpot (bytes : Bytes) (place : ℕ) (pair : Pair) : Type 0 where
  pub key : key_at bytes place ≡ pair.key
  pub text : pair_text_at bytes place ≡ pair_text pair

abbrev pub AreSpots : (bytes : Bytes) → (low high : ℕ) → List ℕ → Map → Type 0
AreSpots bytes low high [] [] = low ≤ high
AreSpots bytes low high [] (pair ∷ fields) = ⊥
AreSpots bytes low high (place ∷ places) [] = ⊥
AreSpots bytes low high (place ∷ places) (pair ∷ fields) = (low ≤ place) × IsSpot bytes place pair × AreSpots bytes (suc place) high places fields

pub lower : (bytes : Bytes) (lower low high : ℕ) (places : List ℕ) (fields : Map) → lower ≤ low → AreSpots bytes low high places fields → AreSpots bytes lower high places fields
lower bytes l low high [] [] less h = omega (arith, less, h)
lower bytes l low high [] (pair ∷ fields) less h = h
lower bytes l low high (place ∷ places) [] less h = h
lower bytes l low high (place ∷ places) (pair ∷ fields) less h = let first = h.0 in (omega (arith, less, first), h.1, h.2)

pub higher : (bytes : Bytes) (low high upper : ℕ) (places : List ℕ) (fields : Map) → high ≤ upper → AreSpots bytes low high places fields → AreSpots bytes low upper places fields
higher bytes low high u [] [] less h = omega (arith, less, h)
higher bytes low high u [] (pair ∷ fields) less h = h
higher bytes low high u (place ∷ places) [] less h = h
higher bytes low high u (place ∷ places) (pair ∷ fields) less h = (h.0, h.1, higher bytes (suc place) high u places fields less h.2)

pub behind_each : (bytes : Bytes) (low middle high : ℕ) (places others : List ℕ) (fields more : Map) → AreSpots bytes low middle places fields → AreSpots bytes middle high others more
    → AreSpots bytes low high (places ++ others) (fields ++ more)
behind_each bytes low middle high [] others [] more h k = lower bytes low middle high others more h k
behind_each bytes low middle high [] others (pair ∷ fields) more h k = absurd h
behind_each bytes low middle high (place ∷ places) others [] more h k = absurd h
behind_each bytes low middle high (place ∷ places) others (pair ∷ fields) more h k = (h.0, h.1, behind_each bytes (suc place) middle high places others fields more h.2 k)

-- the walk over a fields at its place
pub record IsWalk (bytes : Bytes) (room at : ℕ) (fields : Map) : Type 0 where
  pub spots : AreSpots bytes at (at + length (map_text fields)) (places_from bytes room at) fields
  pub end : behind_from bytes room at ≡ at + length (map_text fields)

pub some_text : (fields : Map) → 1 ≤ length (map_text fields)
some_text fields = let long = length-append (flat_map pair_text fields) (0x00 ∷ []) in omega (arith, long)

some_pair : (bytes : Bytes) (at : ℕ) (pair : Pair) (fields : Map) → IsSpelled pair → Here bytes at pair fields → 1 ≤ length (pair_text pair)
some_pair bytes at pair fields spelled h =
    let some = spelled.some in
    let long = length-append (sized pair.key) (sized pair.value) in
    let key = length-append (size_bytes (length pair.key)) pair.key in
    omega (arith, some, long, key)

pub walk : (bytes : Bytes) (fields : Map) (room at : ℕ) → AllByRecursion IsSpelled fields → length bytes - at ≤ room → IsAt bytes at (map_text fields) → IsWalk bytes room at fields
unfolding places_from behind_from
walk bytes [] zero at all enough h = let inside = h.inside in absurd (omega (arith, enough, inside))
walk bytes [] (suc room) at all enough h =
    let none = none_at bytes at h in
    let inside = h.inside in
    record {
      spots = subst (λ (o : Option ℕ). AreSpots bytes at (at + length (map_text [])) (onward at o (places_from bytes room)) []) (sym none) (omega arith);
      end = subst (λ (o : Option ℕ). behind (length bytes) at o (behind_from bytes room) ≡ at + length (map_text [])) (sym none) (omega (arith, inside));
    }
walk bytes (pair ∷ fields) zero at all enough h =
    let inside = h.inside in
    let some = some_text (pair ∷ fields) in
    absurd (omega (arith, enough, inside, some))
walk bytes (pair ∷ fields) (suc room) at all enough h =
    let there = here bytes at pair fields all.0 h in
    let next = next_here bytes at pair fields there in
    let some = some_pair bytes at pair fields all.0 there in
    let long : length (map_text (pair ∷ fields)) ≡ length (pair_text pair) + length (map_text fields) = ap length (map_cons pair fields) ∙ length-append (pair_text pair) (map_text fields) in
    let rest = walk bytes fields room (at + length (pair_text pair)) all.1 (omega (arith, enough, some)) there.map_here in
    let end = rest.end in
    let spots : AreSpots bytes at (at + length (map_text (pair ∷ fields))) (at ∷ places_from bytes room (at + length (pair_text pair))) (pair ∷ fields) = (
      omega arith,
      record { key = ap key_of there.read; text = text_here bytes at pair fields there },
      lower bytes (suc at) (at + length (pair_text pair)) (at + length (map_text (pair ∷ fields))) (places_from bytes room (at + length (pair_text pair))) fields (omega (arith, some))
          (subst (λ (n : ℕ). AreSpots bytes (at + length (pair_text pair)) n (places_from bytes room (at + length (pair_text pair))) fields) (omega (arith, long)) rest.spots),
    ) in
    record {
      spots = subst (λ (o : Option ℕ). AreSpots bytes at (at + length (map_text (pair ∷ fields))) (onward at o (places_from bytes room)) (pair ∷ fields)) (sym next) spots;
      end = subst (λ (o : Option ℕ). behind (length bytes) at o (behind_from bytes room) ≡ at + length (map_text (pair ∷ fields))) (sym next) (omega (arith, end, long));
    }

-- ---- the first places of keys are those of the first pairs

abbrev pub each_marked : (bytes : Bytes) → List ℕ → List Marked
each_marked bytes places = map (marked_at bytes) places

or-false : (b : Bool) → (b || false) ≡ b
or-false true = refl
or-false false = refl

-- of earlier places with their pairs one has the key where it stands in these
earlier_stands : (bytes : Bytes) (low high place : ℕ) (places : List ℕ) (fields : Map) (pair : Pair) → AreSpots bytes low high places fields → high ≤ place → key_at bytes place ≡ pair.key
    → list_any (is_earlier bytes place) (each_marked bytes places) ≡ stands pair.key fields
earlier_stands bytes low high place [] [] pair h less e = refl
earlier_stands bytes low high place [] (p ∷ fields) pair h less e = absurd h
earlier_stands bytes low high place (q ∷ places) [] pair h less e = absurd h
earlier_stands bytes low high place (q ∷ places) (p ∷ fields) pair h less e =
    let before : q < high = under bytes q high places fields h.2 in
    let lt : nat_lt q place ≡ true = lt-ltb q place (omega (arith, before, less)) in
    let key = h.1.key in
    rw (lt, key, e) (ap (λ (b : Bool). bytes_eq pair.key p.key || b) (earlier_stands bytes (suc q) high place places fields pair h.2 less e))
  where
    under : (bytes : Bytes) (q high : ℕ) (places : List ℕ) (fields : Map) → AreSpots bytes (suc q) high places fields → q < high
    under bytes q high [] [] h = omega (arith, h)
    under bytes q high [] (p ∷ fields) h = absurd h
    under bytes q high (r ∷ places) [] h = absurd h
    under bytes q high (r ∷ places) (p ∷ fields) h = let rest = under bytes r high places fields h.2 in let first = h.0 in omega (arith, rest, first)

-- a later place isn't earlier
none_earlier : (bytes : Bytes) (low high place : ℕ) (places : List ℕ) (fields : Map) → AreSpots bytes low high places fields → place ≤ low
    → list_any (is_earlier bytes place) (each_marked bytes places) ≡ false
none_earlier bytes low high place [] [] h less = refl
none_earlier bytes low high place [] (p ∷ fields) h less = absurd h
none_earlier bytes low high place (q ∷ places) [] h less = absurd h
none_earlier bytes low high place (q ∷ places) (p ∷ fields) h less =
    let first = h.0 in
    let lt : nat_lt q place ≡ false = le-ltb q place (omega (arith, first, less)) in
    rw lt (none_earlier bytes (suc q) high place places fields h.2 (omega (arith, first, less)))

pub firsts_are : (bytes : Bytes) (low middle high : ℕ) (before places : List ℕ) (done fields : Map) → AreSpots bytes low middle before done → AreSpots bytes middle high places fields
    → earliest_text bytes (each_marked bytes (before ++ places)) places ≡ flat_map pair_text (firsts done fields)
firsts_are bytes low middle high before [] done [] h k = refl
firsts_are bytes low middle high before [] done (p ∷ fields) h k = absurd k
firsts_are bytes low middle high before (q ∷ places) done [] h k = absurd k
firsts_are bytes low middle high before (q ∷ places) done (p ∷ fields) h k =
    let order : List Marked = each_marked bytes (before ++ q ∷ places) in
    let left : list_any (is_earlier bytes q) (each_marked bytes before) ≡ stands p.key done = earlier_stands bytes low middle q before done p h k.0 k.1.key in
    let own : nat_lt q q ≡ false = le-ltb q q (omega arith) in
    let right : list_any (is_earlier bytes q) (each_marked bytes (q ∷ places)) ≡ false = rw own (none_earlier bytes (suc q) high q places fields k.2 (omega arith)) in
    let new : is_earliest bytes (each_marked bytes (before ++ q ∷ places)) q ≡ is_new done p =
    ap not (ap (list_any (is_earlier bytes q)) (map-append (marked_at bytes) before (q ∷ places))
    ∙ list_any-append (is_earlier bytes q) (each_marked bytes before) (each_marked bytes (q ∷ places))
    ∙ ap (λ (b : Bool). b || list_any (is_earlier bytes q) (each_marked bytes (q ∷ places))) left
    ∙ ap (λ (b : Bool). stands p.key done || b) right ∙ or-false (stands p.key done)) in
    let upto : AreSpots bytes low (suc q) (before ++ q ∷ []) (done ++ p ∷ []) =
    behind_each bytes low middle (suc q) before (q ∷ []) done (p ∷ []) h (k.0, k.1, omega arith) in
    let rest : earliest_text bytes (each_marked bytes (before ++ q ∷ places)) places ≡ flat_map pair_text (firsts (done ++ p ∷ []) fields) =
    ap (λ (l : List ℕ). earliest_text bytes (each_marked bytes l) places) (sym (append_assoc before (q ∷ []) places))
    ∙ firsts_are bytes low (suc q) high (before ++ q ∷ []) places (done ++ p ∷ []) fields upto k.2 in
    elim (cases_Bool (is_new done p)) [
      | inl e ↦
          let test = new ∙ e in
          rw (test, e) (flat_map-cons (pair_text_at bytes) q (filter (is_earliest bytes (each_marked bytes (before ++ q ∷ places))) places)
          ∙ ap (λ (l : Bytes). l ++ earliest_text bytes (each_marked bytes (before ++ q ∷ places)) places) k.1.text
          ∙ ap (λ (l : Bytes). pair_text p ++ l) rest ∙ sym (flat_map-cons pair_text p (firsts (done ++ p ∷ []) fields)))
      | inr e ↦ (let test = new ∙ e in rw (test, e) rest)
    ]
