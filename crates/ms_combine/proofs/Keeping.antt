-- The PSBTs that are kept: where their maps stand, and one more behind them.
use Rattle.std.proofs.Common.{◌≡◌, ℕ, ◌+◌, ◌≤◌, List, [], ◌∷◌, ◌++◌, length, map, drop, All, refl, sym, ap, subst, ◌∙◌, append_assoc, length-append, arith}
use Rattle.std.specs.List.{flat_map, AllByRecursion}
use Rattle.std.proofs.lemmas.List.{append-nil, drop_at}
use Rattle.std.proofs.lemmas.List.Concat.{flat_map-cons}
use Rattle.std.proofs.lemmas.List.Elements.{All-from_recursion}
use Rattle.std.proofs.lemmas.Grind.{flat_map-append}
use Rattle.def_script.specs.Bytes.{Bytes}
use Rattle.def_psbt.specs.Map.{Map, Psbt, map_text, magic}
use Rattle.def_psbt.specs.TransactionReading.{transaction_of}
use Rattle.ms_combine.specs.Scaffolding.Kept.{bytes_of, globals_from, AreKept}
use Rattle.ms_combine.specs.Scaffolding.Rows.{maps_of, IsAt, AreAt, first_of}
use Rattle.ms_combine.specs.declared.parts.Parts.{Parts}

-- ---- where their maps stand

pub maps_text : (psbt : Psbt) → bytes_of psbt ≡ magic ++ flat_map map_text (maps_of psbt)
maps_text psbt =
    ap (λ (l : Bytes). magic ++ (map_text psbt.global ++ l)) (sym (flat_map-append map_text psbt.inputs psbt.outputs))
    ∙ ap (λ (l : Bytes). magic ++ l) (sym (flat_map-cons map_text psbt.global (psbt.inputs ++ psbt.outputs)))

text_at : (front text rest : Bytes) (at : ℕ) → at ≡ length front → IsAt (front ++ (text ++ rest)) at text
text_at front text rest at is =
    let first = length-append front (text ++ rest) in
    let second = length-append text rest in
    let third = length-append front text in
    record {
      inside = omega (arith, is, first, second);
      is = ap (λ (n : ℕ). drop n (front ++ (text ++ rest))) is ∙ drop_at front (text ++ rest) (length front) refl
          ∙ ap (λ (l : Bytes). text ++ l) (sym (ap (λ (l : Bytes). drop (at + length text) l) (sym (append_assoc front text rest)) ∙ drop_at (front ++ text) rest
          (at + length text) (omega (arith, is, third))));
    }

all_at : (front : Bytes) (from at : ℕ) (psbts : List Psbt) → at ≡ length front → from ≤ at → AreAt (front ++ flat_map bytes_of psbts) from (globals_from at psbts) (map maps_of psbts)
all_at front from at [] is less = tt
all_at front from at (psbt ∷ psbts) is less =
    let rest : Bytes = flat_map bytes_of psbts in
    let here : front ++ flat_map bytes_of (psbt ∷ psbts) ≡ (front ++ magic) ++ (flat_map map_text (maps_of psbt) ++ flat_map bytes_of psbts) =
    ap (λ (l : Bytes). front ++ l) (flat_map-cons bytes_of psbt psbts ∙ ap (λ (l : Bytes). l ++ flat_map bytes_of psbts) (maps_text psbt)
    ∙ append_assoc magic (flat_map map_text (maps_of psbt)) (flat_map bytes_of psbts))
    ∙ sym (append_assoc front magic (flat_map map_text (maps_of psbt) ++ flat_map bytes_of psbts)) in
    let behind : front ++ flat_map bytes_of (psbt ∷ psbts) ≡ (front ++ bytes_of psbt) ++ flat_map bytes_of psbts =
    ap (λ (l : Bytes). front ++ l) (flat_map-cons bytes_of psbt psbts) ∙ sym (append_assoc front (bytes_of psbt) (flat_map bytes_of psbts)) in
    let magic_long = length-append front magic in
    let whole_long = length-append front (bytes_of psbt) in
    let maps_long = ap length (maps_text psbt) ∙ length-append magic (flat_map map_text (maps_of psbt)) in (
      omega (arith, less),
      subst (λ (l : Bytes). IsAt l (at + 5) (flat_map map_text (maps_of psbt))) (sym here)
          (text_at (front ++ magic) (flat_map map_text (maps_of psbt)) (flat_map bytes_of psbts) (at + 5) (omega (arith, is, magic_long))),
      subst (λ (l : Bytes). AreAt l ((at + 5) + length (flat_map map_text (maps_of psbt))) (globals_from (at + length (bytes_of psbt)) psbts) (map maps_of psbts)) (sym behind)
          (all_at (front ++ bytes_of psbt) ((at + 5) + length (flat_map map_text (maps_of psbt))) (at + length (bytes_of psbt)) psbts (omega (arith, is, whole_long)) (omega (arith, maps_long))),
    )

-- of what is kept
pub record Placed (bytes : Bytes) (end : ℕ) (places : List ℕ) (first : Psbt) (others : List Psbt) : Type 0 where
  pub at : AreAt bytes 0 places (map maps_of (first ∷ others))
  pub last : first_of places + length (flat_map map_text (maps_of first)) ≡ end
  pub end_inside : end ≤ length bytes
  pub inside : All (λ place. place ≤ length bytes) places

inside_of : (bytes : Bytes) (from : ℕ) (places : List ℕ) (rows : List (List Map)) → AreAt bytes from places rows → AllByRecursion (λ place. place ≤ length bytes) places
inside_of bytes from [] rows h = tt
inside_of bytes from (place ∷ places) [] h = absurd h
inside_of bytes from (place ∷ places) (row ∷ rows) h =
    let inside = h.1.inside in (omega (arith, inside), inside_of bytes (place + length (flat_map map_text row)) places rows h.2)

pub placed : (parts : Parts) (first : Psbt) (others : List Psbt) → AreKept parts first others → Placed parts.bytes.items parts.first_end parts.places.items first others
placed parts first others h =
    let at : AreAt parts.bytes.items 0 parts.places.items (map maps_of (first ∷ others)) =
    subst (λ (l : List ℕ). AreAt parts.bytes.items 0 l (map maps_of (first ∷ others))) (sym h.places)
    (subst (λ (l : Bytes). AreAt l 0 (globals_from 0 (first ∷ others)) (map maps_of (first ∷ others))) (sym h.bytes) (all_at [] 0 0 (first ∷ others) refl (omega arith))) in
    let long = ap length (maps_text first) ∙ length-append magic (flat_map map_text (maps_of first)) in
    let end = h.first_end in
    let bytes_long = ap length (h.bytes ∙ flat_map-cons bytes_of first others) ∙ length-append (bytes_of first) (flat_map bytes_of others) in
    record {
      at = at;
      last = ap (λ (l : List ℕ). first_of l + length (flat_map map_text (maps_of first))) h.places ∙ omega (arith, long, end);
      end_inside = omega (arith, bytes_long, end);
      inside = All-from_recursion (λ place. place ≤ length parts.bytes.items) parts.places.items (inside_of parts.bytes.items 0 parts.places.items (map maps_of (first ∷ others)) at);
    }

-- ---- one more

pub globals_more : (at : ℕ) (psbts : List Psbt) (other : Psbt) → globals_from at (psbts ++ other ∷ []) ≡ globals_from at psbts ++ ((at + length (flat_map bytes_of psbts)) + 5) ∷ []
globals_more at [] other = ap (λ (n : ℕ). (n + 5) ∷ []) (omega arith)
globals_more at (psbt ∷ psbts) other =
    let long = ap length (flat_map-cons bytes_of psbt psbts) ∙ length-append (bytes_of psbt) (flat_map bytes_of psbts) in
    let same : (at + length (bytes_of psbt)) + length (flat_map bytes_of psbts) ≡ at + length (flat_map bytes_of (psbt ∷ psbts)) = omega (arith, long) in
    ap (λ (l : List ℕ). (at + 5) ∷ l) (globals_more (at + length (bytes_of psbt)) psbts other ∙ ap (λ (n : ℕ). globals_from (at + length (bytes_of psbt)) psbts ++ (n + 5) ∷ []) same)

pub kept_more : (old new : Parts) (first other : Psbt) (others : List Psbt) → AreKept old first others → new.bytes.items ≡ old.bytes.items ++ bytes_of other
    → new.places.items ≡ old.places.items ++ (length old.bytes.items + 5) ∷ [] → new.first_end ≡ old.first_end → new.version ≡ old.version
    → new.transaction.items ≡ old.transaction.items → AreKept new first (others ++ other ∷ [])
kept_more old new first other others h bytes places end version transaction =
    let none : length (flat_map bytes_of (first ∷ others)) ≡ 0 + length (flat_map bytes_of (first ∷ others)) = omega arith in
    record {
      bytes = bytes ∙ ap (λ (l : Bytes). l ++ bytes_of other) h.bytes
          ∙ ap (λ (l : Bytes). flat_map bytes_of (first ∷ others) ++ l) (sym (append-nil (bytes_of other)) ∙ sym (flat_map-cons bytes_of other []))
          ∙ sym (flat_map-append bytes_of (first ∷ others) (other ∷ []));
      places = places ∙ ap (λ (l : Bytes). old.places.items ++ (length l + 5) ∷ []) h.bytes
          ∙ ap (λ (l : List ℕ). l ++ (length (flat_map bytes_of (first ∷ others)) + 5) ∷ []) h.places
          ∙ ap (λ (n : ℕ). globals_from 0 (first ∷ others) ++ (n + 5) ∷ []) none ∙ sym (globals_more 0 (first ∷ others) other);
      first_end = end ∙ h.first_end;
      version = version ∙ h.version;
      transaction = ap transaction_of transaction ∙ h.transaction;
    }
