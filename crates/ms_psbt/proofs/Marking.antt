-- Lists of places with the marks of their keys, which grow.
use Rattle.std.proofs.Common.{◌≡◌, ℕ, List, [], ◌∷◌, ◌++◌, map, refl, sym, ap, subst, ◌∙◌}
use Rattle.std.proofs.lemmas.List.{map-append}
use Rattle.std.proofs.lemmas.List.Elements.{All-push, All-map}
use Rattle.std.proofs.lemmas.Simd.{map-map}
use Rattle.def_script.specs.Bytes.{Bytes}
use Rattle.ms_psbt.specs.declared.repeats.Keys.{Keys}
use Rattle.ms_psbt.specs.declared.repeats.Marked.{Marked}
use Rattle.ms_psbt.specs.Scaffolding.Repeats.{key_at, mark_of, hash_of, marked, hashed, IsMarkedBy, AreMarked, AreMarkedBy, places_of}

pub places_more : (items new : List Marked) (place : Marked) (key : Bytes) (at : ℕ) → new ≡ items ++ place ∷ [] → place ≡ marked key at → places_of new ≡ places_of items ++ at ∷ []
places_more items new place key at pushed is =
    ap places_of pushed ∙ map-append (λ (m : Marked). m.place) items (place ∷ []) ∙ ap (λ (m : Marked). places_of items ++ m.place ∷ []) is

pub marks_more : (keys : Keys) (bytes : Bytes) (items new : List Marked) (place : Marked) (at : ℕ) → new ≡ items ++ place ∷ [] → place ≡ marked (key_at keys bytes at) at
    → AreMarked keys bytes items → AreMarked keys bytes new
marks_more keys bytes items new place at pushed is all =
    subst (AreMarked keys bytes) (sym pushed)
    (All-push (IsMarkedBy mark_of keys bytes) items place all (ap (λ (m : Marked). m.mark) is ∙ ap (λ (m : Marked). mark_of (key_at keys bytes m.place)) (sym is)))

-- ---- places with the hashes of their keys

pub hashed_places : (keys : Keys) (bytes : Bytes) (places : List Marked) → places_of (map (hashed keys bytes) places) ≡ places_of places
hashed_places keys bytes places = map-map (λ (m : Marked). m.place) (hashed keys bytes) places

pub hashed_marks : (keys : Keys) (bytes : Bytes) (places : List Marked) → AreMarkedBy hash_of keys bytes (map (hashed keys bytes) places)
hashed_marks keys bytes places = All-map (IsMarkedBy hash_of keys bytes) (hashed keys bytes) places (λ i d inside. refl)
