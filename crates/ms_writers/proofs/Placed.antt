-- The writers as nodes, and their places.
use Rattle.std.proofs.Common.{◌≡◌, ℕ, ◌<◌, All, List, [], ◌∷◌, length, map, slice_index, refl, sym, ◌∙◌, ap}
use Rattle.std.proofs.Math.ListN.{length-map}
use Rattle.std.proofs.lemmas.List.Elements.{All-map}
use Rattle.def_emit.specs.Emit.{emit}
use Rattle.def_trace.specs.Writers.{Attributed, attributed, places_of}
use Rattle.def_trace.proofs.Writing.{writers_of_script, writers_are_nodes}
use Rattle.def_tree.specs.Size.{nodes}
use Rattle.def_tree.specs.Tree.{Tree}

-- each writer is a node
pub writers_within : (t : Tree) → All (λ (n : ℕ). n < nodes t) (map (λ (a : Attributed). a.writer) (attributed 0 t))
writers_within t = All-map (λ (n : ℕ). n < nodes t) (λ (a : Attributed). a.writer) (attributed 0 t) (writers_are_nodes t)

-- the places of writers are the offsets of their nodes
offsets_of : (offsets : List ℕ) (ws : List Attributed)
    → map (λ (n : ℕ). slice_index offsets n) (map (λ (a : Attributed). a.writer) ws) ≡ map (λ (a : Attributed). slice_index offsets a.writer) ws
offsets_of offsets [] = refl
offsets_of offsets (a ∷ ws) = ap (λ l. slice_index offsets a.writer ∷ l) (offsets_of offsets ws)

pub places_of_writers : (offsets : List ℕ) (t : Tree)
    → map (λ (n : ℕ). slice_index offsets n) (map (λ (a : Attributed). a.writer) (attributed 0 t)) ≡ places_of offsets t
places_of_writers offsets t = offsets_of offsets (attributed 0 t)

-- there are as many as instructions
pub as_many : (offsets : List ℕ) (t : Tree) → length (places_of offsets t) ≡ length (emit t)
as_many offsets t =
    length-map (attributed 0 t) (λ (a : Attributed). slice_index offsets a.writer)
    ∙ sym (length-map (attributed 0 t) (λ (a : Attributed). a.instruction))
    ∙ ap length (writers_of_script 0 t)
