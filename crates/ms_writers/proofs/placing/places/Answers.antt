use Rattle.std.proofs.Common.{ℕ, ◌<◌, All, List, length, map, slice_index, ◌∙◌, ap, sym, subst}
use Rattle.def_trace.specs.Writers.{Attributed, attributed}
use Rattle.ms_tree.specs.Shape.{shape}
use Rattle.ms_writers.proofs.Placed.{writers_within, places_of_writers, as_many}
use Rattle.ms_writers.proofs.placing.places.Goals as goal

pub places_at-requires : goal.places_at-requires
places_at-requires c =
    let Inside : List ℕ → Type 0 = λ l. All (λ (n : ℕ). n < length c.args.offsets.now) l in
    let Below : ℕ → Type 0 = λ m. All (λ (n : ℕ). n < m) (map (λ (a : Attributed). a.writer) (attributed 0 (shape c.args.tree.now))) in
    subst Inside (sym (c.as_slice.ensures.value ∙ c.in_ok-nodes.ensures))
    (subst Below (sym c.requires.node_each) (writers_within (shape c.args.tree.now)))

pub returns-clause-places : goal.returns-clause-places
returns-clause-places c =
    c.in_ok-places.ensures
    ∙ ap (λ (l : List ℕ). map (λ (n : ℕ). slice_index c.args.offsets.now n) l) (c.as_slice.ensures.value ∙ c.in_ok-nodes.ensures)
    ∙ places_of_writers c.args.offsets.now (shape c.args.tree.now)

pub returns-clause-one_each : goal.returns-clause-one_each
returns-clause-one_each c = ap length (returns-clause-places c) ∙ as_many c.args.offsets.now (shape c.args.tree.now)
