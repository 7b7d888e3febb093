use Rattle.std.proofs.Common.{◌≡◌, ℕ, List, [], ◌∷◌, ◌++◌, map, take, sym, ap, subst, ◌∙◌, append_assoc, arith}
use Rattle.std.specs.List.Sorted.{IsPermutation}
use Rattle.std.proofs.lemmas.List.{take_all}
use Rattle.def_script.specs.Bytes.{Bytes}
use Rattle.ms_combine.specs.declared.keys.Marked.{Marked}
use Rattle.ms_combine.specs.Scaffolding.Earliest.{earliest_text, all_places}
use Rattle.ms_combine.specs.Scaffolding.Walk.{marked_at}
use Rattle.ms_combine.proofs.Pushing.{map_stands, same_text}
use Rattle.ms_combine.proofs.joined.join_map.Goals as goal

pub push_pairs-requires-clause-stand : goal.push_pairs-requires-clause-stand
push_pairs-requires-clause-stand c =
    map_stands c.args.bytes.now c.as_slice.result.now c.args.places.now c.maps.place-index 0
    (subst (λ (l : List Marked). IsPermutation (map (marked_at c.args.bytes.now) (all_places c.args.bytes.now c.args.places.now)) l) (sym c.as_slice.ensures.value) c.in_ok-order.ensures.permutation)
    c.maps-test.true

pub returns-clause-pairs : goal.returns-clause-pairs
returns-clause-pairs c =
    let bytes = c.args.bytes.now in
    let all : List ℕ = all_places c.args.bytes.now c.args.places.now in
    let whole : take c.maps.place-index c.args.places.now ≡ c.args.places.now = take_all c.maps.place-index c.args.places.now (omega (arith, c.maps-test.false)) in
    c.in_ok-push-2.ensures.items ∙ ap (λ (l : Bytes). l ++ 0x00 ∷ []) c.maps.invariant.0
    ∙ ap (λ (l : List ℕ). (c.args.out.now.items ++ earliest_text c.args.bytes.now c.in_ok-order.order.items (all_places c.args.bytes.now l)) ++ 0x00 ∷ []) whole
    ∙ ap (λ (l : Bytes). (c.args.out.now.items ++ l) ++ 0x00 ∷ [])
    (same_text c.args.bytes.now (map (marked_at c.args.bytes.now) (all_places c.args.bytes.now c.args.places.now)) c.in_ok-order.order.items
    (all_places c.args.bytes.now c.args.places.now) c.in_ok-order.ensures.permutation)
    ∙ append_assoc c.args.out.now.items
    (earliest_text c.args.bytes.now (map (marked_at c.args.bytes.now) (all_places c.args.bytes.now c.args.places.now)) (all_places c.args.bytes.now c.args.places.now)) (0x00 ∷ [])
