use Rattle.std.proofs.Common.{◌≡◌, ℕ, ◌<◌, ◌≤◌, List, [], ◌∷◌, ◌++◌, All, length, map, sym, ap, subst, ◌∙◌, arith}
use Rattle.def_script.specs.Bytes.{Bytes}
use Rattle.def_psbt.specs.Map.{magic}
use Rattle.ms_combine.specs.Scaffolding.Earliest.{earliest_text, all_places}
use Rattle.ms_combine.specs.Scaffolding.Rows.{rows_joined, first_of}
use Rattle.ms_combine.specs.Scaffolding.Walk.{behind_from, marked_at}
use Rattle.ms_combine.proofs.Rows.{Joining, joining_starts, joining_goes_on, joining_ends, first_later, all_inside}
use Rattle.ms_combine.proofs.joined.joined_text.Goals as goal

pub maps-init : goal.maps-init
maps-init c = (
  c.requires.inside,
  λ row rows h.
      subst (λ (l : Bytes). Joining c.args.bytes.now c.args.end c.args.places.items l (rows_joined row rows))
      (sym (c.in_ok-extend_from_slice.ensures.items ∙ ap (λ (l : Bytes). l ++ magic) c.in_ok-out.ensures.items))
      (joining_starts c.args.bytes.now c.args.end c.args.places.items row rows h),
)

pub maps-smaller : goal.maps-smaller
maps-smaller c =
    let first : c.first_place.result ≡ first_of c.maps.places.items = c.first_place.ensures ∙ ap first_of c.as_slice.ensures.value in
    let less : first_of c.maps.places.items < c.args.end = subst (λ (n : ℕ). n < c.args.end) first c.maps-test.true in
    let is : c.in_ok-places.places.items ≡ map (behind_from c.args.bytes.now (length c.args.bytes.now)) c.maps.places.items =
    c.in_ok-places.ensures.behind ∙ ap (map (behind_from c.args.bytes.now (length c.args.bytes.now))) c.as_slice-in-maps.ensures.value in
    let later = first_later c.args.bytes.now c.args.end c.maps.places.items c.in_ok-places.places.items c.requires.end c.requires.room less is in
    omega (arith, later, less)

pub maps-preserved : goal.maps-preserved
maps-preserved c =
    let first : c.first_place.result ≡ first_of c.maps.places.items = c.first_place.ensures ∙ ap first_of c.as_slice.ensures.value in
    let less : first_of c.maps.places.items < c.args.end = subst (λ (n : ℕ). n < c.args.end) first c.maps-test.true in
    let is : c.in_ok-places.places.items ≡ map (behind_from c.args.bytes.now (length c.args.bytes.now)) c.maps.places.items =
    c.in_ok-places.ensures.behind ∙ ap (map (behind_from c.args.bytes.now (length c.args.bytes.now))) c.as_slice-in-maps.ensures.value in (
      subst (λ (l : List ℕ). All (λ place. place ≤ length c.args.bytes.now) l) (sym is) (all_inside c.args.bytes.now c.maps.places.items),
      λ row rows h.
          joining_goes_on c.args.bytes.now c.args.end c.maps.places.items c.in_ok-places.places.items c.maps.out.items c.join_map.new.out.items (rows_joined row rows) less
          (subst (λ (l : List ℕ). c.join_map.new.out.items ≡ c.maps.out.items
          ++ (earliest_text c.args.bytes.now (map (marked_at c.args.bytes.now) (all_places c.args.bytes.now l)) (all_places c.args.bytes.now l) ++ 0x00 ∷ []))
          c.as_slice-in-maps.ensures.value c.in_ok-places.ensures.pairs)
          is (c.maps.invariant.1 row rows h),
    )

pub returns : goal.returns
returns c = λ row rows h.
    let first : c.first_place.result ≡ first_of c.maps.places.items = c.first_place.ensures ∙ ap first_of c.as_slice.ensures.value in
    let past = c.maps-test.false in
    joining_ends c.args.bytes.now c.args.end c.maps.places.items c.maps.out.items (rows_joined row rows)
    (λ less. omega (arith, less, first, past)) (c.maps.invariant.1 row rows h)
