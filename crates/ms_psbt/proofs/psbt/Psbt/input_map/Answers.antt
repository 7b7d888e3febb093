use Rattle.std.proofs.Common.{◌+◌, length, get_or, arith, ap, ◌∙◌}
use Rattle.def_psbt.specs.Map.{Psbt}
use Rattle.ms_psbt.proofs.Holding.{places_count, map_is}
use Rattle.ms_psbt.proofs.psbt.Psbt.input_map.Goals as goal

pub place_at-from-requires : goal.place_at-from-requires
place_at-from-requires c = omega (
  arith,
  places_count c.self.invariant,
  ap (λ (p : Psbt). length p.inputs) c.self.view_is,
  c.self.inside.places.ok.0,
  ap length c.deref.ensures.value,
)

pub overflow_add-number : goal.overflow_add-number
overflow_add-number c = omega (
  arith,
  places_count c.self.invariant,
  ap (λ (p : Psbt). length p.inputs) c.self.view_is,
  c.self.inside.places.ok.0,
  c.deref.ensures.len,
)

pub place_at-to-requires : goal.place_at-to-requires
place_at-to-requires c = omega (
  arith,
  places_count c.self.invariant,
  ap (λ (p : Psbt). length p.inputs) c.self.view_is,
  c.self.inside.places.ok.0,
  ap length c.deref-2.ensures.value,
)

pub part-requires : goal.part-requires
part-requires c =
    let m = map_is c.self.invariant c.args.self.now c.self.view_is c.args.number c.place_at-from.result c.place_at-to.result c.requires
    (c.place_at-from.ensures ∙ ap (λ ps. get_or ps c.args.number 0) c.deref.ensures.value)
    (c.place_at-to.ensures ∙ ap (λ ps. get_or ps (c.args.number + 1) 0) c.deref-2.ensures.value) in
    record { up = m.up; inside = m.inside }

pub new-requires : goal.new-requires
new-requires c =
    ((map_is c.self.invariant c.args.self.now c.self.view_is c.args.number c.place_at-from.result c.place_at-to.result c.requires
    (c.place_at-from.ensures ∙ ap (λ ps. get_or ps c.args.number 0) c.deref.ensures.value)
    (c.place_at-to.ensures ∙ ap (λ ps. get_or ps (c.args.number + 1) 0) c.deref-2.ensures.value)).is c.part.result.now c.part.ensures).is_text

pub returns : goal.returns
returns c =
    let m = (map_is c.self.invariant c.args.self.now c.self.view_is c.args.number c.place_at-from.result c.place_at-to.result c.requires
    (c.place_at-from.ensures ∙ ap (λ ps. get_or ps c.args.number 0) c.deref.ensures.value)
    (c.place_at-to.ensures ∙ ap (λ ps. get_or ps (c.args.number + 1) 0) c.deref-2.ensures.value)).is c.part.result.now c.part.ensures in
    rw c.new.ensures (record { map = m.map; sound = m.sound })
