use Rattle.std.proofs.Common.{◌≡◌, ◌∷◌, refl, sym, ap, Some, ◌∙◌}
use Rattle.def_psbt.specs.Map.{value_of_type}
use Rattle.ms_psbt.proofs.Fielding.{in_map, in_map_so, no_size, at_end, no_pair, goes_on, past, value_here, value_next}
use Rattle.ms_psbt.proofs.values.value_in.Goals as goal

pub loop-size-init : goal.loop-size-init
loop-size-init c = (
  c.if-from-psbt.false,
  λ forms map e. in_map forms c.args.psbt.now c.args.from map (λ rest. value_of_type c.args.type_number rest ≡ value_of_type c.args.type_number map.0) e refl,
)

pub returns-in_default : goal.returns-in_default
returns-in_default c = λ forms map e. absurd (no_size (c.loop-size.invariant.1 forms map e) c.in_default.field-0 c.in_default.ensures.reading)

pub returns-then-size-eq0 : goal.returns-then-size-eq0
returns-then-size-eq0 c = λ forms map e. sym (at_end (c.loop-size.invariant.1 forms map e) (c.in-Ok.size, c.in-Ok.field-0-1) c.in-Ok.ensures.reading c.if-size-eq0.true)

pub returns-then-from-psbt : goal.returns-then-from-psbt
returns-then-from-psbt c = λ forms map e. absurd (past forms c.args.psbt.now c.args.from map c.if-from-psbt.true e)

pub returns-in_default-pair_at : goal.returns-in_default-pair_at
returns-in_default-pair_at c = λ forms map e.
    absurd (no_pair (c.loop-size.invariant.1 forms map e) (
      c.in-Ok.size,
      c.in-Ok.field-0-1,
    ) c.in-Ok.ensures.reading c.if-size-eq0.false c.in_default-pair_at.field-0 c.in_default-pair_at.ensures.reading)

pub returns-then-key_type-type_number : goal.returns-then-key_type-type_number
returns-then-key_type-type_number c = λ forms map e.
    let n = goes_on (c.loop-size.invariant.1 forms map e) (c.in-Ok.size, c.in-Ok.field-0-1) c.in-Ok.ensures.reading c.if-size-eq0.false
    (c.in-Ok-pair_at.pair, c.in-Ok-pair_at.next) c.in-Ok-pair_at.ensures.reading in
    sym n.said ∙ value_here c.args.type_number c.in-Ok-pair_at.pair n.rest.0 (sym c.key_type.ensures ∙ c.if-key_type-type_number.true)
    ∙ ap Some (sym c.value.ensures)

pub loop-size-preserved : goal.loop-size-preserved
loop-size-preserved c = (
  c.in-Ok-pair_at.ensures.within,
  λ forms map e.
      let n = goes_on (c.loop-size.invariant.1 forms map e) (c.in-Ok.size, c.in-Ok.field-0-1) c.in-Ok.ensures.reading c.if-size-eq0.false
      (c.in-Ok-pair_at.pair, c.in-Ok-pair_at.next) c.in-Ok-pair_at.ensures.reading in
      in_map_so c.args.psbt.now c.in-Ok-pair_at.next (λ rest. value_of_type c.args.type_number (c.in-Ok-pair_at.pair ∷ rest) ≡ value_of_type c.args.type_number map.0)
      (λ rest. value_of_type c.args.type_number rest ≡ value_of_type c.args.type_number map.0) n
      (λ rest said. sym (value_next c.args.type_number c.in-Ok-pair_at.pair rest (λ z. c.if-key_type-type_number.false (c.key_type.ensures ∙ z))) ∙ said),
)
