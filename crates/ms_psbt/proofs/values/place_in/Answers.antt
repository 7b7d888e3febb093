use Rattle.std.proofs.Common.{◌≡◌, ◌∷◌, refl, sym, ap, ◌∙◌, ◌&&◌, nat_le, arith}
use Rattle.def_psbt.specs.Reading.{place_of}
use Rattle.ms_psbt.proofs.Fielding.{in_map, in_map_so, no_size, at_end, no_pair, goes_on, past, pair_long, place_at_once, place_next}
use Rattle.ms_psbt.proofs.values.place_in.Goals as goal

pub loop-size-init : goal.loop-size-init
loop-size-init c = (
  c.if-from-psbt.false,
  λ forms map e. in_map forms c.args.psbt.now c.args.from map (λ rest. place_of c.args.first c.args.last c.args.from rest ≡ place_of c.args.first c.args.last c.args.from map.0) e refl,
)

pub returns-then-from-psbt : goal.returns-then-from-psbt
returns-then-from-psbt c = λ forms map e. absurd (past forms c.args.psbt.now c.args.from map c.if-from-psbt.true e)

pub returns-in_default : goal.returns-in_default
returns-in_default c = λ forms map e. absurd (no_size (c.loop-size.invariant.1 forms map e) c.in_default.field-0 c.in_default.ensures.reading)

pub returns-then-size-eq0 : goal.returns-then-size-eq0
returns-then-size-eq0 c = λ forms map e. at_end (c.loop-size.invariant.1 forms map e) (c.in-Ok.size, c.in-Ok.field-0-1) c.in-Ok.ensures.reading c.if-size-eq0.true

pub returns-in_default-pair_at : goal.returns-in_default-pair_at
returns-in_default-pair_at c = λ forms map e.
    absurd (no_pair (c.loop-size.invariant.1 forms map e) (
      c.in-Ok.size,
      c.in-Ok.field-0-1,
    ) c.in-Ok.ensures.reading c.if-size-eq0.false c.in_default-pair_at.field-0 c.in_default-pair_at.ensures.reading)

pub returns-then-is_between : goal.returns-then-is_between
returns-then-is_between c = λ forms map e.
    let n = goes_on (c.loop-size.invariant.1 forms map e) (c.in-Ok.size, c.in-Ok.field-0-1) c.in-Ok.ensures.reading c.if-size-eq0.false
    (c.in-Ok-pair_at.pair, c.in-Ok-pair_at.next) c.in-Ok-pair_at.ensures.reading in
    sym (place_at_once c.args.first c.args.last c.loop-size.at c.in-Ok-pair_at.pair n.rest.0
    (ap (λ t. nat_le c.args.first t && nat_le t c.args.last) (sym c.key_type.ensures) ∙ sym c.is_between.ensures ∙ c.if-is_between.true)) ∙ n.said

pub loop-size-preserved : goal.loop-size-preserved
loop-size-preserved c = (
  c.in-Ok-pair_at.ensures.within,
  λ forms map e.
      let n = goes_on (c.loop-size.invariant.1 forms map e) (c.in-Ok.size, c.in-Ok.field-0-1) c.in-Ok.ensures.reading c.if-size-eq0.false
      (c.in-Ok-pair_at.pair, c.in-Ok-pair_at.next) c.in-Ok-pair_at.ensures.reading in
      in_map_so c.args.psbt.now c.in-Ok-pair_at.next (λ rest. place_of c.args.first c.args.last c.loop-size.at (c.in-Ok-pair_at.pair ∷ rest) ≡ place_of c.args.first c.args.last c.args.from map.0)
      (λ rest. place_of c.args.first c.args.last c.in-Ok-pair_at.next rest ≡ place_of c.args.first c.args.last c.args.from map.0) n
      (λ rest said. sym (place_next c.args.first c.args.last c.loop-size.at c.in-Ok-pair_at.next c.in-Ok-pair_at.pair rest
      (pair_long c.args.psbt.now c.loop-size.at (c.in-Ok-pair_at.pair, c.in-Ok-pair_at.next) (λ i. omega (arith, c.type_inv.psbt i)) (sym c.in-Ok-pair_at.ensures.reading))
      (ap (λ t. nat_le c.args.first t && nat_le t c.args.last) (sym c.key_type.ensures) ∙ sym c.is_between.ensures ∙ c.if-is_between.false)) ∙ said),
)
