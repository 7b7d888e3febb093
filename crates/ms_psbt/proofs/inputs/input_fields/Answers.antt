use Rattle.std.proofs.Common.{◌==◌, refl, sym, ap, ◌∙◌}
use Rattle.ms_psbt.proofs.Fielding.{in_map, in_map_so, no_size, at_end, no_pair, goes_on, past}
use Rattle.ms_psbt.proofs.Finding.{AreSought, fields_found, fields_past, sought_on, lock_first}
use Rattle.ms_psbt.proofs.inputs.input_fields.Goals as goal

pub loop-size-init : goal.loop-size-init
loop-size-init c = (
  c.if-from-psbt.false,
  λ forms map e. in_map forms c.args.psbt.now c.args.from map _ e (refl, refl, refl, refl),
)

pub returns-then-from-psbt : goal.returns-then-from-psbt
returns-then-from-psbt c = λ forms map e. absurd (past forms c.args.psbt.now c.args.from map c.if-from-psbt.true e)

pub returns-in_default : goal.returns-in_default
returns-in_default c = λ forms map e. absurd (no_size (c.loop-size.invariant.1 forms map e) c.in_default.field-0 c.in_default.ensures.reading)

pub returns-then-size-eq0 : goal.returns-then-size-eq0
returns-then-size-eq0 c = λ forms map e.
    fields_found c.loop-size.id c.loop-size.index c.loop-size.sequence c.loop-size.is_locked map.0
    (at_end (c.loop-size.invariant.1 forms map e) (c.in-Ok.size, c.in-Ok.field-0-1) c.in-Ok.ensures.reading c.if-size-eq0.true)

pub returns-in_default-pair_at : goal.returns-in_default-pair_at
returns-in_default-pair_at c = λ forms map e.
    absurd (no_pair (c.loop-size.invariant.1 forms map e) (c.in-Ok.size, c.in-Ok.field-0-1) c.in-Ok.ensures.reading c.if-size-eq0.false
    c.in_default-pair_at.field-0 c.in_default-pair_at.ensures.reading)

pub loop-size-preserved-then-is_between : goal.loop-size-preserved-then-is_between
loop-size-preserved-then-is_between c = (
  c.in-Ok-pair_at.ensures.within,
  λ forms map e.
      let n = goes_on (c.loop-size.invariant.1 forms map e) (c.in-Ok.size, c.in-Ok.field-0-1) c.in-Ok.ensures.reading c.if-size-eq0.false
      (c.in-Ok-pair_at.pair, c.in-Ok-pair_at.next) c.in-Ok-pair_at.ensures.reading in
      in_map_so c.args.psbt.now c.in-Ok-pair_at.next _
      (λ rest. AreSought c.found_or-id.result c.found_or-index.result c.found_or-sequence.result c.is_lock-is_locked.result map.0 rest) n
      (λ rest said. (
        sought_on 0x0e c.loop-size.id c.found_or-id.result _ c.value-value.result.now c.in-Ok-pair_at.pair map.0 rest
            (ap (λ t. t == 0x0e) c.key_type-key_type.ensures) c.value-value.ensures c.found_or-id.ensures said.0,
        sought_on 0x0f c.loop-size.index c.found_or-index.result _ c.value-value.result.now c.in-Ok-pair_at.pair map.0 rest
            (ap (λ t. t == 0x0f) c.key_type-key_type.ensures) c.value-value.ensures c.found_or-index.ensures said.1,
        sought_on 0x10 c.loop-size.sequence c.found_or-sequence.result _ c.value-value.result.now c.in-Ok-pair_at.pair map.0 rest
            (ap (λ t. t == 0x10) c.key_type-key_type.ensures) c.value-value.ensures c.found_or-sequence.ensures said.2,
        lock_first c.loop-size.is_locked c.is_lock-is_locked.result c.key_type-key_type.result c.in-Ok-pair_at.pair rest _ c.key_type-key_type.ensures c.is_lock-is_locked.ensures said.3,
      )),
)

pub loop-size-preserved : goal.loop-size-preserved
loop-size-preserved c = (
  c.in-Ok-pair_at.ensures.within,
  λ forms map e.
      let n = goes_on (c.loop-size.invariant.1 forms map e) (c.in-Ok.size, c.in-Ok.field-0-1) c.in-Ok.ensures.reading c.if-size-eq0.false
      (c.in-Ok-pair_at.pair, c.in-Ok-pair_at.next) c.in-Ok-pair_at.ensures.reading in
      in_map_so c.args.psbt.now c.in-Ok-pair_at.next _ (λ rest. AreSought c.loop-size.id c.loop-size.index c.loop-size.sequence c.loop-size.is_locked map.0 rest) n
      (λ rest said. fields_past c.loop-size.id c.loop-size.index c.loop-size.sequence c.loop-size.is_locked c.key_type-key_type.result c.in-Ok-pair_at.pair map.0 rest
      c.key_type-key_type.ensures (sym c.is_between.ensures ∙ c.if-is_between.false) said),
)
