use Rattle.std.proofs.Common.{◌≡◌, ◌||◌, is_some, refl}
use Rattle.def_psbt.specs.Map.{pair_of_type}
use Rattle.ms_psbt.proofs.Fielding.{in_map, in_map_so, no_size, at_end, no_pair, goes_on, past}
use Rattle.ms_psbt.proofs.Finding.{seen_on, both_seen}
use Rattle.ms_psbt.proofs.values.has_both.Goals as goal

pub loop-size-init : goal.loop-size-init
loop-size-init c = (
  c.if-from-psbt.false,
  λ forms map e. in_map forms c.args.psbt.now c.args.from map _ e (refl, refl),
)

pub returns-then-from-psbt : goal.returns-then-from-psbt
returns-then-from-psbt c = λ forms map e. absurd (past forms c.args.psbt.now c.args.from map c.if-from-psbt.true e)

pub returns-in_default : goal.returns-in_default
returns-in_default c = λ forms map e. absurd (no_size (c.loop-size.invariant.1 forms map e) c.in_default.field-0 c.in_default.ensures.reading)

pub returns-then-size-eq0 : goal.returns-then-size-eq0
returns-then-size-eq0 c = λ forms map e.
    let seen = at_end (c.loop-size.invariant.1 forms map e) (c.in-Ok.size, c.in-Ok.field-0-1) c.in-Ok.ensures.reading c.if-size-eq0.true in
    both_seen c.both.result c.loop-size.has_first c.loop-size.has_second _ _ c.both.ensures seen.0 seen.1

pub returns-in_default-pair_at : goal.returns-in_default-pair_at
returns-in_default-pair_at c = λ forms map e.
    absurd (no_pair (c.loop-size.invariant.1 forms map e) (c.in-Ok.size, c.in-Ok.field-0-1) c.in-Ok.ensures.reading c.if-size-eq0.false
    c.in_default-pair_at.field-0 c.in_default-pair_at.ensures.reading)

pub loop-size-preserved : goal.loop-size-preserved
loop-size-preserved c = (
  c.in-Ok-pair_at.ensures.within,
  λ forms map e.
      let n = goes_on (c.loop-size.invariant.1 forms map e) (c.in-Ok.size, c.in-Ok.field-0-1) c.in-Ok.ensures.reading c.if-size-eq0.false
      (c.in-Ok-pair_at.pair, c.in-Ok-pair_at.next) c.in-Ok-pair_at.ensures.reading in
      in_map_so c.args.psbt.now c.in-Ok-pair_at.next _
      (λ rest. ((c.is_either-has_first.result || is_some (pair_of_type c.args.first rest)) ≡ is_some (pair_of_type c.args.first map.0))
      × ((c.is_either-has_second.result || is_some (pair_of_type c.args.second rest)) ≡ is_some (pair_of_type c.args.second map.0))) n
      (λ rest said. (
        seen_on c.args.first c.loop-size.has_first c.is_either-has_first.result c.key_type-key_type.result c.in-Ok-pair_at.pair rest _ c.key_type-key_type.ensures c.is_either-has_first.ensures said.0,
        seen_on c.args.second c.loop-size.has_second c.is_either-has_second.result c.key_type-key_type.result c.in-Ok-pair_at.pair rest _ c.key_type-key_type.ensures
            c.is_either-has_second.ensures said.1,
      )),
)
