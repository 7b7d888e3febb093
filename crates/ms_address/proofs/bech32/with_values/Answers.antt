-- One value more.
use Rattle.std.proofs.Common.{ℕ, get_or, sym, ap, ◌∙◌, arith}
use Rattle.std.proofs.lemmas.List.Sums.{fold_more}
use Rattle.def_address.specs.Remainder.{remainder_with}
use Rattle.def_address.specs.Bech32.{bech32_generators}
use Rattle.ms_address.proofs.bech32.with_values.Goals as goal

pub loop-value-preserved : goal.loop-value-preserved
loop-value-preserved c =
    let i = c.loop-value.value-index in
    let values = c.args.values.now in
    let more = fold_more (remainder_with 25 bech32_generators) c.args.first values i 0 (omega arith) in
    c.address_with-remainder.ensures ∙ (ap (λ (z : ℕ). remainder_with 25 bech32_generators z (get_or values i 0)) c.loop-value.invariant ∙ sym more)
