-- One letter more.
use Rattle.std.proofs.Common.{ℕ, ◌/◌, get_or, sym, ap, ◌∙◌, arith}
use Rattle.def_address.specs.Remainder.{remainder_with}
use Rattle.def_address.specs.Bech32.{bech32_generators}
use Rattle.ms_address.proofs.Fives.{fold_map_more}
use Rattle.ms_address.proofs.bech32.with_upper_bits.Goals as goal

pub loop-letter-preserved : goal.loop-letter-preserved
loop-letter-preserved c =
    let i = c.loop-letter.letter-index in
    let letters = c.args.letters.now in
    let more = fold_map_more (remainder_with 25 bech32_generators) (λ (letter : ℕ). letter / 32) c.args.first letters i (omega arith) in
    c.address_with-remainder.ensures ∙ (ap (λ (z : ℕ). remainder_with 25 bech32_generators z (get_or letters i 0 / 32)) c.loop-letter.invariant ∙ sym more)
