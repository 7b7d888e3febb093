-- By the remainder of the whole text.
use Rattle.std.proofs.Common.{ℕ, sym, ap, ◌∙◌}
use Rattle.std.specs.Prelude.{bit_xor, Some}
use Rattle.def_address.specs.Digits.{spelled, fixed_digits}
use Rattle.def_address.specs.Bech32.{bech32_alphabet}
use Rattle.ms_address.proofs.Symbols.{sum_some, sum_none}
use Rattle.ms_address.proofs.checksum.descriptor_sum.Goals as goal

pub returns-in_err-remainder : goal.returns-in_err-remainder
returns-in_err-remainder c = let e = sum_none c.args.text.now (sym c.in_err-remainder.ensures) in cc

pub returns : goal.returns
returns c =
    let e = sum_some c.args.text.now c.in_ok-remainder.remainder (sym c.in_ok-remainder.ensures) in
    ap Some (c.eight_letters.ensures ∙ ap (λ (z : ℕ). spelled bech32_alphabet (fixed_digits 32 8 (bit_xor z 1))) c.closed.ensures) ∙ sym e
