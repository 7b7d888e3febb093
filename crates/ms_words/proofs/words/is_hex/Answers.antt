use Rattle.std.proofs.Common.{◌≡◌, ◌%◌, length, arith}
use Rattle.ms_words.proofs.SpellingLemmas.{digits_tell}
use Rattle.ms_words.proofs.words.is_hex.Goals as goal

pub returns : goal.returns
returns c =
    let even : length c.args.digits.now % 2 ≡ 0 = omega (arith, c.if-digits-eq1.false) in
    digits_tell c.args.digits.now c.are_digits.result even c.are_digits.ensures
