use Rattle.std.proofs.Common.{◌≡◌, true, false, arith, sym, ◌∙◌}
use Rattle.ms_words.proofs.WordLemmas.{none_unread, none_outside, none_otherwise}
use Rattle.ms_words.proofs.words.read_number.Goals as goal

pub returns-in_default : goal.returns-in_default
returns-in_default c m in_range = none_unread _ _ m _ c.in_default.is in_range c.parse.ensures.value.0

pub returns-then-n-lt1 : goal.returns-then-n-lt1
returns-then-n-lt1 c m in_range =
    none_outside _ _ m _ c.in-Ok.is (λ inside. omega (arith, inside.0, inside.1, c.then-n-lt1.either)) in_range c.parse.ensures.value.0

pub returns-then-not-is_decimal : goal.returns-then-not-is_decimal
returns-then-not-is_decimal c m in_range =
    none_otherwise _ _ m _ c.in-Ok.is (λ is. let both : true ≡ false = sym (c.is_decimal.ensures.1 is) ∙ c.if-not-is_decimal.true in cc both) in_range c.parse.ensures.value.0
