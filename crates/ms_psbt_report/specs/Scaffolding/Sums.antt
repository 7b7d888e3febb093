-- Sums of amounts, one more at the end. No public clause cites it, so it need not be believed.
use Rattle.std.specs.Prelude.{ℕ, ◌+◌, Option, None}
use Rattle.std.specs.Option.{option_map}
use Rattle.def_spend.specs.Amount.{Amount, unknown, proved, claimed}

-- a sum with an amount more, where both are known
abbrev pub with_amount : Option ℕ → Amount → Option ℕ
with_amount sum unknown = None
with_amount sum (proved satoshis) = option_map (λ all. all + satoshis) sum
with_amount sum (claimed satoshis) = option_map (λ all. all + satoshis) sum
