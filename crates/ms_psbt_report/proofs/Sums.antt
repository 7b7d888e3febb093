-- Sums of amounts, one more at the end.
use Rattle.std.proofs.Common.{◌≡◌, ℕ, ◌+◌, List, [], ◌∷◌, ◌++◌, Option, Some, None, refl, ap, ◌∙◌, arith}
use Rattle.std.specs.Option.{option_map}
use Rattle.def_spend.specs.Amount.{Amount, unknown, proved, claimed}
use Rattle.def_psbt_answer.specs.Fee.{total}
use Rattle.ms_psbt_report.specs.Scaffolding.Sums.{with_amount}

abbrev plus : ℕ → Option ℕ → Option ℕ
plus satoshis = option_map (λ (rest : ℕ). satoshis + rest)

added_before : (satoshis : ℕ) (sum : Option ℕ) (a : Amount) → plus satoshis (with_amount sum a) ≡ with_amount (plus satoshis sum) a
added_before satoshis None unknown = refl
added_before satoshis None (proved n) = refl
added_before satoshis None (claimed n) = refl
added_before satoshis (Some sum) unknown = refl
added_before satoshis (Some sum) (proved n) = ap Some (omega arith)
added_before satoshis (Some sum) (claimed n) = ap Some (omega arith)

pub total_more : (amounts : List Amount) (a : Amount) → total (amounts ++ a ∷ []) ≡ with_amount (total amounts) a
total_more [] unknown = refl
total_more [] (proved n) = ap Some (omega arith)
total_more [] (claimed n) = ap Some (omega arith)
total_more (unknown ∷ amounts) unknown = refl
total_more (unknown ∷ amounts) (proved n) = refl
total_more (unknown ∷ amounts) (claimed n) = refl
total_more (proved satoshis ∷ amounts) a = ap (plus satoshis) (total_more amounts a) ∙ added_before satoshis (total amounts) a
total_more (claimed satoshis ∷ amounts) a = ap (plus satoshis) (total_more amounts a) ∙ added_before satoshis (total amounts) a
