-- The fee of a transaction: what its inputs spend beyond its outputs.
use Rattle.std.specs.Prelude.{ℕ, ◌+◌, ◌-◌, nat_lt, ◌++◌, Bool, true, false, List, [], ◌∷◌, sum, map, codes, decimal, if◌then◌else◌, Option, Some, None}
use Rattle.std.specs.Option.{option_map}
use Rattle.std.specs.List.{list_all}
use Rattle.def_script.specs.Bytes.{Bytes}
use Rattle.def_psbt.specs.Transaction.{TransactionOutput}
use Rattle.def_spend.specs.Amount.{Amount, unknown, proved, claimed}
use Rattle.def_answer.specs.Lines.{line}

-- what amounts sum to, where each is known
abbrev pub total : List Amount → Option ℕ
total [] = Some 0
total (unknown ∷ amounts) = None
total (proved satoshis ∷ amounts) = option_map (λ rest. satoshis + rest) (total amounts)
total (claimed satoshis ∷ amounts) = option_map (λ rest. satoshis + rest) (total amounts)

abbrev pub is_proved : Amount → Bool
is_proved unknown = false
is_proved (proved satoshis) = true
is_proved (claimed satoshis) = false

-- what all outputs get
abbrev pub paid : List TransactionOutput → ℕ
paid outputs = sum (map (λ output. output.amount) outputs)

abbrev pub fee_line_by : (spent : Option ℕ) → (paid : ℕ) → (all_proved : Bool) → Bytes
fee_line_by None paid all_proved = line (codes "fee unknown")
fee_line_by (Some spent) paid all_proved =
    if nat_lt spent paid then line (codes "fee negative")
    else line (codes "fee " ++ decimal (spent - paid) ++ (if all_proved then codes " proved" else codes " claimed"))

abbrev pub fee_line : List Amount → List TransactionOutput → Bytes
fee_line amounts outputs = fee_line_by (total amounts) (paid outputs) (list_all is_proved amounts)
