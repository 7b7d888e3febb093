-- The amount that an input spends: proved by the previous transaction, or as the map claims it.
use Rattle.std.specs.Prelude.{ℕ}

pub data Amount : Type 0 where
  unknown : Amount
  proved : (satoshis : ℕ) → Amount
  claimed : (satoshis : ℕ) → Amount

-- in satoshis; 0 where it is unknown
abbrev pub known_amount : Amount → ℕ
known_amount unknown = 0
known_amount (proved satoshis) = satoshis
known_amount (claimed satoshis) = satoshis
