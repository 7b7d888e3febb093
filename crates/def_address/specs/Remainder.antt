-- The remainder of a polynomial over the field of 32 elements by a generator (BIP 173 and BIP 380: `polymod`). Its coefficients are
-- digits of base 32 of one number.
use Rattle.std.specs.Prelude.{ℕ, ◌*◌, ◌/◌, ◌%◌, ◌^◌, ◌==◌, if◌then◌else◌, List, [], ◌∷◌, fold, bit_xor}

-- all generators whose bit is set, the lowest bit first
abbrev pub chosen : (generators : List ℕ) → (bits : ℕ) → ℕ
chosen [] bits = 0
chosen (generator ∷ generators) bits = bit_xor (if bits % 2 == 1 then generator else 0) (chosen generators (bits / 2))

-- one value more: what is above the lower bits chooses generators
abbrev pub remainder_with : (low : ℕ) (generators : List ℕ) → (remainder value : ℕ) → ℕ
remainder_with low generators remainder value = bit_xor (bit_xor (remainder % 2 ^ low * 32) value) (chosen generators (remainder / 2 ^ low))

-- the remainder of some values behind a 1
abbrev pub remainder_of : (low : ℕ) (generators values : List ℕ) → ℕ
remainder_of low generators values = fold (remainder_with low generators) 1 values
