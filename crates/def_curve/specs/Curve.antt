-- The curve secp256k1, y ^ 2 = x ^ 3 + 7 over the field of p elements (SEC 2, 2.4.1).
use Rattle.std.specs.Prelude.{ℕ, ◌-◌, ◌^◌}

-- the field's prime
abbrev pub p : ℕ
p = 2 ^ 256 - 2 ^ 32 - 977

-- the order of the generator
abbrev pub n : ℕ
n = 0xfffffffffffffffffffffffffffffffebaaedce6af48a03bbfd25e8cd0364141

-- the generator's coordinates
abbrev pub generator_x : ℕ
generator_x = 0x79be667ef9dcbbac55a06295ce870b07029bfcdb2dce28d959f2815b16f81798

abbrev pub generator_y : ℕ
generator_y = 0x483ada7726a3c4655da4fbfc0e1108a8fd17b448a68554199c47d08ffb10d4b8
