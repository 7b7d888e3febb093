-- Published digests: of the designers' page on RIPEMD-160, of FIPS 180-4's examples, and of
-- Bitcoin's generator point (BIP 173: the key hash of its test vectors).
use Rattle.std.specs.Prelude.{◌≡◌, [], codes, replicate}
use Rattle.def_hash.specs.Hex.{from_hex}
use Rattle.def_hash.specs.Hash.{sha256, ripemd160, hash160, hash256}

abbrev pub RipemdOfNothing : Type 0
RipemdOfNothing = ripemd160 [] ≡ from_hex "9c1185a5c5e9fc54612808977ee8f548b2258d31"

abbrev pub RipemdOfAbc : Type 0
RipemdOfAbc = ripemd160 (codes "abc") ≡ from_hex "8eb208f7e05d987a9b044a8e98c6b087f15a0bfc"

-- 62 bytes, which the padding carries into a second block
abbrev pub RipemdOfTwoBlocks : Type 0
RipemdOfTwoBlocks = ripemd160 (codes "ABCDEFGHIJKLMNOPQRSTUVWXYZabcdefghijklmnopqrstuvwxyz0123456789") ≡ from_hex "b0e20b6e3116640286ed3a87a5713079b21f5189"

abbrev pub ShaOfAbc : Type 0
ShaOfAbc = sha256 (codes "abc") ≡ from_hex "ba7816bf8f01cfea414140de5dae2223b00361a396177a9cb410ff61f20015ad"

abbrev pub ShaOfZeros : Type 0
ShaOfZeros = sha256 (replicate 32 0) ≡ from_hex "66687aadf862bd776c8fc18b8e9f8e20089714856ee233b3902a591d0d5f2925"

-- the generator point as a compressed key
abbrev pub KeyHashOfGenerator : Type 0
KeyHashOfGenerator = hash160 (from_hex "0279be667ef9dcbbac55a06295ce870b07029bfcdb2dce28d959f2815b16f81798") ≡ from_hex "751e76e8199196d454941c45d1b3a323f1433bd6"

-- SHA-256 twice of the five bytes of `hello`
abbrev pub DoubleShaOfHello : Type 0
DoubleShaOfHello = hash256 (codes "hello") ≡ from_hex "9595c9df90075148eb06860365df33584b75bff782a510c6cd4883a419833d50"
