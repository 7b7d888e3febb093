-- Published values: SEC 2's parameters, small multiples of the generator, a signature of btcd's and of BIP 143's examples.
use Prim.Native.String.{String}
use Rattle.std.specs.Prelude.{◌≡◌, ◌-◌, true, Some, None}
use Rattle.def_hash.specs.Hex.{from_hex}
use Rattle.def_curve.specs.declared.Judgement.TheVariants.{Bad, High, Good}
use Rattle.def_curve.specs.Curve.{p, n, generator_x, generator_y}
use Rattle.def_curve.specs.Point.{infinity, affine, ◌⊕◌, times, generator, is_on_curve}
use Rattle.def_curve.specs.Key.{point_of}
use Rattle.def_curve.specs.Ecdsa.{is_signature_by}
use Rattle.def_curve.specs.Judgement.{judge}

-- the prime as SEC 2 writes it
abbrev pub PrimeIsPublished : Type 0
PrimeIsPublished = p ≡ 0xfffffffffffffffffffffffffffffffffffffffffffffffffffffffefffffc2f

abbrev pub GeneratorIsOnCurve : Type 0
GeneratorIsOnCurve = is_on_curve generator ≡ true

abbrev pub TwiceGenerator : Type 0
TwiceGenerator = times 2 generator ≡ affine 0xc6047f9441ed7d6d3045406e95c07cd85c778e4b8cef3ca7abac09b95c709ee5 0x1ae168fea63dc339a3c58419466ceaeef7f632653266d0e1236431a950cfe52a

abbrev pub ThriceGenerator : Type 0
ThriceGenerator = generator ⊕ times 2 generator ≡ affine 0xf9308a019258c31049344f85f89d5229b531c845836f99b08601f113bce036f9 0x388f7b0f632de8140fe337e62a37f3566500a99934c2231b6cb9fd7584b8e672

-- the generator has order n: one time less is its opposite
abbrev pub OrderTimesGenerator : Type 0
OrderTimesGenerator = times n generator ≡ infinity

abbrev pub OrderLessOneTimesGenerator : Type 0
OrderLessOneTimesGenerator = times (n - 1) generator ≡ affine generator_x (p - generator_y)

-- the generator as a key, and with the other parity
abbrev pub KeyOfGenerator : Type 0
KeyOfGenerator = point_of (from_hex "0279be667ef9dcbbac55a06295ce870b07029bfcdb2dce28d959f2815b16f81798") ≡ Some generator

abbrev pub KeyOfOpposite : Type 0
KeyOfOpposite = point_of (from_hex "0379be667ef9dcbbac55a06295ce870b07029bfcdb2dce28d959f2815b16f81798") ≡ Some (affine generator_x (p - generator_y))

-- no point of the curve has x 5, and none has p for its x
abbrev pub NoPointAtFive : Type 0
NoPointAtFive = point_of (from_hex "020000000000000000000000000000000000000000000000000000000000000005") ≡ None

abbrev pub NoPointAtPrime : Type 0
NoPointAtPrime = point_of (from_hex "02fffffffffffffffffffffffffffffffffffffffffffffffffffffffefffffc2f") ≡ None

-- by the key 1, of SHA-256 of `Satoshi Nakamoto` (btcd: btcec, signature_test)
abbrev pub SignatureByOne : Type 0
SignatureByOne = is_signature_by generator 0xa0dc65ffca799873cbea0ac274015b9526505daaaed385155425f7337704883e
    0x934b1ea10a4b3c1757e2b0c017d0b6143ce3c9a7e6a4a49860d7a6ab210ee3d8 0x2442ce9d2b916064108014783e923ec36b49743e2ffa1c4496f01a512aafd9e5 ≡ true

-- the native P2WPKH input of BIP 143: its key, its hash and its signature
abbrev pub bip143_key : String
bip143_key = "025476c2e83188368da1ff3e292e7acafcdb3566bb0ad253f62fc70f07aeee6357"

abbrev pub bip143_hash : String
bip143_hash = "c37af31116d1b27caf68aae9e3ac82f1477929014d5b917657d0eb49478cb670"

abbrev pub bip143_signature : String
bip143_signature = "304402203609e17b84f6a7d30c80bfa610b5b4542f32a8a0d5447a12fb1366d7f01cc44a0220573a954c4518331561406f90300e8f3358f51928d43c212a8caed02de67eebee01"

abbrev pub SignatureOfBip143 : Type 0
SignatureOfBip143 = judge (from_hex bip143_key) (from_hex bip143_hash) (from_hex bip143_signature) ≡ Good

-- with n - s for its s
abbrev pub HighSignatureOfBip143 : Type 0
HighSignatureOfBip143 = judge (from_hex bip143_key) (from_hex bip143_hash)
    (from_hex "304502203609e17b84f6a7d30c80bfa610b5b4542f32a8a0d5447a12fb1366d7f01cc44a022100a8c56ab3bae7ccea9ebf906fcff170cb61b9c3bddb0c7f1133238e5ee9b7555301") ≡ High

-- for another hash, and by another key
abbrev pub SignatureOfAnotherHash : Type 0
SignatureOfAnotherHash = judge (from_hex bip143_key) (from_hex "c37af31116d1b27caf68aae9e3ac82f1477929014d5b917657d0eb49478cb671") (from_hex bip143_signature) ≡ Bad

abbrev pub SignatureByAnotherKey : Type 0
SignatureByAnotherKey = judge (from_hex "0279be667ef9dcbbac55a06295ce870b07029bfcdb2dce28d959f2815b16f81798") (from_hex bip143_hash) (from_hex bip143_signature) ≡ Bad
