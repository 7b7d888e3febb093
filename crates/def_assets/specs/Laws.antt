-- Laws of the signature of a key.
use Rattle.std.specs.Prelude.{◌≡◌, ◌↔◌, ◌≤◌, length, Some, IsSome, Contains}
use Rattle.std.specs.List.{IsDistinct}
use Rattle.def_script.specs.Bytes.{Bytes}
use Rattle.def_tree.specs.Tree.{Key}
use Rattle.def_assets.specs.Assets.{Assets, sig_of, same_key}

-- it is held with the key, and no signature that is held with the key is shorter
abbrev pub SignatureIsShortest : Type 0
SignatureIsShortest =
    (assets : Assets) (key sig : Bytes) → sig_of assets key ≡ Some sig →
    Contains assets.pairs (key, sig) × ((other : Bytes) → Contains assets.pairs (key, other) → length sig ≤ length other)

-- a key has one exactly where some signature is held with it
abbrev pub SignatureIsFound : Type 0
SignatureIsFound =
    (assets : Assets) (key : Key) → IsSome (sig_of assets key) ↔ ((sig : Bytes) × Contains assets.pairs (key, sig))

-- where no key is held twice, it is the one that is held with the key
abbrev pub OnlySignature : Type 0
OnlySignature =
    (assets : Assets) (key sig : Bytes) → IsDistinct same_key assets.pairs → Contains assets.pairs (key, sig) →
    sig_of assets key ≡ Some sig
