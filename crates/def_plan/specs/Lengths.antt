-- Estimates of the lengths of signatures, and the assets that they speak of.
use Rattle.std.specs.Prelude.{◌≡◌, ◌↔◌, ℕ, ◌≤◌, List, length, map, replicate, find, Option, Some, All, Contains, IsSome}
use Rattle.std.specs.List.{IsDistinct}
use Rattle.std.specs.Option.{option_map}
use Rattle.std.specs.Str.{bytes_eq}
use Rattle.def_script.specs.Bytes.{Bytes}
use Rattle.def_script.specs.Signature.{MAX_SIGNATURE_SIZE}
use Rattle.def_tree.specs.Tree.{Key}
use Rattle.def_tree.specs.Range.{IsKey}
use Rattle.def_assets.specs.Assets.{Assets, sig_of}

-- for each key that can sign, how many bytes its signature is estimated to have
abbrev pub Lengths : Type 0
Lengths = List (Key × ℕ)

-- the estimate of a key: the first entry's
abbrev pub length_of : Lengths → Key → Option ℕ
length_of table key = option_map (λ entry. entry.1) (find (λ entry. bytes_eq entry.0 key) table)

-- how many entries a table may have
abbrev pub MOST_KEYS : ℕ
MOST_KEYS = 256

-- what a table may hold: one entry a key, and lengths of signatures
pub record AreLengths (table : Lengths) : Type 0 where
  pub few : length table ≤ MOST_KEYS
  pub keys : All (λ entry. IsKey entry.0) table
  pub distinct : IsDistinct bytes_eq (map (λ entry. entry.0) table)
  pub some : All (λ entry. 1 ≤ entry.1) table
  pub short : All (λ entry. entry.1 ≤ MAX_SIGNATURE_SIZE) table

-- the other assets have the locks and the preimages of these; their signatures are their own
pub record IsLike (assets other : Assets) : Type 0 where
  pub locks : other.locks ≡ assets.locks
  pub preimages : other.preimages ≡ assets.preimages

-- the other assets have a signature of each of these keys that is no longer than estimated, whoever else signs
abbrev pub SignBelow : (keys : Key → Type 0) → (table : Lengths) → Assets → Type 0
SignBelow keys table assets =
    (key : Key) → keys key → (n : ℕ) × (sig : Bytes) × (length_of table key ≡ Some n) × (sig_of assets key ≡ Some sig) × (length sig ≤ n)

-- the other assets fit a table above: the key of each signature has an entry, and the signature is no shorter
pub record FitsAbove (assets : Assets) (table : Lengths) (other : Assets) : Type 0 where
  pub like : IsLike assets other
  pub pairs : (key sig : Bytes) → Contains other.pairs (key, sig) → (n : ℕ) × (length_of table key ≡ Some n) × (n ≤ length sig)

-- the other assets have for each entry its key with a signature of the entry's length
pub record IsEstimate (assets : Assets) (table : Lengths) (other : Assets) : Type 0 where
  pub like : IsLike assets other
  pub lengths : map (λ pair. (pair.0, length pair.1)) other.pairs ≡ table

-- such assets, with signatures of zeros
abbrev pub estimated : Assets → Lengths → Assets
estimated assets table = record assets { pairs = map (λ entry. (entry.0, replicate entry.1 0)) table }

-- the assets have a signature of each of these keys, and of no other one
abbrev pub Sign : (keys : Key → Type 0) → Assets → Type 0
Sign keys assets = (key : Key) → IsSome (sig_of assets key) ↔ keys key

-- the assets have a signature of each of these keys, whoever else signs
abbrev pub SignAll : (keys : Key → Type 0) → Assets → Type 0
SignAll keys assets = (key : Key) → keys key → IsSome (sig_of assets key)
