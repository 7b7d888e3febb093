-- The text, the tree and the assets that `gen` makes from a number: a threshold of that many children, half
-- of them rounded up.
use Rattle.std.specs.Prelude.{ℕ, zero, suc, ◌+◌, ◌/◌, ◌%◌, ◌==◌, [], ◌∷◌, ◌++◌, map, replicate, codes, decimal, if◌then◌else◌}
use Rattle.std.specs.List.{range_with_len}
use Rattle.hex.specs.Hex.{encode_lower}
use Rattle.def_hash.specs.declared.HashKind.TheVariants.{Sha256}
use Rattle.def_hash.specs.Hash.{sha256}
use Rattle.def_script.specs.Bytes.{Bytes}
use Rattle.def_tree.specs.declared.Two.TheVariants.{AndV}
use Rattle.def_tree.specs.declared.Wrapper.TheVariants.{A, S, C, V, J}
use Rattle.def_tree.specs.Tree.{Key, Tree, Trees, just_1, pk_k, hash, two, thresh, wrap, none, more}
use Rattle.def_assets.specs.Assets.{Assets}

abbrev pub threshold_of : (n : ℕ) → ℕ
threshold_of n = (n + 1) / 2

-- ---- what stands in the assets, by its number

abbrev pub generated_key : ℕ → Key
generated_key i = 0x02 ∷ replicate 32 (i + 1)

-- 70 to 73 bytes
abbrev pub generated_sig : ℕ → Bytes
generated_sig i = replicate (70 + i % 4) i

abbrev pub generated_preimage : ℕ → Bytes
generated_preimage i = replicate 32 i

abbrev pub generated_value : ℕ → Bytes
generated_value i = sha256 (generated_preimage i)

abbrev pub generated_assets : (n : ℕ) → Assets
generated_assets n = record {
  locks = record { version = 2; sequence = 0xfffffffe; locktime = 0 };
  pairs = map (λ i. (generated_key i, generated_sig i)) (range_with_len 0 n);
  preimages = map generated_preimage (range_with_len 0 n);
}

-- ---- the children, by their number

abbrev pub pk_text : ℕ → Bytes
pk_text i = codes "pk(" ++ encode_lower (generated_key i) ++ codes ")"

abbrev pub hash_text : ℕ → Bytes
hash_text i = codes "aj:and_v(v:sha256(" ++ encode_lower (generated_value i) ++ codes "),1)"

-- the first is a key, every third one after it a hash, and the others are keys
abbrev pub child_text : ℕ → Bytes
child_text i = if i == 0 then pk_text i else if i % 3 == 0 then hash_text i else codes "s:" ++ pk_text i

-- n children from the number i on, each behind a comma
abbrev pub children_text : (n i : ℕ) → Bytes
children_text zero i = []
children_text (suc n) i = codes "," ++ child_text i ++ children_text n (i + 1)

abbrev pub generated_text : (n : ℕ) → Bytes
generated_text n = codes "thresh(" ++ decimal (threshold_of n) ++ children_text n 0 ++ codes ")"

-- ---- the tree that the text spells

abbrev pub pk_child : ℕ → Tree
pk_child i = wrap C (pk_k (generated_key i))

abbrev pub hash_child : ℕ → Tree
hash_child i = wrap A (wrap J (two AndV (wrap V (hash Sha256 (generated_value i))) just_1))

abbrev pub child : ℕ → Tree
child i = if i == 0 then pk_child i else if i % 3 == 0 then hash_child i else wrap S (pk_child i)

abbrev pub generated_children : (n i : ℕ) → Trees
generated_children zero i = none
generated_children (suc n) i = more (child i) (generated_children n (i + 1))

abbrev pub generated_tree : (n : ℕ) → Tree
generated_tree n = thresh (threshold_of n) (generated_children n 0)
