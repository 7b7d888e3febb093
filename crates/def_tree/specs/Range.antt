-- Which trees can be written in a text.
use Rattle.std.specs.Prelude.{ℕ, ◌≡◌, ◌+◌, ◌<◌, ◌≤◌, IsTrue, ⊤, length, All}
use Rattle.def_hash.specs.declared.HashKind.{HashKind}
use Rattle.def_hash.specs.Hash.{digest_length}
use Rattle.def_script.specs.Bytes.{Bytes, IsBytes}
use Rattle.def_script.specs.Key.{is_key}
use Rattle.def_tree.specs.Tree.{Key, Tree, Trees, just_0, just_1, pk_k, pk_h, older, after, hash, and_or, two, thresh, multi, wrap, none, more}

-- how many trees a list has
abbrev pub count : Trees → ℕ
count none = 0
count (more x xs) = count xs + 1

-- a compressed public key
pub record IsKey (key : Key) : Type 0 where
  pub form : IsTrue (is_key key)
  pub bytes : IsBytes key

-- a hash value: as many bytes as its function gives
pub record IsDigest (kind : HashKind) (value : Bytes) : Type 0 where
  pub length : length value ≡ digest_length kind
  pub bytes : IsBytes value

-- the least number of more than ten digits
abbrev pub TEN_DIGITS : ℕ
TEN_DIGITS = 10000000000

-- each argument can be written in a text: keys are keys and hash values hash values, each number has
-- at most ten digits, and no list is empty
abbrev mutual
  pub IsWritable : Tree → Type 0
  IsWritable just_0 = ⊤
  IsWritable just_1 = ⊤
  IsWritable (pk_k key) = IsKey key
  IsWritable (pk_h key) = IsKey key
  IsWritable (older n) = n < TEN_DIGITS
  IsWritable (after n) = n < TEN_DIGITS
  IsWritable (hash kind value) = IsDigest kind value
  IsWritable (and_or x y z) = IsWritable x × IsWritable y × IsWritable z
  IsWritable (two kind x y) = IsWritable x × IsWritable y
  IsWritable (thresh k xs) = (k < TEN_DIGITS) × (1 ≤ count xs) × AreWritable xs
  IsWritable (multi k keys) = (k < TEN_DIGITS) × (1 ≤ length keys) × All IsKey keys
  IsWritable (wrap wrapper x) = IsWritable x

  pub AreWritable : Trees → Type 0
  AreWritable none = ⊤
  AreWritable (more x xs) = IsWritable x × AreWritable xs
