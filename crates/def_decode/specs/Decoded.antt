-- Which miniscripts a Script can be read as, and which of them is its reading. The Script of a `pk_h` has the HASH160
-- of its key alone, so the keys that it may have are listed.
use Rattle.std.specs.Prelude.{◌≡◌, List, Option, Some}
use Rattle.std.specs.List.{find, Contains}
use Rattle.std.specs.Str.{bytes_eq}
use Rattle.def_hash.specs.Hash.{hash160}
use Rattle.def_script.specs.Bytes.{Bytes}
use Rattle.def_tree.specs.Tree.{Key, Tree}
use Rattle.def_tree.specs.Range.{IsWritable}
use Rattle.def_emit.specs.Emit.{script_of}
use Rattle.def_sane.specs.Unfit.{IsValid}
use Rattle.def_decode.specs.Nested.{RightNested, EachHashed}

-- the first listed key with this HASH160
abbrev pub first_with : List Key → Bytes → Option Key
first_with keys value = find (λ key. bytes_eq (hash160 key) value) keys

-- the tree is valid, its arguments are keys and hash values and numbers of at most ten digits, its `pk_h` keys are
-- listed, and this is its Script
pub record IsReading (keys : List Key) (script : Bytes) (tree : Tree) : Type 0 where
  pub valid : IsValid tree
  pub writable : IsWritable tree
  pub listed : EachHashed (λ key. Contains keys key) tree
  pub same : script_of tree ≡ script

-- it is nested to the right besides, and each of its `pk_h` keys is the first listed one with its HASH160
pub record IsDecoded (keys : List Key) (script : Bytes) (tree : Tree) : Type 0 where
  pub reading : IsReading keys script tree
  pub nested : RightNested tree
  pub first : EachHashed (λ key. first_with keys (hash160 key) ≡ Some key) tree
