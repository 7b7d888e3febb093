-- What the Script of P2WPKH is read as, and what satisfies it (BIP 141, BIP 379: `pkh(key)`, which is `c:pk_h(key)`).
use Rattle.std.specs.Prelude.{◌≡◌, true, List, [], ◌∷◌, Contains}
use Rattle.def_hash.specs.Hash.{hash160}
use Rattle.def_script.specs.Bytes.{Bytes}
use Rattle.def_tree.specs.Tree.{Key, Tree, pk_h, wrap}
use Rattle.def_tree.specs.declared.Wrapper.TheVariants as wrapper
use Rattle.def_assets.specs.Assets.{Assets}
use Rattle.def_satisfaction.specs.Satisfaction.{Sat}
use Rattle.def_emit.specs.Emit.{script_of}
use Rattle.def_decode.specs.Decoded.{IsDecoded}
use Rattle.def_spend.specs.Kinds.{is_key_hash}
use Rattle.def_spend.specs.Reading.{key_hash_script}

abbrev pub pkh : Key → Tree
pkh key = wrap wrapper.C (pk_h key)

-- the program of a public key: version 0 and its HASH160 (BIP 141, P2WPKH)
abbrev pub key_program : Key → Bytes
key_program key = 0x00 ∷ 0x14 ∷ hash160 key

-- the Script of the program of a key is that of `pkh` of it
abbrev pub KeyHashIsPkh : Type 0
KeyHashIsPkh = (key : Key) → key_hash_script (key_program key) ≡ script_of (pkh key)

-- and what the Script of a program is read as is `pkh` of one of the keys, whose program it is
pub record IsPkhOf (keys : List Key) (program : Bytes) (tree : Tree) : Type 0 where
  pub key : Key
  pub among : Contains keys key
  pub miniscript : tree ≡ pkh key
  pub is_program : program ≡ key_program key

abbrev pub KeyHashIsReadAsPkh : Type 0
KeyHashIsReadAsPkh =
    (keys : List Key) (program : Bytes) (tree : Tree) → is_key_hash program ≡ true → IsDecoded keys (key_hash_script program) tree →
    IsPkhOf keys program tree

-- a canonical satisfaction of `pkh(key)` is a signature of the key, and the key behind it
pub record IsSignatureAndKey (key : Key) (assets : Assets) (stack : List Bytes) : Type 0 where
  pub sig : Bytes
  pub held : Contains assets.pairs (key, sig)
  pub is_stack : stack ≡ sig ∷ key ∷ []

abbrev pub PkhStack : Type 0
PkhStack = (key : Key) (assets : Assets) (stack : List Bytes) → Sat (pkh key) assets stack → IsSignatureAndKey key assets stack
