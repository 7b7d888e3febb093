-- What spenders can have of a miniscript: the private key of a key, and the preimage of a hash value.
use Rattle.std.specs.Prelude.{◌&&◌, not, Bool, true, false, List, [], ◌∷◌, ◌++◌, map, filter}
use Rattle.std.specs.Str.{bytes_eq}
use Rattle.def_hash.specs.declared.HashKind.{HashKind}
use Rattle.def_hash.specs.declared.HashKind.TheVariants.{Sha256, Hash256, Ripemd160, Hash160}
use Rattle.def_script.specs.Bytes.{Bytes}
use Rattle.def_tree.specs.Tree.{Tree, Trees, Key, just_0, just_1, pk_k, pk_h, older, after, hash, and_or, two, thresh, multi, wrap, none, more}

pub data Secret : Type 0 where
  key : (key : Key) → Secret
  -- of a hash value: a function with what it gives
  preimage : (kind : HashKind) → (value : Bytes) → Secret

abbrev pub same_kind : HashKind → HashKind → Bool
same_kind Sha256 Sha256 = true
same_kind Hash256 Hash256 = true
same_kind Ripemd160 Ripemd160 = true
same_kind Hash160 Hash160 = true
same_kind kind other = false

abbrev pub same : Secret → Secret → Bool
same (key k) (key l) = bytes_eq k l
same (preimage kind value) (preimage other bytes) = same_kind kind other && bytes_eq value bytes
same secret other = false

-- those that a tree names, from left to right, each as often as it stands there
abbrev mutual
  pub named : Tree → List Secret
  named just_0 = []
  named just_1 = []
  named (pk_k k) = key k ∷ []
  named (pk_h k) = key k ∷ []
  named (older n) = []
  named (after n) = []
  named (hash kind value) = preimage kind value ∷ []
  named (and_or x y z) = named x ++ named y ++ named z
  named (two kind x y) = named x ++ named y
  named (thresh k xs) = named_by xs
  named (multi k keys) = map key keys
  named (wrap wrapper x) = named x

  pub named_by : Trees → List Secret
  named_by none = []
  named_by (more x xs) = named x ++ named_by xs

-- each where it stands first
abbrev pub firsts : List Secret → List Secret
firsts [] = []
firsts (secret ∷ rest) = secret ∷ filter (λ other. not (same secret other)) (firsts rest)

-- the keys and hash values of a tree, in the order in which they stand first
abbrev pub secrets : Tree → List Secret
secrets tree = firsts (named tree)
