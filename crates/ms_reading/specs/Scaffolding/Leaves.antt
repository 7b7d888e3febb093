-- What pushed bytes are read as.
use Rattle.std.specs.Prelude.{◌==◌, [], ◌∷◌, length, if◌then◌else◌, Option, Some, None}
use Rattle.std.specs.Str.{bytes_eq}
use Rattle.def_hash.specs.declared.HashKind.{HashKind}
use Rattle.def_hash.specs.declared.HashKind.TheVariants as kind
use Rattle.def_hash.specs.Hash.{digest_length}
use Rattle.def_script.specs.declared.Op.TheVariants as op
use Rattle.def_script.specs.Bytes.{Bytes}
use Rattle.def_script.specs.Instruction.{Instruction, code}
use Rattle.def_tree.specs.Tree as tree
use Rattle.def_tree.specs.Tree.{Tree, Key}
use Rattle.ms_hash.specs.declared.value.HashValue.{HashValue}
use Rattle.ms_hash.specs.Value.{kind_of, bytes_of}
use Rattle.ms_tree.specs.declared.tree.Leaf.{Leaf}
use Rattle.ms_tree.specs.Shape.{leaf_shape}
use Rattle.def_script.specs.Key.{is_key}

abbrev pub key_in : Bytes → Option Key
key_in bytes = if is_key bytes then Some bytes else None

abbrev pub digest_in : HashKind → Bytes → Option Bytes
digest_in kind bytes = if length bytes == digest_length kind then Some bytes else None

-- the hash lock of bytes, where they are a hash value
abbrev pub hash_tree : HashKind → Bytes → Option Tree
hash_tree kind bytes = if length bytes == digest_length kind then Some (tree.hash kind bytes) else None

abbrev pub hash_lock : Option HashValue → Option Tree
hash_lock None = None
hash_lock (Some value) = Some (tree.hash (kind_of value) (bytes_of value))

-- a push alone: a key, `0` or `1`
abbrev pub pushed_leaf : Bytes → Option Tree
pushed_leaf bytes =
    if is_key bytes then Some (tree.pk_k bytes)
    else if bytes_eq bytes [] then Some tree.just_0
    else if bytes_eq bytes (1 ∷ []) then Some tree.just_1
    else None

abbrev pub leaf_tree : Option Leaf → Option Tree
leaf_tree None = None
leaf_tree (Some root) = Some (leaf_shape root)

-- the function of a hash lock, by its opcode, but for HASH160
abbrev pub kind_before : Instruction → Option HashKind
kind_before (code op.Sha256) = Some kind.Sha256
kind_before (code op.Hash256) = Some kind.Hash256
kind_before (code op.Ripemd160) = Some kind.Ripemd160
kind_before other = None
