-- The witness of an input (BIP 141; Bitcoin Core: the serialization of `CScriptWitness`).
use Rattle.std.specs.Prelude.{ℕ, ◌+◌, List, [], ◌∷◌, ◌++◌, length}
use Rattle.std.specs.List.{flat_map}
use Rattle.def_script.specs.Bytes.{Bytes}
use Rattle.def_script.specs.Sizes.{size_bytes}

-- a string after its length
abbrev pub sized : Bytes → Bytes
sized bytes = size_bytes (length bytes) ++ bytes

-- the number of items, and then the items, each after its length
abbrev pub items_text : List Bytes → Bytes
items_text items = size_bytes (length items) ++ flat_map sized items

-- the witness of a P2WSH output: the stack, bottom first, and the Script as its last item
abbrev pub witness_text : (stack : List Bytes) → (script : Bytes) → Bytes
witness_text stack script = items_text (stack ++ script ∷ [])

-- what a stack weighs in a witness: for each item 1, which is the byte of its size, and its length
abbrev pub weight : (stack : List Bytes) → ℕ
weight [] = 0
weight (item ∷ stack) = 1 + length item + weight stack
