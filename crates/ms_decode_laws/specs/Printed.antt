-- That the text of what a Script is decoded to is read back.
use Rattle.std.specs.Prelude.{ℕ, List}
use Rattle.def_script.specs.Bytes.{Bytes}
use Rattle.def_tree.specs.Tree.{Key, Tree}
use Rattle.def_text.specs.Print.{printed}
use Rattle.def_text.specs.Refusal.{TextReads}
use Rattle.def_decode.specs.Decoded.{IsDecoded}

-- the printed form of a tree is read, as this tree: it is neither too long nor too deep
abbrev pub PrintIsRead : Tree → Type 0
PrintIsRead tree = (offsets : List ℕ) × TextReads (printed tree) tree offsets

-- so is that of each tree to which a Script is decoded
abbrev pub DecodedIsReadBack : Type 0
DecodedIsReadBack = (keys : List Key) (script : Bytes) (tree : Tree) → IsDecoded keys script tree → PrintIsRead tree
