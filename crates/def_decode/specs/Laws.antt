-- Laws of reading a Script back.
use Rattle.std.specs.Prelude.{◌≡◌, List, All}
use Rattle.def_script.specs.Bytes.{Bytes}
use Rattle.def_tree.specs.Tree.{Key, Tree}
use Rattle.def_tree.specs.Range.{IsKey}
use Rattle.def_decode.specs.Decoded.{IsReading, IsDecoded}
use Rattle.def_decode.specs.Alike.{IsAlike, IsLikeEach}

-- a Script that can be read is decoded too, as a tree that is like it
pub record HasDecoded (keys : List Key) (script : Bytes) (tree : Tree) : Type 0 where
  pub nested : Tree
  pub decoded : IsDecoded keys script nested
  pub alike : IsAlike keys tree nested

abbrev pub EachIsDecoded : Type 0
EachIsDecoded = (keys : List Key) (script : Bytes) (tree : Tree) → All IsKey keys → IsReading keys script tree → HasDecoded keys script tree

-- and as one tree alone
abbrev pub OneIsDecoded : Type 0
OneIsDecoded = (keys : List Key) (script : Bytes) (t v : Tree) → IsDecoded keys script t → IsDecoded keys script v → t ≡ v

-- so what a Script is decoded to is like every tree that it can be read as
abbrev pub DecodedIsAlike : Type 0
DecodedIsAlike =
    (keys : List Key) (script : Bytes) (decoded : Tree) → All IsKey keys → IsDecoded keys script decoded → IsLikeEach keys script decoded
