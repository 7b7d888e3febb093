-- What is known of the one tree that may be a Script's.
use Rattle.std.specs.Prelude.{◌≡◌, List}
use Rattle.def_script.specs.Bytes.{Bytes}
use Rattle.def_tree.specs.Tree.{Key, Tree}
use Rattle.def_emit.specs.Emit.{script_of}
use Rattle.def_sane.specs.Unfit.{IsValid}
use Rattle.def_decode.specs.Alike.{IsLikeEach}
use Rattle.def_decode.specs.Decoded.{IsReading, IsDecoded}

-- the tree is valid, and this is its Script
abbrev pub IsScriptOf : Tree → Bytes → Type 0
IsScriptOf t script = IsValid t × (script_of t ≡ script)

-- where the tree is valid and this is its Script, it is the one that is decoded, and is like each other; where not, there is none
pub record IsOnly (keys : List Key) (script : Bytes) (t : Tree) : Type 0 where
  pub decoded : IsScriptOf t script → IsDecoded keys script t
  pub alike : IsScriptOf t script → IsLikeEach keys script t
  pub none : (IsScriptOf t script → ⊥) → (v : Tree) → IsReading keys script v → ⊥
