-- What is taken as given where one asks whether a stack satisfies a miniscript.
use Rattle.std.specs.Prelude.{◌≡◌, ⊤, Bool, Option, Some}
use Rattle.def_hash.specs.declared.HashKind.{HashKind}
use Rattle.def_script.specs.Bytes.{Bytes}
use Rattle.def_machine.specs.Machine.{Given}
use Rattle.def_tree.specs.Tree.{Key}

-- which preimages and keys count where a hash is met: any, or only the known preimage and the
-- miniscript's own key
pub data Mode : Type 0 where
  any : Mode
  only : (known : HashKind → Bytes → Option Bytes) → Mode

-- whether this preimage of a hash value counts
abbrev pub CountsAsPreimage : Mode → HashKind → (value preimage : Bytes) → Type 0
CountsAsPreimage any kind value preimage = ⊤
CountsAsPreimage (only known) kind value preimage = known kind value ≡ Some preimage

-- whether this key with the same hash counts for a key
abbrev pub CountsAsKey : Mode → (key other : Key) → Type 0
CountsAsKey any key other = ⊤
CountsAsKey (only known) key other = other ≡ key

pub record Setting : Type 0 where
  -- which signatures are good, and the locks
  pub given : Given
  pub mode : Mode
  -- whether the rows of the satisfaction table count that aren't canonical
  pub all_rows : Bool
