-- Stacks of byte strings, and which signatures are good.
use Rattle.std.specs.Prelude.{◌&&◌, Bool, true, false, List, [], ◌∷◌, if◌then◌else◌}
use Rattle.std.specs.List.{list_any}
use Rattle.std.specs.Str.{bytes_eq}
use Rattle.def_script.specs.Bytes.{Bytes}

-- inside the machine the top stands first
abbrev pub Stack : Type 0
Stack = List Bytes

-- pairs of a key and a signature
abbrev pub Pairs : Type 0
Pairs = List (Bytes × Bytes)

-- which pairs of a key and a signature are good (Bitcoin Core: `BaseSignatureChecker` in script/interpreter.h)
abbrev pub Checker : Type 0
Checker = (key sig : Bytes) → Bool

-- those that a table holds: a table is a checker too
abbrev pub member : Pairs → Checker
member table key sig = list_any (λ pair. bytes_eq pair.0 key && bytes_eq pair.1 sig) table

-- the string is empty
abbrev pub is_empty : Bytes → Bool
is_empty [] = true
is_empty (b ∷ bytes) = false

-- the string that an opcode pushes for true and for false
abbrev pub bool_bytes : Bool → Bytes
bool_bytes value = if value then 0x01 ∷ [] else []
