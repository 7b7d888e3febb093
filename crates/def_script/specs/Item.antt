-- What is read from the bytes of a Script.
use Rattle.std.specs.Prelude.{Bool}
use Rattle.def_script.specs.declared.Op.{Op}
use Rattle.def_script.specs.declared.InstrFault.{InstrFault}
use Rattle.def_script.specs.Bytes.{Bytes}

-- a push and whether it has its shortest spelling, an opcode, or what ends the reading
pub data Item : Type 0 where
  push : (bytes : Bytes) → (minimal : Bool) → Item
  code : (op : Op) → Item
  fault : (fault : InstrFault) → Item
