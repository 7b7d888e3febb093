-- What was found on a walk. No public clause cites it, so it need not be believed.
use Rattle.std.specs.Prelude.{Option, Some, None}
use Rattle.std.specs.Borrow.{Bor}
use Rattle.def_script.specs.Bytes.{Bytes}

-- what was found before, or else what is found later
abbrev pub found_before : Option (Bor Bytes) → (later : Option Bytes) → Option Bytes
found_before (Some before) later = Some before.now
found_before None later = later
