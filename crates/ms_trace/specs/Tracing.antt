-- What a trace adds to a report.
use Rattle.std.specs.Prelude.{◌≡◌, ◌++◌, Result, Ok, Err}
use Rattle.def_script.specs.Bytes.{Bytes}
use Rattle.ms_interp.specs.declared.report.RunStop.{RunStop}
use Rattle.ms_interp.specs.declared.report.RunStop.TheVariants.{Refused, Memory}

-- a report was added to, unless memory was wanting
abbrev pub Adds : {X : Type 0} → Result X RunStop → (before after added : Bytes) → Type 0
Adds (Ok x) before after added = after ≡ before ++ added
Adds (Err (Refused fault place)) before after added = after ≡ before ++ added
Adds (Err Memory) before after added = Unit {0}
