-- Which inputs have lock times. No public clause cites it, so it need not be believed.
use Rattle.std.specs.Prelude.{Bool}
use Rattle.def_psbt.specs.Map.{Map}
use Rattle.def_psbt.specs.Fields.{has_time_alone, has_height_alone}
use Rattle.ms_psbt.specs.declared.locks.Lock.{Lock}
use Rattle.ms_psbt.specs.declared.locks.Lock.TheVariants as lock

abbrev pub is_meant : Lock → (fields : Map) → Bool
is_meant lock.TimeAlone = has_time_alone
is_meant lock.HeightAlone = has_height_alone
