-- The Script by the fields of a map. No public clause cites it, so it need not be believed.
use Rattle.std.specs.Prelude.{◌||◌, if◌then◌else◌, Result, Err}
use Rattle.def_script.specs.Bytes.{Bytes}
use Rattle.def_spend.specs.declared.State.{State}
use Rattle.def_spend.specs.declared.State.TheVariants as state
use Rattle.def_spend.specs.Reading.{has_byte, has_item, script_with}
use Rattle.ms_input.specs.Held.{Held}

abbrev pub script_held : (program : Result Bytes State) → Held → Result Bytes State
script_held program held =
    if has_byte held.final_script_sig || has_item held.final_witness then Err state.Final else script_with program held.script
