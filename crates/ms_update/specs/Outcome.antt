-- How an update ends, as the code has it.
use Rattle.std.specs.Prelude.{◌≡◌, ℕ, ⊤, Bool, List, Result, Ok, Err}
use Rattle.def_psbt.specs.Map.{Psbt, psbt_text}
use Rattle.def_update.specs.Known.{Known}
use Rattle.def_update.specs.Updated.{update_of}
use Rattle.ms_update.specs.declared.updating.Updated.{Updated}
use Rattle.ms_update.specs.declared.updating.UpdateStop.{UpdateStop}
use Rattle.ms_update.specs.declared.updating.UpdateStop.TheVariants as stop

-- the bytes of the PSBT, and whether something is known of one of its inputs
abbrev pub IsUpdated : Updated → Psbt × Bool → Type 0
IsUpdated made whole =
    (made.psbt.items ≡ psbt_text whole.0.global whole.0.inputs whole.0.outputs) × (made.has_known_input ≡ whole.1)

abbrev pub Makes : Updated → Result (Psbt × Bool) ℕ → Type 0
Makes made (Ok whole) = IsUpdated made whole
Makes made (Err at) = ⊥

-- as the definition has it; only want of memory may come in its place
abbrev pub Updates : List Known → Psbt → Result Updated UpdateStop → Type 0
Updates known psbt (Ok made) = Makes made (update_of known psbt)
Updates known psbt (Err (stop.Conflict at)) = update_of known psbt ≡ Err at
Updates known psbt (Err stop.Memory) = ⊤
