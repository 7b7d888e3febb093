-- A PSBT as contracts see it.
use Rattle.std.specs.Prelude.{[], Result, Ok, Err}
use Rattle.def_script.specs.Bytes.{Bytes}
use Rattle.def_psbt.specs.declared.Refusal.{Refusal}
use Rattle.def_psbt.specs.Map.{Psbt}
use Rattle.def_psbt.specs.Reading.{read_psbt}

-- what is read, or this where nothing is
abbrev pub read_or : Psbt → Result Psbt Refusal → Psbt
read_or none (Ok psbt) = psbt
read_or none (Err refusal) = none

-- the PSBT that bytes are
abbrev pub psbt_seen : Bytes → Psbt
psbt_seen bytes = read_or (record { global = []; transaction = record { version = 0; inputs = []; outputs = []; lock_time = 0 }; inputs = []; outputs = [] }) (read_psbt bytes)
