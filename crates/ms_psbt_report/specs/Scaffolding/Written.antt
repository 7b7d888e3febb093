-- What is written of a PSBT whose inputs are made final. No public clause cites it, so it need not be believed.
use Rattle.std.specs.Prelude.{◌≡◌, ℕ, ◌+◌, List, ◌++◌, map, take, Result, ⊤, OnOk}
use Rattle.std.specs.List.{flat_map, list_all}
use Rattle.def_psbt.specs.Map.{Psbt, magic, map_text}
use Rattle.def_spend.specs.Reading.{Input}
use Rattle.def_spend.specs.Finalized.{written_map}
use Rattle.def_psbt_answer.specs.Reply.{is_settled}
use Rattle.ms_psbt_report.specs.declared.replies.finalizing.Written.{Written}

-- this is what is written of a PSBT before the map of the next input, behind the maps of these inputs
pub record IsWritten (psbt : Psbt) (inputs : List Input) (written : Written) : Type 0 where
  pub text : written.text.items ≡ (magic ++ map_text psbt.global) ++ flat_map map_text (map written_map inputs)
  pub settled : written.are_settled ≡ list_all is_settled inputs

-- the map of the input with this number is written behind those of the inputs before it, unless the call fails
abbrev pub WritesNext : {E : Type 0} → Psbt → List Input → (number : ℕ) → (before after : Written) → Result ⊤ E → Type 0
WritesNext psbt inputs number before after result =
    IsWritten psbt (take number inputs) before → OnOk result (IsWritten psbt (take (number + 1) inputs) after)
