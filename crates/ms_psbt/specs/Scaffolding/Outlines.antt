-- What the code keeps of the global map. No public clause cites it, so it need not be believed.
use Rattle.std.specs.Prelude.{◌≡◌, ℕ, length, Option, Some, None, Result, Ok, Err}
use Rattle.def_psbt.specs.declared.Refusal.{Refusal}
use Rattle.def_psbt.specs.TransactionReading.{transaction_of}
use Rattle.def_psbt.specs.Reading.{given, counted}
use Rattle.def_psbt.specs.Reading.{Outline as TheOutline}
use Rattle.ms_psbt.specs.declared.outline.Outline.{Outline}
use Rattle.ms_psbt.specs.declared.outline.Outline.TheVariants as outline
use Rattle.ms_psbt.specs.declared.outline.Outlined.{Outlined}

-- what is kept of what the global map says
abbrev pub IsOutline : Outline → (inputs outputs : ℕ) → TheOutline → Type 0
IsOutline (outline.Given bytes) inputs outputs (given transaction) =
    (transaction_of bytes.now ≡ Some transaction) × (inputs ≡ length transaction.inputs) × (outputs ≡ length transaction.outputs)
IsOutline outline.Counted inputs outputs (counted input_number output_number) = (inputs ≡ input_number) × (outputs ≡ output_number)
IsOutline (outline.Given bytes) inputs outputs (counted input_number output_number) = ⊥
IsOutline outline.Counted inputs outputs (given transaction) = ⊥

abbrev pub IsOutlined : Outlined → TheOutline → Type 0
IsOutlined outlined said = IsOutline outlined.outline outlined.inputs outlined.outputs said

-- what is kept is what is there, and nothing where there is none
abbrev pub OutlineThere : Option Outlined → Option TheOutline → Type 0
OutlineThere (Some outlined) said = (o : TheOutline) × (said ≡ Some o) × IsOutlined outlined o
OutlineThere None said = said ≡ None

abbrev pub OutlineReads : Result Outlined Refusal → Result TheOutline Refusal → Type 0
OutlineReads (Ok outlined) said = (o : TheOutline) × (said ≡ Ok o) × IsOutlined outlined o
OutlineReads (Err refusal) said = said ≡ Err refusal
