-- What is kept of the PSBTs of lines. No public clause cites it, so it need not be believed.
use Rattle.std.specs.Prelude.{◌≡◌, ℕ, ◌+◌, List, [], ◌∷◌, ◌++◌, length, Some, Result, Ok, Err}
use Rattle.std.specs.List.{flat_map}
use Rattle.def_script.specs.Bytes.{Bytes}
use Rattle.def_psbt.specs.declared.Refusal.{Refusal}
use Rattle.def_psbt.specs.Map.{Psbt, psbt_text}
use Rattle.def_psbt.specs.Fields.{version_number}
use Rattle.def_psbt.specs.TransactionReading.{transaction_of}
use Rattle.def_combine.specs.Combine as combine
use Rattle.def_combine.specs.declared.LineFault.TheVariants as fault
use Rattle.def_combine.specs.declared.CombineRefusal.{CombineRefusal}
use Rattle.def_combine.specs.declared.CombineRefusal.TheVariants as refusal
use Rattle.ms_combine.specs.declared.parts.Parts.{Parts}
use Rattle.ms_combine.specs.declared.stop.CombineStop.{CombineStop}
use Rattle.ms_combine.specs.declared.stop.CombineStop.TheVariants as stop

abbrev pub bytes_of : Psbt → Bytes
bytes_of psbt = psbt_text psbt.global psbt.inputs psbt.outputs

-- the places of the global maps of PSBTs, one behind the other
abbrev pub globals_from : (at : ℕ) → List Psbt → List ℕ
globals_from at [] = []
globals_from at (psbt ∷ psbts) = (at + 5) ∷ globals_from (at + length (bytes_of psbt)) psbts

pub record AreKept (parts : Parts) (first : Psbt) (others : List Psbt) : Type 0 where
  pub bytes : parts.bytes.items ≡ flat_map bytes_of (first ∷ others)
  pub places : parts.places.items ≡ globals_from 0 (first ∷ others)
  pub first_end : parts.first_end ≡ length (bytes_of first)
  pub version : parts.version ≡ version_number first.global
  pub transaction : transaction_of parts.transaction.items ≡ Some first.transaction

-- what the text of a line gives, or its refusal with the line's number; only want of memory may come in their place
abbrev pub OfLine : {A B : Type 0} → (seen : B → A) → (number : ℕ) → Result B CombineStop → Result A Refusal → Type 0
OfLine seen number (Ok given) reading = reading ≡ Ok (seen given)
OfLine seen number (Err (stop.Refused why)) reading = (refused : Refusal) × (reading ≡ Err refused) × (why ≡ refusal.Line number (fault.Psbt refused))
OfLine seen number (Err stop.Memory) reading = Unit {0}

-- how many bytes lines have
abbrev pub texts_size : List combine.Line → ℕ
texts_size [] = 0
texts_size (line ∷ lines) = length line.text + texts_size lines

-- what the lines that are left give behind other PSBTs
abbrev pub parts_with : (first : Psbt) → (others : List Psbt) → List combine.Line → Result combine.Parts CombineRefusal
parts_with first others lines = combine.◌>>=◌ (combine.other_psbts first lines) (λ more. Ok (record { first = first; others = others ++ more }))
