-- The forms of the types of each kind of map. No public clause cites it, so it need not be believed.
use Rattle.std.specs.Prelude.{ℕ, Bool, true, false, List, [], if◌then◌else◌, Option, Some, None}
use Rattle.def_script.specs.Bytes.{Bytes}
use Rattle.def_psbt.specs.declared.PsbtFault.{PsbtFault}
use Rattle.def_psbt.specs.declared.PsbtFault.TheVariants.{KeyForm, ValueForm}
use Rattle.def_psbt.specs.declared.PsbtVersion.{PsbtVersion}
use Rattle.def_psbt.specs.declared.PsbtVersion.TheVariants as version
use Rattle.def_psbt.specs.Listed.{Form, or_excluded, global_form, input_form, output_form}
use Rattle.def_psbt.specs.Reading.{Rules, needed_input, needed_output}
use Rattle.ms_psbt.specs.declared.listed.MapKind.{MapKind}
use Rattle.ms_psbt.specs.declared.listed.MapKind.TheVariants as kind

abbrev pub forms_of : MapKind → ℕ → Form
forms_of kind.Global = global_form
forms_of (kind.Input version) = input_form version
forms_of (kind.Output version) = output_form version

-- which types of the global map have to stand in it is told elsewhere
abbrev pub needed_in : MapKind → List ℕ
needed_in kind.Global = []
needed_in (kind.Input version) = needed_input version
needed_in (kind.Output version) = needed_output version

abbrev pub rules_of : MapKind → Rules
rules_of kind = record { forms = forms_of kind; needed = needed_in kind }

-- what is wrong with data of a key and a value by a form
abbrev pub fault_by : Form → (key_data value : Bytes) → Option PsbtFault
fault_by form key_data value = if form.key key_data then form.value key_data value else Some KeyForm

-- by whether the key and whether the value has its form
abbrev pub passing : (is_key is_value : Bool) → Option PsbtFault
passing false is_value = Some KeyForm
passing true false = Some ValueForm
passing true true = None

-- of a type that stands in version 2 alone
abbrev pub later_fault : PsbtVersion → Option PsbtFault → Option PsbtFault
later_fault version.Zero fault = or_excluded fault
later_fault version.Two fault = fault
