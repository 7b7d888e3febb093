-- What a pair adds to what a map holds.
use Rattle.std.specs.Prelude.{◌==◌, [], ◌∷◌, ◌++◌, length, if◌then◌else◌, Option, Some, None}
use Rattle.def_script.specs.Bytes.{Bytes}
use Rattle.def_script.specs.Key.{is_key}
use Rattle.ms_input.specs.Held.{Held}
use Rattle.ms_input.specs.declared.fields.kind.Kind.{Kind}
use Rattle.ms_input.specs.declared.fields.kind.Kind.TheVariants as kind

-- the first value of a type counts
abbrev pub first_of : Option Bytes → (value : Bytes) → Option Bytes
first_of None value = Some value
first_of (Some former) value = Some former

abbrev pub with_key : Held → (key : Bytes) → Held
with_key held key = record held { keys = held.keys ++ key ∷ [] }

abbrev pub with_signature : Held → (key sig : Bytes) → Held
with_signature held key sig = record held { keys = held.keys ++ key ∷ []; pairs = held.pairs ++ (key, sig) ∷ [] }

abbrev pub with_preimage : Held → (preimage : Bytes) → Held
with_preimage held preimage = record held { preimages = held.preimages ++ preimage ∷ [] }

abbrev pub added : Kind → Held → (data_bytes value : Bytes) → Held
added kind.Previous held data_bytes value = record held { previous = first_of held.previous value }
added kind.Output held data_bytes value = record held { output = first_of held.output value }
added kind.Signature held data_bytes value = if is_key data_bytes then with_signature held data_bytes value else held
added kind.Asked held data_bytes value = record held { asked = first_of held.asked value }
added kind.Redeem held data_bytes value = record held { redeem = first_of held.redeem value }
added kind.Script held data_bytes value = record held { script = first_of held.script value }
added kind.Derivation held data_bytes value = if is_key data_bytes then with_key held data_bytes else held
added kind.FinalScriptSig held data_bytes value = record held { final_script_sig = first_of held.final_script_sig value }
added kind.FinalWitness held data_bytes value = record held { final_witness = first_of held.final_witness value }
added kind.Preimage held data_bytes value = if length value == 32 then with_preimage held value else held
added kind.Other held data_bytes value = held
