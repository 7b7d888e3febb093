-- The hash types that a signature may have (BIP 143; Bitcoin Core: `SIGHASH_ALL` and the others).
use Rattle.std.specs.Prelude.{ℕ, ◌+◌, ◌==◌, Bool, true, false, List, [], ◌∷◌, find, if◌then◌else◌, Option}
use Rattle.def_spend.specs.declared.SignedOutputs.{SignedOutputs}
use Rattle.def_spend.specs.declared.SignedOutputs.TheVariants as outputs
use Rattle.def_spend.specs.declared.HashType.{HashType}

abbrev pub hash_type : SignedOutputs → (anyone_can_pay : Bool) → HashType
hash_type signed anyone_can_pay = record { outputs = signed; anyone_can_pay = anyone_can_pay }

abbrev pub outputs_number : SignedOutputs → ℕ
outputs_number outputs.All = 1
outputs_number outputs.None = 2
outputs_number outputs.Single = 3

-- the byte of a hash type
abbrev pub number_of : HashType → ℕ
number_of type = (if type.anyone_can_pay then 0x80 else 0) + outputs_number type.outputs

-- all hash types: 1, 2, 3, 129, 130 and 131
abbrev pub every_hash_type : List HashType
every_hash_type =
    hash_type outputs.All false ∷ hash_type outputs.None false ∷ hash_type outputs.Single false
    ∷ hash_type outputs.All true ∷ hash_type outputs.None true ∷ hash_type outputs.Single true ∷ []

-- the hash type of a number
abbrev pub hash_type_of : ℕ → Option HashType
hash_type_of number = find (λ type. number_of type == number) every_hash_type
