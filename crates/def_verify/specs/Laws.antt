-- What the definitions imply.
use Rattle.std.specs.Prelude.{◌≡◌, ℕ, Some}
use Rattle.def_spend.specs.Hashes.{hash_by, script_in}
use Rattle.def_spend.specs.Input.{Spend}
use Rattle.def_verify.specs.ConsensusHash.{consensus_hash}

-- a byte that is the number of a hash type has signed what that hash type signs
abbrev pub IsOfType : (number : ℕ) → Type 0
IsOfType number = (spend : Spend) → hash_by number spend ≡ Some (consensus_hash number spend (script_in spend))

abbrev pub HashesOfTypes : Type 0
HashesOfTypes = IsOfType 0x01 × IsOfType 0x02 × IsOfType 0x03 × IsOfType 0x81 × IsOfType 0x82 × IsOfType 0x83
