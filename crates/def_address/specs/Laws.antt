-- What the definitions imply.
use Rattle.std.specs.Prelude.{◌≡◌, Some}
use Rattle.def_script.specs.Bytes.{Bytes, IsBytes}
use Rattle.def_address.specs.declared.Network.{Network}
use Rattle.def_address.specs.Base58.{base58_check, read_base58_check}
use Rattle.def_address.specs.Address.{address_of, script_at}

-- Base58Check reads what it writes
abbrev pub Base58CheckIsRead : Type 0
Base58CheckIsRead = (bytes : Bytes) → IsBytes bytes → read_base58_check (base58_check bytes) ≡ Some bytes

-- and no other text of the same bytes
abbrev pub Base58CheckIsOnly : Type 0
Base58CheckIsOnly = (text bytes : Bytes) → read_base58_check text ≡ Some bytes → base58_check bytes ≡ text

-- the address of an output gives its script
abbrev pub AddressGivesOutput : Type 0
AddressGivesOutput = (network : Network) (script address : Bytes) → IsBytes script → address_of network script ≡ Some address → script_at network address ≡ Some script

-- so that two outputs have no address in common
abbrev pub AddressIsOfOneOutput : Type 0
AddressIsOfOneOutput = (network : Network) (script other address : Bytes) → IsBytes script → IsBytes other
    → address_of network script ≡ Some address → address_of network other ≡ Some address → script ≡ other
