-- Published values: Bitcoin Core's examples of Base58, those of BIPs 173, 49, 84 and 380.
use Rattle.std.specs.Prelude.{◌≡◌, codes, Some, None}
use Rattle.def_hash.specs.Hex.{from_hex}
use Rattle.def_address.specs.declared.Network.TheVariants.{Main, Test, Regtest}
use Rattle.def_address.specs.Base58.{base58, read_base58}
use Rattle.def_address.specs.DescriptorSum.{descriptor_sum}
use Rattle.def_address.specs.Address.{address_of, script_at}

-- Bitcoin Core, `base58_encode_decode.json`
abbrev pub Base58OfThree : Type 0
Base58OfThree = base58 (from_hex "626262") ≡ codes "a3gV"

abbrev pub Base58OfZeros : Type 0
Base58OfZeros = base58 (from_hex "00000000000000000000") ≡ codes "1111111111"

abbrev pub Base58OfAddress : Type 0
Base58OfAddress = base58 (from_hex "00eb15231dfceb60925886b67d065299925915aeb172c06647") ≡ codes "1NS17iag9jJgTHD1VXjvLCEnZuQ3rJDE9L"

abbrev pub BytesOfText : Type 0
BytesOfText = read_base58 (codes "1NS17iag9jJgTHD1VXjvLCEnZuQ3rJDE9L") ≡ Some (from_hex "00eb15231dfceb60925886b67d065299925915aeb172c06647")

-- `0` is no digit
abbrev pub NoBytesOfZero : Type 0
NoBytesOfZero = read_base58 (codes "a3g0") ≡ None

-- the P2WPKH and the P2WSH address of the generator (BIP 173), and the latter on a test network
abbrev pub AddressOfKey : Type 0
AddressOfKey = address_of Main (from_hex "0014751e76e8199196d454941c45d1b3a323f1433bd6") ≡ Some (codes "bc1qw508d6qejxtdg4y5r3zarvary0c5xw7kv8f3t4")

abbrev pub AddressOfScript : Type 0
AddressOfScript = address_of Main (from_hex "00201863143c14c5166804bd19203356da136c985678cd4d27a1b8c6329604903262")
    ≡ Some (codes "bc1qrp33g0q5c5txsp9arysrx4k6zdkfs4nce4xj0gdcccefvpysxf3qccfmv3")

abbrev pub TestAddressOfScript : Type 0
TestAddressOfScript = address_of Test (from_hex "00201863143c14c5166804bd19203356da136c985678cd4d27a1b8c6329604903262")
    ≡ Some (codes "tb1qrp33g0q5c5txsp9arysrx4k6zdkfs4nce4xj0gdcccefvpysxf3q0sl5k7")

-- BIP 49
abbrev pub TestAddressOfHash : Type 0
TestAddressOfHash = address_of Test (from_hex "a914336caa13e08b96080a32b5d818d59b4ab3b3674287") ≡ Some (codes "2Mww8dCYPUpKHofjgcXcBCEGmniw9CoaiD2")

-- P2PKH has no address here
abbrev pub NoAddressOfOther : Type 0
NoAddressOfOther = address_of Main (from_hex "76a914751e76e8199196d454941c45d1b3a323f1433bd688ac") ≡ None

-- BIP 173: a valid address in upper case
abbrev pub ScriptOfUpperCase : Type 0
ScriptOfUpperCase = script_at Main (codes "BC1QW508D6QEJXTDG4Y5R3ZARVARY0C5XW7KV8F3T4") ≡ Some (from_hex "0014751e76e8199196d454941c45d1b3a323f1433bd6")

-- and invalid ones: of both cases, with another checksum, of another length, with bits behind the program, of another network
abbrev pub NoScriptOfBothCases : Type 0
NoScriptOfBothCases = script_at Test (codes "tb1qrp33g0q5c5txsp9arysrx4k6zdkfs4nce4xj0gdcccefvpysxf3q0sL5k7") ≡ None

abbrev pub NoScriptOfOtherSum : Type 0
NoScriptOfOtherSum = script_at Main (codes "bc1qw508d6qejxtdg4y5r3zarvary0c5xw7kv8f3t5") ≡ None

abbrev pub NoScriptOfLength : Type 0
NoScriptOfLength = script_at Main (codes "BC1QR508D6QEJXTDG4Y5R3ZARVARYV98GJ9P") ≡ None

abbrev pub NoScriptOfBits : Type 0
NoScriptOfBits = script_at Test (codes "tb1qrp33g0q5c5txsp9arysrx4k6zdkfs4nce4xj0gdcccefvpysxf3pjxtptv") ≡ None

abbrev pub NoScriptOfNetwork : Type 0
NoScriptOfNetwork = script_at Regtest (codes "bc1qw508d6qejxtdg4y5r3zarvary0c5xw7kv8f3t4") ≡ None

abbrev pub ScriptOfHash : Type 0
ScriptOfHash = script_at Regtest (codes "2Mww8dCYPUpKHofjgcXcBCEGmniw9CoaiD2") ≡ Some (from_hex "a914336caa13e08b96080a32b5d818d59b4ab3b3674287")

-- BIP 380
abbrev pub SumOfRaw : Type 0
SumOfRaw = descriptor_sum (codes "raw(deadbeef)") ≡ Some (codes "89f8spxm")

-- a character that is none of a descriptor's
abbrev pub NoSumOfLineEnd : Type 0
NoSumOfLineEnd = descriptor_sum (codes "raw(deadbeef)\n") ≡ None
