-- The addresses of outputs: P2WPKH and P2WSH by BIP 173, P2SH by BIP 13.
use Rattle.std.specs.Prelude.{ℕ, ◌==◌, ◌&&◌, if◌then◌else◌, [], ◌∷◌, ◌++◌, length, take, drop, codes, Option, Some, None}
use Rattle.std.specs.Option.{option_and_then, option_or, option_map}
use Rattle.std.specs.Str.{bytes_eq}
use Rattle.def_script.specs.Bytes.{Bytes}
use Rattle.def_address.specs.declared.Network.{Network}
use Rattle.def_address.specs.declared.Network.TheVariants.{Main, Test, Regtest}
use Rattle.def_address.specs.Base58.{base58_check, read_base58_check}
use Rattle.def_address.specs.Bech32.{program_address, read_program, is_program}

-- the human-readable part of a network's addresses (BIP 173; Bitcoin Core, chainparams.cpp)
abbrev pub human_of : Network → Bytes
human_of Main = codes "bc"
human_of Test = codes "tb"
human_of Regtest = codes "bcrt"

-- the version of the hash of a Script (BIP 13; Bitcoin Core, chainparams.cpp)
abbrev pub version_of : Network → ℕ
version_of Main = 5
version_of Test = 0xc4
version_of Regtest = 0xc4

-- the output of a program of version 0 (BIP 141), and that of the hash of a Script (BIP 16)
abbrev pub program_output : (program : Bytes) → Bytes
program_output program = 0 ∷ length program ∷ program

abbrev pub hash_output : (hash : Bytes) → Bytes
hash_output hash = 0xa9 ∷ 0x14 ∷ (hash ++ 0x87 ∷ [])

abbrev pub hash_address : Network → (hash : Bytes) → Bytes
hash_address network hash = base58_check (version_of network ∷ hash)

-- the address of an output's script on a network: none but of P2WPKH, P2WSH and P2SH
unfoldable pub address_of : Network → (script : Bytes) → Option Bytes
address_of network script =
    let program = drop 2 script in
    let hash = take 20 (drop 2 script) in
    let of_program = Some (program_address (human_of network) program) in
    let of_hash = if bytes_eq script (hash_output hash) && (length hash == 20) then Some (hash_address network hash) else None in
    if bytes_eq script (program_output program) && is_program program then of_program else of_hash

-- the output of the bytes of Base58Check: the network's version and 20 bytes
abbrev pub output_of_hash : Network → Bytes → Option Bytes
output_of_hash network [] = None
output_of_hash network (version ∷ hash) = if (version == version_of network) && (length hash == 20) then Some (hash_output hash) else None

-- the output's script of an address on a network
unfoldable pub script_at : Network → (address : Bytes) → Option Bytes
script_at network address =
    option_or
    (option_map program_output (read_program (human_of network) address))
    (option_and_then (output_of_hash network) (read_base58_check address))
