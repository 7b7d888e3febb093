-- What is known of an output, and the pairs of it that belong to the maps of a PSBT (BIP 174, "Per-Input Types" and "Per-Output Types").
use Rattle.std.specs.Prelude.{ℕ, List, [], ◌∷◌, ◌++◌, map, find, flat_map, Option, Some, None}
use Rattle.std.specs.Str.{bytes_eq}
use Rattle.std.specs.Int.{w32, to_le_bytes}
use Rattle.def_script.specs.Bytes.{Bytes}
use Rattle.def_tree.specs.Tree.{Key}
use Rattle.def_descriptor.specs.Expression.{Origin}
use Rattle.def_psbt.specs.Map.{Pair, Map}
use Rattle.def_psbt.specs.Types.{IN_REDEEM_SCRIPT, IN_WITNESS_SCRIPT, IN_BIP32_DERIVATION, OUT_REDEEM_SCRIPT, OUT_WITNESS_SCRIPT, OUT_BIP32_DERIVATION}

-- an output's script; behind P2SH its redeem script, and of the P2WSH kinds its witness script; and its keys, each with where it comes from
pub record Known : Type 0 where
  pub output : Bytes
  pub redeem : Option Bytes
  pub witness : Option Bytes
  pub keys : List (Key × Origin)

-- the types of pairs, by BIP 174's names without `PSBT_IN_` and `PSBT_OUT_`
pub record Types : Type 0 where
  pub redeem_script : ℕ
  pub witness_script : ℕ
  pub bip32_derivation : ℕ

abbrev pub INPUT : Types
INPUT = record { redeem_script = IN_REDEEM_SCRIPT; witness_script = IN_WITNESS_SCRIPT; bip32_derivation = IN_BIP32_DERIVATION }

abbrev pub OUTPUT : Types
OUTPUT = record { redeem_script = OUT_REDEEM_SCRIPT; witness_script = OUT_WITNESS_SCRIPT; bip32_derivation = OUT_BIP32_DERIVATION }

-- a pair of a type whose number is one byte
abbrev pub typed : (type : ℕ) → (key_data value : Bytes) → Pair
typed type key_data value = record { key = type ∷ key_data; value = value }

-- a Script, where there is one
abbrev pub script_pairs : (type : ℕ) → Option Bytes → Map
script_pairs type None = []
script_pairs type (Some script) = typed type [] script ∷ []

-- the fingerprint, and each step, low byte first
abbrev pub derivation : Origin → Bytes
derivation origin = origin.print ++ flat_map (to_le_bytes w32) origin.steps

abbrev pub derivation_pair : (type : ℕ) → Key × Origin → Pair
derivation_pair type key = typed type key.0 (derivation key.1)

-- the pairs of an output, in the order of their types
abbrev pub belonging : Types → Known → Map
belonging types known =
    script_pairs types.redeem_script known.redeem
    ++ (script_pairs types.witness_script known.witness
    ++ map (derivation_pair types.bip32_derivation) known.keys)

-- those of the output that a map is of; none where nothing is known of it
abbrev pub pairs_by : Types → Option Known → Map
pairs_by types None = []
pairs_by types (Some known) = belonging types known

-- what is known of the output with a script: of two with one script the first counts
abbrev pub known_by : List Known → (script : Bytes) → Option Known
known_by known script = find (λ one. bytes_eq script one.output) known
