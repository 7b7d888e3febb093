-- What PSBTs of one transaction hold together (BIP 174, "Combiner").
use Rattle.std.specs.Prelude.{ℕ, ◌==◌, not, Bool, List, [], ◌∷◌, ◌++◌, filter}
use Rattle.std.specs.Str.{bytes_eq}
use Rattle.def_psbt.specs.declared.PsbtVersion.{PsbtVersion}
use Rattle.def_psbt.specs.declared.PsbtVersion.TheVariants as version
use Rattle.def_psbt.specs.Transaction.{transaction_text}
use Rattle.def_psbt.specs.Map.{Pair, Map, Psbt, value_of_type}
use Rattle.def_psbt.specs.Types.{GLOBAL_FALLBACK_LOCKTIME}
use Rattle.def_psbt.specs.Fields.{number_or, version_number, version_of, lock_time_of}
use Rattle.def_psbt.specs.Listed.{stands}

-- ---- maps

-- a pair whose key doesn't stand in a map
abbrev pub is_new : (before : Map) → Pair → Bool
is_new before pair = not (stands pair.key before)

-- the pairs of a map in their order, and behind them those of another one whose keys haven't stood yet, in theirs
abbrev pub joined_map : (first second : Map) → Map
joined_map first second = first ++ filter (is_new first) second

-- the maps with the same number, of as many
abbrev pub joined_maps : (first second : List Map) → List Map
joined_maps [] second = []
joined_maps (map ∷ first) [] = map ∷ first
joined_maps (map ∷ first) (other ∷ second) = joined_map map other ∷ joined_maps first second

-- ---- PSBTs

abbrev pub joined : (first second : Psbt) → Psbt
joined first second = record {
  global = joined_map first.global second.global;
  transaction = first.transaction;
  inputs = joined_maps first.inputs second.inputs;
  outputs = joined_maps first.outputs second.outputs;
}

-- of several in their order
abbrev pub joined_all : (first : Psbt) → (others : List Psbt) → Psbt
joined_all first [] = first
joined_all first (other ∷ others) = joined_all (joined first other) others

-- ---- what goes together

abbrev pub same_version : (first second : Psbt) → Bool
same_version first second = version_number first.global == version_number second.global

-- the same transaction, with the sequence numbers, which BIP 370 passes over: signatures sign them
abbrev pub same_transaction : (first second : Psbt) → Bool
same_transaction first second = bytes_eq (transaction_text first.transaction) (transaction_text second.transaction)

-- the lock time that the maps of a PSBT give: in version 2 that by which all inputs are served
abbrev pub lock_time_in : PsbtVersion → Psbt → ℕ
lock_time_in version.Zero psbt = psbt.transaction.lock_time
lock_time_in version.Two psbt = lock_time_of (number_or 0 (value_of_type GLOBAL_FALLBACK_LOCKTIME psbt.global)) psbt.inputs

-- its transaction is that which its maps give
abbrev pub keeps_lock_time : Psbt → Bool
keeps_lock_time psbt = lock_time_in (version_of psbt.global) psbt == psbt.transaction.lock_time
