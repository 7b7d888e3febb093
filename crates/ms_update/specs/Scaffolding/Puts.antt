-- How maps are put behind bytes, with what belongs to them. No public clause cites it, so it need not be believed.
use Rattle.std.specs.Prelude.{◌≡◌, ℕ, ⊤, Bool, is_some, List, ◌++◌, Some, None, Result, Ok, Err}
use Rattle.std.specs.List.{flat_map, list_any}
use Rattle.def_script.specs.Bytes.{Bytes}
use Rattle.def_psbt.specs.Map.{Map, map_text}
use Rattle.def_psbt.specs.Transaction.{TransactionInput}
use Rattle.def_combine.specs.Joined.{joined_map, joined_maps}
use Rattle.def_update.specs.Known.{Known}
use Rattle.def_update.specs.Updated.{conflict_in, conflict_among, each_input, known_of_input, input_pairs}
use Rattle.ms_update.specs.declared.updating.UpdateStop.{UpdateStop}
use Rattle.ms_update.specs.declared.updating.UpdateStop.TheVariants as stop

-- a map with what belongs to it, or barred by the pair at a place; only want of memory may come in place of either
abbrev pub PutsMap : (own : Map) → (at : ℕ) → (map : Map) → (before after : Bytes) → Result (Unit {0}) UpdateStop → Type 0
PutsMap own at map before after (Ok done) = (conflict_in own at map ≡ None) × (after ≡ before ++ map_text (joined_map map own))
PutsMap own at map before after (Err (stop.Conflict place)) = conflict_in own at map ≡ Some place
PutsMap own at map before after (Err stop.Memory) = ⊤

-- the same of the map of an input; whether something is known of the input is told
abbrev pub PutsInput : List Known → TransactionInput → (fields : Map) → (at : ℕ) → (before after : Bytes) → Result Bool UpdateStop → Type 0
PutsInput known input fields at before after (Ok has_known) =
    (conflict_in (input_pairs known input fields) at fields ≡ None) × (after ≡ before ++ map_text (joined_map fields (input_pairs known input fields)))
    × (has_known ≡ is_some (known_of_input known input fields))
PutsInput known input fields at before after (Err (stop.Conflict place)) = conflict_in (input_pairs known input fields) at fields ≡ Some place
PutsInput known input fields at before after (Err stop.Memory) = ⊤

-- the same of maps, one after the other
abbrev pub PutsMaps : (owns : List Map) → (at : ℕ) → (maps : List Map) → (before after : Bytes) → Result (Unit {0}) UpdateStop → Type 0
PutsMaps owns at maps before after (Ok done) = (conflict_among owns at maps ≡ None) × (after ≡ before ++ flat_map map_text (joined_maps maps owns))
PutsMaps owns at maps before after (Err (stop.Conflict place)) = conflict_among owns at maps ≡ Some place
PutsMaps owns at maps before after (Err stop.Memory) = ⊤

-- and of the maps of inputs; whether something is known of one is told
abbrev pub PutsInputs : List Known → List TransactionInput → (maps : List Map) → (at : ℕ) → (before after : Bytes) → Result Bool UpdateStop → Type 0
PutsInputs known inputs maps at before after (Ok has_known) =
    (conflict_among (each_input (input_pairs known) inputs maps) at maps ≡ None)
    × (after ≡ before ++ flat_map map_text (joined_maps maps (each_input (input_pairs known) inputs maps)))
    × (has_known ≡ list_any (λ one. is_some one) (each_input (known_of_input known) inputs maps))
PutsInputs known inputs maps at before after (Err (stop.Conflict place)) = conflict_among (each_input (input_pairs known) inputs maps) at maps ≡ Some place
PutsInputs known inputs maps at before after (Err stop.Memory) = ⊤
