-- What an input's map holds that counts for spending it, gathered pair by pair.
use Rattle.std.specs.Prelude.{◌≡◌, List, [], ◌∷◌, ◌++◌, Option}
use Rattle.def_script.specs.Bytes.{Bytes}
use Rattle.def_machine.specs.declared.Locks.{Locks}
use Rattle.def_machine.specs.Stacks.{Pairs}
use Rattle.def_assets.specs.Assets.{Assets}
use Rattle.def_tree.specs.Tree.{Key}
use Rattle.def_psbt.specs.Map.{Map}
use Rattle.def_psbt.specs.Types.{IN_NON_WITNESS_UTXO, IN_WITNESS_UTXO, IN_SIGHASH_TYPE, IN_REDEEM_SCRIPT, IN_WITNESS_SCRIPT, IN_FINAL_SCRIPTSIG, IN_FINAL_SCRIPTWITNESS}
use Rattle.def_spend.specs.Fields.{field, signatures_in, keys_in, preimages_in}

pub record Held : Type 0 where
  -- the previous transaction, and the spent output
  pub previous : Option Bytes
  pub output : Option Bytes
  pub asked : Option Bytes
  pub redeem : Option Bytes
  pub script : Option Bytes
  pub final_script_sig : Option Bytes
  pub final_witness : Option Bytes
  pub pairs : Pairs
  pub keys : List Key
  pub preimages : List Bytes

-- what a map holds
abbrev pub held_in : (fields : Map) → Held
held_in fields = record {
  previous = field IN_NON_WITNESS_UTXO fields;
  output = field IN_WITNESS_UTXO fields;
  asked = field IN_SIGHASH_TYPE fields;
  redeem = field IN_REDEEM_SCRIPT fields;
  script = field IN_WITNESS_SCRIPT fields;
  final_script_sig = field IN_FINAL_SCRIPTSIG fields;
  final_witness = field IN_FINAL_SCRIPTWITNESS fields;
  pairs = signatures_in fields;
  keys = keys_in fields;
  preimages = preimages_in fields;
}

-- all that it holds for a satisfaction, whichever signatures count
abbrev pub all_assets : Locks → Held → Assets
all_assets locks held = record { locks = locks; pairs = held.pairs; preimages = held.preimages }

-- these are the fields of a map, to whose end a pair is added
abbrev pub Adds : (former latter : Held) → (key value : Bytes) → Type 0
Adds former latter key value =
    (fields : Map) → former ≡ held_in fields → latter ≡ held_in (fields ++ record { key = key; value = value } ∷ [])
