-- An input as contracts see it.
use Rattle.std.specs.Prelude.{ℕ, [], slice_get, unwrap_or, Option}
use Rattle.std.specs.Option.{option_map}
use Rattle.std.specs.Coded.{Coded}
use mir.Syntax.{static}
use Rattle.def_psbt.specs.Map.{Psbt}
use Rattle.def_spend.specs.declared.Verification.{Verification}
use Rattle.def_spend.specs.declared.Verification.TheVariants.{Unverified}
use Rattle.def_spend.specs.Input.{Spend, spends_of}
use Rattle.def_spend.specs.Reading.{Input}
use Rattle.ms_tree.specs.contracts.tree.Tree.{the_row}
use Rattle.ms_tree.specs.declared.tree.Tree.{Tree}
use Rattle.ms_tree.specs.Shape.{shape}

-- by which a proof tells the code's trees apart, whatever their lifetime
abbrev pub tree_code : Coded Tree
tree_code = (the_row (record { mir = static; lft = [] })).coded

-- where an input stands, and the tree that its Script is read as, where there is one
pub record Seen : Type 0 where
  pub spend : Spend
  pub tree : Option Tree

-- the definition's input
abbrev pub input_seen : Seen → Input
input_seen seen = record { spend = seen.spend; tree = option_map shape seen.tree }

-- in place of an input that isn't there
abbrev pub nowhere : Spend
nowhere = record {
  verification = Unverified;
  transaction = record { version = 0; inputs = []; outputs = []; lock_time = 0 };
  number = 0;
  input = record { outpoint = record { id = []; index = 0 }; script_sig = []; sequence = 0 };
  fields = [];
}

-- the input of a PSBT with this number
abbrev pub spend_at : Verification → Psbt → (number : ℕ) → Spend
spend_at verification psbt number = unwrap_or (slice_get (spends_of verification psbt) number) nowhere
