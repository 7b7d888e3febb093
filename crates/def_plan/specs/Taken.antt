-- The keys whose signatures the strict choice takes, in the order of the nodes and, in a `multi`, of its positions.
use Rattle.std.specs.Prelude.{ℕ, Bool, List}
use Rattle.def_tree.specs.Tree.{Tree, Trees, Key}
use Rattle.def_tree.specs.Range.{count}
use Rattle.def_assets.specs.Assets.{Assets}
use Rattle.def_table.specs.Table.{row_of, rows_of}
use Rattle.def_choice.specs.Chosen.{chosen, rows_taken, taken_of_rows}
pub use Rattle.def_choice.specs.Chosen.{is_former, takes_former, set_taken, signers_taken, keys_of_set}

-- the children of a threshold that are satisfied
abbrev pub children_taken : Assets → (k : ℕ) → Trees → List Bool
children_taken assets k xs = rows_taken assets k (count xs) (rows_of chosen xs)

abbrev pub taken : Assets → Tree → List Key
taken assets tree = (row_of chosen tree).sat.taken assets

-- those of the children that a set chooses
abbrev pub taken_of_children : Assets → Trees → (set : List Bool) → List Key
taken_of_children assets xs set = taken_of_rows assets (rows_of chosen xs) set
