-- How high a row of the satisfaction table goes, by what the Script of its fragment adds beside its parts (BIP 379, translation).
use Rattle.std.specs.Prelude.{ℕ, zero, suc, Option, None}
use Rattle.def_tree.specs.declared.Two.{Two}
use Rattle.def_tree.specs.declared.Two.TheVariants as kind
use Rattle.def_tree.specs.declared.Wrapper.{Wrapper}
use Rattle.def_tree.specs.declared.Wrapper.TheVariants as wrapper
use Rattle.def_tree.specs.Tree.{Tree}
use Rattle.def_height.specs.declared.Highest.{Highest}
use Rattle.def_height.specs.Scaffolding.Highest.{only, both, either, at_least, highest_sat, highest_dsat}
use Rattle.ms_rows.specs.declared.ways.Argument.{Argument}
use Rattle.ms_rows.specs.declared.ways.Row as rust
use Rattle.ms_rows.specs.Reading.{Reader, by_letters, ways_in}
use Rattle.ms_height.specs.declared.highest.Heights.{Heights}
use Rattle.ms_height.specs.declared.row.Script.{Script}

-- how high a tree goes
abbrev pub highest_of : Tree → Heights
highest_of tree = record { sat = highest_sat tree; dsat = highest_dsat tree }

-- the Script of a fragment that adds none
abbrev pub bare : Script
bare = record { before = 0; left = 0; after = 0 }

-- of one with two children: BOOLAND and BOOLOR need what the first part leaves, and IFDUP copies it
abbrev pub of_two : Two → Script
of_two kind.AndB = record { before = 0; left = 1; after = 0 }
of_two kind.OrB = record { before = 0; left = 1; after = 0 }
of_two kind.OrD = record { before = 0; left = 0; after = 2 }
of_two other = bare

-- of a wrapper: DUP and SIZE stand before IF, and the item that DUP copies stays
abbrev pub of_wrap : Wrapper → Script
of_wrap wrapper.D = record { before = 1; left = 1; after = 0 }
of_wrap wrapper.J = record { before = 1; left = 0; after = 0 }
of_wrap other = bare

-- a part with so many elements on its items when it begins
abbrev pub begun : (elements : ℕ) → Option Highest → Option Highest
begun zero part = part
begun (suc n) part = both 0 (only 0 (suc n)) part

abbrev pub reader : Script → Reader Heights (Option Highest)
reader script = record {
  sat = λ x. x.sat;
  dsat = λ x. x.dsat;
  one = only 1 1;
  empty = only 1 1;
  never = None;
  alone = λ part. at_least script.after (begun script.before part);
  both = λ below above. both script.left (begun script.before above) below;
  either = either;
}

-- a row whose arguments go so high
abbrev pub of_row : Script → (x y z : Heights) → rust.Row Argument → Heights
of_row script x y z row = record {
  sat = ways_in (by_letters (reader script) x y z) row.sat;
  dsat = ways_in (by_letters (reader script) x y z) row.dsat;
}
