-- What trees take at most, what rows of the satisfaction table do, and what children are to a threshold.
use Rattle.std.specs.Prelude.{◌≡◌, List, map, Option, Some, None}
use Rattle.def_tree.specs.Tree as model
use Rattle.def_limits.specs.Formal as formal
use Rattle.def_limits.specs.Scaffolding.Most.{most_sat, most_dsat, both, either}
use Rattle.ms_rows.specs.Reading.{Reader, by_letters, ways_in}
use Rattle.ms_rows.specs.declared.ways.Argument.{Argument}
use Rattle.ms_rows.specs.declared.ways.Row.{Row}
use Rattle.ms_tree.specs.declared.tree.Tree.{Tree}
use Rattle.ms_tree.specs.Shape.{shape}
use Rattle.ms_choice.specs.declared.children.Number.{Number}
use Rattle.ms_choice.specs.declared.children.Costs.{Costs}
use Rattle.ms_sane.specs.Scaffolding.Takes.{taken, costs_at}
use Rattle.ms_sane.specs.declared.takes.Most.{Most}

-- trees as the children of a choice, by one of the numbers that they take at most
abbrev pub children_in : Number → List Tree → List Costs
children_in n xs = map (λ x. costs_at n (most_sat (shape x)) (most_dsat (shape x))) xs

-- what ways take at most, by what the children take
abbrev pub reader : Reader Most (Option formal.Takes)
reader = record {
  sat = λ most. taken most.sat;
  dsat = λ most. taken most.dsat;
  one = Some formal.one;
  empty = Some formal.empty;
  never = None;
  alone = λ takes. takes;
  both = both;
  either = either;
}

-- what the ways of a row take, where the arguments with its letters take so much
pub record IsOfRow (m : Most) (row : Row Argument) (x y z : Most) : Type 0 where
  pub sat : taken m.sat ≡ ways_in (by_letters reader x y z) row.sat
  pub dsat : taken m.dsat ≡ ways_in (by_letters reader x y z) row.dsat

-- what a tree takes at most
pub record IsMost (m : Most) (t : model.Tree) : Type 0 where
  pub sat : taken m.sat ≡ most_sat t
  pub dsat : taken m.dsat ≡ most_dsat t
