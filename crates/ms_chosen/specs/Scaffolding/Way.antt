-- What the ways to satisfy or dissatisfy a fragment push.
use Rattle.std.specs.Prelude.{◌≡◌, ℕ, ◌+◌, ◌<◌, max, Bool, false, ◌||◌, ◌&&◌, not, List, [], ◌∷◌, is_some, Option, Some, None}
use Rattle.def_machine.specs.Stacks.{Stack}
use Rattle.def_tree.specs.Tree as model
use Rattle.def_tree.specs.Size.{nodes}
use Rattle.def_assets.specs.Assets.{Assets}
use Rattle.def_satisfaction.specs.Rows.{EMPTY, ONE}
use Rattle.def_choice.specs.Least.{both, least}
use Rattle.def_choice.specs.Dissatisfaction.{dissatisfaction}
use Rattle.ms_tree.specs.Shape.{shape}
use Rattle.def_choice.specs.declared.choice.Choice.{Choice as Rule}
use Rattle.ms_chosen.specs.declared.way.Seen.{Seen}
use Rattle.ms_chosen.specs.declared.way.Price.{Price}
use Rattle.ms_rows.specs.declared.ways.Part.{Part}
use Rattle.ms_rows.specs.declared.ways.Row.{Row}
use Rattle.ms_rows.specs.declared.ways.Way.{Way}
use Rattle.ms_rows.specs.declared.ways.Ways.{Ways}
use Rattle.ms_rows.specs.declared.ways.Ways.TheVariants.{Never, Only, Either}
use Rattle.ms_rows.specs.Reading.{Reader, part_in, way_in, ways_in, InPart, InWay, InWays}
use Rattle.ms_chosen.specs.Scaffolding.Costs.{weight_of}
use Rattle.ms_chosen.specs.Scaffolding.Pushed.{is_former}
use Rattle.ms_chosen.specs.Rule.{stack_by, free_by, first_of}
use Rattle.ms_chosen.specs.Scaffolding.Table.{IsTable, AreEntries}
use Rattle.ms_chosen.specs.declared.table.Entry.{Entry}

abbrev pub tree_of : Seen → model.Tree
tree_of seen = shape seen.tree.now

-- the stacks of ways over what satisfies each tree, and the lightest one
abbrev pub stacks_over : (model.Tree → Option Stack) → Reader Seen (Option Stack)
stacks_over satisfying = record {
  sat = λ x. satisfying (tree_of x);
  dsat = λ x. dissatisfaction (tree_of x);
  one = Some (ONE ∷ []);
  empty = Some (EMPTY ∷ []);
  never = None;
  alone = λ stack. stack;
  both = both;
  either = λ former latter. least (former ∷ latter ∷ []);
}

-- by a rule; and without a signature, where the rule asks for it
abbrev pub stacks : Rule → Assets → Reader Seen (Option Stack)
stacks rule assets = stacks_over (stack_by rule assets)

abbrev pub free_stacks : Rule → Assets → Reader Seen (Option Stack)
free_stacks rule assets = stacks_over (free_by rule assets)

abbrev pub stack_of_part : Rule → Assets → Part Seen → Option Stack
stack_of_part rule assets part = part_in (stacks rule assets) part

abbrev pub stack_of_way : Rule → Assets → Way Seen → Option Stack
stack_of_way rule assets way = way_in (stacks rule assets) way

abbrev pub free_of_part : Rule → Assets → Part Seen → Option Stack
free_of_part rule assets part = part_in (free_stacks rule assets) part

abbrev pub free_of_way : Rule → Assets → Way Seen → Option Stack
free_of_way rule assets way = way_in (free_stacks rule assets) way

-- what satisfies by some ways: the first of them that has a free stack, or else the lightest
abbrev pub sat_of : Rule → Assets → Ways Seen → Option Stack
sat_of rule assets Never = None
sat_of rule assets (Only way) = stack_of_way rule assets way
sat_of rule assets (Either former latter) =
    first_of
    (is_some (free_of_way rule assets former)) (is_some (free_of_way rule assets latter))
    (stack_of_way rule assets former) (stack_of_way rule assets latter)

-- what dissatisfies by some ways: the lightest of them
abbrev pub dsat_of : Rule → Assets → Ways Seen → Option Stack
dsat_of rule assets ways = ways_in (stacks rule assets) ways

-- one of the ways has a free stack
abbrev pub is_free : Rule → Assets → Ways Seen → Bool
is_free rule assets Never = false
is_free rule assets (Only way) = is_some (free_of_way rule assets way)
is_free rule assets (Either former latter) =
    is_some (free_of_way rule assets former) || is_some (free_of_way rule assets latter)

-- how many nodes the trees of one way have at most
abbrev pub sizes : Reader Seen ℕ
sizes = record {
  sat = λ x. nodes (tree_of x);
  dsat = λ x. nodes (tree_of x);
  one = 0;
  empty = 0;
  never = 0;
  alone = λ count. count;
  both = λ below above. below + above;
  either = max;
}

abbrev pub nodes_of_part : Part Seen → ℕ
nodes_of_part part = part_in sizes part

abbrev pub nodes_of_way : Way Seen → ℕ
nodes_of_way way = way_in sizes way

abbrev pub nodes_of_ways : Ways Seen → ℕ
nodes_of_ways ways = ways_in sizes ways

-- the trees have their tables
abbrev pub IsSeen : Rule → Assets → Seen → Type 0
IsSeen rule assets seen = IsTable rule assets (tree_of seen) seen.table.now

abbrev pub HasTable : Seen → Type 0
HasTable seen = (rule : Rule) × (assets : Assets) × IsSeen rule assets seen

abbrev pub IsSeenPart : Rule → Assets → Part Seen → Type 0
IsSeenPart rule assets part = InPart (IsSeen rule assets) part

abbrev pub IsSeenWay : Rule → Assets → Way Seen → Type 0
IsSeenWay rule assets way = InWay (IsSeen rule assets) way

abbrev pub AreSeen : Rule → Assets → Ways Seen → Type 0
AreSeen rule assets ways = InWays (IsSeen rule assets) ways

-- by some rule and assets
abbrev pub HaveTables : Ways Seen → Type 0
HaveTables ways = (rule : Rule) × (assets : Assets) × AreSeen rule assets ways

-- the ways of a row are those of a tree, by each rule, and go over fewer nodes
pub record IsRowOf (t : model.Tree) (row : Row Seen) : Type 0 where
  pub sat : (rule : Rule) (assets : Assets) → stack_by rule assets t ≡ sat_of rule assets row.sat
  pub free : (rule : Rule) (assets : Assets) → is_some (free_by rule assets t) ≡ is_free rule assets row.sat
  pub dsat : (rule : Rule) (assets : Assets) → dissatisfaction t ≡ dsat_of rule assets row.dsat
  pub fewer_sat : nodes_of_ways row.sat < nodes t
  pub fewer_dsat : nodes_of_ways row.dsat < nodes t

-- its trees have their tables
abbrev pub IsSeenRow : Rule → Assets → Row Seen → Type 0
IsSeenRow rule assets row = AreSeen rule assets row.sat × AreSeen rule assets row.dsat

-- what a way weighs, and whether it has a free stack
pub record IsPriceOf (stack free_stack : Option Stack) (price : Price) : Type 0 where
  pub weight : price.weight ≡ weight_of stack
  pub free : price.free ≡ is_some free_stack

-- the former of two ways is the one that is taken
abbrev pub comes_first : (former latter : Price) → Bool
comes_first former latter = former.free || (not latter.free && is_former former.weight latter.weight)

-- what satisfies by the ways satisfies by this one
pub record Satisfies (rule : Rule) (assets : Assets) (ways : Ways Seen) (way : Way Seen) : Type 0 where
  pub stack : sat_of rule assets ways ≡ stack_of_way rule assets way
  pub free : is_free rule assets ways ≡ is_some (free_of_way rule assets way)
  pub seen : IsSeenWay rule assets way

-- what dissatisfies by the ways dissatisfies by this one
pub record Dissatisfies (rule : Rule) (assets : Assets) (ways : Ways Seen) (way : Way Seen) : Type 0 where
  pub stack : dsat_of rule assets ways ≡ stack_of_way rule assets way
  pub seen : IsSeenWay rule assets way

-- both trees are seen with their entries, by each rule and assets by which these are the entries of both
abbrev pub SeesTwo : List model.Tree → List Entry → (first second : Seen) → Type 0
SeesTwo ts table first second = (rule : Rule) (assets : Assets) → AreEntries rule assets ts table → IsSeen rule assets first × IsSeen rule assets second
