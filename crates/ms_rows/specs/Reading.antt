-- What ways come to, where it is known what their parts come to.
use Rattle.std.specs.Prelude.{⊤}
use Rattle.ms_rows.specs.declared.ways.Argument.{Argument}
use Rattle.ms_rows.specs.declared.ways.Argument.TheVariants.{X, Y, Z}
use Rattle.ms_rows.specs.declared.ways.Part.{Part}
use Rattle.ms_rows.specs.declared.ways.Part.TheVariants.{Sat, Dsat, One, Empty}
use Rattle.ms_rows.specs.declared.ways.Way.{Way}
use Rattle.ms_rows.specs.declared.ways.Way.TheVariants.{Alone, Both}
use Rattle.ms_rows.specs.declared.ways.Ways.{Ways}
use Rattle.ms_rows.specs.declared.ways.Ways.TheVariants.{Never, Only, Either}

-- what children come to, satisfied and dissatisfied, and what items do; no way at all; a part alone, one
-- with another on top, and either of two ways
pub record Reader (P V : Type 0) : Type 0 where
  pub sat : P → V
  pub dsat : P → V
  pub one : V
  pub empty : V
  pub never : V
  pub alone : V → V
  pub both : (below above : V) → V
  pub either : (first second : V) → V

module _ {P V : Type 0} (reader : Reader P V) where
  abbrev pub part_in : Part P → V
  part_in (Sat x) = reader.sat x
  part_in (Dsat x) = reader.dsat x
  part_in One = reader.one
  part_in Empty = reader.empty

  abbrev pub way_in : Way P → V
  way_in (Alone part) = reader.alone (part_in part)
  way_in (Both below above) = reader.both (part_in below) (part_in above)

  abbrev pub ways_in : Ways P → V
  ways_in Never = reader.never
  ways_in (Only way) = way_in way
  ways_in (Either first second) = reader.either (way_in first) (way_in second)

-- this holds of each child in the ways
module _ {P : Type 0} (F : P → Type 0) where
  abbrev pub InPart : Part P → Type 0
  InPart (Sat x) = F x
  InPart (Dsat x) = F x
  InPart One = ⊤
  InPart Empty = ⊤

  abbrev pub InWay : Way P → Type 0
  InWay (Alone part) = InPart part
  InWay (Both below above) = InPart below × InPart above

  abbrev pub InWays : Ways P → Type 0
  InWays Never = ⊤
  InWays (Only way) = InWay way
  InWays (Either first second) = InWay first × InWay second

-- what is known of the argument with a letter
abbrev pub by_letter : {P : Type 0} → (x y z : P) → Argument → P
by_letter x y z X = x
by_letter x y z Y = y
by_letter x y z Z = z

-- a reader of rows whose arguments are called by letters
abbrev pub by_letters : {P V : Type 0} → Reader P V → (x y z : P) → Reader Argument V
by_letters r x y z = record {
  sat = λ argument. r.sat (by_letter x y z argument);
  dsat = λ argument. r.dsat (by_letter x y z argument);
  one = r.one;
  empty = r.empty;
  never = r.never;
  alone = r.alone;
  both = r.both;
  either = r.either;
}
