-- Which row a stack takes, by what was found of the parts of a fragment.
use Rattle.std.specs.Prelude.{◌&&◌, ◌||◌, not, Bool, true, false, Option, Some, None, if◌then◌else◌}
use Rattle.def_tree.specs.declared.Two.{Two}
use Rattle.def_tree.specs.declared.Two.TheVariants as kind
use Rattle.def_tree.specs.declared.Wrapper.{Wrapper}
use Rattle.def_tree.specs.declared.Wrapper.TheVariants as wrapper
use Rattle.def_table.specs.Table.{Row, and_or_row}
use Rattle.ms_rows.specs.declared.ways.Argument.{Argument}
use Rattle.ms_rows.specs.declared.ways.Argument.TheVariants.{X, Y, Z}
use Rattle.ms_rows.specs.declared.ways.Ways.{Ways}
use Rattle.ms_rows.specs.Reading.{Reader, by_letters, ways_in}
use Rattle.ms_rows.specs.Written.{table, known, two_row, wrap_row}
use Rattle.ms_audit_laws.specs.Walk.{Verdict}

-- it was found and holds; it was found and doesn't
abbrev pub is_sat : Option Bool → Bool
is_sat None = false
is_sat (Some sat) = sat

abbrev pub is_dsat : Option Bool → Bool
is_dsat None = false
is_dsat (Some sat) = not sat

-- rows are read by what was found of the item that chooses, and of the children
abbrev pub reader : (item : Option Bool) → Reader (Option Bool) Bool
reader item = record {
  sat = is_sat;
  dsat = is_dsat;
  one = is_sat item;
  empty = is_dsat item;
  never = false;
  alone = λ part. part;
  both = λ below above. below && above;
  either = λ first second. first || second;
}

-- the verdict of a canonical row, or else of another one, which may be none
abbrev pub row_or : (sat dsat : Bool) → (other : Option Bool) → Verdict
row_or true dsat other = Some (true, false)
row_or false true other = Some (false, false)
row_or false false None = None
row_or false false (Some sat) = Some (sat, true)

abbrev pub verdict_by : (sat dsat : Ways Argument) → (item x y z other : Option Bool) → Verdict
verdict_by sat dsat item x y z other = row_or (ways_in (by_letters (reader item) x y z) sat) (ways_in (by_letters (reader item) x y z) dsat) other

abbrev pub of_row : Row (Ways Argument) (Ways Argument) → (item x y z other : Option Bool) → Verdict
of_row row item x y z other = verdict_by row.sat row.dsat item x y z other

-- the rows that aren't canonical, by whether they satisfy the fragment; that of `andor(X,Y,Z)` is the one of `and_v(X,Y)`
abbrev pub other_of_two : Two → (x z : Option Bool) → Option Bool
other_of_two kind.AndV x z = if is_sat x && is_dsat z then Some false else None
other_of_two kind.AndB x z = if (is_sat x && is_dsat z) || (is_dsat x && is_sat z) then Some false else None
other_of_two kind.OrB x z = if is_sat x && is_sat z then Some true else None
other_of_two other x z = None

abbrev pub other_of_wrap : Wrapper → (x : Option Bool) → Option Bool
other_of_wrap wrapper.J x = if is_dsat x then Some false else None
other_of_wrap other x = None

-- the verdict over a fragment with children, by what was found of them
unfoldable pub verdict_of_and_or : (x y z : Option Bool) → Verdict
verdict_of_and_or x y z = of_row (and_or_row table (known X) (known Y) (known Z)) None x y z (other_of_two kind.AndV x y)

unfoldable pub verdict_of_two : Two → (item x z : Option Bool) → Verdict
verdict_of_two k item x z = of_row (two_row table k (known X) (known Z)) item x None z (other_of_two k x z)

unfoldable pub verdict_of_wrap : Wrapper → (item x : Option Bool) → Verdict
verdict_of_wrap w item x = of_row (wrap_row table w (known X)) item x None None (other_of_wrap w x)

-- the first of two children is satisfied, which is enough
abbrev pub ends_two : Two → (first : Bool) → Bool
ends_two k first = ways_in (by_letters (reader None) (Some first) None None) (two_row table k (known X) (known Z)).sat
