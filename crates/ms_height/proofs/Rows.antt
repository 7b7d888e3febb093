-- A row goes as high as its fragment, by what the Script of that adds.
use Rattle.std.proofs.Common.{◌≡◌, max, Option, Some, None, refl, ◌∙◌, ap, arith}
use Rattle.def_tree.specs.declared.Two.{Two}
use Rattle.def_tree.specs.declared.Two.TheVariants as kind
use Rattle.def_tree.specs.declared.Wrapper.{Wrapper}
use Rattle.def_tree.specs.declared.Wrapper.TheVariants as wrapper
use Rattle.def_tree.specs.Tree.{Tree, two, wrap}
use Rattle.def_table.specs.Table.{Row}
use Rattle.def_height.specs.declared.Highest.{Highest}
use Rattle.def_height.specs.Scaffolding.Highest.{only, both, either, at_least, highest_sat, highest_dsat}
use Rattle.ms_rows.specs.declared.ways.Argument.{Argument}
use Rattle.ms_rows.specs.declared.ways.Argument.TheVariants.{X, Z}
use Rattle.ms_rows.specs.declared.ways.Row as rust
use Rattle.ms_rows.specs.declared.ways.Ways.{Ways}
use Rattle.ms_rows.specs.Written.{table, known, two_row, wrap_row, IsRow}
use Rattle.ms_height.specs.Scaffolding.Row.{highest_of, of_two, of_wrap, of_row}

-- a moment without elements changes nothing
at_least_0 : (o : Option Highest) → at_least 0 o ≡ o
at_least_0 None = refl
at_least_0 (Some m) = let same : max m.height 0 ≡ m.height = omega arith in λ i. Some (record { items = m.items; height = same i })

-- the row with these ways
abbrev row_of : Row (Ways Argument) (Ways Argument) → rust.Row Argument
row_of ways = record { sat = ways.sat; dsat = ways.dsat }

row_is : (row : rust.Row Argument) (ways : Row (Ways Argument) (Ways Argument)) → IsRow row ways → row ≡ row_of ways
row_is row ways is = λ i. record { sat = is.sat i; dsat = is.dsat i }

two_written : (k : Two) (x z : Tree) → of_row (of_two k) (highest_of x) (highest_of z) (highest_of z) (row_of (two_row table k (known X) (known Z))) ≡ highest_of (two k x z)
two_written kind.OrC x z = λ i. record { sat = either (at_least_0 (highest_sat x) i) (both 0 (highest_dsat x) (highest_sat z)); dsat = None }
two_written other x z = refl

wrap_written : (w : Wrapper) (x : Tree) → of_row (of_wrap w) (highest_of x) (highest_of x) (highest_of x) (row_of (wrap_row table w (known X))) ≡ highest_of (wrap w x)
wrap_written wrapper.D x = refl
wrap_written wrapper.V x = λ i. record { sat = at_least_0 (highest_sat x) i; dsat = None }
wrap_written wrapper.J x = λ i. record { sat = at_least_0 (both 0 (only 0 1) (highest_sat x)) i; dsat = only 1 2 }
wrap_written other x = λ i. record { sat = at_least_0 (highest_sat x) i; dsat = at_least_0 (highest_dsat x) i }

pub two_reads : (k : Two) (x z : Tree) (row : rust.Row Argument) → IsRow row (two_row table k (known X) (known Z))
    → of_row (of_two k) (highest_of x) (highest_of z) (highest_of z) row ≡ highest_of (two k x z)
two_reads k x z row is = ap (of_row (of_two k) (highest_of x) (highest_of z) (highest_of z)) (row_is row _ is) ∙ two_written k x z

pub wrap_reads : (w : Wrapper) (x : Tree) (row : rust.Row Argument) → IsRow row (wrap_row table w (known X))
    → of_row (of_wrap w) (highest_of x) (highest_of x) (highest_of x) row ≡ highest_of (wrap w x)
wrap_reads w x row is = ap (of_row (of_wrap w) (highest_of x) (highest_of x) (highest_of x)) (row_is row _ is) ∙ wrap_written w x
