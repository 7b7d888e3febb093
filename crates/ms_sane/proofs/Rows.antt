-- What a row takes at most is what its fragment takes.
use Rattle.std.proofs.Common.{◌≡◌, ◌∙◌, Option, refl}
use Rattle.def_tree.specs.declared.Two.{Two}
use Rattle.def_tree.specs.declared.Wrapper.{Wrapper}
use Rattle.def_tree.specs.Tree as model
use Rattle.def_table.specs.Table.{Row, and_or_row, row_of}
use Rattle.def_limits.specs.Formal.{Takes}
use Rattle.def_limits.specs.Scaffolding.Most.{most}
use Rattle.ms_rows.specs.declared.ways.Row as rust
use Rattle.ms_rows.specs.declared.ways.Argument.{Argument}
use Rattle.ms_rows.specs.declared.ways.Argument.TheVariants.{X, Y, Z}
use Rattle.ms_rows.specs.Reading.{by_letter}
use Rattle.ms_rows.specs.Written.{table, known, two_row, wrap_row, IsRow}
use Rattle.ms_rows.proofs.Readings.{IsCanonical, IsRead, reads_and_or, reads_two, reads_wrap}
use Rattle.ms_sane.specs.declared.takes.Most.{Most}
use Rattle.ms_sane.specs.Scaffolding.Most.{IsMost, IsOfRow}
use Rattle.ms_sane.specs.Scaffolding.Takes.{taken}

pub canonical : IsCanonical most
canonical = record {
  extra = λ n. refl;
  beside_dsat = λ m n. refl;
  beside = λ m n. refl;
}

-- what is taken, as a row of the table
abbrev row_taken : Most → Row (Option Takes) (Option Takes)
row_taken m = record { dsat = taken m.dsat; sat = taken m.sat }

same : (m : Most) (t : model.Tree) → IsMost m t → row_taken m ≡ row_of most t
same m t is = λ i. record { dsat = is.dsat i; sat = is.sat i }

module _ (x y z m : Most) (row : rust.Row Argument) where
  abbrev of : Argument → Row (Option Takes) (Option Takes)
  of c = row_taken (by_letter x y z c)

  abbrev other : Argument → Option Takes
  other c = taken (by_letter x y z c).sat

  -- what the ways of a row take, where they read as a tree's
  read : (t : model.Tree) → IsOfRow m row x y z → IsRead most canonical of other row (row_of most t) → IsMost m t
  read t of_row is = record { sat = of_row.sat ∙ is.sat; dsat = of_row.dsat ∙ is.dsat }

pub most_and_or : (x y z m : Most) (row : rust.Row Argument) (tx ty tz : model.Tree) → IsOfRow m row x y z → IsRow row (and_or_row table (known X) (known Y) (known Z))
    → IsMost x tx → IsMost y ty → IsMost z tz → IsMost m (model.and_or tx ty tz)
most_and_or x y z m row tx ty tz of_row is a b c =
    read x y z m row _ of_row (reads_and_or most canonical (of x y z m row) (other x y z m row) X Y Z row tx ty tz is (same x tx a) (same y ty b) (same z tz c))

pub most_two : (k : Two) (x z m : Most) (row : rust.Row Argument) (tx tz : model.Tree) → IsOfRow m row x z z → IsRow row (two_row table k (known X) (known Z))
    → IsMost x tx → IsMost z tz → IsMost m (model.two k tx tz)
most_two k x z m row tx tz of_row is a c =
    read x z z m row _ of_row (reads_two most canonical (of x z z m row) (other x z z m row) k X Z row tx tz is (same x tx a) (same z tz c))

pub most_wrap : (w : Wrapper) (x m : Most) (row : rust.Row Argument) (tx : model.Tree) → IsOfRow m row x x x → IsRow row (wrap_row table w (known X))
    → IsMost x tx → IsMost m (model.wrap w tx)
most_wrap w x m row tx of_row is a =
    read x x x m row _ of_row (reads_wrap most canonical (of x x x m row) (other x x x m row) w X row tx is (same x tx a))
