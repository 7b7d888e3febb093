-- What holds of the children of a fragment holds in its row.
use Rattle.std.proofs.Common.{sym, subst}
use Rattle.def_tree.specs.declared.Two.{Two}
use Rattle.def_tree.specs.declared.Two.TheVariants as kind
use Rattle.def_tree.specs.declared.Wrapper.{Wrapper}
use Rattle.def_tree.specs.declared.Wrapper.TheVariants as wrapper
use Rattle.def_table.specs.Table.{Row, and_or_row}
use Rattle.ms_rows.specs.declared.ways.Ways.{Ways}
use Rattle.ms_rows.specs.declared.ways.Row as rust
use Rattle.ms_rows.specs.Written.{table, known, two_row, wrap_row, IsRow}
use Rattle.ms_rows.specs.Reading.{InWays}

-- it holds of each child in the row
pub record InRow {P : Type 0} (F : P → Type 0) (row : rust.Row P) : Type 0 where
  pub sat : InWays F row.sat
  pub dsat : InWays F row.dsat

abbrev InBoth : {P : Type 0} (F : P → Type 0) → Row (Ways P) (Ways P) → Type 0
InBoth F row = InWays F row.sat × InWays F row.dsat

in_row : {P : Type 0} (F : P → Type 0) (row : rust.Row P) (of : Row (Ways P) (Ways P)) → IsRow row of → InBoth F of → InRow F row
in_row F row of is h = record { sat = subst (InWays F) (sym is.sat) h.0; dsat = subst (InWays F) (sym is.dsat) h.1 }

in_two : {P : Type 0} (F : P → Type 0) (k : Two) (x z : P) → F x → F z → InBoth F (two_row table k (known x) (known z))
in_two F kind.AndV x z a c = ((c, a), tt)
in_two F kind.AndB x z a c = ((c, a), (c, a))
in_two F kind.OrB x z a c = (((c, a), (c, a)), (c, a))
in_two F kind.OrC x z a c = ((a, (c, a)), tt)
in_two F kind.OrD x z a c = ((a, (c, a)), (c, a))
in_two F kind.OrI x z a c = (((a, tt), (c, tt)), ((a, tt), (c, tt)))

in_wrap : {P : Type 0} (F : P → Type 0) (w : Wrapper) (x : P) → F x → InBoth F (wrap_row table w (known x))
in_wrap F wrapper.D x a = ((a, tt), tt)
in_wrap F wrapper.V x a = (a, tt)
in_wrap F wrapper.J x a = (a, tt)
in_wrap F other x a = (a, a)

pub inside_and_or : {P : Type 0} (F : P → Type 0) (x y z : P) (row : rust.Row P) → IsRow row (and_or_row table (known x) (known y) (known z)) → F x → F y → F z → InRow F row
inside_and_or F x y z row is a b c = in_row F row _ is (((b, a), (c, a)), (c, a))

pub inside_two : {P : Type 0} (F : P → Type 0) (k : Two) (x z : P) (row : rust.Row P) → IsRow row (two_row table k (known x) (known z)) → F x → F z → InRow F row
inside_two F k x z row is a c = in_row F row _ is (in_two F k x z a c)

pub inside_wrap : {P : Type 0} (F : P → Type 0) (w : Wrapper) (x : P) (row : rust.Row P) → IsRow row (wrap_row table w (known x)) → F x → InRow F row
inside_wrap F w x row is a = in_row F row _ is (in_wrap F w x a)
