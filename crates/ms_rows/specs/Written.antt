-- The satisfaction table (BIP 379) over ways: its canonical rows, written down.
use Rattle.std.specs.Prelude.{◌≡◌}
use Rattle.def_tree.specs.declared.Two.{Two}
use Rattle.def_tree.specs.declared.Two.TheVariants as kind
use Rattle.def_tree.specs.declared.Wrapper.{Wrapper}
use Rattle.def_tree.specs.declared.Wrapper.TheVariants as wrapper
use Rattle.def_table.specs.Table.{Row, Table, and_v_row, and_b_row, or_b_row, or_c_row, or_d_row, or_i_row, wrap_d_row, wrap_v_row, wrap_j_row}
use Rattle.ms_rows.specs.declared.ways.Part.{Part}
use Rattle.ms_rows.specs.declared.ways.Part.TheVariants.{Sat, Dsat, One, Empty}
use Rattle.ms_rows.specs.declared.ways.Way.TheVariants.{Alone, Both}
use Rattle.ms_rows.specs.declared.ways.Ways.{Ways}
use Rattle.ms_rows.specs.declared.ways.Ways.TheVariants.{Never, Only, Either}
use Rattle.ms_rows.specs.declared.ways.Row as rust

-- a part alone
abbrev pub alone : {P : Type 0} → Part P → Ways P
alone part = Only (Alone part)

-- two parts, the latter on top; either of two ways
abbrev pub both : {P : Type 0} → (below above : Ways P) → Ways P
both Never above = Never
both (Only (Alone below)) Never = Never
both (Only (Alone below)) (Only (Alone above)) = Only (Both below above)
both (Only (Alone below)) (Only (Both lower upper)) = Never
both (Only (Alone below)) (Either former latter) = Never
both (Only (Both lower upper)) above = Never
both (Either former latter) above = Never

abbrev pub either : {P : Type 0} → (first second : Ways P) → Ways P
either Never second = Never
either (Only first) Never = Never
either (Only first) (Only second) = Either first second
either (Only first) (Either former latter) = Never
either (Either former latter) second = Never

-- no way is written down for these fragments
abbrev pub unwritten : {P : Type 0} → Row (Ways P) (Ways P)
unwritten = record { dsat = Never; sat = Never }

-- the table of ways; fragments without children have none here
abbrev pub table : {P : Type 0} → Table (Ways P) (Ways P)
table = record {
  no_dsat = Never;
  no_sat = Never;
  nothing_dsat = Never;
  nothing_sat = Never;
  empty_dsat = alone Empty;
  one_dsat = alone One;
  empty = alone Empty;
  one = alone One;
  both_dsat = both;
  either_dsat = either;
  both = both;
  either = either;
  still = λ dsat. dsat;
  extra = λ sat. Never;
  beside_dsat = λ canonical extra. canonical;
  beside = λ canonical extra. canonical;
  topped = λ dsat. dsat;
  pk_k_row = λ key. unwritten;
  pk_h_row = λ key. unwritten;
  older_row = λ n. unwritten;
  after_row = λ n. unwritten;
  hash_row = λ kind value. unwritten;
  multi_row = λ k keys. unwritten;
  thresh_row = λ k children rows. unwritten;
}

-- a child: its dissatisfaction and its satisfaction
abbrev pub known : {P : Type 0} → P → Row (Ways P) (Ways P)
known x = record { dsat = alone (Dsat x); sat = alone (Sat x) }

-- the row of a fragment with two children, and of one behind a wrapper
abbrev pub two_row {ℓ} : {D S : Type ℓ} → Table D S → Two → (x z : Row D S) → Row D S
two_row t kind.AndV x z = and_v_row t x z
two_row t kind.AndB x z = and_b_row t x z
two_row t kind.OrB x z = or_b_row t x z
two_row t kind.OrC x z = or_c_row t x z
two_row t kind.OrD x z = or_d_row t x z
two_row t kind.OrI x z = or_i_row t x z

abbrev pub wrap_row {ℓ} : {D S : Type ℓ} → Table D S → Wrapper → (x : Row D S) → Row D S
wrap_row t wrapper.A x = x
wrap_row t wrapper.S x = x
wrap_row t wrapper.C x = x
wrap_row t wrapper.D x = wrap_d_row t x
wrap_row t wrapper.V x = wrap_v_row t x
wrap_row t wrapper.J x = wrap_j_row t x
wrap_row t wrapper.N x = x

-- it has the ways of this row
pub record IsRow {P : Type 0} (row : rust.Row P) (of : Row (Ways P) (Ways P)) : Type 0 where
  pub sat : row.sat ≡ of.sat
  pub dsat : row.dsat ≡ of.dsat
