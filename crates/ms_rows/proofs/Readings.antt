-- By each table that has canonical rows alone, a row of ways reads as the row of the table.
use Rattle.std.proofs.Common.{◌≡◌, refl, sym, ◌∙◌, ap}
use Rattle.def_tree.specs.declared.Two.{Two}
use Rattle.def_tree.specs.declared.Two.TheVariants as kind
use Rattle.def_tree.specs.declared.Wrapper.{Wrapper}
use Rattle.def_tree.specs.declared.Wrapper.TheVariants as wrapper
use Rattle.def_tree.specs.Tree as model
use Rattle.def_table.specs.Table.{Row, Table, and_or_row, row_of}
use Rattle.ms_rows.specs.declared.ways.Row as rust
use Rattle.ms_rows.specs.Written.{table, known, two_row, wrap_row, IsRow}
use Rattle.ms_rows.specs.Reading.{Reader, ways_in}

-- what isn't canonical counts for nothing
pub record IsCanonical {D S : Type 0} (t : Table D S) : Type 0 where
  pub extra : (n : S) → t.extra n ≡ t.no_dsat
  pub beside_dsat : (m : D) (n : S) → t.beside_dsat m n ≡ m
  pub beside : (m n : S) → t.beside m n ≡ m

-- the entries of a table, for satisfactions, and for dissatisfactions, in which no satisfaction stands
abbrev pub reader_sat : {P D S : Type 0} → Table D S → (P → Row D S) → Reader P S
reader_sat t of = record {
  sat = λ x. (of x).sat;
  dsat = λ x. t.still (of x).dsat;
  one = t.one;
  empty = t.empty;
  never = t.no_sat;
  alone = λ s. s;
  both = t.both;
  either = t.either;
}

abbrev pub reader_dsat : {P D S : Type 0} → Table D S → (P → Row D S) → (P → D) → Reader P D
reader_dsat t of other = record {
  sat = other;
  dsat = λ x. (of x).dsat;
  one = t.one_dsat;
  empty = t.empty_dsat;
  never = t.no_dsat;
  alone = λ d. d;
  both = t.both_dsat;
  either = t.either_dsat;
}

module _ {P D S : Type 0} (t : Table D S) (canonical : IsCanonical t) (of : P → Row D S) (other : P → D) where
  -- the ways of a row read as this row
  pub record IsRead (row : rust.Row P) (r : Row D S) : Type 0 where
    pub sat : ways_in (reader_sat t of) row.sat ≡ r.sat
    pub dsat : ways_in (reader_dsat t of other) row.dsat ≡ r.dsat

  sat_two : (k : Two) (x z : P) → ways_in (reader_sat t of) (two_row table k (known x) (known z)).sat ≡ (two_row t k (of x) (of z)).sat
  sat_two kind.OrB x z = sym (ap (t.either (t.both (t.still (of z).dsat) (of x).sat)) (canonical.beside (t.both (of z).sat (t.still (of x).dsat)) (t.both (of z).sat (of x).sat)))
  sat_two other x z = refl

  dsat_two : (k : Two) (x z : P) → ways_in (reader_dsat t of other) (two_row table k (known x) (known z)).dsat ≡ (two_row t k (of x) (of z)).dsat
  dsat_two kind.AndV x z = sym (canonical.extra _)
  dsat_two kind.AndB x z = sym (canonical.beside_dsat _ _)
  dsat_two other x z = refl

  sat_wrap : (w : Wrapper) (x : P) → ways_in (reader_sat t of) (wrap_row table w (known x)).sat ≡ (wrap_row t w (of x)).sat
  sat_wrap wrapper.A x = refl
  sat_wrap other x = refl

  dsat_wrap : (w : Wrapper) (x : P) → ways_in (reader_dsat t of other) (wrap_row table w (known x)).dsat ≡ (wrap_row t w (of x)).dsat
  dsat_wrap wrapper.J x = sym (canonical.beside_dsat _ _)
  dsat_wrap other x = refl

  -- of the rows of the fragments, where the children are trees
  tree_two : (k : Two) (x z : model.Tree) → row_of t (model.two k x z) ≡ two_row t k (row_of t x) (row_of t z)
  tree_two kind.AndV x z = refl
  tree_two other x z = refl

  tree_wrap : (w : Wrapper) (x : model.Tree) → row_of t (model.wrap w x) ≡ wrap_row t w (row_of t x)
  tree_wrap wrapper.A x = refl
  tree_wrap other x = refl

  pub reads_and_or : (x y z : P) (row : rust.Row P) (tx ty tz : model.Tree) → IsRow row (and_or_row table (known x) (known y) (known z))
      → of x ≡ row_of t tx → of y ≡ row_of t ty → of z ≡ row_of t tz → IsRead row (row_of t (model.and_or tx ty tz))
  reads_and_or x y z row tx ty tz is a b c =
      let same : and_or_row t (of x) (of y) (of z) ≡ row_of t (model.and_or tx ty tz) = λ i. and_or_row t (a i) (b i) (c i) in
      record {
        sat = ap (ways_in (reader_sat t of)) is.sat ∙ ap (λ r. r.sat) same;
        dsat = ap (ways_in (reader_dsat t of other)) is.dsat ∙ sym (canonical.beside_dsat _ _) ∙ ap (λ r. r.dsat) same;
      }

  pub reads_two : (k : Two) (x z : P) (row : rust.Row P) (tx tz : model.Tree) → IsRow row (two_row table k (known x) (known z))
      → of x ≡ row_of t tx → of z ≡ row_of t tz → IsRead row (row_of t (model.two k tx tz))
  reads_two k x z row tx tz is a c =
      let same : two_row t k (of x) (of z) ≡ row_of t (model.two k tx tz) = (λ i. two_row t k (a i) (c i)) ∙ sym (tree_two k tx tz) in
      record {
        sat = ap (ways_in (reader_sat t of)) is.sat ∙ sat_two k x z ∙ ap (λ r. r.sat) same;
        dsat = ap (ways_in (reader_dsat t of other)) is.dsat ∙ dsat_two k x z ∙ ap (λ r. r.dsat) same;
      }

  pub reads_wrap : (w : Wrapper) (x : P) (row : rust.Row P) (tx : model.Tree) → IsRow row (wrap_row table w (known x))
      → of x ≡ row_of t tx → IsRead row (row_of t (model.wrap w tx))
  reads_wrap w x row tx is a =
      let same : wrap_row t w (of x) ≡ row_of t (model.wrap w tx) = (λ i. wrap_row t w (a i)) ∙ sym (tree_wrap w tx) in
      record {
        sat = ap (ways_in (reader_sat t of)) is.sat ∙ sat_wrap w x ∙ ap (λ r. r.sat) same;
        dsat = ap (ways_in (reader_dsat t of other)) is.dsat ∙ dsat_wrap w x ∙ ap (λ r. r.dsat) same;
      }
