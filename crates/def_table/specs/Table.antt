-- The satisfaction table (BIP 379, satisfaction): of each fragment its dissatisfactions and its satisfactions, made of those of its
-- arguments. What they are made of is left open: sets of stacks, what these take, the stacks that are chosen. A row calls its arguments by
-- the table's letters. `sat(Z) dsat(X)` of the table, where the top stands last, is `both z.sat (still x.dsat)` here, and 'or' is `either`,
-- with the options in the table's order.
use Rattle.std.specs.Prelude.{ℕ, List, [], ◌∷◌}
use Rattle.def_hash.specs.declared.HashKind.{HashKind}
use Rattle.def_script.specs.Bytes.{Bytes}
use Rattle.def_tree.specs.declared.Two.TheVariants as kind
use Rattle.def_tree.specs.declared.Wrapper.TheVariants as wrapper
use Rattle.def_tree.specs.Range.{count}
use Rattle.def_tree.specs.Tree.{Tree, Trees, Key, just_0, just_1, pk_k, pk_h, older, after, hash, and_or, two, thresh, multi, wrap, none, more}

-- what a fragment has for dissatisfactions and for satisfactions
pub record Row {ℓ} (D S : Type ℓ) : Type ℓ where
  pub dsat : D
  pub sat : S

pub record Table {ℓ} (D S : Type ℓ) : Type ℓ where
  -- there is none; no item; the items that the table writes as `0` and `1`
  pub no_dsat : D
  pub no_sat : S
  pub nothing_dsat : D
  pub nothing_sat : S
  pub empty_dsat : D
  pub one_dsat : D
  pub empty : S
  pub one : S
  -- one of each, the latter's items on top; one of either
  pub both_dsat : (below above : D) → D
  pub either_dsat : (first second : D) → D
  pub both : (below above : S) → S
  pub either : (first second : S) → S
  -- a dissatisfaction as a part of a satisfaction
  pub still : D → S
  -- what isn't canonical: alone, and beside what is
  pub extra : S → D
  pub beside_dsat : (canonical : D) → (extra : S) → D
  pub beside : (canonical extra : S) → S
  -- a dissatisfaction whose top item isn't empty
  pub topped : D → S
  -- fragments with keys, locks and hashes, and thresholds by how many children they have, and the rows of these
  pub pk_k_row : Key → Row D S
  pub pk_h_row : Key → Row D S
  pub older_row : ℕ → Row D S
  pub after_row : ℕ → Row D S
  pub hash_row : HashKind → (value : Bytes) → Row D S
  pub multi_row : (k : ℕ) → List Key → Row D S
  pub thresh_row : (k children : ℕ) → List (Row D S) → Row D S

-- `0` and `1`
abbrev pub just_0_row {ℓ} : {D S : Type ℓ} → Table D S → Row D S
just_0_row t = record { dsat = t.nothing_dsat; sat = t.no_sat }

abbrev pub just_1_row {ℓ} : {D S : Type ℓ} → Table D S → Row D S
just_1_row t = record { dsat = t.no_dsat; sat = t.nothing_sat }

-- `andor(X,Y,Z)`
abbrev pub and_or_row {ℓ} : {D S : Type ℓ} → Table D S → (x y z : Row D S) → Row D S
and_or_row t x y z = record {
  dsat = t.beside_dsat (t.both_dsat z.dsat x.dsat) (t.both (t.still y.dsat) x.sat);
  sat = t.either (t.both y.sat x.sat) (t.both z.sat (t.still x.dsat));
}

-- `and_v(X,Y)`
abbrev pub and_v_row {ℓ} : {D S : Type ℓ} → Table D S → (x y : Row D S) → Row D S
and_v_row t x y = record { dsat = t.extra (t.both (t.still y.dsat) x.sat); sat = t.both y.sat x.sat }

-- `and_b(X,Y)`
abbrev pub and_b_row {ℓ} : {D S : Type ℓ} → Table D S → (x y : Row D S) → Row D S
and_b_row t x y = record {
  dsat = t.beside_dsat (t.both_dsat y.dsat x.dsat) (t.either (t.both y.sat (t.still x.dsat)) (t.both (t.still y.dsat) x.sat));
  sat = t.both y.sat x.sat;
}

-- `or_b(X,Z)`
abbrev pub or_b_row {ℓ} : {D S : Type ℓ} → Table D S → (x z : Row D S) → Row D S
or_b_row t x z = record {
  dsat = t.both_dsat z.dsat x.dsat;
  sat = t.either (t.both (t.still z.dsat) x.sat) (t.beside (t.both z.sat (t.still x.dsat)) (t.both z.sat x.sat));
}

-- `or_c(X,Z)`
abbrev pub or_c_row {ℓ} : {D S : Type ℓ} → Table D S → (x z : Row D S) → Row D S
or_c_row t x z = record { dsat = t.no_dsat; sat = t.either x.sat (t.both z.sat (t.still x.dsat)) }

-- `or_d(X,Z)`
abbrev pub or_d_row {ℓ} : {D S : Type ℓ} → Table D S → (x z : Row D S) → Row D S
or_d_row t x z = record { dsat = t.both_dsat z.dsat x.dsat; sat = t.either x.sat (t.both z.sat (t.still x.dsat)) }

-- `or_i(X,Z)`
abbrev pub or_i_row {ℓ} : {D S : Type ℓ} → Table D S → (x z : Row D S) → Row D S
or_i_row t x z = record {
  dsat = t.either_dsat (t.both_dsat x.dsat t.one_dsat) (t.both_dsat z.dsat t.empty_dsat);
  sat = t.either (t.both x.sat t.one) (t.both z.sat t.empty);
}

-- `d:X`, `v:X` and `j:X`; `a:X`, `s:X`, `c:X` and `n:X` have the row of X
abbrev pub wrap_d_row {ℓ} : {D S : Type ℓ} → Table D S → (x : Row D S) → Row D S
wrap_d_row t x = record { dsat = t.empty_dsat; sat = t.both x.sat t.one }

abbrev pub wrap_v_row {ℓ} : {D S : Type ℓ} → Table D S → (x : Row D S) → Row D S
wrap_v_row t x = record { dsat = t.no_dsat; sat = x.sat }

abbrev pub wrap_j_row {ℓ} : {D S : Type ℓ} → Table D S → (x : Row D S) → Row D S
wrap_j_row t x = record { dsat = t.beside_dsat t.empty_dsat (t.topped x.dsat); sat = x.sat }

-- the row of each fragment, and those of a threshold's children
abbrev mutual
  pub row_of {ℓ} : {D S : Type ℓ} → Table D S → Tree → Row D S
  row_of t just_0 = just_0_row t
  row_of t just_1 = just_1_row t
  row_of t (pk_k key) = t.pk_k_row key
  row_of t (pk_h key) = t.pk_h_row key
  row_of t (older n) = t.older_row n
  row_of t (after n) = t.after_row n
  row_of t (hash kind value) = t.hash_row kind value
  row_of t (and_or x y z) = and_or_row t (row_of t x) (row_of t y) (row_of t z)
  row_of t (two kind.AndV x y) = and_v_row t (row_of t x) (row_of t y)
  row_of t (two kind.AndB x y) = and_b_row t (row_of t x) (row_of t y)
  row_of t (two kind.OrB x z) = or_b_row t (row_of t x) (row_of t z)
  row_of t (two kind.OrC x z) = or_c_row t (row_of t x) (row_of t z)
  row_of t (two kind.OrD x z) = or_d_row t (row_of t x) (row_of t z)
  row_of t (two kind.OrI x z) = or_i_row t (row_of t x) (row_of t z)
  row_of t (thresh k xs) = t.thresh_row k (count xs) (rows_of t xs)
  row_of t (multi k keys) = t.multi_row k keys
  row_of t (wrap wrapper.A x) = row_of t x
  row_of t (wrap wrapper.S x) = row_of t x
  row_of t (wrap wrapper.C x) = row_of t x
  row_of t (wrap wrapper.D x) = wrap_d_row t (row_of t x)
  row_of t (wrap wrapper.V x) = wrap_v_row t (row_of t x)
  row_of t (wrap wrapper.J x) = wrap_j_row t (row_of t x)
  row_of t (wrap wrapper.N x) = row_of t x

  pub rows_of {ℓ} : {D S : Type ℓ} → Table D S → Trees → List (Row D S)
  rows_of t none = []
  rows_of t (more x xs) = row_of t x ∷ rows_of t xs
