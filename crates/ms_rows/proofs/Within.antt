-- What a table has of each tree stays within 128 times the tree's measure, where its keys, locks, hashes and lists do.
use Rattle.std.proofs.Common.{ℕ, ◌+◌, ◌*◌, ◌≤◌, List, arith}
use Rattle.std.specs.Prelude.{⊤}
use Rattle.def_hash.specs.declared.HashKind.{HashKind}
use Rattle.def_script.specs.Bytes.{Bytes}
use Rattle.def_tree.specs.declared.Two.{Two}
use Rattle.def_tree.specs.declared.Two.TheVariants as kind
use Rattle.def_tree.specs.declared.Wrapper.{Wrapper}
use Rattle.def_tree.specs.declared.Wrapper.TheVariants as wrapper
use Rattle.def_tree.specs.Tree.{Key, Tree, Trees, just_0, just_1, pk_k, pk_h, older, after, hash, and_or, two, thresh, multi, wrap, none, more}
use Rattle.def_tree.specs.Range.{IsKey, IsWritable, AreWritable, count}
use Rattle.def_tree.specs.InRange.{measure, measure_of}
use Rattle.def_types.specs.Typed.{IsTyped, AreTyped}
use Rattle.def_table.specs.Table.{Row, Table, row_of, rows_of}

module _ {D S : Type 0} (t : Table D S) (Dsat : ℕ → D → Type 0) (Sat : ℕ → S → Type 0) where
  -- a dissatisfaction and a satisfaction are within so much, and those of each tree within 128 times its measure
  abbrev pub AreBoth : ℕ → (dsat : D) → (sat : S) → Type 0
  AreBoth n dsat sat = Dsat n dsat × Sat n sat

  abbrev pub IsWithin : ℕ → Row D S → Type 0
  IsWithin n row = AreBoth n row.dsat row.sat

  abbrev pub AreWithin : Trees → Type 0
  AreWithin none = ⊤
  AreWithin (more x xs) = IsWithin (128 * measure x) (row_of t x) × AreWithin xs

  -- what is asked of the table
  pub record IsBounded : Type 0 where
    pub weaker_dsat : (m n : ℕ) (d : D) → m ≤ n → Dsat m d → Dsat n d
    pub weaker : (m n : ℕ) (s : S) → m ≤ n → Sat m s → Sat n s
    pub never : (n : ℕ) → AreBoth n t.no_dsat t.no_sat
    pub nothing : (n : ℕ) → AreBoth n t.nothing_dsat t.nothing_sat
    pub empty : AreBoth 2 t.empty_dsat t.empty
    pub one : AreBoth 2 t.one_dsat t.one
    pub both_dsat : (m n : ℕ) (a b : D) → Dsat m a → Dsat n b → Dsat (m + n) (t.both_dsat a b)
    pub both : (m n : ℕ) (a b : S) → Sat m a → Sat n b → Sat (m + n) (t.both a b)
    pub either_dsat : (n : ℕ) (a b : D) → Dsat n a → Dsat n b → Dsat n (t.either_dsat a b)
    pub either : (n : ℕ) (a b : S) → Sat n a → Sat n b → Sat n (t.either a b)
    pub still : (n : ℕ) (d : D) → Dsat n d → Sat n (t.still d)
    pub extra : (n : ℕ) (s : S) → Dsat n (t.extra s)
    pub beside_dsat : (n : ℕ) (d : D) (s : S) → Dsat n d → Dsat n (t.beside_dsat d s)
    pub beside : (n : ℕ) (a b : S) → Sat n a → Sat n (t.beside a b)
    pub pk_k : (key : Key) → IsKey key → IsWithin 128 (t.pk_k_row key)
    pub pk_h : (key : Key) → IsKey key → IsWithin 128 (t.pk_h_row key)
    pub older : (n : ℕ) → IsWithin 128 (t.older_row n)
    pub after : (n : ℕ) → IsWithin 128 (t.after_row n)
    pub hash : (kind : HashKind) (value : Bytes) → IsWithin 128 (t.hash_row kind value)
    pub multi : (k : ℕ) (keys : List Key) → IsTyped (multi k keys) → IsWithin (128 * measure (multi k keys)) (t.multi_row k keys)
    pub thresh : (k : ℕ) (xs : Trees) → AreWithin xs → IsWithin (128 * measure_of xs) (t.thresh_row k (count xs) (rows_of t xs))

  module _ (b : IsBounded) where
    join_dsat : (m n l : ℕ) (a c : D) → m + n ≤ l → Dsat m a → Dsat n c → Dsat l (t.both_dsat a c)
    join_dsat m n l a c le x y = b.weaker_dsat _ _ _ le (b.both_dsat m n a c x y)

    join : (m n l : ℕ) (a c : S) → m + n ≤ l → Sat m a → Sat n c → Sat l (t.both a c)
    join m n l a c le x y = b.weaker _ _ _ le (b.both m n a c x y)

    -- the row of a fragment by those of its arguments
    abbrev Of : ℕ → Tree → Type 0
    Of n x = IsWithin n (row_of t x)

    and_or_within : (l : ℕ) (x y z : Tree) → 128 * measure x + 128 * measure y + 128 * measure z ≤ l
        → Of (128 * measure x) x → Of (128 * measure y) y → Of (128 * measure z) z → Of l (and_or x y z)
    and_or_within l x y z le p q r = (
      b.beside_dsat _ _ _ (join_dsat _ _ _ _ _ (omega (arith, le)) r.0 p.0),
      b.either _ _ _ (join _ _ _ _ _ (omega (arith, le)) q.1 p.1) (join _ _ _ _ _ (omega (arith, le)) r.1 (b.still _ _ p.0)),
    )

    two_within : (k : Two) (l : ℕ) (x z : Tree) → 128 * measure x + 128 * measure z + 2 ≤ l
        → Of (128 * measure x) x → Of (128 * measure z) z → Of l (two k x z)
    two_within kind.AndV l x z le p r = (b.extra _ _, join _ _ _ _ _ (omega (arith, le)) r.1 p.1)
    two_within kind.AndB l x z le p r = (b.beside_dsat _ _ _ (join_dsat _ _ _ _ _ (omega (arith, le)) r.0 p.0), join _ _ _ _ _ (omega (arith, le)) r.1 p.1)
    two_within kind.OrB l x z le p r = (
      join_dsat _ _ _ _ _ (omega (arith, le)) r.0 p.0,
      b.either _ _ _ (join _ _ _ _ _ (omega (arith, le)) (b.still _ _ r.0) p.1) (b.beside _ _ _ (join _ _ _ _ _ (omega (arith, le)) r.1 (b.still _ _ p.0))),
    )
    two_within kind.OrC l x z le p r = (
      (b.never _).0,
      b.either _ _ _ (b.weaker _ _ _ (omega (arith, le)) p.1) (join _ _ _ _ _ (omega (arith, le)) r.1 (b.still _ _ p.0)),
    )
    two_within kind.OrD l x z le p r = (
      join_dsat _ _ _ _ _ (omega (arith, le)) r.0 p.0,
      b.either _ _ _ (b.weaker _ _ _ (omega (arith, le)) p.1) (join _ _ _ _ _ (omega (arith, le)) r.1 (b.still _ _ p.0)),
    )
    two_within kind.OrI l x z le p r = (
      b.either_dsat _ _ _ (join_dsat _ _ _ _ _ (omega (arith, le)) p.0 b.one.0) (join_dsat _ _ _ _ _ (omega (arith, le)) r.0 b.empty.0),
      b.either _ _ _ (join _ _ _ _ _ (omega (arith, le)) p.1 b.one.1) (join _ _ _ _ _ (omega (arith, le)) r.1 b.empty.1),
    )

    wrap_within : (w : Wrapper) (l : ℕ) (x : Tree) → 128 * measure x + 2 ≤ l → Of (128 * measure x) x → Of l (wrap w x)
    wrap_within wrapper.D l x le p = (b.weaker_dsat _ _ _ (omega (arith, le)) b.empty.0, join _ _ _ _ _ (omega (arith, le)) p.1 b.one.1)
    wrap_within wrapper.V l x le p = ((b.never _).0, b.weaker _ _ _ (omega (arith, le)) p.1)
    wrap_within wrapper.J l x le p = (b.beside_dsat _ _ _ (b.weaker_dsat _ _ _ (omega (arith, le)) b.empty.0), b.weaker _ _ _ (omega (arith, le)) p.1)
    wrap_within other l x le p = (b.weaker_dsat _ _ _ (omega (arith, le)) p.0, b.weaker _ _ _ (omega (arith, le)) p.1)

    mutual
      pub within : (x : Tree) → IsWritable x → IsTyped x → IsWithin (128 * measure x) (row_of t x)
      within just_0 w h = ((b.nothing _).0, (b.never _).1)
      within just_1 w h = ((b.never _).0, (b.nothing _).1)
      within (pk_k key) w h = b.pk_k key w
      within (pk_h key) w h = b.pk_h key w
      within (older n) w h = b.older n
      within (after n) w h = b.after n
      within (hash kind value) w h = b.hash kind value
      within (and_or x y z) w h = and_or_within _ x y z (omega arith) (within x w.0 h.0) (within y w.1 h.1) (within z w.2 h.2)
      within (two k x z) w h = two_within k _ x z (omega arith) (within x w.0 h.0) (within z w.1 h.1)
      within (thresh k xs) w h =
          let parts = b.thresh k xs (all_within xs w.2 h.0) in
          (b.weaker_dsat _ _ _ (omega arith) parts.0, b.weaker _ _ _ (omega arith) parts.1)
      within (multi k keys) w h = b.multi k keys h
      within (wrap v x) w h = wrap_within v _ x (omega arith) (within x w h.0)

      all_within : (xs : Trees) → AreWritable xs → AreTyped xs → AreWithin xs
      all_within none w h = tt
      all_within (more x xs) w h = (within x w.0 h.0, all_within xs w.1 h.1)
