-- A typed tree that is nested to the right, and isn't too deep or too large, is read.
use Rattle.std.proofs.Common.{◌≡◌, ◌≢◌, ℕ, ◌<◌, ◌≤◌, ◌&&◌, nat_le, nat_lt, pos, true, false, List, [], ◌∷◌, length, All, Option, Some, refl, sym, ◌∙◌, ap, arith}
use Rattle.std.proofs.lemmas.Bool.{lt-ltb, le-leb, eq-eqb}
use Rattle.std.proofs.lemmas.List.Elements.{All-head, All-tail}
use Rattle.def_hash.specs.Hash.{hash160}
use Rattle.def_script.specs.Bytes.{Bytes}
use Rattle.def_script.specs.Numbers.{natural_bytes}
use Rattle.def_script.proofs.Decoding.{number_is_read_back}
use Rattle.def_tree.specs.declared.Two.{Two}
use Rattle.def_tree.specs.declared.Two.TheVariants as kind
use Rattle.def_tree.specs.declared.Wrapper.{Wrapper}
use Rattle.def_tree.specs.declared.Wrapper.TheVariants as wrapper
use Rattle.def_tree.specs.Tree.{Tree, Trees, Key, just_0, just_1, pk_k, pk_h, older, after, hash, and_or, two, thresh, multi, wrap, none, more}
use Rattle.def_tree.specs.InRange.{measure, measure_of, depth, depth_of, MOST_MEASURE, MOST_DEPTH}
use Rattle.def_tree.specs.Range.{IsKey, IsWritable, AreWritable, TEN_DIGITS}
use Rattle.def_types.specs.declared.Base.TheVariants.{B, V, K, W}
use Rattle.def_types.specs.Typed.{type_of, IsTyped, AreTyped}
use Rattle.def_types.proofs.Rows.{correctness_rows}
use Rattle.def_types.proofs.Facts.{OthersFit, typed-and_or, typed-and_v, typed-and_b, typed-or_b, typed-or_c, typed-or_d, typed-or_i, typed-thresh, typed-thresh_none, typed-multi, typed-wrap_a, typed-wrap_s, typed-wrap_c, typed-wrap_d, typed-wrap_v, typed-wrap_j, typed-wrap_n}
use Rattle.def_decode.specs.Nested.{is_and_v, RightNested, AreRightNested, EachHashed, EachHashedOf}
use Rattle.ms_decode_laws.specs.Scaffolding.Reader.{natural, natural_of, fits}
use Rattle.ms_decode_laws.proofs.Low.{d_no_and_v, not_w}
use Rattle.ms_decode_laws.proofs.Parsed.{AreKeys, no_key, a_key, One, zero_one, one_one, pk_k_one, pk_h_one, older_one, after_one, hash_one, and_or_one, and_b_one, or_b_one, or_c_one, or_d_one, or_i_one, thresh_one, multi_one, c_one, d_one, v_one, j_one, n_one, Row, last_row, and_v_row, Side, a_side, s_side, Sides, no_side, more_sides}

-- numbers and keys
natural_read : (n : ℕ) → n < TEN_DIGITS → natural_of (natural_bytes n) ≡ Some n
unfolding natural_of
natural_read n low =
    let e = number_is_read_back (pos n) (omega (arith, low)) in
    let b : nat_lt n TEN_DIGITS ≡ true = lt-ltb n TEN_DIGITS low in
    ap natural e ∙ rw b refl

keys_read : (keys : List Key) → All IsKey keys → AreKeys keys
keys_read [] h = no_key
keys_read (key ∷ keys) h = a_key key keys (All-head IsKey key keys h).form (keys_read keys (All-tail IsKey key keys h))

fits_within : (t : Tree) → depth t ≤ MOST_DEPTH → measure t ≤ MOST_MEASURE → fits t ≡ true
unfolding fits
fits_within t d m =
    let e : nat_le (depth t) MOST_DEPTH ≡ true = le-leb _ _ d in
    let f : nat_le (measure t) MOST_MEASURE ≡ true = le-leb _ _ m in
    rw (e, f) refl

-- what is known of the tree
pub record Fit (find : Bytes → Option Key) (t : Tree) : Type 0 where
  pub typed : IsTyped t
  pub nested : RightNested t
  pub writable : IsWritable t
  pub found : EachHashed (λ key. find (hash160 key) ≡ Some key) t
  pub deep : depth t ≤ MOST_DEPTH
  pub large : measure t ≤ MOST_MEASURE

record AreFit (find : Bytes → Option Key) (ts : Trees) : Type 0 where
  typed : AreTyped ts
  nested : AreRightNested ts
  writable : AreWritable ts
  found : EachHashedOf (λ key. find (hash160 key) ≡ Some key) ts
  deep : depth_of ts ≤ MOST_DEPTH
  large : measure_of ts ≤ MOST_MEASURE

-- how it is read
pub record Parses (find : Bytes → Option Key) (t : Tree) : Type 0 where
  pub one : is_and_v t ≡ false → (type_of t).base ≢ W → One find t
  pub row : (type_of t).base ≢ W → Row find t
  pub side : (type_of t).base ≡ W → Side find t

-- a tree that is no `and_v` and no W
as_one : (find : Bytes → Option Key) (t : Tree) → (type_of t).base ≢ W → One find t → Parses find t
as_one find t n o = record {
  one = λ e w. o;
  row = λ w. last_row t o;
  side = λ e. absurd (n e);
}

as_side : (find : Bytes → Option Key) (t : Tree) → (type_of t).base ≡ W → Side find t → Parses find t
as_side find t w s = record {
  one = λ e n. absurd (n w);
  row = λ n. absurd (n w);
  side = λ e. s;
}

-- of a node that fits, a child that is typed and nested does
wrapped_fits : (find : Bytes → Option Key) (w : Wrapper) (x : Tree) → Fit find (wrap w x) → IsTyped x → RightNested x → Fit find x
wrapped_fits find w x h typed nested =
    record { typed = typed; nested = nested; writable = h.writable; found = h.found; deep = omega (arith, h.deep); large = omega (arith, h.large) }

first_fits : (find : Bytes → Option Key) (b : Two) (x y : Tree) → Fit find (two b x y) → IsTyped x → RightNested x → Fit find x
first_fits find b x y h typed nested =
    record { typed = typed; nested = nested; writable = h.writable.0; found = h.found.0; deep = omega (arith, h.deep); large = omega (arith, h.large) }

second_fits : (find : Bytes → Option Key) (b : Two) (x y : Tree) → Fit find (two b x y) → IsTyped y → RightNested y → Fit find y
second_fits find b x y h typed nested =
    record { typed = typed; nested = nested; writable = h.writable.1; found = h.found.1; deep = omega (arith, h.deep); large = omega (arith, h.large) }

module _ (find : Bytes → Option Key) where
  fit : (t : Tree) → Fit find t → fits t ≡ true
  fit t h = fits_within t h.deep h.large

  mutual
    unfolding correctness_rows

    pub parses : (t : Tree) → Fit find t → Parses find t
    parses just_0 h = as_one find just_0 (λ e. cc) zero_one
    parses just_1 h = as_one find just_1 (λ e. cc) one_one
    parses (pk_k key) h = as_one find (pk_k key) (λ e. cc) (pk_k_one key h.writable.form)
    parses (pk_h key) h = as_one find (pk_h key) (λ e. cc) (pk_h_one key h.found)
    parses (older n) h = as_one find (older n) (λ e. cc) (older_one n (natural_read n h.writable))
    parses (after n) h = as_one find (after n) (λ e. cc) (after_one n (natural_read n h.writable))
    parses (hash kind value) h = as_one find (hash kind value) (λ e. cc) (hash_one kind value (eq-eqb _ _ h.writable.length))
    parses (and_or x y z) h =
        let f = typed-and_or x y z h.typed in
        let a = parses x (record { typed = f.0; nested = h.nested.0; writable = h.writable.0; found = h.found.0; deep = omega (arith, h.deep); large = omega (arith, h.large) }) in
        let b = parses y (record { typed = f.1; nested = h.nested.1; writable = h.writable.1; found = h.found.1; deep = omega (arith, h.deep); large = omega (arith, h.large) }) in
        let c = parses z (record { typed = f.2; nested = h.nested.2; writable = h.writable.2; found = h.found.2; deep = omega (arith, h.deep); large = omega (arith, h.large) }) in
        as_one find (and_or x y z) f.7
        (and_or_one x y z (a.one (d_no_and_v x f.4) (not_w _ B f.3 (λ e. cc))) (b.row f.7) (c.row (not_w _ _ (sym f.6) f.7)) (fit (and_or x y z) h))
    parses (two kind.AndV x y) h =
        let f = typed-and_v x y h.typed in
        let a = parses x (first_fits find _ x y h f.0 h.nested.1) in let b = parses y (second_fits find _ x y h f.1 h.nested.2) in
        record {
          one = λ e w. cc;
          row = λ w. and_v_row x y (a.one h.nested.0 (not_w _ V f.2 (λ e. cc))) (b.row f.3) (fit (two kind.AndV x y) h);
          side = λ e. absurd (f.3 e);
        }
    parses (two kind.AndB x y) h =
        let f = typed-and_b x y h.typed in
        let a = parses x (first_fits find _ x y h f.0 h.nested.1) in let b = parses y (second_fits find _ x y h f.1 h.nested.2) in
        as_one find (two kind.AndB x y) (λ e. cc) (and_b_one x y (a.one h.nested.0 (not_w _ B f.2 (λ e. cc))) (b.side f.3) (fit (two kind.AndB x y) h))
    parses (two kind.OrB x y) h =
        let f = typed-or_b x y h.typed in
        let a = parses x (first_fits find _ x y h f.0 h.nested.0) in let b = parses y (second_fits find _ x y h f.1 h.nested.1) in
        as_one find (two kind.OrB x y) (λ e. cc) (or_b_one x y (a.one (d_no_and_v x f.3) (not_w _ B f.2 (λ e. cc))) (b.side f.4) (fit (two kind.OrB x y) h))
    parses (two kind.OrC x y) h =
        let f = typed-or_c x y h.typed in
        let a = parses x (first_fits find _ x y h f.0 h.nested.0) in let b = parses y (second_fits find _ x y h f.1 h.nested.1) in
        as_one find (two kind.OrC x y) (λ e. cc)
        (or_c_one x y (a.one (d_no_and_v x f.3) (not_w _ B f.2 (λ e. cc))) (b.row (not_w _ V f.5 (λ e. cc))) (fit (two kind.OrC x y) h))
    parses (two kind.OrD x y) h =
        let f = typed-or_d x y h.typed in
        let a = parses x (first_fits find _ x y h f.0 h.nested.0) in let b = parses y (second_fits find _ x y h f.1 h.nested.1) in
        as_one find (two kind.OrD x y) (λ e. cc)
        (or_d_one x y (a.one (d_no_and_v x f.3) (not_w _ B f.2 (λ e. cc))) (b.row (not_w _ B f.5 (λ e. cc))) (fit (two kind.OrD x y) h))
    parses (two kind.OrI x y) h =
        let f = typed-or_i x y h.typed in
        let a = parses x (first_fits find _ x y h f.0 h.nested.0) in let b = parses y (second_fits find _ x y h f.1 h.nested.1) in
        as_one find (two kind.OrI x y) f.3 (or_i_one x y (a.row f.3) (b.row (not_w _ _ (sym f.2) f.3)) (fit (two kind.OrI x y) h))
    parses (thresh k none) h = absurd (typed-thresh_none k h.typed)
    parses (thresh k (more x xs)) h =
        let f = typed-thresh k x xs h.typed in
        let a = parses x (record { typed = f.0; nested = h.nested.0; writable = h.writable.2.0; found = h.found.0; deep = omega (arith, h.deep); large = omega (arith, h.large) }) in
        let b = parse_sides xs (record { typed = f.1; nested = h.nested.1; writable = h.writable.2.1; found = h.found.1; deep = omega (arith, h.deep); large = omega (arith, h.large) }) f.7 in
        as_one find (thresh k (more x xs)) (λ e. cc)
        (thresh_one k x xs (natural_read k h.writable.0) (a.one (d_no_and_v x f.5) (not_w _ B f.4 (λ e. cc))) b (fit (thresh k (more x xs)) h))
    parses (multi k keys) h =
        let f = typed-multi k keys h.typed in
        let some : nat_le 1 (length keys) ≡ true = le-leb _ _ (omega (arith, f.0, f.1)) in
        let most : nat_le (length keys) 20 ≡ true = le-leb _ _ f.2 in
        let range : (nat_le 1 (length keys) && nat_le (length keys) 20) ≡ true = rw (some, most) refl in
        as_one find (multi k keys) (λ e. cc)
        (multi_one k keys (natural_read k h.writable.0) (natural_read (length keys) (omega (arith, f.2))) range (keys_read keys h.writable.2) (fit (multi k keys) h))
    parses (wrap wrapper.A x) h =
        let f = typed-wrap_a x h.typed in
        let a = parses x (wrapped_fits find wrapper.A x h f.0 h.nested) in
        as_side find (wrap wrapper.A x) refl (a_side x (a.row (not_w _ B f.1 (λ e. cc))) (fit (wrap wrapper.A x) h))
    parses (wrap wrapper.S x) h =
        let f = typed-wrap_s x h.typed in
        let a = parses x (wrapped_fits find wrapper.S x h f.0 h.nested) in
        as_side find (wrap wrapper.S x) refl (s_side x (a.row (not_w _ B f.1 (λ e. cc))) (fit (wrap wrapper.S x) h))
    parses (wrap wrapper.C x) h =
        let f = typed-wrap_c x h.typed in
        let a = parses x (wrapped_fits find wrapper.C x h f.0 h.nested.1) in
        as_one find (wrap wrapper.C x) (λ e. cc) (c_one x (a.one h.nested.0 (not_w _ K f.1 (λ e. cc))) (fit (wrap wrapper.C x) h))
    parses (wrap wrapper.D x) h =
        let f = typed-wrap_d x h.typed in
        let a = parses x (wrapped_fits find wrapper.D x h f.0 h.nested) in
        as_one find (wrap wrapper.D x) (λ e. cc) (d_one x (a.row (not_w _ V f.1 (λ e. cc))) (fit (wrap wrapper.D x) h))
    parses (wrap wrapper.V x) h =
        let f = typed-wrap_v x h.typed in
        let a = parses x (wrapped_fits find wrapper.V x h f.0 h.nested.1) in
        as_one find (wrap wrapper.V x) (λ e. cc) (v_one x (a.one h.nested.0 (not_w _ B f.1 (λ e. cc))) (fit (wrap wrapper.V x) h))
    parses (wrap wrapper.J x) h =
        let f = typed-wrap_j x h.typed in
        let a = parses x (wrapped_fits find wrapper.J x h f.0 h.nested) in
        as_one find (wrap wrapper.J x) (λ e. cc) (j_one x (a.row (not_w _ B f.1 (λ e. cc))) (fit (wrap wrapper.J x) h))
    parses (wrap wrapper.N x) h =
        let f = typed-wrap_n x h.typed in
        let a = parses x (wrapped_fits find wrapper.N x h f.0 h.nested.1) in
        as_one find (wrap wrapper.N x) (λ e. cc) (n_one x (a.one h.nested.0 (not_w _ B f.1 (λ e. cc))) (fit (wrap wrapper.N x) h))

    parse_sides : (xs : Trees) → AreFit find xs → OthersFit xs → Sides find xs
    parse_sides none h o = no_side
    parse_sides (more x xs) h o =
        let a = parses x (record { typed = h.typed.0; nested = h.nested.0; writable = h.writable.0; found = h.found.0; deep = omega (arith, h.deep); large = omega (arith, h.large) }) in
        let b = parse_sides xs (record { typed = h.typed.1; nested = h.nested.1; writable = h.writable.1; found = h.found.1; deep = omega (arith, h.deep); large = omega (arith, h.large) }) o.3 in
        more_sides x xs (a.side o.0) b
