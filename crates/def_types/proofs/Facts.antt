-- What `IsTyped` says of each fragment, as facts side by side.
use Rattle.std.proofs.Common.{◌≡◌, ◌≢◌, ℕ, ◌^◌, ◌<◌, ◌≤◌, Bool, true, false, ◌&&◌, ◌||◌, nat_le, nat_lt, List, length, refl, arith}
use Rattle.std.specs.Prelude.{⊤}
use Rattle.std.specs.List.{list_all}
use Rattle.std.proofs.lemmas.Bool.{ltb-true, leb-true, and_parts}
use Rattle.def_tree.specs.declared.Two.TheVariants as two_kind
use Rattle.def_tree.specs.declared.Wrapper.TheVariants as wrapper
use Rattle.def_tree.specs.Tree.{Tree, Trees, Key, older, after, and_or, two, thresh, multi, wrap, none, more}
use Rattle.def_tree.specs.Range.{count}
use Rattle.def_types.specs.declared.Base.{Base}
use Rattle.def_types.specs.declared.Base.TheVariants.{B, V, K, W}
use Rattle.def_types.specs.Correctness.{is_b, is_v, is_k, is_w, are_same}
use Rattle.def_types.specs.Typed.{type_of, types_of, IsTyped, AreTyped}
use Rattle.def_types.proofs.Rows.{correctness_rows}

pub all_true : (a b c : Bool) → (a && b && c) ≡ true → (a ≡ true) × (b ≡ true) × (c ≡ true)
all_true true true c e = (refl, refl, e)
all_true a b c e = cc

pub base-b : (b : Base) → is_b b ≡ true → b ≡ B
base-b B e = refl
base-b other e = cc

pub base-v : (b : Base) → is_v b ≡ true → b ≡ V
base-v V e = refl
base-v other e = cc

pub base-k : (b : Base) → is_k b ≡ true → b ≡ K
base-k K e = refl
base-k other e = cc

pub base-w : (b : Base) → is_w b ≡ true → b ≡ W
base-w W e = refl
base-w other e = cc

pub base-not_w : (b : Base) → (is_b b || is_k b || is_v b) ≡ true → b ≢ W
base-not_w B e = λ h. cc
base-not_w other e = λ h. cc

pub base-same : (b c : Base) → are_same b c ≡ true → (b ≡ c) × (b ≢ W)
base-same B B e = (refl, λ h. cc)
base-same V V e = (refl, λ h. cc)
base-same K K e = (refl, λ h. cc)
base-same b c e = cc

-- the fragments
pub typed-older : (n : ℕ) → IsTyped (older n) → (1 ≤ n) × (n < 2 ^ 31)
unfolding correctness_rows
typed-older n h = let p = and_parts (nat_le 1 n) (nat_lt n (2 ^ 31)) h.0 in (leb-true 1 n p.0, ltb-true n (2 ^ 31) p.1)

pub typed-and_or : (x y z : Tree) → IsTyped (and_or x y z) → IsTyped x × IsTyped y × IsTyped z × ((type_of x).base ≡ B) × ((type_of x).d ≡ true)
    × ((type_of x).u ≡ true) × ((type_of y).base ≡ (type_of z).base) × ((type_of y).base ≢ W)
unfolding correctness_rows
typed-and_or x y z h =
    let p = all_true (is_b (type_of x).base) (type_of x).d (type_of x).u h.3.0 in
    let q = base-same (type_of y).base (type_of z).base h.3.1.0 in
    (h.0, h.1, h.2, base-b (type_of x).base p.0, p.1, p.2, q.0, q.1)

pub typed-after : (n : ℕ) → IsTyped (after n) → (1 ≤ n) × (n < 2 ^ 31)
unfolding correctness_rows
typed-after n h = let p = and_parts (nat_le 1 n) (nat_lt n (2 ^ 31)) h.0 in (leb-true 1 n p.0, ltb-true n (2 ^ 31) p.1)

pub typed-multi : (k : ℕ) (keys : List Key) → IsTyped (multi k keys) → (1 ≤ k) × (k ≤ length keys) × (length keys ≤ 20)
unfolding correctness_rows
typed-multi k keys h =
    let p = all_true (nat_le 1 k) (nat_le k (length keys)) (nat_le (length keys) 20) h.0 in
    (leb-true 1 k p.0, leb-true k (length keys) p.1, leb-true (length keys) 20 p.2)

pub typed-and_v : (x y : Tree) → IsTyped (two two_kind.AndV x y) → IsTyped x × IsTyped y × ((type_of x).base ≡ V) × ((type_of y).base ≢ W)
unfolding correctness_rows
typed-and_v x y h =
    (h.0, h.1, base-v (type_of x).base h.2.0, base-not_w (type_of y).base h.2.1.0)

pub typed-and_b : (x y : Tree) → IsTyped (two two_kind.AndB x y) → IsTyped x × IsTyped y × ((type_of x).base ≡ B) × ((type_of y).base ≡ W)
unfolding correctness_rows
typed-and_b x y h =
    (h.0, h.1, base-b (type_of x).base h.2.0, base-w (type_of y).base h.2.1.0)

pub typed-or_b : (x z : Tree) → IsTyped (two two_kind.OrB x z) → IsTyped x × IsTyped z × ((type_of x).base ≡ B) × ((type_of x).d ≡ true) × ((type_of z).base ≡ W) × ((type_of z).d ≡ true)
unfolding correctness_rows
typed-or_b x z h =
    let p = and_parts (is_b (type_of x).base) (type_of x).d h.2.0 in
    let q = and_parts (is_w (type_of z).base) (type_of z).d h.2.1.0 in
    (h.0, h.1, base-b (type_of x).base p.0, p.1, base-w (type_of z).base q.0, q.1)

pub typed-or_c : (x z : Tree) → IsTyped (two two_kind.OrC x z) → IsTyped x × IsTyped z × ((type_of x).base ≡ B) × ((type_of x).d ≡ true) × ((type_of x).u ≡ true) × ((type_of z).base ≡ V)
unfolding correctness_rows
typed-or_c x z h =
    let p = all_true (is_b (type_of x).base) (type_of x).d (type_of x).u h.2.0 in
    (h.0, h.1, base-b (type_of x).base p.0, p.1, p.2, base-v (type_of z).base h.2.1.0)

pub typed-or_d : (x z : Tree) → IsTyped (two two_kind.OrD x z) → IsTyped x × IsTyped z × ((type_of x).base ≡ B) × ((type_of x).d ≡ true) × ((type_of x).u ≡ true) × ((type_of z).base ≡ B)
unfolding correctness_rows
typed-or_d x z h =
    let p = all_true (is_b (type_of x).base) (type_of x).d (type_of x).u h.2.0 in
    (h.0, h.1, base-b (type_of x).base p.0, p.1, p.2, base-b (type_of z).base h.2.1.0)

pub typed-or_i : (x z : Tree) → IsTyped (two two_kind.OrI x z) → IsTyped x × IsTyped z × ((type_of x).base ≡ (type_of z).base) × ((type_of x).base ≢ W)
unfolding correctness_rows
typed-or_i x z h =
    let q = base-same (type_of x).base (type_of z).base h.2.0 in
    (h.0, h.1, q.0, q.1)

pub typed-wrap_a : (x : Tree) → IsTyped (wrap wrapper.A x) → IsTyped x × ((type_of x).base ≡ B)
unfolding correctness_rows
typed-wrap_a x h = (h.0, base-b (type_of x).base h.1.0)

pub typed-wrap_s : (x : Tree) → IsTyped (wrap wrapper.S x) → IsTyped x × ((type_of x).base ≡ B) × ((type_of x).o ≡ true)
unfolding correctness_rows
typed-wrap_s x h = let p = and_parts (is_b (type_of x).base) (type_of x).o h.1.0 in (h.0, base-b (type_of x).base p.0, p.1)

pub typed-wrap_c : (x : Tree) → IsTyped (wrap wrapper.C x) → IsTyped x × ((type_of x).base ≡ K)
unfolding correctness_rows
typed-wrap_c x h = (h.0, base-k (type_of x).base h.1.0)

pub typed-wrap_d : (x : Tree) → IsTyped (wrap wrapper.D x) → IsTyped x × ((type_of x).base ≡ V) × ((type_of x).z ≡ true)
unfolding correctness_rows
typed-wrap_d x h = let p = and_parts (is_v (type_of x).base) (type_of x).z h.1.0 in (h.0, base-v (type_of x).base p.0, p.1)

pub typed-wrap_v : (x : Tree) → IsTyped (wrap wrapper.V x) → IsTyped x × ((type_of x).base ≡ B)
unfolding correctness_rows
typed-wrap_v x h = (h.0, base-b (type_of x).base h.1.0)

pub typed-wrap_j : (x : Tree) → IsTyped (wrap wrapper.J x) → IsTyped x × ((type_of x).base ≡ B) × ((type_of x).n ≡ true)
unfolding correctness_rows
typed-wrap_j x h = let p = and_parts (is_b (type_of x).base) (type_of x).n h.1.0 in (h.0, base-b (type_of x).base p.0, p.1)

pub typed-wrap_n : (x : Tree) → IsTyped (wrap wrapper.N x) → IsTyped x × ((type_of x).base ≡ B)
unfolding correctness_rows
typed-wrap_n x h = (h.0, base-b (type_of x).base h.1.0)

-- the children of a threshold behind the first are W d u
abbrev pub OthersFit : Trees → Type 0
OthersFit none = ⊤
OthersFit (more x xs) = ((type_of x).base ≡ W) × ((type_of x).d ≡ true) × ((type_of x).u ≡ true) × OthersFit xs

others_from_test : (xs : Trees) → list_all (λ y. is_w y.base && y.d && y.u) (types_of xs) ≡ true → OthersFit xs
others_from_test none e = tt
others_from_test (more x xs) e =
    let p = and_parts (is_w (type_of x).base && (type_of x).d && (type_of x).u) (list_all (λ y. is_w y.base && y.d && y.u) (types_of xs)) e in
    let q = all_true (is_w (type_of x).base) (type_of x).d (type_of x).u p.0 in
    (base-w (type_of x).base q.0, q.1, q.2, others_from_test xs p.1)

count-types_of : (xs : Trees) → length (types_of xs) ≡ count xs
count-types_of none = refl
count-types_of (more x xs) = let e = count-types_of xs in omega arith

pub typed-thresh : (k : ℕ) (x : Tree) (xs : Trees) → IsTyped (thresh k (more x xs)) → IsTyped x × AreTyped xs × (1 ≤ k) × (k ≤ count (more x xs))
    × ((type_of x).base ≡ B) × ((type_of x).d ≡ true) × ((type_of x).u ≡ true) × OthersFit xs
unfolding correctness_rows
typed-thresh k x xs h =
    let p = and_parts (nat_le 1 k) (nat_le k (length (types_of (more x xs)))) h.1.0 in
    let q = all_true (is_b (type_of x).base) (type_of x).d (type_of x).u h.1.1.0 in
    let e = count-types_of (more x xs) in
    let l = leb-true k (length (types_of (more x xs))) p.1 in
    (h.0.0, h.0.1, leb-true 1 k p.0, omega arith, base-b (type_of x).base q.0, q.1, q.2, others_from_test xs h.1.1.1.0)

-- a threshold without children has no type
pub typed-thresh_none : (k : ℕ) → IsTyped (thresh k none) → ⊥
unfolding correctness_rows
typed-thresh_none k h = let l : false ≡ true = h.1.1.0 in cc
