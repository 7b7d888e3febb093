-- The point of a key, and the key of a point.
use Rattle.std.proofs.Common.{◌≡◌, ℕ, zero, suc, ◌+◌, ◌-◌, ◌*◌, ◌/◌, ◌%◌, ◌^◌, ◌<◌, ◌≤◌, ◌⊎◌, ◌∷◌, [], length, refl, sym, ◌∙◌, ap, subst, inl, inr, arith, cond, eqb, ltb, Bool, ◌&&◌, ◌||◌, true, false, Option, Some, None, eq-eqb, lit<}
use Rattle.std.proofs.lemmas.Bool.{and_parts, and_from, ltb-true, lt-ltb, eqb-true, eqb-false, ne_eqb}
use Rattle.std.proofs.Math.Nat.{mod-eq_of_lt}
use Rattle.std.specs.Int.{bytes_high_first}
use Rattle.def_script.specs.Bytes.{Bytes}
use Rattle.def_curve.specs.Modular.{minus}
use Rattle.def_curve.specs.Curve.{p}
use Rattle.def_curve.specs.Point.{Point, infinity, affine, is_on_curve}
use Rattle.def_curve.specs.Key.{number_of, root, lift, point_of}
use Rattle.def_curve.specs.Encoding.{compressed}
use Rattle.ms_prime_laws.proofs.Congruence.{Same, at, by, back, ◌⨟◌, times, less, of_mod}
use Rattle.ms_prime_laws.proofs.Powers.{power_below}
use Rattle.ms_curve_laws.specs.Laws.{KeyHasItsPoint, NoKeyOfInfinity, PointHasItsKey, KeyIsThatOfItsPoint}
use Rattle.ms_curve_laws.proofs.Closure.{OnCurve, by_test, to_test}
use Rattle.ms_curve_laws.proofs.Encodings.{number_of_bytes, long_bytes, bytes_of_number}
use Rattle.ms_curve_laws.proofs.Roots.{root_squared, two_roots, no_flat_point}

-- x ^ 3 + 7, its root, and the one of both with a parity
right_side : ℕ → ℕ
right_side x = (x * x * x + 7) % p

with_parity : (r parity : ℕ) → ℕ
with_parity r parity = cond (eqb (r % 2) parity) r (minus p 0 r)

is_root : (x r : ℕ) → Bool
is_root x r = ltb x p && eqb (r * r % p) (right_side x)

by_root : (x parity : ℕ) → lift x parity ≡ cond (is_root x (root (right_side x))) (Some (affine x (with_parity (root (right_side x)) parity))) None
unfolding lift right_side with_parity is_root
by_root x parity = refl

root-below : (w : ℕ) → root w < p
root-below w = power_below p 255 w ((p + 1) / 4) (lit< tt)

-- the opposite of a number
opposite : (r : ℕ) → 0 < r → r < p → minus p 0 r ≡ p - r
opposite r some below = let whole : 0 + (p - r) ≡ p - r = omega arith in ap (λ z. z % p) whole ∙ mod-eq_of_lt (omega arith)

-- of a point, the one with its parity is its y
own_parity : (r y : ℕ) → 0 < y → y < p → (r ≡ y) ⊎ (r + y ≡ p) → with_parity r (y % 2) ≡ y
unfolding with_parity
own_parity r y some below (inl same) = ap (λ z. cond (eqb (z % 2) (y % 2)) z (minus p 0 z)) same ∙ ap (λ b. cond b y (minus p 0 y)) (eq-eqb (y % 2) (y % 2) refl)
own_parity r y some below (inr sum) =
    let apart : r % 2 ≡ y % 2 → ⊥ = λ e. omega (arith, e, sum) in
    let r_some : 0 < r = omega (arith, sum) in
    let r_below : r < p = omega (arith, sum) in
    let other : p - r ≡ y = omega (arith, sum) in
    ap (λ b. cond b r (minus p 0 r)) (ne_eqb (r % 2) (y % 2) apart) ∙ opposite r r_some r_below ∙ other

pub lift-has : (x y : ℕ) → OnCurve x y → lift x (y % 2) ≡ Some (affine x y)
unfolding right_side is_root
lift-has x y c =
    let w : ℕ = right_side x in
    let r : ℕ = root w in
    let w_is : Same p w (y * y) = of_mod (x * x * x + 7) ⨟ back c.curve in
    let some : 0 < y = no_flat_point x y c in
    let y_rest : y % p ≡ y = mod-eq_of_lt c.y_below in
    let squared : Same p (r * r) (y * y) = root_squared y w (omega (arith, y_rest)) w_is in
    let again : r * r % p ≡ w = squared.same ∙ c.curve.same in
    by_root x (y % 2)
    ∙ ap (λ b. cond b (Some (affine x (with_parity r (y % 2)))) None) (and_from (ltb x p) (eqb (r * r % p) w) (lt-ltb x p c.x_below) (eq-eqb (r * r % p) w again))
    ∙ ap (λ z. Some (affine x z)) (own_parity r y some c.y_below (two_roots r y (root-below w) c.y_below squared))

-- what was found is a point with this x and this parity
pub record Found (x parity : ℕ) (P : Point) : Type 0 where
  pub y : ℕ
  pub point : P ≡ affine x y
  pub curve : OnCurve x y
  pub odd : y % 2 ≡ parity

flipped : (x r : ℕ) → OnCurve x r → OnCurve x (p - r)
flipped x r c =
    let some : 0 < r = no_flat_point x r c in
    let below : p - r < p = omega arith in
    let sum : (p - r) + r ≡ p = omega (arith, c.y_below) in
    let crossed : (p - r) * (p - r) + (p - r) * r ≡ (p - r) * ((p - r) + r) = omega arith in
    let other : r * ((p - r) + r) ≡ (p - r) * r + r * r = omega arith in
    let p_none : Same p p 0 = record { same = refl } in
    let zero_a : (p - r) * 0 ≡ r * 0 = omega arith in
    let turned : r * r + (p - r) * r ≡ (p - r) * r + r * r = omega arith in
    let squares : Same p ((p - r) * (p - r)) (r * r) =
    less ((p - r) * r) (lit< tt)
    (by crossed ⨟ times (at (p - r)) (by sum ⨟ p_none) ⨟ by zero_a ⨟ times (at r) (back p_none ⨟ by (sym sum)) ⨟ by other ⨟ by (sym turned)) in
    record { x_below = c.x_below; y_below = below; curve = squares ⨟ c.curve }

one_of_two : (x r parity : ℕ) → OnCurve x r → parity < 2 → Found x parity (affine x (with_parity r parity))
unfolding with_parity
one_of_two x r parity c small = chosen (eqb (r % 2) parity) refl
  where
    chosen : (b : Bool) → eqb (r % 2) parity ≡ b → Found x parity (affine x (cond b r (minus p 0 r)))
    chosen true e = record { y = r; point = refl; curve = c; odd = eqb-true (r % 2) parity e }
    chosen false e =
        let apart : r % 2 ≡ parity → ⊥ = eqb-false (r % 2) parity e in
        let some : 0 < r = no_flat_point x r c in
        record {
          y = p - r;
          point = ap (λ z. affine x z) (opposite r some c.y_below);
          curve = flipped x r c;
          odd = other_parity r parity some c.y_below small apart;
        }
      where
        other_parity : (r parity : ℕ) → 0 < r → r < p → parity < 2 → (r % 2 ≡ parity → ⊥) → (p - r) % 2 ≡ parity
        other_parity r parity some below small apart = omega arith

some_same : (P Q : Point) → Some P ≡ Some Q → P ≡ Q
some_same P Q e = ap (λ (o : Option Point). inside o) e
  where
    inside : Option Point → Point
    inside None = infinity
    inside (Some R) = R

none_some : (P : Point) → None ≡ Some P → ⊥
none_some P e = cc

pub lift-only : (x parity : ℕ) (P : Point) → parity < 2 → lift x parity ≡ Some P → Found x parity P
unfolding right_side is_root
lift-only x parity P small e = tested (is_root x r) refl (sym (by_root x parity) ∙ e)
  where
    r : ℕ
    r = root (right_side x)

    tested : (b : Bool) → is_root x r ≡ b → cond b (Some (affine x (with_parity r parity))) None ≡ Some P → Found x parity P
    tested false test e = absurd (none_some P e)
    tested true test e =
        let parts = and_parts (ltb x p) (eqb (r * r % p) ((x * x * x + 7) % p)) test in
        let c : OnCurve x r = record {
          x_below = ltb-true x p parts.0;
          y_below = root-below (right_side x);
          curve = record { same = eqb-true (r * r % p) ((x * x * x + 7) % p) parts.1 };
        } in
        subst (λ (Q : Point). Found x parity Q) (some_same (affine x (with_parity r parity)) P e) (one_of_two x r parity c small)

-- what the bytes of a key with a point are
pub record Spelled (first : ℕ) (rest : Bytes) (P : Point) : Type 0 where
  pub y : ℕ
  pub point : P ≡ affine (number_of rest) y
  pub curve : OnCurve (number_of rest) y
  pub parity : first ≡ 2 + y % 2
  pub long : length rest ≡ 32

two_or_three : (first : ℕ) → (eqb first 2 || eqb first 3) ≡ true → (2 ≤ first) × (first ≤ 3)
two_or_three first test = chosen (eqb first 2) (eqb first 3) refl refl test
  where
    chosen : (a b : Bool) → eqb first 2 ≡ a → eqb first 3 ≡ b → (a || b) ≡ true → (2 ≤ first) × (first ≤ 3)
    chosen true b e f test = let is : first ≡ 2 = eqb-true first 2 e in (omega arith, omega arith)
    chosen false true e f test = let is : first ≡ 3 = eqb-true first 3 f in (omega arith, omega arith)
    chosen false false e f test = cc

spelled : (first : ℕ) (rest : Bytes) (P : Point) → point_of (first ∷ rest) ≡ Some P → Spelled first rest P
spelled first rest P e = tested (eqb (length rest) 32 && (eqb first 2 || eqb first 3)) refl e
  where
    tested : (b : Bool) → (eqb (length rest) 32 && (eqb first 2 || eqb first 3)) ≡ b → cond b (lift (number_of rest) (first - 2)) None ≡ Some P → Spelled first rest P
    tested false test e = absurd (none_some P e)
    tested true test e =
        let parts = and_parts (eqb (length rest) 32) (eqb first 2 || eqb first 3) test in
        let between = two_or_three first parts.1 in
        let f : Found (number_of rest) (first - 2) P = lift-only (number_of rest) (first - 2) P (omega (arith, between.0, between.1)) e in
        record {
          y = f.y;
          point = f.point;
          curve = f.curve;
          parity = omega (arith, f.odd, between.0);
          long = eqb-true (length rest) 32 parts.0;
        }

spells : (first : ℕ) (rest : Bytes) (y : ℕ) → OnCurve (number_of rest) y → first ≡ 2 + y % 2 → length rest ≡ 32 → point_of (first ∷ rest) ≡ Some (affine (number_of rest) y)
spells first rest y c parity long =
    let odd : first - 2 ≡ y % 2 = omega (arith, parity) in
    ap (λ b. cond b (lift (number_of rest) (first - 2)) None)
    (and_from (eqb (length rest) 32) (eqb first 2 || eqb first 3) (eq-eqb (length rest) 32 long) (either first (y % 2) parity (omega arith)))
    ∙ ap (λ z. lift (number_of rest) z) odd ∙ lift-has (number_of rest) y c
  where
    either : (first odd : ℕ) → first ≡ 2 + odd → odd < 2 → (eqb first 2 || eqb first 3) ≡ true
    either first zero e small = ap (λ z. eqb z 2 || eqb z 3) e
    either first (suc zero) e small = ap (λ z. eqb z 2 || eqb z 3) e
    either first (suc (suc odd)) e small = absurd (omega arith)

abbrev x_of : Point → ℕ
x_of infinity = 0
x_of (affine x y) = x

abbrev y_of : Point → ℕ
y_of infinity = 0
y_of (affine x y) = y

pub key_has_its_point : KeyHasItsPoint
key_has_its_point first rest x y = (
  (λ e.
      let s : Spelled first rest (affine x y) = spelled first rest (affine x y) e in
      let x_is : x ≡ number_of rest = ap (λ (P : Point). x_of P) s.point in
      let y_is : y ≡ s.y = ap (λ (P : Point). y_of P) s.point in
      record {
        parity = s.parity ∙ ap (λ z. 2 + z % 2) (sym y_is);
        long = s.long;
        x_is = sym x_is;
        on_curve = ap (λ (P : Point). is_on_curve P) s.point ∙ to_test (number_of rest) s.y s.curve;
      }),
  (λ k.
      let c : OnCurve (number_of rest) y = by_test (number_of rest) y (ap (λ z. is_on_curve (affine z y)) k.x_is ∙ k.on_curve) in
      spells first rest y c k.parity k.long ∙ ap (λ z. Some (affine z y)) k.x_is),
)

pub no_key_of_infinity : NoKeyOfInfinity
no_key_of_infinity [] e = none_some infinity e
no_key_of_infinity (first ∷ rest) e = apart (spelled first rest infinity e).point
  where
    is_infinity : Point → Bool
    is_infinity infinity = true
    is_infinity (affine x y) = false

    apart : {x y : ℕ} → infinity ≡ affine x y → ⊥
    apart e = let same : true ≡ false = ap (λ (P : Point). is_infinity P) e in cc

pub point_has_its_key : PointHasItsKey
point_has_its_key x y on =
    let c : OnCurve x y = by_test x y on in
    let rest : Bytes = bytes_high_first 32 x in
    let short : x < 256 ^ 32 = omega (arith, c.x_below) in
    let x_is : number_of rest ≡ x = number_of_bytes 32 x short in
    spells (2 + y % 2) rest y (subst (λ (z : ℕ). OnCurve z y) (sym x_is) c) refl (long_bytes 32 x) ∙ ap (λ z. Some (affine z y)) x_is

pub key_is_that_of_its_point : KeyIsThatOfItsPoint
key_is_that_of_its_point [] P bytes e = absurd (none_some P e)
key_is_that_of_its_point (first ∷ rest) P bytes e =
    let s : Spelled first rest P = spelled first rest P e in
    let back_rest : bytes_high_first 32 (number_of rest) ≡ rest = ap (λ z. bytes_high_first z (number_of rest)) (sym s.long) ∙ bytes_of_number rest (λ i. bytes (suc i)) in
    ap (λ (z : Bytes). first ∷ z) (sym back_rest) ∙ ap (λ z. z ∷ bytes_high_first 32 (number_of rest)) s.parity ∙ ap (λ (Q : Point). compressed Q) (sym s.point)
