-- Whether the x of a point modulo n is a number, by products with Z ^ 2.
use Rattle.std.proofs.Common.{◌≡◌, ℕ, ◌+◌, ◌-◌, ◌*◌, ◌%◌, ◌<◌, ◌≤◌, refl, sym, ◌∙◌, eqb, ltb, Bool, true, false, eq-eqb, arith}
use Rattle.std.proofs.lemmas.Bool.{ne_eqb, eqb-true, eqb-false, ltb-true, ltb-false}
use Rattle.def_curve.specs.Curve.{p, n as order}
use Rattle.def_curve.specs.Point.{Point, infinity, affine}
use Rattle.def_curve.specs.Ecdsa.{has_x}
use Rattle.ms_prime_laws.proofs.Congruence.{Same, at, by, back, ◌⨟◌, times, of_eq, to_eq}
use Rattle.ms_point.specs.Standing.{StandAt, StandFor}
use Rattle.ms_point.proofs.Coordinates.{x_same}
use Rattle.ms_point.proofs.Additions.{same_x}

-- infinity has none
pub nothing : (X Y Z r : ℕ) → Z ≡ 0 → (P : Point) → StandFor X Y Z P → false ≡ has_x P r
nothing X Y Z r none infinity h = refl
nothing X Y Z r none (affine x y) h = absurd (omega (arith, none, h.z_some))

-- a number below p is the x of a point where its product with Z ^ 2 is X
module _ (X Y Z zz u t x y : ℕ) (a : StandAt X Y Z x y) (z_below : Z < p) (u_below : u < p) (zz_is : zz ≡ Z * Z % p) (t_is : t ≡ u * zz % p) where
  product : Same p t (u * (Z * Z))
  product = of_eq t (u * zz) t_is ⨟ times (at u) (of_eq zz (Z * Z) zz_is)

  is_x : t ≡ X → u ≡ x
  is_x e = same_x Z z_below a.z_some u x u_below a.x_below (back product ⨟ by e ⨟ x_same X Y Z x y a)

  is_product : u ≡ x → t ≡ X
  is_product e =
      let below : t < p = omega (arith, t_is) in
      to_eq below (product ⨟ times (by e) (at (Z * Z))) ∙ sym a.x_is

  by_product : eqb t X ≡ eqb u x
  by_product = chosen (eqb t X) refl
    where
      chosen : (b : Bool) → eqb t X ≡ b → b ≡ eqb u x
      chosen true e = sym (eq-eqb u x (is_x (eqb-true t X e)))
      chosen false e = sym (ne_eqb u x (λ same. eqb-false t X e (is_product same)))

-- x is r
pub at_first : (X Y Z zz r t : ℕ) → 0 < Z → Z < p → r < order → zz ≡ Z * Z % p → t ≡ r * zz % p → eqb t X ≡ true → (P : Point) → StandFor X Y Z P → true ≡ has_x P r
at_first X Y Z zz r t z_some z_below r_below zz_is t_is test infinity h = absurd (omega (arith, z_some, h))
at_first X Y Z zz r t z_some z_below r_below zz_is t_is test (affine x y) h =
    let below : r < p = omega (arith, r_below) in
    let e : r ≡ x = is_x X Y Z zz r t x y h z_below below zz_is t_is (eqb-true t X test) in
    let rest : x % order ≡ r = omega (arith, e, r_below) in
    sym (eq-eqb (x % order) r rest)

-- x isn't r, and r + n isn't below p
pub at_neither : (X Y Z zz r t : ℕ) → 0 < Z → Z < p → r < order → zz ≡ Z * Z % p → t ≡ r * zz % p → eqb t X ≡ false → ltb r (p - order) ≡ false
    → (P : Point) → StandFor X Y Z P → false ≡ has_x P r
at_neither X Y Z zz r t z_some z_below r_below zz_is t_is test over infinity h = refl
at_neither X Y Z zz r t z_some z_below r_below zz_is t_is test over (affine x y) h =
    let below : r < p = omega (arith, r_below) in
    let large : p - order ≤ r = ltb-false r (p - order) over in
    let apart : r ≡ x → ⊥ = λ e. eqb-false t X test (is_product X Y Z zz r t x y h z_below below zz_is t_is e) in
    sym (ne_eqb (x % order) r (λ e. other x r h.x_below large e apart))
  where
    other : (x r : ℕ) → x < p → p - order ≤ r → x % order ≡ r → (r ≡ x → ⊥) → ⊥
    other x r below large e apart = apart (omega (arith, below, large, e))

-- x isn't r, and r + n is below p
pub at_second : (X Y Z zz r t u s : ℕ) → 0 < Z → Z < p → r < order → zz ≡ Z * Z % p → t ≡ r * zz % p → eqb t X ≡ false → ltb r (p - order) ≡ true
    → u ≡ (r + order) % p → s ≡ u * zz % p → (P : Point) → StandFor X Y Z P → eqb s X ≡ has_x P r
at_second X Y Z zz r t u s z_some z_below r_below zz_is t_is test under u_is s_is infinity h = absurd (omega (arith, z_some, h))
at_second X Y Z zz r t u s z_some z_below r_below zz_is t_is test under u_is s_is (affine x y) h =
    let below : r < p = omega (arith, r_below) in
    let small : r < p - order = ltb-true r (p - order) under in
    let sum : u ≡ r + order = omega (arith, small, u_is) in
    let u_below : u < p = omega (arith, u_is) in
    let apart : r ≡ x → ⊥ = λ e. eqb-false t X test (is_product X Y Z zz r t x y h z_below below zz_is t_is e) in
    by_product X Y Z zz u s x y h z_below u_below zz_is s_is ∙ chosen x r u h.x_below r_below sum apart (eqb u x) refl
  where
    chosen : (x r u : ℕ) → x < p → r < order → u ≡ r + order → (r ≡ x → ⊥) → (b : Bool) → eqb u x ≡ b → b ≡ eqb (x % order) r
    chosen x r u below r_below sum apart true e =
        let same : u ≡ x = eqb-true u x e in
        let rest : x % order ≡ r = omega (arith, same, sum, below, r_below) in
        sym (eq-eqb (x % order) r rest)
    chosen x r u below r_below sum apart false e =
        let differ : u ≡ x → ⊥ = eqb-false u x e in
        sym (ne_eqb (x % order) r (λ rest. neither x r u below sum apart differ rest))
      where
        neither : (x r u : ℕ) → x < p → u ≡ r + order → (r ≡ x → ⊥) → (u ≡ x → ⊥) → x % order ≡ r → ⊥
        neither x r u below sum apart differ rest = omega (arith, below, sum, apart, differ, rest)
