-- What the definitions imply.
use Rattle.std.specs.Prelude.{◌≡◌, ◌≢◌, ◌↔◌, ℕ, ◌+◌, ◌%◌, true, ◌∷◌, length, Some}
use Rattle.def_script.specs.Bytes.{Bytes, IsBytes}
use Rattle.def_curve.specs.Point.{Point, infinity, affine, is_on_curve, generator, ◌⊕◌, multiple}
use Rattle.def_curve.specs.Key.{number_of, point_of}
use Rattle.def_curve.specs.Encoding.{compressed}

-- the generator is a point of the curve
abbrev pub GeneratorIsPoint : Type 0
GeneratorIsPoint = is_on_curve generator ≡ true

-- the sum of two points is one
abbrev pub SumIsPoint : Type 0
SumIsPoint = (P Q : Point) → is_on_curve P ≡ true → is_on_curve Q ≡ true → is_on_curve (P ⊕ Q) ≡ true

-- so is a multiple
abbrev pub MultipleIsPoint : Type 0
MultipleIsPoint = (bits k : ℕ) (P : Point) → is_on_curve P ≡ true → is_on_curve (multiple bits k P) ≡ true

-- what the first byte of a key and those behind it say of a point of the curve: its parity and its x
pub record IsOfKey (first : ℕ) (rest : Bytes) (x y : ℕ) : Type 0 where
  pub parity : first ≡ 2 + y % 2
  pub long : length rest ≡ 32
  pub x_is : number_of rest ≡ x
  pub on_curve : is_on_curve (affine x y) ≡ true

-- a key has a point exactly where a point has its x and its parity, and has that one
abbrev pub KeyHasItsPoint : Type 0
KeyHasItsPoint = (first : ℕ) (rest : Bytes) (x y : ℕ) → (point_of (first ∷ rest) ≡ Some (affine x y)) ↔ IsOfKey first rest x y

-- infinity is the point of no key
abbrev pub NoKeyOfInfinity : Type 0
NoKeyOfInfinity = (key : Bytes) → point_of key ≢ Some infinity

-- each other point is the point of a key, its compressed form
abbrev pub PointHasItsKey : Type 0
PointHasItsKey = (x y : ℕ) → is_on_curve (affine x y) ≡ true → point_of (compressed (affine x y)) ≡ Some (affine x y)

-- and of that one alone
abbrev pub KeyIsThatOfItsPoint : Type 0
KeyIsThatOfItsPoint = (key : Bytes) (P : Point) → IsBytes key → point_of key ≡ Some P → key ≡ compressed P
