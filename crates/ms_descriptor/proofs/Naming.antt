-- Key expressions, case by case.
use Rattle.std.proofs.Common.{◌≡◌, ℕ, ◌+◌, ◌<◌, true, false, List, [], ◌∷◌, length, ap, ◌∙◌, refl, arith, Option, Some, None, Result, Ok, Err, is_some}
use Rattle.hex.specs.Hex.{decode_pairs}
use Rattle.def_script.specs.Bytes.{Bytes}
use Rattle.def_text.specs.Word.{key_of}
use Rattle.def_curve.specs.Point.{Point}
use Rattle.def_curve.specs.Key.{point_of}
use Rattle.def_derive.specs.Extended.{Extended}
use Rattle.def_descriptor.specs.declared.DescriptorFault.{DescriptorFault}
use Rattle.def_descriptor.specs.declared.DescriptorFault.TheVariants as fault
use Rattle.def_descriptor.specs.Token.{Token, token, place}
use Rattle.def_descriptor.specs.Expression.{Origin, Named, point}
use Rattle.def_descriptor.specs.ReadKey.{Seen, read_origin, extended_word, other_word, with_point, ways_behind, named_by, read_named, read_key}
use Rattle.ms_paths.specs.Places.{tokens_at, behind}
use Rattle.ms_paths.proofs.Places.{behind_some}
use Rattle.ms_paths.proofs.Reading.{then_ok, then_err}

-- ---- a key

pub key_bytes : (w key : Bytes) → key_of w ≡ Some key → 0 < length w
unfolding decode_pairs
key_bytes [] key h = absurd (cc)
key_bytes (b ∷ w) key h = omega arith

pub extended_bytes : (w : Bytes) (key : Extended) → extended_word w ≡ Some key → 0 < length w
extended_bytes [] key h = absurd (cc)
extended_bytes (b ∷ w) key h = omega arith

without_point : {A : Type 0} (at : ℕ) (own : Option Point) (r : Result A DescriptorFault) → is_some own ≡ false → with_point at own r ≡ Err (fault.Point at)
without_point at None r h = refl
without_point at (Some own) r h = absurd (cc)

of_point : {A : Type 0} (at : ℕ) (own : Option Point) (r : Result A DescriptorFault) → is_some own ≡ true → with_point at own r ≡ r
of_point at None r h = absurd (cc)
of_point at (Some own) r h = refl

module _ (seen : Seen) (text w : Bytes) (at : ℕ) (e : tokens_at text at ≡ token at w ∷ behind text at w) where
  named_as : (own : Option Bytes) (other : Option Extended) → key_of w ≡ own → extended_word w ≡ other
      → read_named seen (tokens_at text at) ≡ named_by seen at w own other (behind text at w)
  unfolding read_named
  named_as own other k x =
      ap (read_named seen) e
      ∙ (ap (λ (z : Option Bytes). named_by seen at w z (extended_word w) (behind text at w)) k
      ∙ ap (λ (z : Option Extended). named_by seen at w own z (behind text at w)) x)

  module _ (key : Bytes) (k : key_of w ≡ Some key) where
    pub point_none : is_some (point_of key) ≡ false → read_named seen (tokens_at text at) ≡ Err (fault.Point at)
    point_none none = named_as (Some key) (extended_word w) k refl ∙ without_point at (point_of key) (Ok (point key, behind text at w)) none

    pub point_is : is_some (point_of key) ≡ true → read_named seen (tokens_at text at) ≡ Ok (point key, tokens_at text (at + length w))
    point_is some =
        named_as (Some key) (extended_word w) k refl
        ∙ (of_point at (point_of key) (Ok (point key, behind text at w)) some
        ∙ ap (λ (z : List Token). Ok (point key, z)) (behind_some text at w (key_bytes w key k)))

  pub extended_none : key_of w ≡ None → extended_word w ≡ None → read_named seen (tokens_at text at) ≡ Err (other_word at w)
  extended_none k x = named_as None None k x

  pub extended_is : (key : Extended) → key_of w ≡ None → extended_word w ≡ Some key
      → read_named seen (tokens_at text at) ≡ with_point at (point_of key.key) (ways_behind seen at key (tokens_at text (at + length w)))
  extended_is key k x =
      named_as None (Some key) k x
      ∙ ap (λ (z : List Token). with_point at (point_of key.key) (ways_behind seen at key z)) (behind_some text at w (extended_bytes w key x))

-- ---- a key expression

module _ (seen : Seen) (ts : List Token) where
  pub no_origin : (why : DescriptorFault) → read_origin ts ≡ Err why → read_key seen ts ≡ Err why
  unfolding read_key
  no_origin why e = then_err (read_origin ts) _ why e

  module _ (origin : Option Origin) (rest : List Token) (e : read_origin ts ≡ Ok (origin, rest)) where
    pub no_named : (why : DescriptorFault) → read_named seen rest ≡ Err why → read_key seen ts ≡ Err why
    unfolding read_key
    no_named why f = then_ok (read_origin ts) _ origin rest e ∙ then_err (read_named seen rest) _ why f

    pub whole_key : (named : Named) (end : List Token) (at : ℕ) → read_named seen rest ≡ Ok (named, end) → place ts ≡ at
        → read_key seen ts ≡ Ok (record { at = at; origin = origin; named = named }, end)
    unfolding read_key
    whole_key named end at f there =
        then_ok (read_origin ts) _ origin rest e
        ∙ (then_ok (read_named seen rest) _ named end f
        ∙ ap (λ (z : ℕ). Ok (record { at = z; origin = origin; named = named }, end)) there)
