-- The judgement, case by case.
use Rattle.std.proofs.Common.{◌≡◌, ◌≢◌, ℕ, ◌*◌, ◌^◌, ◌≤◌, refl, ◌∙◌, ap, cond, ltb, false, length, Option, Some, None, eq-eqb, arith}
use Rattle.std.proofs.lemmas.Bool.{ne_eqb, le-ltb, and_right}
use Rattle.def_script.specs.Bytes.{Bytes}
use Rattle.def_curve.specs.declared.Judgement.TheVariants.{Bad, High, Good}
use Rattle.def_curve.specs.Curve.{n as order}
use Rattle.def_curve.specs.Point.{Point}
use Rattle.def_curve.specs.Key.{number_of, point_of}
use Rattle.def_curve.specs.Ecdsa.{is_scalar, is_signature_by}
use Rattle.def_curve.specs.Judgement.{numbers_of, judged, judged_by, judge}
use Rattle.ms_curve.proofs.Checks.{refused_by_first, refused_by_second}

by_parts : (key hash signature : Bytes) → judge key hash signature ≡ judged_by hash (point_of key) (numbers_of signature)
unfolding judge
by_parts key hash signature = refl

no_numbers : (hash : Bytes) (key : Option Point) → judged_by hash key None ≡ Bad
no_numbers hash None = refl
no_numbers hash (Some key) = refl

other_hash : (hash : Bytes) (key : Option Point) (numbers : Option (Bytes × Bytes)) → length hash ≢ 32 → judged_by hash key numbers ≡ Bad
other_hash hash None numbers apart = refl
other_hash hash (Some key) None apart = refl
other_hash hash (Some key) (Some numbers) apart =
    ap (λ b. cond b (judged key (number_of hash) (number_of numbers.0) (number_of numbers.1)) Bad) (ne_eqb (length hash) 32 apart)

pub bad_without_numbers : (key hash signature : Bytes) → numbers_of signature ≡ None → judge key hash signature ≡ Bad
bad_without_numbers key hash signature none = by_parts key hash signature ∙ ap (judged_by hash (point_of key)) none ∙ no_numbers hash (point_of key)

pub bad_of_another_length : (key hash signature : Bytes) → length hash ≢ 32 → judge key hash signature ≡ Bad
bad_of_another_length key hash signature apart = by_parts key hash signature ∙ other_hash hash (point_of key) (numbers_of signature) apart

pub bad_without_point : (key hash signature : Bytes) → point_of key ≡ None → judge key hash signature ≡ Bad
bad_without_point key hash signature none = by_parts key hash signature ∙ ap (λ (P : Option Point). judged_by hash P (numbers_of signature)) none

pub judged_with : (key hash signature r s : Bytes) (P : Point) → point_of key ≡ Some P → numbers_of signature ≡ Some (r, s) → length hash ≡ 32
    → judge key hash signature ≡ judged P (number_of hash) (number_of r) (number_of s)
judged_with key hash signature r s P point numbers whole =
    by_parts key hash signature ∙ ap (λ (Q : Option Point). judged_by hash Q (numbers_of signature)) point ∙ ap (judged_by hash (Some P)) numbers
    ∙ ap (λ b. cond b (judged P (number_of hash) (number_of r) (number_of s)) Bad) (eq-eqb (length hash) 32 whole)

-- what is 2 ^ 256 or more is no scalar
no_scalar : (r : ℕ) → 2 ^ 256 ≤ r → is_scalar r ≡ false
no_scalar r large =
    let over : order ≤ r = omega (arith, large) in
    and_right (ltb 0 r) (ltb r order) (le-ltb r order over)

judged_bad : (key : Point) (e r s : ℕ) → is_signature_by key e r s ≡ false → judged key e r s ≡ Bad
judged_bad key e r s refused = ap (λ b. cond b (cond (ltb order (2 * s)) High Good) Bad) refused

pub bad_by_first : (key : Point) (e r s : ℕ) → 2 ^ 256 ≤ r → judged key e r s ≡ Bad
bad_by_first key e r s large = judged_bad key e r s (refused_by_first key e r s (no_scalar r large))

pub bad_by_second : (key : Point) (e r s : ℕ) → 2 ^ 256 ≤ s → judged key e r s ≡ Bad
bad_by_second key e r s large = judged_bad key e r s (refused_by_second key e r s (no_scalar s large))
