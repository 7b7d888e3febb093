-- The check of a signature, case by case.
use Rattle.std.proofs.Common.{◌≡◌, ℕ, ◌*◌, ◌%◌, ◌∙◌, ap, sym, refl, cond, ◌&&◌, true, false}
use Rattle.std.proofs.lemmas.Bool.{and_from, and_left, and_right}
use Rattle.def_curve.specs.Modular.{inverse}
use Rattle.def_curve.specs.Curve.{n}
use Rattle.def_curve.specs.Point.{Point, ◌⊕◌, times, generator}
use Rattle.def_curve.specs.Ecdsa.{is_scalar, has_x, sum_of, is_signature_by}

by_tests : (key : Point) (e r s : ℕ) → is_signature_by key e r s ≡ cond (is_scalar r && is_scalar s) (has_x (sum_of key e r s) r) false
unfolding is_signature_by
by_tests key e r s = refl

sum_step : (key : Point) (e r s : ℕ) → sum_of key e r s ≡ times (e * inverse n s % n) generator ⊕ times (r * inverse n s % n) key
unfolding sum_of
sum_step key e r s = refl

pub refused_by_first : (key : Point) (e r s : ℕ) → is_scalar r ≡ false → is_signature_by key e r s ≡ false
refused_by_first key e r s no_scalar = by_tests key e r s ∙ ap (λ b. cond b (has_x (sum_of key e r s) r) false) (and_left (is_scalar r) (is_scalar s) no_scalar)

pub refused_by_second : (key : Point) (e r s : ℕ) → is_scalar s ≡ false → is_signature_by key e r s ≡ false
refused_by_second key e r s no_scalar = by_tests key e r s ∙ ap (λ b. cond b (has_x (sum_of key e r s) r) false) (and_right (is_scalar r) (is_scalar s) no_scalar)

-- with w, u and v as ECDSA has them
pub judged_by_sum : (key : Point) (e r s w u v : ℕ) → is_scalar r ≡ true → is_scalar s ≡ true → w ≡ inverse n s → u ≡ e * w % n → v ≡ r * w % n
    → is_signature_by key e r s ≡ has_x (times u generator ⊕ times v key) r
judged_by_sum key e r s w u v first second w_is u_is v_is =
    by_tests key e r s ∙ ap (λ b. cond b (has_x (sum_of key e r s) r) false) (and_from (is_scalar r) (is_scalar s) first second)
    ∙ ap (λ (Q : Point). has_x Q r) (whole ∙ ap (λ z. times z generator ⊕ times (r * inverse n s % n) key) (back_u) ∙ ap (λ z. times u generator ⊕ times z key) back_v)
  where
    whole : sum_of key e r s ≡ times (e * inverse n s % n) generator ⊕ times (r * inverse n s % n) key
    whole = sum_step key e r s

    back_u : e * inverse n s % n ≡ u
    back_u = ap (λ z. e * z % n) (sym w_is) ∙ sym u_is

    back_v : r * inverse n s % n ≡ v
    back_v = ap (λ z. r * z % n) (sym w_is) ∙ sym v_is
