-- The signature of a key is held with it, and no longer than any that is.
use Rattle.std.proofs.Common.{◌≡◌, ◌≤◌, nat_lt, Bool, true, false, List, [], ◌∷◌, length, map, filter, Contains, Option, Some, None, IsSome, refl, sym, ◌∙◌, ap, ◌⊎◌, inl, inr, arith, if◌then◌else◌}
use Rattle.std.specs.Str.{bytes_eq}
use Rattle.std.proofs.lemmas.Bool.{false≢true}
use Rattle.std.proofs.lemmas.Bool.Decides.{nat_tests}
use Rattle.std.proofs.lemmas.Option.{none-some, same_Some}
use Rattle.std.proofs.lemmas.List.Elements.{Contains-append_right, Contains-append_cases, Contains-push_cases}
use Rattle.std.proofs.lemmas.Slice.Eq.{bytes_eq-Decides}
use Rattle.def_script.specs.Bytes.{Bytes}
use Rattle.def_machine.specs.Stacks.{Pairs}
use Rattle.def_assets.specs.Assets.{sigs_with, shorter, shortest, sig_of}
use Rattle.def_assets.specs.Laws.{SignatureIsShortest, SignatureIsFound}

-- ---- the shorter of two

one_of_two : (former : Bytes) (latter : Option Bytes) (sig : Bytes) → shorter former latter ≡ sig → (former ≡ sig) ⊎ (latter ≡ Some sig)
one_of_two former None sig h = inl h
one_of_two former (Some latter) sig h = go (nat_lt (length latter) (length former)) h
  where
    go : (test : Bool) → (if test then latter else former) ≡ sig → (former ≡ sig) ⊎ (Some latter ≡ Some sig)
    go true e = inr (ap Some e)
    go false e = inl e

within_former : (former : Bytes) (latter : Option Bytes) → length (shorter former latter) ≤ length former
within_former former None = omega arith
within_former former (Some latter) = go (nat_lt (length latter) (length former)) refl
  where
    go : (test : Bool) → nat_lt (length latter) (length former) ≡ test → length (if test then latter else former) ≤ length former
    go true e = grind (arith, nat_tests)
    go false e = omega arith

within_latter : (former : Bytes) (latter : Option Bytes) (sig : Bytes) → latter ≡ Some sig → length (shorter former latter) ≤ length sig
within_latter former None sig h = absurd (none-some sig h)
within_latter former (Some latter) sig h = go (nat_lt (length latter) (length former)) refl (ap length (same_Some latter sig h))
  where
    go : (test : Bool) → nat_lt (length latter) (length former) ≡ test → length latter ≡ length sig → length (if test then latter else former) ≤ length sig
    go true e same = omega (arith, same)
    go false e same = grind (arith, nat_tests)

-- ---- pairs of a table

pub no_pair : (pair : Bytes × Bytes) → Contains [] pair → ⊥
no_pair pair h = let l = h.1 in omega arith

pub first_or_later : (pair : Bytes × Bytes) (pairs : Pairs) (other : Bytes × Bytes) → Contains (pair ∷ pairs) other → (pair ≡ other) ⊎ Contains pairs other
first_or_later pair pairs other h =
    elim (Contains-append_cases (pair ∷ []) pairs other h) [
      | inl i ↦ elim (Contains-push_cases [] pair other i) [ inl n ↦ absurd (no_pair other n) | inr e ↦ inl e ]
      | inr i ↦ inr i
    ]

-- what is found with a key is held with it
pub found_is_held : (pairs : Pairs) (key sig : Bytes) → shortest (sigs_with pairs key) ≡ Some sig → Contains pairs (key, sig)
found_is_held [] key sig h = absurd (none-some sig h)
found_is_held (pair ∷ pairs) key sig h = go (bytes_eq pair.0 key) refl h (found_is_held pairs key sig)
  where
    later : Contains pairs (key, sig) → Contains (pair ∷ pairs) (key, sig)
    later i = Contains-append_right (pair ∷ []) pairs (key, sig) i

    go : (test : Bool) → bytes_eq pair.0 key ≡ test →
        shortest (map (λ p. p.1) (if test then pair ∷ filter (λ p. bytes_eq p.0 key) pairs else filter (λ p. bytes_eq p.0 key) pairs)) ≡ Some sig →
        (shortest (sigs_with pairs key) ≡ Some sig → Contains pairs (key, sig)) → Contains (pair ∷ pairs) (key, sig)
    go true e k more =
        elim (one_of_two pair.1 (shortest (sigs_with pairs key)) sig (same_Some _ sig k)) [
          | inl same ↦ (0, omega arith, ap (λ x. (x, pair.1)) ((bytes_eq-Decides pair.0 key).0 e) ∙ ap (λ x. (key, x)) same)
          | inr found ↦ later (more found)
        ]
    go false e k more = later (more k)

-- beside what is held with a key something is found that isn't longer
pub held_is_found : (pairs : Pairs) (key sig : Bytes) → Contains pairs (key, sig) → (found : Bytes) × (shortest (sigs_with pairs key) ≡ Some found) × (length found ≤ length sig)
held_is_found [] key sig h = absurd (no_pair (key, sig) h)
held_is_found (pair ∷ pairs) key sig h =
    elim (first_or_later pair pairs (key, sig) h) [
      | inl e ↦ first (bytes_eq pair.0 key) ((bytes_eq-Decides pair.0 key).1 (ap (λ p. p.0) e)) (ap (λ p. length p.1) e)
      | inr i ↦ later (bytes_eq pair.0 key) (held_is_found pairs key sig i)
    ]
  where
    others : List (Bytes × Bytes)
    others = filter (λ p. bytes_eq p.0 key) pairs

    first : (test : Bool) → test ≡ true → length pair.1 ≡ length sig →
        (found : Bytes) × (shortest (map (λ p. p.1) (if test then pair ∷ others else others)) ≡ Some found) × (length found ≤ length sig)
    first true e same =
        let l = within_former pair.1 (shortest (sigs_with pairs key)) in
        (shorter pair.1 (shortest (sigs_with pairs key)), refl, omega (arith, l, same))
    first false e same = absurd (false≢true e)

    later : (test : Bool) → (found : Bytes) × (shortest (sigs_with pairs key) ≡ Some found) × (length found ≤ length sig) →
        (found : Bytes) × (shortest (map (λ p. p.1) (if test then pair ∷ others else others)) ≡ Some found) × (length found ≤ length sig)
    later true more =
        let l = within_latter pair.1 (shortest (sigs_with pairs key)) more.0 more.1 in
        let m = more.2 in
        (shorter pair.1 (shortest (sigs_with pairs key)), refl, omega (arith, l, m))
    later false more = more

-- ---- the laws

pub signature_is_shortest : SignatureIsShortest
signature_is_shortest assets key sig h = (
  found_is_held assets.pairs key sig h,
  λ other i.
      let found = held_is_found assets.pairs key other i in
      let same : length found.0 ≡ length sig = ap length (same_Some found.0 sig (sym found.1 ∙ h)) in
      let l = found.2 in
      omega (arith, same, l),
)

some_of : (o : Option Bytes) → IsSome o → (sig : Bytes) × (o ≡ Some sig)
some_of None h = absurd (false≢true h)
some_of (Some sig) h = (sig, refl)

pub signature_is_found : SignatureIsFound
signature_is_found assets key = (
  λ some. let sig = some_of (sig_of assets key) some in (sig.0, found_is_held assets.pairs key sig.0 sig.1),
  λ held. let found = held_is_found assets.pairs key held.0 held.1 in rw found.1 refl,
)
