-- The signatures of an input that count.
use Rattle.std.proofs.Common.{◌≡◌, Bool, true, false, [], ◌∷◌, filter, Contains, inl, inr, refl}
use Rattle.std.specs.List.{AllByRecursion, IsDistinct}
use Rattle.std.proofs.lemmas.Bool.{cases_Bool}
use Rattle.def_script.specs.Bytes.{Bytes}
use Rattle.def_machine.specs.Stacks.{Pairs}
use Rattle.def_assets.specs.Assets.{same_key}
use Rattle.def_spend.specs.declared.Verification.{Verification}
use Rattle.def_spend.specs.declared.Verification.TheVariants.{Verified, Unverified}
use Rattle.def_spend.specs.Fields.{signatures_in}
use Rattle.def_spend.specs.Input.{Spend}
use Rattle.def_spend.specs.Good.{word_of, is_good, counted_by}
use Rattle.ms_spend_laws.proofs.Mixed.{passed_is, is_passed}

-- whether a signature counts
abbrev pub is_counted : Verification → Spend → Bytes × Bytes → Bool
is_counted Verified spend pair = is_good (word_of spend pair)
is_counted Unverified spend pair = true

-- one that counts is in the map
pub counted_is : (verification : Verification) (spend : Spend) (pair : Bytes × Bytes) → Contains (counted_by verification spend) pair
    → Contains (signatures_in spend.fields) pair × (is_counted verification spend pair ≡ true)
counted_is Verified spend pair i = passed_is (λ p. is_good (word_of spend p)) (signatures_in spend.fields) pair i
counted_is Unverified spend pair i = (i, refl)

pub is_in_counted : (verification : Verification) (spend : Spend) (pair : Bytes × Bytes) → Contains (signatures_in spend.fields) pair
    → is_counted verification spend pair ≡ true → Contains (counted_by verification spend) pair
is_in_counted Verified spend pair i e = is_passed (λ p. is_good (word_of spend p)) (signatures_in spend.fields) pair i e
is_in_counted Unverified spend pair i e = i

pub counted_among : (verification : Verification) (spend : Spend) (pair : Bytes × Bytes) → Contains (counted_by verification spend) pair → Contains (signatures_in spend.fields) pair
counted_among verification spend pair i = (counted_is verification spend pair i).0

-- ---- no key signs twice

others_differ : (test : Bytes × Bytes → Bool) (first : Bytes × Bytes) (pairs : Pairs) → AllByRecursion (λ other. same_key first other ≡ false) pairs
    → AllByRecursion (λ other. same_key first other ≡ false) (filter test pairs)
others_differ test first [] h = tt
others_differ test first (pair ∷ pairs) h =
    let rest = others_differ test first pairs h.1 in
    elim (cases_Bool (test pair)) [ inl e ↦ rw e (h.0, rest) | inr e ↦ rw e rest ]

some_distinct : (test : Bytes × Bytes → Bool) (pairs : Pairs) → IsDistinct same_key pairs → IsDistinct same_key (filter test pairs)
unfolding IsDistinct
some_distinct test [] h = tt
some_distinct test (pair ∷ pairs) h =
    let rest = some_distinct test pairs h.1 in
    elim (cases_Bool (test pair)) [ inl e ↦ rw e (others_differ test pair pairs h.0, rest) | inr e ↦ rw e rest ]

pub counted_distinct : (verification : Verification) (spend : Spend) → IsDistinct same_key (signatures_in spend.fields) → IsDistinct same_key (counted_by verification spend)
counted_distinct Verified spend h = some_distinct (λ pair. is_good (word_of spend pair)) (signatures_in spend.fields) h
counted_distinct Unverified spend h = h
