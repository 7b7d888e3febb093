-- What is least of all is least in its setting, and too little in those just below it.
use Rattle.std.proofs.Common.{◌≡◌, inl, inr, Bool, true, sym, ◌∙◌, subst}
use Rattle.std.proofs.lemmas.Bool.{cases_Bool, false≢true}
use Rattle.ms_way_laws.specs.Parts.{AreSettings, IsLeastOfAll, IsLeastHere}

module _ (S A : Type 0) (IsEarlier IsJustBelow : S → S → Type 0) (IsWithin : A → A → Type 0) (holds : S → A → Bool)
    (are : AreSettings S A IsEarlier IsJustBelow IsWithin holds) where
  pub least_here : (s : S) (a : A) → IsLeastOfAll S A IsEarlier IsWithin holds s a → IsLeastHere S A IsJustBelow IsWithin holds s a
  least_here s a l = (
    l.0,
    (λ b is_within held. (l.1 s b (are.same s) is_within held).1),
    (λ t below. elim (cases_Bool (holds t a)) [
      | inl e ↦ absurd (are.other t s below (l.1 t a (are.earlier t s below) (are.within a) e).0)
      | inr e ↦ e
    ]),
  )

  pub least_of_all : (s : S) (a : A) → IsLeastHere S A IsJustBelow IsWithin holds s a → IsLeastOfAll S A IsEarlier IsWithin holds s a
  least_of_all s a h = (
    h.0,
    λ t b earlier is_within held. elim (are.steps t s earlier) [
      | inl same ↦ (same, h.1 b is_within (subst (λ t. holds t b ≡ true) same held))
      | inr u ↦ absurd (false≢true (sym (h.2 u.0 u.2) ∙ are.more t u.0 b a u.1 is_within held))
    ],
  )
