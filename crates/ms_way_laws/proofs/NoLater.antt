-- Locks that are no later than others, and the greatest of some that is.
use Rattle.std.proofs.Common.{◌≡◌, inl, inr, ℕ, nat_le, Bool, true, false, List, [], ◌∷◌, Option, Some, None, refl, sym, ◌∙◌, ap, subst, arith}
use Rattle.std.proofs.lemmas.Bool.{cases_Bool, false≢true}
use Rattle.std.proofs.lemmas.Bool.Decides.{nat_tests}
use Rattle.def_ways.specs.declared.Delay.{Delay}
use Rattle.def_ways.specs.declared.Delay.TheVariants.{Blocks, Units}
use Rattle.def_ways.specs.declared.Moment.{Moment}
use Rattle.def_ways.specs.declared.Moment.TheVariants.{Height, Time}
use Rattle.def_ways.specs.Offer.{no_later, no_later_moment}
use Rattle.def_ways.specs.Tried.{or_none}
use Rattle.ms_way_laws.specs.Listed.{In}
use Rattle.ms_way_laws.proofs.More.{later, later_moment}

-- an order of locks, by which a lock or none is no later than another one
pub record AreLocks (X : Type 0) (before : Option X → Option X → Bool) : Type 0 where
  pub none_first : (d : Option X) → before None d ≡ true
  pub own : (d : Option X) → before d d ≡ true
  pub through : (c d e : Option X) → before c d ≡ true → before d e ≡ true → before c e ≡ true
  pub both_ways : (c d : Option X) → before c d ≡ true → before d c ≡ true → c ≡ d
  -- of two that are no later than a third one is no later than the other
  pub one_unit : (c d e : Option X) → before c e ≡ true → before d e ≡ true → before c d ≡ false → before d c ≡ true

le_own : (n : ℕ) → nat_le n n ≡ true
le_own n = grind (arith, nat_tests)

le_same : (n m : ℕ) → nat_le n m ≡ true → nat_le m n ≡ true → n ≡ m
le_same n m h k = grind (arith, nat_tests)

le_other : (n m : ℕ) → nat_le n m ≡ false → nat_le m n ≡ true
le_other n m h = grind (arith, nat_tests)

le_through : (n m k : ℕ) → nat_le n m ≡ true → nat_le m k ≡ true → nat_le n k ≡ true
le_through n m k h i = grind (arith, nat_tests)

pub delays_are : AreLocks Delay no_later
delays_are = record { none_first = λ d. refl; own = own; through = through; both_ways = both; one_unit = one }
  where
    own : (d : Option Delay) → no_later d d ≡ true
    own None = refl
    own (Some (Blocks n)) = le_own n
    own (Some (Units n)) = le_own n

    through : (c d e : Option Delay) → no_later c d ≡ true → no_later d e ≡ true → no_later c e ≡ true
    through None d e h k = refl
    through (Some x) d e h k = later x d e h k

    both : (c d : Option Delay) → no_later c d ≡ true → no_later d c ≡ true → c ≡ d
    both None None h k = refl
    both None (Some (Blocks n)) h k = absurd (false≢true k)
    both None (Some (Units n)) h k = absurd (false≢true k)
    both (Some (Blocks n)) None h k = absurd (false≢true h)
    both (Some (Units n)) None h k = absurd (false≢true h)
    both (Some (Blocks n)) (Some (Blocks m)) h k = ap (λ n. Some (Blocks n)) (le_same n m h k)
    both (Some (Units n)) (Some (Units m)) h k = ap (λ n. Some (Units n)) (le_same n m h k)
    both (Some (Blocks n)) (Some (Units m)) h k = absurd (false≢true h)
    both (Some (Units n)) (Some (Blocks m)) h k = absurd (false≢true h)

    one : (c d e : Option Delay) → no_later c e ≡ true → no_later d e ≡ true → no_later c d ≡ false → no_later d c ≡ true
    one None d e h k l = absurd (false≢true (sym l))
    one (Some x) None e h k l = refl
    one (Some (Blocks n)) (Some (Blocks m)) e h k l = le_other n m l
    one (Some (Units n)) (Some (Units m)) e h k l = le_other n m l
    one (Some (Blocks n)) (Some (Units m)) None h k l = absurd (false≢true h)
    one (Some (Blocks n)) (Some (Units m)) (Some (Blocks i)) h k l = absurd (false≢true k)
    one (Some (Blocks n)) (Some (Units m)) (Some (Units i)) h k l = absurd (false≢true h)
    one (Some (Units n)) (Some (Blocks m)) None h k l = absurd (false≢true h)
    one (Some (Units n)) (Some (Blocks m)) (Some (Blocks i)) h k l = absurd (false≢true h)
    one (Some (Units n)) (Some (Blocks m)) (Some (Units i)) h k l = absurd (false≢true k)

pub moments_are : AreLocks Moment no_later_moment
moments_are = record { none_first = λ d. refl; own = own; through = through; both_ways = both; one_unit = one }
  where
    own : (d : Option Moment) → no_later_moment d d ≡ true
    own None = refl
    own (Some (Height n)) = le_own n
    own (Some (Time n)) = le_own n

    through : (c d e : Option Moment) → no_later_moment c d ≡ true → no_later_moment d e ≡ true → no_later_moment c e ≡ true
    through None d e h k = refl
    through (Some x) d e h k = later_moment x d e h k

    both : (c d : Option Moment) → no_later_moment c d ≡ true → no_later_moment d c ≡ true → c ≡ d
    both None None h k = refl
    both None (Some (Height n)) h k = absurd (false≢true k)
    both None (Some (Time n)) h k = absurd (false≢true k)
    both (Some (Height n)) None h k = absurd (false≢true h)
    both (Some (Time n)) None h k = absurd (false≢true h)
    both (Some (Height n)) (Some (Height m)) h k = ap (λ n. Some (Height n)) (le_same n m h k)
    both (Some (Time n)) (Some (Time m)) h k = ap (λ n. Some (Time n)) (le_same n m h k)
    both (Some (Height n)) (Some (Time m)) h k = absurd (false≢true h)
    both (Some (Time n)) (Some (Height m)) h k = absurd (false≢true h)

    one : (c d e : Option Moment) → no_later_moment c e ≡ true → no_later_moment d e ≡ true → no_later_moment c d ≡ false → no_later_moment d c ≡ true
    one None d e h k l = absurd (false≢true (sym l))
    one (Some x) None e h k l = refl
    one (Some (Height n)) (Some (Height m)) e h k l = le_other n m l
    one (Some (Time n)) (Some (Time m)) e h k l = le_other n m l
    one (Some (Height n)) (Some (Time m)) None h k l = absurd (false≢true h)
    one (Some (Height n)) (Some (Time m)) (Some (Height i)) h k l = absurd (false≢true k)
    one (Some (Height n)) (Some (Time m)) (Some (Time i)) h k l = absurd (false≢true h)
    one (Some (Time n)) (Some (Height m)) None h k l = absurd (false≢true h)
    one (Some (Time n)) (Some (Height m)) (Some (Height i)) h k l = absurd (false≢true h)
    one (Some (Time n)) (Some (Height m)) (Some (Time i)) h k l = absurd (false≢true k)

module _ {X : Type 0} (before : Option X → Option X → Bool) (are : AreLocks X before) where
  -- a lock, lowered to the greatest of some that is no later
  pub record IsLowered (xs : List X) (d low : Option X) : Type 0 where
    pub listed : In low (or_none xs)
    pub lower : before low d ≡ true
    pub greatest : (x : X) → In x xs → before (Some x) d ≡ true → before (Some x) low ≡ true

  pub lowered : (xs : List X) (d : Option X) → (low : Option X) × IsLowered xs d low
  lowered [] d = (None, record { listed = inl refl; lower = are.none_first d; greatest = λ x h e. absurd h })
  lowered (x ∷ xs) d = go (lowered xs d)
    where
      more : (low : Option X) → In low (or_none xs) → In low (or_none (x ∷ xs))
      more low (inl e) = inl e
      more low (inr h) = inr (inr h)

      go : ((low : Option X) × IsLowered xs d low) → (low : Option X) × IsLowered (x ∷ xs) d low
      go r = elim (cases_Bool (before (Some x) d)) [
        | inl e ↦ elim (cases_Bool (before (Some x) r.0)) [
          | inl f ↦ (
            r.0,
            record {
              listed = more r.0 r.1.listed;
              lower = r.1.lower;
              greatest = λ y h k. elim h [
                | inl same ↦ subst (λ y. before (Some y) r.0 ≡ true) (sym same) f
                | inr i ↦ r.1.greatest y i k
              ];
            },
          )
          | inr f ↦ (
            Some x,
            record {
              listed = inr (inl refl);
              lower = e;
              greatest = λ y h k. elim h [
                | inl same ↦ subst (λ y. before (Some y) (Some x) ≡ true) (sym same) (are.own (Some x))
                | inr i ↦ are.through (Some y) r.0 (Some x) (r.1.greatest y i k) (are.one_unit (Some x) r.0 d e r.1.lower f)
              ];
            },
          )
        ]
        | inr f ↦ (
          r.0,
          record {
            listed = more r.0 r.1.listed;
            lower = r.1.lower;
            greatest = λ y h k. elim h [
              | inl same ↦ absurd (false≢true (sym f ∙ subst (λ y. before (Some y) d ≡ true) same k))
              | inr i ↦ r.1.greatest y i k
            ];
          },
        )
      ]
