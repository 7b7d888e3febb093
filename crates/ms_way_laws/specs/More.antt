-- What is enough stays enough with more.
use Rattle.std.specs.Prelude.{◌≡◌, ℕ, true, IfSome}
use Rattle.def_hash.specs.declared.HashKind.{HashKind}
use Rattle.def_script.specs.Bytes.{Bytes}
use Rattle.def_tree.specs.Tree.{Key}
use Rattle.def_policy.specs.Policy.{Policy}
use Rattle.def_policy.specs.Size.{IsLock, HasLocks}
use Rattle.def_policy.specs.Truth.{Facts, is_true}
use Rattle.def_ways.specs.Offer.{Offer, IsDelay, IsMoment, no_more}
use Rattle.def_ways.specs.Enough.{meets}

-- the atoms that are true of the first are true of the second, of locks in range
pub record AreMore (few many : Facts) : Type 0 where
  pub signs : (key : Key) → few.signs key ≡ true → many.signs key ≡ true
  pub older : (n : ℕ) → IsLock n → few.older n ≡ true → many.older n ≡ true
  pub after : (n : ℕ) → IsLock n → few.after n ≡ true → many.after n ≡ true
  pub knows : (kind : HashKind) (value : Bytes) → few.knows kind value ≡ true → many.knows kind value ≡ true

-- a policy that is true stays true where more atoms are
abbrev pub TrueWithMore : Type 0
TrueWithMore = (few many : Facts) (policy : Policy) → HasLocks policy → AreMore few many → is_true few policy ≡ true → is_true many policy ≡ true

-- the locks of an offer are in range
abbrev pub AreInRange : Offer → Type 0
AreInRange offer = IfSome offer.delay IsDelay × IfSome offer.moment IsMoment

-- a policy that an offer meets is met by each that is no less
abbrev pub MoreMeet : Type 0
MoreMeet =
    (policy : Policy) (few many : Offer) → HasLocks policy → AreInRange few → AreInRange many → no_more few many ≡ true →
    meets policy few ≡ true → meets policy many ≡ true
