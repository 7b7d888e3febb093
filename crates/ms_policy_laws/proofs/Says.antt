-- A truth value that says whether a set of stacks has one.
use Rattle.std.proofs.Common.{◌≡◌, Bool, true, false, ◌&&◌, ◌||◌, [], ◌∷◌, ◌⊎◌, inl, inr, refl}
use Rattle.std.proofs.Math.Bool.{or-true}
use Rattle.std.proofs.lemmas.Bool.{false≢true, and_parts, or_cases}
use Rattle.def_script.specs.Bytes.{Bytes}
use Rattle.def_satisfaction.specs.StackSet.{StackSet, Is, Both}
use Rattle.def_choice.specs.Tight.{HasOne}
use Rattle.ms_row_laws.proofs.UniqueDissatisfaction.{one_both}

-- it is true exactly where there is a stack of the set
pub record Says (b : Bool) (P : StackSet) : Type 0 where
  pub to : b ≡ true → HasOne P
  pub from : HasOne P → b ≡ true

-- both of two are true, or one is
pub both_true : (a b : Bool) → a ≡ true → b ≡ true → (a && (b && true)) ≡ true
both_true a b e f = rw (e, f)

pub either_left : (a b : Bool) → a ≡ true → (a || (b || false)) ≡ true
either_left a b e = rw e

pub either_right : (a b : Bool) → b ≡ true → (a || (b || false)) ≡ true
either_right a b e = rw e (or-true a)

-- a stack of each of two sets
pub says_both : (a b : Bool) (P Q : StackSet) → Says a P → Says b Q → Says (a && (b && true)) (Both Q P)
says_both a b P Q p q = record {
  to = λ e.
      let one = and_parts a (b && true) e in
      one_both Q P (q.to (and_parts b true one.1).0) (p.to one.0);
  from = λ w. both_true a b (p.from (w.1.1, w.1.3)) (q.from (w.1.0, w.1.2));
}

-- a stack of one of two sets: each stack of either gives one of the whole, and each one of the whole is had from one of these
pub says_either : (a b : Bool) (P Q R : StackSet) → Says a P → Says b Q → (HasOne P → HasOne R) → (HasOne Q → HasOne R) →
    (HasOne R → HasOne P ⊎ HasOne Q) → Says (a || (b || false)) R
says_either a b P Q R p q left right back = record {
  to = λ e. elim (or_cases a (b || false) e) [
    | inl x ↦ left (p.to x)
    | inr y ↦ elim (or_cases b false y) [ inl z ↦ right (q.to z) | inr z ↦ absurd (false≢true z) ]
  ];
  from = λ w. elim (back w) [ inl x ↦ either_left a b (p.from x) | inr y ↦ either_right a b (q.from y) ];
}

-- a stack with one item on top of it
pub says_below : (a : Bool) (P : StackSet) (item : Bytes) → Says a P → Says a (Both P (Is item))
says_below a P item p = record {
  to = λ e. one_both P (Is item) (p.to e) (item ∷ [], refl);
  from = λ w. p.from (w.1.0, w.1.2);
}
