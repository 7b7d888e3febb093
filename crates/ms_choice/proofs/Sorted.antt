-- Sorted slots: the first ones are those that stand at or before the last of them.
use Rattle.std.proofs.Common.{◌≡◌, ℕ, zero, suc, ◌-◌, ◌<◌, ◌≤◌, true, false, List, [], ◌∷◌, Option, Some, None, length, get_or, take, drop, refl, ◌∙◌, ap, subst, inr, All, arith, add-one, if◌then◌else◌}
use Rattle.std.proofs.Common.{Ordering}
use Rattle.std.specs.Prelude.{ℤ, pos, nat_eq, IsSorted}
use Rattle.std.specs.Ordering.{int_cmp, nat_cmp, ordering_then, is_lt}
use Rattle.std.specs.Cmp.{int_ranks}
use Rattle.std.proofs.lemmas.Int.{ints}
use Rattle.std.proofs.lemmas.Bool.Decides.{nat_tests}
use Rattle.std.specs.List.{slice_get}
use Rattle.std.proofs.lemmas.List.{length-take-le, get_or-take}
use Rattle.std.proofs.lemmas.Option.{slice_get-get_or}
use Rattle.std.proofs.lemmas.List.Elements.{All-nil, All-cons, All-head, All-tail, All-weaker}
use Rattle.ms_choice.specs.declared.slot.Slot.{Slot}
use Rattle.ms_choice.specs.Sums.{total}
use Rattle.ms_choice.proofs.Totals.{total_split}
use Rattle.ms_choice.specs.Marks.{is_within}
use Rattle.ms_choice.proofs.Marks.{where_within, Within, within_decides}

-- the derived order of slots
abbrev pub slot_cmp : Slot → Slot → Ordering
slot_cmp x y = ordering_then (int_cmp x.first y.first) (ordering_then (nat_cmp x.place y.place) (ordering_then (int_cmp x.second y.second) (int_cmp x.third y.third)))

-- x stands at or before y
abbrev IsBefore : Slot → Slot → Type 0
IsBefore x y = Within y x.first x.place

not_less : (x y : Slot) → is_lt (slot_cmp y x) ≡ false → IsBefore x y
not_less x y e = grind (arith, ints, nat_tests, int_ranks y.first x.first)

before_trans : (x y z : Slot) → IsBefore x y → IsBefore y z → IsBefore x z
before_trans x y z h k = grind (arith, ints)

abbrev Neighbours : List Slot → Type 0
Neighbours ys = (k : ℕ) (d : Slot) → suc k < length ys → IsBefore (get_or ys k d) (get_or ys (suc k) d)

neighbours : (ys : List Slot) → IsSorted slot_cmp ys → Neighbours ys
neighbours ys sorted k d h =
    not_less (get_or ys k d) (get_or ys (suc k) d)
    (let P : ℕ → Type 0 = λ j. is_lt (slot_cmp (get_or ys j d) (get_or ys k d)) ≡ false in subst P (add-one k) (sorted k d (omega arith) (omega (arith, h))))

-- a slot is before all that follow
all_after : (x : Slot) (ys : List Slot) → Neighbours (x ∷ ys) → All (IsBefore x) ys
all_after x [] n = All-nil (IsBefore x)
all_after x (y ∷ ys) n =
    let here : IsBefore x y = n zero x (omega arith) in
    All-cons (IsBefore x) y ys here (All-weaker (IsBefore y) (IsBefore x) (λ z h. before_trans x y z here h) ys (all_after y ys (λ k d h. n (suc k) d (omega (arith, h)))))

-- 1 for the same place
abbrev pub same : (this place : ℕ) → ℕ
same this place = if nat_eq this place then 1 else 0

-- no two slots have one place
abbrev pub at_place : (place : ℕ) → Slot → ℕ
at_place place slot = same slot.place place

abbrev pub Apart : List Slot → Type 0
Apart ys = (place : ℕ) → total (at_place place) ys ≤ 1

at_same : (p q : ℕ) → p ≡ q → same p q ≡ 1
at_same p q e = grind (arith, nat_tests)

apart_tail : (x : Slot) (ys : List Slot) → Apart (x ∷ ys) → Apart ys
apart_tail x ys apart place = let h = apart place in omega (arith, h)

apart_head : (x : Slot) (ys : List Slot) → Apart (x ∷ ys) → All (λ y. y.place ≡ x.place → ⊥) ys
apart_head x ys apart = go ys (let h = apart x.place in let e = at_same x.place x.place refl in omega (arith, h, e))
  where
    go : (zs : List Slot) → total (at_place x.place) zs ≤ 0 → All (λ y. y.place ≡ x.place → ⊥) zs
    go [] none = All-nil (λ y. y.place ≡ x.place → ⊥)
    go (z ∷ zs) none =
        All-cons (λ y. y.place ≡ x.place → ⊥) z zs (λ e. let one = at_same z.place x.place e in omega (arith, none, one)) (go zs (omega (arith, none)))

abbrev In : Slot → Slot → Type 0
In last slot = is_within (Some last) slot.first slot.place ≡ true

abbrev Out : Slot → Slot → Type 0
Out last slot = is_within (Some last) slot.first slot.place ≡ false

after_out : (last y : Slot) → IsBefore last y → (y.place ≡ last.place → ⊥) → Out last y
after_out last y h apart = grind (arith, ints, nat_tests)

-- the last of the first n + 1 slots divides them from the others
pub record Divides (n : ℕ) (last : Slot) (ys : List Slot) : Type 0 where
  pub front : All (In last) (take (suc n) ys)
  pub back : All (Out last) (drop (suc n) ys)

divides_by : (n : ℕ) (d : Slot) (ys : List Slot) → Neighbours ys → Apart ys → n < length ys → Divides n (get_or ys n d) ys
divides_by n d [] near apart h = absurd (omega (arith, h))
divides_by zero d (x ∷ ys) near apart h = record {
  front = All-cons (In x) x [] ((within_decides x x.first x.place).1 (inr (refl, omega arith))) (All-nil (In x));
  back =
      λ k e below.
      after_out x (get_or ys k e) (all_after x ys near k e below) (apart_head x ys apart k e below);
}
divides_by (suc n) d (x ∷ ys) near apart h =
    let short : n < length ys = omega (arith, h) in
    let r = divides_by n d ys (λ k e g. near (suc k) e (omega (arith, g))) (apart_tail x ys apart) short in
    record {
      front = All-cons (In (get_or ys n d)) x (take (suc n) ys) ((within_decides (get_or ys n d) x.first x.place).1 (all_after x ys near n d short)) r.front;
      back = r.back;
    }

pub divides : (n : ℕ) (d : Slot) (ys : List Slot) → IsSorted slot_cmp ys → Apart ys → n < length ys → Divides n (get_or ys n d) ys
divides n d ys sorted apart h = divides_by n d ys (neighbours ys sorted) apart h

-- a sum over the slots that stand at or before the last one
abbrev pub passing : (last : Option Slot) → (ℤ → ℕ) → List Slot → ℕ
passing last f ys = total (λ s. where_within last f s.first s.place) ys

passing_in : (last : Slot) (f : ℤ → ℕ) (ys : List Slot) → All (In last) ys → passing (Some last) f ys ≡ total (λ s. f s.first) ys
passing_in last f [] all = refl
passing_in last f (y ∷ ys) all = rw (All-head (In last) y ys all, passing_in last f ys (All-tail (In last) y ys all))

passing_out : (last : Slot) (f : ℤ → ℕ) (ys : List Slot) → All (Out last) ys → passing (Some last) f ys ≡ 0
passing_out last f [] all = refl
passing_out last f (y ∷ ys) all = rw (All-head (Out last) y ys all) (omega (arith, passing_out last f ys (All-tail (Out last) y ys all)))

pub passing_front : (n : ℕ) (last : Slot) (f : ℤ → ℕ) (ys : List Slot) → Divides n last ys → passing (Some last) f ys ≡ total (λ s. f s.first) (take (suc n) ys)
passing_front n last f ys r =
    let split = total_split (λ s. where_within (Some last) f s.first s.place) (suc n) ys in
    omega (arith, split, passing_in last f (take (suc n) ys) r.front, passing_out last f (drop (suc n) ys) r.back)

pub passing_none : (f : ℤ → ℕ) (ys : List Slot) → passing None f ys ≡ 0
passing_none f [] = refl
passing_none f (y ∷ ys) = let h = passing_none f ys in omega (arith, h)

pub total_ones : (ys : List Slot) → total (λ s. 1) ys ≡ length ys
total_ones [] = refl
total_ones (y ∷ ys) = let h = total_ones ys in omega (arith, h)

-- where the last one is that of the first m slots, these are the slots that stand at or before it
pub front_of : (m : ℕ) (ys : List Slot) (last : Option Slot) → IsSorted slot_cmp ys → Apart ys → m ≤ length ys
    → last ≡ slice_get (take m ys) (length (take m ys) - 1) → (f : ℤ → ℕ) → passing last f ys ≡ total (λ s. f s.first) (take m ys)
front_of zero ys last sorted apart enough is f =
    let none : last ≡ None = is in
    ap (λ l. passing l f ys) none ∙ passing_none f ys
front_of (suc n) ys last sorted apart enough is f =
    let d : Slot = record { first = pos 0; place = 0; second = pos 0; third = pos 0 } in
    let long : length (take (suc n) ys) ≡ suc n = length-take-le (suc n) ys enough in
    let at : length (take (suc n) ys) - 1 ≡ n = omega (arith, long) in
    let got : last ≡ Some (get_or ys n d) =
    is ∙ ap (slice_get (take (suc n) ys)) at ∙
    slice_get-get_or (take (suc n) ys) n d (omega (arith, long)) ∙
    ap Some (get_or-take (suc n) ys n d (omega arith))
    in
    ap (λ l. passing l f ys) got ∙ passing_front n (get_or ys n d) f ys (divides n d ys sorted apart (omega (arith, enough)))
