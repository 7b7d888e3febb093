-- A choice by a mark is the lightest one, and of several the first.
use Rattle.std.proofs.Common.{◌≡◌, ℕ, zero, suc, ◌+◌, ◌*◌, ◌<◌, ◌≤◌, true, false, List, [], ◌∷◌, Option, Some, None, refl, sym, ◌∙◌, ap, ◌⊎◌, inl, inr, arith, if◌then◌else◌}
use Rattle.std.specs.Prelude.{ℤ, pos, ◌-ℤ◌}
use Rattle.std.proofs.lemmas.Int.{ints}
use Rattle.std.proofs.lemmas.Bool.{cases_Bool}
use Rattle.std.proofs.lemmas.Bool.Decides.{nat_tests}
use Rattle.std.specs.Bool.{Decides}
use borrow.Author.Differences.{up, down}
use Rattle.ms_choice.specs.declared.slot.Slot.{Slot}
use Rattle.ms_choice.specs.declared.children.Costs.{Costs}
use Rattle.ms_choice.specs.Choice.{Pick, lighter}
use Rattle.ms_choice.specs.Marks.{is_within, set_by}
use Rattle.ms_choice.specs.Tally.{forced, stuck, base, free_by, over_free}
use Rattle.ms_choice.proofs.Picks.{extend, counted, choose}
use Rattle.ms_choice.proofs.Greatest.{child}
use Rattle.ms_choice.proofs.Lightest.{whenever, below, choice_above}

-- a function of the difference of a free child that is satisfied
abbrev pub where_within : (last : Option Slot) → (f : ℤ → ℕ) → (difference : ℤ) → (place : ℕ) → ℕ
where_within last f difference place = if is_within last difference place then f difference else 0

-- 1 and the two parts of the difference, of such a child
abbrev pub ones : Option Slot → ℤ → ℕ → ℕ
ones last = where_within last (λ d. 1)

abbrev pub ups : Option Slot → ℤ → ℕ → ℕ
ups last = where_within last up

abbrev pub downs : Option Slot → ℤ → ℕ → ℕ
downs last = where_within last down

-- how many children are satisfied
abbrev pub members : Option Slot → (place : ℕ) → List Costs → ℕ
members last i cs = forced cs + over_free (ones last) i cs

-- the choice of so many is that by the mark
pub record Attained (last : Option Slot) (i : ℕ) (cs : List Costs) : Type 0 where
  pub count : ℕ
  pub weight : ℕ
  pub is : count ≡ members last i cs
  pub choice : choose cs count ≡ Some (weight, set_by last i cs)
  pub weighs : weight + over_free (downs last) i cs ≡ base cs + over_free (ups last) i cs

abbrev pub Within : Slot → ℤ → ℕ → Type 0
Within last d p = (up d + down last.first < up last.first + down d) ⊎ ((d ≡ last.first) × (p ≤ last.place))

pub within_decides : (last : Slot) (d : ℤ) (p : ℕ) → Decides (is_within (Some last) d p) (Within last d p)
within_decides last d p = grind (arith, ints, nat_tests)

module _ (last : Slot) where
  pub within_true : (d : ℤ) (p : ℕ) → is_within (Some last) d p ≡ true →
      (up d + down last.first ≤ down d + up last.first) × (last.place < p → up d + down last.first < down d + up last.first)
  within_true d p e = grind (arith, ints, nat_tests)

  pub within_false : (d : ℤ) (p : ℕ) → is_within (Some last) d p ≡ false →
      (down d + up last.first ≤ up d + down last.first) × (down d + up last.first ≡ up d + down last.first → last.place < p)
  within_false d p e = grind (arith, ints, nat_tests)

  abbrev Exact : (a b : ℕ) (d : ℤ) (p : ℕ) → Type 0
  Exact a b d p = ups (Some last) d p + below a b d p + ones (Some last) d p * b ≡ downs (Some last) d p + ones (Some last) d p * a

  exact_at : (d : ℤ) (p : ℕ) → Exact (up last.first) (down last.first) d p
  exact_at d p = grind (arith, ints, within_true, within_false)

  -- behind the mark's place a difference that stands before it is less
  past_at : (d : ℤ) (p : ℕ) → last.place < p → Exact (up last.first) (suc (down last.first)) d p
  past_at d p past = grind (arith, ints, within_true, within_false)

  abbrev ExactOver : (a b i : ℕ) (cs : List Costs) → Type 0
  ExactOver a b i cs = over_free (ups (Some last)) i cs + over_free (below a b) i cs + over_free (ones (Some last)) i cs * b
      ≡ over_free (downs (Some last)) i cs + over_free (ones (Some last)) i cs * a

  exact_more : (a b i : ℕ) (s d : Option ℕ) (cs : List Costs) → ((z : ℤ) → Exact a b z i) → ExactOver a b (suc i) cs → ExactOver a b i (child s d ∷ cs)
  exact_more a b i s d cs at h = grind arith

  exact : (i : ℕ) (cs : List Costs) → ExactOver (up last.first) (down last.first) i cs
  exact i [] = omega arith
  exact i (c ∷ cs) = exact_more (up last.first) (down last.first) i c.sat c.dsat cs (λ z. exact_at z i) (exact (suc i) cs)

  exact_past : (i : ℕ) (cs : List Costs) → last.place < i → ExactOver (up last.first) (suc (down last.first)) i cs
  exact_past i [] past = omega arith
  exact_past i (c ∷ cs) past = exact_more (up last.first) (suc (down last.first)) i c.sat c.dsat cs (λ z. past_at z i past) (exact_past (suc i) cs (omega (arith, past)))

passed_over : (d : ℕ) (others : ℕ → Option Pick) (n : ℕ) → counted None (Some d) others n ≡ extend false (Some d) (others n)
passed_over d others zero = refl
passed_over d others (suc k) = refl

forced_in : (s : ℕ) (others : ℕ → Option Pick) (n : ℕ) → counted (Some s) None others (suc n) ≡ extend true (Some s) (others n)
forced_in s others n = grind arith

left_out : (s d : ℕ) (w : Pick) (others : ℕ → Option Pick) (n : ℕ) → others n ≡ Some w
    → ((k : ℕ) (v : Pick) → n ≡ suc k → others k ≡ Some v → d + w.0 < s + v.0)
    → counted (Some s) (Some d) others n ≡ Some (d + w.0, false ∷ w.1)
left_out s d w others zero is heavier = ap (extend false (Some d)) is
left_out s d w others (suc k) is heavier = go (others k) (others (suc k)) is (λ v. heavier k v refl)
  where
    go : (o p : Option Pick) → p ≡ Some w → ((v : Pick) → o ≡ Some v → d + w.0 < s + v.0)
        → lighter (extend true (Some s) o) (extend false (Some d) p) ≡ Some (d + w.0, false ∷ w.1)
    go o p is heavier = grind (arith, nat_tests)

taken : (s d : ℕ) (w : Pick) (o p : Option Pick) → o ≡ Some w → ((v : Pick) → p ≡ Some v → s + w.0 ≤ d + v.0)
    → lighter (extend true (Some s) o) (extend false (Some d) p) ≡ Some (s + w.0, true ∷ w.1)
taken s d w o p is no_lighter = grind (arith, nat_tests)

module _ (last : Slot) where
  abbrev a : ℕ
  a = up last.first

  abbrev b : ℕ
  b = down last.first

  -- the same of a choice among the others
  fewer : (m i : ℕ) (cs : List Costs) (r : Attained (Some last) (suc i) cs) → ExactOver last a m (suc i) cs →
      (k : ℕ) (v : Pick) → r.count ≡ suc k → choose cs k ≡ Some v → r.weight + m ≤ v.0 + a
  fewer m i cs r exact k v is e =
      let above = whenever (choose cs k) _ (choice_above a m (suc i) cs k) v e in
      let same : members (Some last) (suc i) cs ≡ suc k = sym r.is ∙ is in
      omega (arith, above.least, r.weighs, exact, ap (λ n. n * a) same, ap (λ n. n * m) same)

  more : (i : ℕ) (cs : List Costs) (r : Attained (Some last) (suc i) cs) (v : Pick) → choose cs (suc r.count) ≡ Some v → r.weight + a ≤ v.0 + b
  more i cs r v e =
      let above = whenever (choose cs (suc r.count)) _ (choice_above a b (suc i) cs (suc r.count)) v e in
      omega (arith, above.least, r.weighs, exact last (suc i) cs, ap (λ n. n * a) r.is, ap (λ n. n * b) r.is)

  -- a child behind the mark makes a choice of so many heavier
  heavier : (s d i : ℕ) (cs : List Costs) → is_within (Some last) (pos s -ℤ pos d) i ≡ false → (r : Attained (Some last) (suc i) cs) →
      (k : ℕ) (v : Pick) → r.count ≡ suc k → choose cs k ≡ Some v → d + r.weight < s + v.0
  heavier s d i cs e r k v is chosen =
      let h = within_false last (pos s -ℤ pos d) i e in
      let g = fewer b i cs r (exact last (suc i) cs) k v is chosen in
      let tie = λ (past : last.place < suc i). fewer (suc b) i cs r (exact_past last (suc i) cs past) k v is chosen in
      grind (arith, ints, h, g, tie)

  free_step : (s d i : ℕ) (cs : List Costs) → Attained (Some last) (suc i) cs → Attained (Some last) i (child (Some s) (Some d) ∷ cs)
  free_step s d i cs r =
      elim (cases_Bool (is_within (Some last) (pos s -ℤ pos d) i)) [
        | inl e ↦ record {
          count = suc r.count;
          weight = s + r.weight;
          is = rw e (omega (arith, r.is));
          choice =
              let h = within_true last (pos s -ℤ pos d) i e in
              rw e (taken s d _ (choose cs r.count) (choose cs (suc r.count)) r.choice (λ v g. omega (arith, ints, h.0, more i cs r v g)));
          weighs = rw e (omega (arith, ints, r.weighs));
        }
        | inr e ↦ record {
          count = r.count;
          weight = d + r.weight;
          is = rw e (omega (arith, r.is));
          choice = rw e (left_out s d _ (choose cs) r.count r.choice (heavier s d i cs e r));
          weighs = rw e (omega (arith, r.weighs));
        }
      ]

nobody_by : (f : ℤ → ℕ) (i : ℕ) (s d : Option ℕ) → free_by (where_within None f) i s d ≡ 0
nobody_by f i s d = grind arith

-- no free child is satisfied where none can be
pub nobody : (f : ℤ → ℕ) (i : ℕ) (cs : List Costs) → over_free (where_within None f) i cs ≡ 0
nobody f i [] = refl
nobody f i (c ∷ cs) = omega (arith, nobody_by f i c.sat c.dsat, nobody f (suc i) cs)

step : (last : Option Slot) (s d : Option ℕ) (i : ℕ) (cs : List Costs) → stuck (child s d ∷ cs) ≡ 0 → Attained last (suc i) cs → Attained last i (child s d ∷ cs)
step last None None i cs no_stuck r = absurd (omega (arith, no_stuck))
step last None (Some d) i cs no_stuck r = record {
  count = r.count;
  weight = d + r.weight;
  is = omega (arith, r.is);
  choice = passed_over d (choose cs) r.count ∙ ap (extend false (Some d)) r.choice;
  weighs = omega (arith, r.weighs);
}
step last (Some s) None i cs no_stuck r = record {
  count = suc r.count;
  weight = s + r.weight;
  is = omega (arith, r.is);
  choice = forced_in s (choose cs) r.count ∙ ap (extend true (Some s)) r.choice;
  weighs = omega (arith, r.weighs);
}
step None (Some s) (Some d) i cs no_stuck r = record {
  count = r.count;
  weight = d + r.weight;
  is = omega (arith, r.is);
  choice =
      left_out s d _ (choose cs) r.count r.choice (λ k v is e.
      let above = whenever (choose cs k) _ (choice_above 0 0 (suc i) cs k) v e in
      absurd (omega (arith, is, r.is, above.enough, nobody (λ d. 1) (suc i) cs)));
  weighs = omega (arith, r.weighs);
}
step (Some last) (Some s) (Some d) i cs no_stuck r = free_step last s d i cs r

pub attained : (last : Option Slot) (i : ℕ) (cs : List Costs) → stuck cs ≡ 0 → Attained last i cs
attained last i [] no_stuck = record { count = 0; weight = 0; is = refl; choice = refl; weighs = omega arith }
attained last i (c ∷ cs) no_stuck = step last c.sat c.dsat i cs no_stuck (attained last (suc i) cs (omega (arith, no_stuck)))
