-- A tally with a further child, and what it says of a choice.
use Rattle.std.proofs.Common.{◌≡◌, ℕ, suc, ◌+◌, ◌-◌, ◌<◌, ◌≤◌, ◌⊎◌, List, [], ◌∷◌, ◌++◌, Option, Some, None, length, take, set, refl, sym, ◌∙◌, ap, subst, All, IsPermutation, arith, add-one}
use Rattle.std.specs.Prelude.{ℤ, pos, ◌-ℤ◌, IsSorted}
use Rattle.std.specs.List.{slice_get}
use Rattle.std.specs.Option.{option_map}
use Rattle.std.proofs.Math.Seq.{take-suc-set}
use Rattle.std.proofs.lemmas.Int.{ints}
use Rattle.std.proofs.lemmas.List.{length-append, length-take-le, length-take, length-drop}
use Rattle.std.proofs.lemmas.Slice.{take-put_mid_below}
use borrow.Rule.Slice.PartMut.{put_mid}
use Rattle.std.proofs.lemmas.Bool.Decides.{nat_tests}
use borrow.Author.Differences.{up, down}
use Rattle.ms_choice.specs.declared.slot.Slot.{Slot}
use Rattle.ms_choice.specs.declared.children.Costs.{Costs}
use Rattle.ms_choice.specs.declared.children.Child.{Child}
use Rattle.ms_choice.specs.declared.children.Numbers.{Numbers}
use Rattle.ms_choice.specs.declared.children.Number.{Number}
use Rattle.ms_choice.specs.declared.children.Number.TheVariants.{First}
use Rattle.ms_choice.specs.declared.tally.Tally.{Tally}
use Rattle.ms_choice.specs.declared.choice.Choice.{Choice}
use Rattle.ms_choice.specs.Choice.{picks, lightest, greatest}
use Rattle.ms_choice.specs.Numbers.{number_in, costs_in, difference, IsLightSlot}
use Rattle.ms_choice.specs.Marks.{set_by}
use Rattle.ms_choice.specs.Sums.{total, above, is_above, is_reached, IsGain}
use Rattle.ms_choice.specs.Tally.{forced_by, stuck_by, base_by, free_by, forced, stuck, base, free, over_free, Fits, Tells}
use Rattle.ms_choice.proofs.Totals.{total_push, total-permutation, each_number}
use Rattle.ms_choice.proofs.Picks.{most_chosen, choose, lightest_is, greatest_is, none_least}
use Rattle.ms_choice.proofs.Greatest.{Exactly, chosen_is, none_chosen, dissatisfied_chosen}
use Rattle.ms_choice.proofs.Marks.{where_within, ups, downs, attained, nobody}
use Rattle.ms_choice.proofs.Sorted.{slot_cmp, same, Apart, front_of, total_ones}

abbrev pub costs : (sat dsat : Option ℕ) → Costs
costs s d = record { sat = s; dsat = d }

pub over_free-push : (f : ℤ → ℕ → ℕ) (i : ℕ) (cs : List Costs) (c : Costs) → over_free f i (cs ++ c ∷ []) ≡ over_free f i cs + free_by f (i + length cs) c.sat c.dsat
over_free-push f i [] c =
    let e : i ≡ i + 0 = omega arith in
    let same : free_by f i c.sat c.dsat ≡ free_by f (i + 0) c.sat c.dsat = ap (λ k. free_by f k c.sat c.dsat) e in
    omega (arith, same)
over_free-push f i (x ∷ cs) c =
    let e : suc i + length cs ≡ i + suc (length cs) = omega arith in
    let same : free_by f (suc i + length cs) c.sat c.dsat ≡ free_by f (i + suc (length cs)) c.sat c.dsat = ap (λ k. free_by f k c.sat c.dsat) e in
    let h = over_free-push f (suc i) cs c in
    omega (arith, same, h)

-- each number of a sum
pub sums : (t u b : Numbers) → b.first ≡ t.first + u.first → b.second ≡ t.second + u.second → b.third ≡ t.third + u.third → (n : Number) → number_in n b ≡ number_in n t + number_in n u
sums t u b first second third = each_number _ first second third

-- a further child behind all others
pushed : (f : ℤ → ℕ → ℕ) (cs : List Costs) (s d : Option ℕ) (place : ℕ) → place ≡ length cs → over_free f 0 (cs ++ costs s d ∷ []) ≡ over_free f 0 cs + free_by f place s d
pushed f cs s d place is =
    let e : 0 + length cs ≡ place = omega (arith, is) in
    over_free-push f 0 cs (costs s d) ∙ ap (λ k. over_free f 0 cs + free_by f k s d) e

module _ (n : Number) (cs : List Costs) (t : Tally) (slots : List Slot) (told : Tells n cs t slots) where
  counts : (s d : Option ℕ) →
      (forced (cs ++ costs s d ∷ []) ≡ forced cs + forced_by s d) ×
      (stuck (cs ++ costs s d ∷ []) ≡ stuck cs + stuck_by s d) ×
      (base (cs ++ costs s d ∷ []) ≡ base cs + base_by s d)
  counts s d = (
    total_push (λ c. forced_by c.sat c.dsat) cs (costs s d),
    total_push (λ c. stuck_by c.sat c.dsat) cs (costs s d),
    total_push (λ c. base_by c.sat c.dsat) cs (costs s d),
  )

  -- what they tell after a further child
  tells : (s d : Option ℕ) (u : Tally) (after : List Slot) → u.place ≡ t.place + 1 → u.forced ≡ t.forced + forced_by s d → u.stuck ≡ t.stuck + stuck_by s d
      → u.free ≡ t.free + free_by (λ z p. 1) 0 s d → number_in n u.base ≡ number_in n t.base + base_by s d
      → ((f : ℤ → ℕ → ℕ) → total (λ s. f (difference n s) s.place) (take u.free after) ≡ total (λ s. f (difference n s) s.place) (take t.free slots) + free_by f t.place s d)
      → Tells n (cs ++ costs s d ∷ []) u after
  tells s d u after place forced stuck free base differences =
      let all = counts s d in
      let same : free_by (λ z p. 1) 0 s d ≡ free_by (λ z p. 1) t.place s d = grind arith in
      record {
        place = omega (arith, place, told.place, length-append cs (costs s d ∷ []));
        forced = omega (arith, forced, told.forced, all.0);
        stuck = omega (arith, stuck, told.stuck, all.1);
        free = omega (arith, free, same, told.free, pushed (λ z p. 1) cs s d t.place told.place);
        base = omega (arith, base, told.base, all.2);
        differences = λ f. omega (arith, differences f, told.differences f, pushed f cs s d t.place told.place);
      }

  pub told_free : (c : Child) (s d b : Numbers) (x : Slot) → c.sat ≡ Some s → c.dsat ≡ Some d → t.free < length slots → number_in n b ≡ number_in n t.base + number_in n d
      → difference n x ≡ (pos (number_in n s) -ℤ pos (number_in n d)) → x.place ≡ t.place →
      Tells n (cs ++ costs_in n c ∷ []) (record { base = b; forced = t.forced; stuck = t.stuck; free = t.free + 1; place = t.place + 1 }) (set slots t.free x)
  told_free c s d b x is_s is_d room sum first place =
      rw (is_s, is_d) (tells (Some (number_in n s)) (Some (number_in n d)) _ _ refl (omega arith) (omega arith) refl sum (λ f.
      rw (add-one t.free, take-suc-set slots t.free x room, total_push (λ s. f (difference n s) s.place) (take t.free slots) x, first, place)))

  pub told_forced : (c : Child) (s b : Numbers) → c.sat ≡ Some s → c.dsat ≡ None → number_in n b ≡ number_in n t.base + number_in n s
      → Tells n (cs ++ costs_in n c ∷ []) (record { base = b; forced = t.forced + 1; stuck = t.stuck; free = t.free; place = t.place + 1 }) slots
  told_forced c s b is_s is_d sum =
      rw (is_s, is_d) (tells (Some (number_in n s)) None _ slots refl refl (omega arith) (omega arith) sum (λ f. omega arith))

  pub told_out : (c : Child) (d b : Numbers) → c.sat ≡ None → c.dsat ≡ Some d → number_in n b ≡ number_in n t.base + number_in n d
      → Tells n (cs ++ costs_in n c ∷ []) (record { base = b; forced = t.forced; stuck = t.stuck; free = t.free; place = t.place + 1 }) slots
  told_out c d b is_s is_d sum =
      rw (is_s, is_d) (tells None (Some (number_in n d)) _ slots refl (omega arith) (omega arith) (omega arith) sum (λ f. omega arith))

  pub told_stuck : (c : Child) → c.sat ≡ None → c.dsat ≡ None
      → Tells n (cs ++ costs_in n c ∷ []) (record { base = t.base; forced = t.forced; stuck = t.stuck + 1; free = t.free; place = t.place + 1 }) slots
  told_stuck c is_s is_d = rw (is_s, is_d) (tells None None _ slots refl (omega arith) refl (omega arith) (omega arith) (λ f. omega arith))

-- each child has a place of its own
below_by : (p i : ℕ) (s d : Option ℕ) → p < i → free_by (λ difference place. same place p) i s d ≡ 0
below_by p i s d less = grind (arith, nat_tests)

below_place : (p i : ℕ) (cs : List Costs) → p < i → over_free (λ difference place. same place p) i cs ≡ 0
below_place p i [] less = refl
below_place p i (c ∷ cs) less = omega (arith, below_by p i c.sat c.dsat less, below_place p (suc i) cs (omega (arith, less)))

one_place_by : (p i n : ℕ) (s d : Option ℕ) → n ≤ 1 → (i ≡ p → n ≡ 0) → free_by (λ difference place. same place p) i s d + n ≤ 1
one_place_by p i n s d h none = grind (arith, nat_tests)

one_place : (p i : ℕ) (cs : List Costs) → over_free (λ difference place. same place p) i cs ≤ 1
one_place p i [] = omega arith
one_place p i (c ∷ cs) =
    one_place_by p i (over_free (λ difference place. same place p) (suc i) cs) c.sat c.dsat (one_place p (suc i) cs)
    (λ e. below_place p (suc i) cs (omega (arith, e)))

-- what the free children that are satisfied weigh less is within the base
gain_by : (last : Option Slot) (i : ℕ) (s d : Option ℕ) → free_by (downs last) i s d ≤ base_by s d + free_by (ups last) i s d
gain_by last i s d = grind (arith, ints)

gain_within : (last : Option Slot) (i : ℕ) (cs : List Costs) → over_free (downs last) i cs ≤ base cs + over_free (ups last) i cs
gain_within last i [] = omega arith
gain_within last i (c ∷ cs) = omega (arith, gain_by last i c.sat c.dsat, gain_within last (suc i) cs)

-- where so many of these children can't be satisfied and the others dissatisfied
pub no_choice : (cs : List Costs) (k : ℕ) → (0 < stuck cs) ⊎ ((k < forced cs) ⊎ (forced cs + free cs < k)) → choose cs k ≡ None
no_choice cs k out = sym (lightest_is cs k) ∙ none_least (picks cs k) (greatest_is cs k ∙ none_chosen cs k out)

-- where the tally says that there is no choice
module _ (n : Number) (cs : List Costs) (t : Tally) (slots : List Slot) (told : Tells n cs t slots) where
  never_told : (k : ℕ) → (0 < t.stuck) ⊎ ((k < t.forced) ⊎ (t.forced + t.free < k)) → most_chosen cs k ≡ None
  never_told k out = none_chosen cs k (grind (arith, out, told.stuck, told.forced, told.free))

  pub none_greatest : (k : ℕ) → (0 < t.stuck) ⊎ ((k < t.forced) ⊎ (t.forced + t.free < k)) → None ≡ greatest cs k
  none_greatest k out = sym (greatest_is cs k ∙ never_told k out)

  pub none_lightest : (k : ℕ) → (0 < t.stuck) ⊎ ((k < t.forced) ⊎ (t.forced + t.free < k)) → None ≡ lightest cs k
  none_lightest k out = sym (none_least (picks cs k) (greatest_is cs k ∙ never_told k out))

-- what is there is what is known of it
known : (o : Option ℕ) (m : ℕ) → Exactly o (λ n. n ≡ m) → Some m ≡ o
known o m is = grind arith

exactly_weaker : (o : Option ℕ) (P Q : ℕ → Type 0) → ((u : ℕ) → P u → Q u) → Exactly o P → Exactly o Q
exactly_weaker o P Q f h = grind arith

not_below : (o : Option ℕ) (g : ℤ) (b : ℕ) → Exactly o (λ u. u + down g ≡ b + up g) → down g ≤ up g + b
not_below o g b h = grind arith

module _ (n : Number) (cs : List Costs) (t : Tally) (slots : List Slot) (told : Tells n cs t slots) where
  -- all dissatisfied
  pub base_told : t.stuck ≡ 0 → t.forced ≡ 0 → Some (number_in n t.base) ≡ greatest cs 0
  base_told no_stuck no_forced =
      known (most_chosen cs 0) (number_in n t.base)
      (exactly_weaker (most_chosen cs 0) _ _ (λ u is. is ∙ sym told.base)
      (dissatisfied_chosen cs (omega (arith, no_stuck, told.stuck)) (omega (arith, no_forced, told.forced)))) ∙
      sym (greatest_is cs 0)

  pub least_told : t.stuck ≡ 0 → t.forced ≡ 0 → Some (number_in n t.base) ≡ option_map (λ pick. pick.0) (lightest cs 0)
  least_told no_stuck no_forced =
      let r = attained None 0 cs (omega (arith, no_stuck, told.stuck)) in
      let count : r.count ≡ 0 = omega (arith, no_forced, told.forced, r.is, nobody (λ d. 1) 0 cs) in
      let weighs : number_in n t.base ≡ r.weight = omega (arith, r.weighs, told.base, nobody down 0 cs, nobody up 0 cs) in
      ap Some weighs ∙ sym (ap (option_map (λ pick. pick.0)) (lightest_is cs 0 ∙ ap (choose cs) (sym count) ∙ r.choice))

  module _ (k m : ℕ) (no_stuck : t.stuck ≡ 0) (wanted : t.forced + m ≡ k) where
    number_told : (g : ℤ) → IsGain (difference n) (take t.free slots) m g → Exactly (most_chosen cs k) (λ u. u + down g ≡ base cs + up g)
    number_told g gain =
        chosen_is gain.a gain.b cs k m g
        (omega (arith, no_stuck, told.stuck)) (omega (arith, wanted, told.forced))
        (omega (arith, gain.enough, told.differences (λ z p. is_above gain.a gain.b z)))
        (omega (arith, gain.reached, told.differences (λ z p. is_reached gain.a gain.b z)))
        (omega (arith, gain.sum, told.differences (λ z p. above gain.a gain.b z)))

    pub gain_low : (g : ℤ) → IsGain (difference n) (take t.free slots) m g → down g ≤ up g + number_in n t.base
    gain_low g gain = omega (arith, told.base, not_below (most_chosen cs k) g (base cs) (number_told g gain))

    -- the base and the gain are what the choice takes
    pub greatest_told : (r : ℕ) (g : ℤ) → IsGain (difference n) (take t.free slots) m g → r + down g ≡ number_in n t.base + up g → Some r ≡ greatest cs k
    greatest_told r g gain sum =
        known (most_chosen cs k) r (exactly_weaker (most_chosen cs k) _ _ (λ u is. omega (arith, is, sum, told.base)) (number_told g gain)) ∙
        sym (greatest_is cs k)

-- what is known of the free children's slots once they are sorted, of which m are satisfied
pub record Sorted (t : Tally) (slots : List Slot) (m : ℕ) (ys : List Slot) (last : Option Slot) (gain : ℤ) : Type 0 where
  pub moved : IsPermutation (take t.free slots) ys
  pub sorted : IsSorted slot_cmp ys
  pub enough : m ≤ length ys
  pub is_last : last ≡ slice_get (take m ys) (length (take m ys) - 1)
  pub sum : up gain + total (λ s. down s.first) (take m ys) ≡ down gain + total (λ s. up s.first) (take m ys)

module _ (cs : List Costs) (t : Tally) (slots : List Slot) (told : Tells First cs t slots) where
  -- after a sort the slots tell the same
  moved_told : (ys : List Slot) → IsPermutation (take t.free slots) ys → (f : ℤ → ℕ → ℕ) → total (λ s. f s.first s.place) ys ≡ over_free f 0 cs
  moved_told ys moved f = total-permutation (λ s. f s.first s.place) (take t.free slots) ys moved ∙ told.differences f

  apart_told : (ys : List Slot) → IsPermutation (take t.free slots) ys → Apart ys
  apart_told ys moved place =
      let h = moved_told ys moved (λ difference p. same p place) in
      omega (arith, h, one_place place 0 cs)

  -- the first m of them are those that are satisfied
  front_told : (m : ℕ) (ys : List Slot) (last : Option Slot) (gain : ℤ) → Sorted t slots m ys last gain → (f : ℤ → ℕ) → over_free (where_within last f) 0 cs ≡ total (λ s. f s.first) (take m ys)
  front_told m ys last gain s f =
      sym (moved_told ys s.moved (where_within last f)) ∙
      front_of m ys last s.sorted (apart_told ys s.moved) s.enough s.is_last f

  pub sum_low : (m : ℕ) (ys : List Slot) (last : Option Slot) (gain : ℤ) → Sorted t slots m ys last gain → down gain ≤ up gain + t.base.first
  sum_low m ys last gain s =
      let downs_are = front_told m ys last gain s down in
      let ups_are = front_told m ys last gain s up in
      omega (arith, s.sum, downs_are, ups_are, told.base, gain_within last 0 cs)

  -- the base and the sum are what the choice weighs
  pub lightest_told : (k m : ℕ) → t.stuck ≡ 0 → t.forced + m ≡ k → (ys : List Slot) (choice : Choice) (gain : ℤ) → Sorted t slots m ys choice.last gain
      → choice.weight + down gain ≡ t.base.first + up gain → Some (choice.weight, set_by choice.last 0 cs) ≡ lightest cs k
  lightest_told k m no_stuck wanted ys choice gain s sum =
      let front = front_told m ys choice.last gain s in
      let long : length (take m ys) ≡ m = length-take-le m ys s.enough in
      let r = attained choice.last 0 cs (omega (arith, no_stuck, told.stuck)) in
      let count : r.count ≡ k = omega (arith, wanted, told.forced, r.is, front (λ d. 1), total_ones (take m ys), long) in
      let weighs : choice.weight ≡ r.weight = omega (arith, sum, s.sum, told.base, front down, front up, r.weighs) in
      ap (λ w. Some (w, set_by choice.last 0 cs)) weighs ∙ sym (lightest_is cs k ∙ ap (choose cs) (sym count) ∙ r.choice)

-- what is written behind the slots of the free children changes nothing
pub told_written : (n : Number) (cs : List Costs) (t : Tally) (slots written : List Slot) (m : ℕ) → t.free ≤ length slots → Tells n cs t slots → Tells n cs t (put_mid t.free m slots written)
told_written n cs t slots written m room told =
    let same : take t.free (put_mid t.free m slots written) ≡ take t.free slots = take-put_mid_below t.free m slots written t.free (omega arith) room in
    record {
      place = told.place;
      forced = told.forced;
      stuck = told.stuck;
      free = told.free;
      base = told.base;
      differences = λ f. ap (total (λ s. f (difference n s) s.place)) same ∙ told.differences f;
    }

pub fits_written : (t : Tally) (slots written : List Slot) (m : ℕ) → length (put_mid t.free m slots written) ≡ length slots → Fits t slots → Fits t (put_mid t.free m slots written)
fits_written t slots written m long fits =
    let same : take t.free (put_mid t.free m slots written) ≡ take t.free slots = take-put_mid_below t.free m slots written t.free (omega arith) fits.room in
    record {
      place = fits.place;
      forced = fits.forced;
      stuck = fits.stuck;
      free = fits.free;
      room = omega (arith, long, fits.room);
      first = fits.first;
      second = fits.second;
      third = fits.third;
      light = subst (All IsLightSlot) (sym same) fits.light;
    }

-- nor how many there are
pub length_written : (from : ℕ) (slots written : List Slot) → from ≤ length slots → length written ≡ length slots - from → length (put_mid from (length slots - from) slots written) ≡ length slots
length_written from slots written le same = grind (arith, length-append, length-take, length-drop)
