-- How what is reckoned can be made.
use Rattle.std.proofs.Common.{◌≡◌, inl, inr, ℕ, zero, suc, ◌+◌, ◌*◌, ◌/◌, ◌%◌, ◌^◌, ◌<◌, ◌==◌, nat_lt, Bool, true, false, ◌&&◌, ◌||◌, List, [], ◌∷◌, ◌++◌, length, map, flat_map, filter, take, Option, Some, None, refl, sym, ◌∙◌, ap, arith, if◌then◌else◌}
use Rattle.std.specs.Prelude.{slice_index_or}
use Rattle.std.proofs.lemmas.Bool.{cases_Bool}
use Rattle.std.proofs.lemmas.Bool.Decides.{nat_tests}
use Rattle.def_tree.specs.Tree.{Tree}
use Rattle.def_ways.specs.declared.Delay.{Delay}
use Rattle.def_ways.specs.declared.Delay.TheVariants.{Blocks, Units}
use Rattle.def_ways.specs.Secret.{Secret, secrets}
use Rattle.def_ways.specs.Offer.{Offer, locktime_of}
use Rattle.def_ways.specs.Order.{delay_numbers, place, is_key, is_less, is_before}
use Rattle.ms_way_laws.specs.Reckoned.{knowns, known_by, merge, KnownsAreNumbered, TakeMerged, ByPlaces}

-- ---- known hash values

abbrev with_and_without : Secret → List Secret → List (List Secret)
with_and_without s = λ known. known ∷ (s ∷ known) ∷ []

twice_as_long : (s : Secret) (xs : List (List Secret)) → length (flat_map (with_and_without s) xs) ≡ 2 * length xs
twice_as_long s [] = refl
twice_as_long s (x ∷ xs) = let rest = twice_as_long s xs in omega (arith, rest)

at_number : (s : Secret) (xs : List (List Secret)) (n : ℕ) → n < 2 * length xs →
    slice_index_or (flat_map (with_and_without s) xs) n [] ≡ (if n % 2 == 1 then s ∷ slice_index_or xs (n / 2) [] else slice_index_or xs (n / 2) [])
at_number s [] n h = absurd (omega (arith, h))
at_number s (x ∷ xs) zero h = refl
at_number s (x ∷ xs) (suc zero) h = refl
at_number s (x ∷ xs) (suc (suc n)) h =
    let rest = at_number s xs n (omega (arith, h)) in
    let odd : suc (suc n) % 2 ≡ n % 2 = omega arith in
    let half : suc (suc n) / 2 ≡ suc (n / 2) = omega arith in
    rw (odd, half) rest

two_power : (n : ℕ) → 2 ^ suc n ≡ 2 * 2 ^ n
two_power n = grind arith

length_knowns : (settled : List Secret) → length (knowns settled) ≡ 2 ^ length settled
length_knowns [] = refl
length_knowns (s ∷ rest) =
    let twice = twice_as_long s (knowns rest) in
    let same = length_knowns rest in
    let power = two_power (length rest) in
    omega (arith, twice, same, power)

numbered : (settled : List Secret) (n : ℕ) → n < 2 ^ length settled → slice_index_or (knowns settled) n [] ≡ known_by settled n
numbered [] n h = go n (omega (arith, h))
  where
    go : (n : ℕ) → n ≡ 0 → slice_index_or (knowns []) n [] ≡ known_by [] n
    go n e = rw e refl
numbered (s ∷ rest) n h =
    let same = length_knowns rest in
    let power = two_power (length rest) in
    let half = numbered rest (n / 2) (omega (arith, h, power)) in
    at_number s (knowns rest) n (omega (arith, h, same, power)) ∙ rw half refl

pub knowns_are_numbered : KnownsAreNumbered
knowns_are_numbered settled = (length_knowns settled, numbered settled)

-- ---- merged lists

take_take : {A : Type 0} (n : ℕ) (xs : List A) → take n (take n xs) ≡ take n xs
take_take zero xs = refl
take_take (suc n) [] = refl
take_take (suc n) (x ∷ xs) = ap (λ ys. x ∷ ys) (take_take n xs)

module _ (tree : Tree) where
  none_after : (xs : List Offer) → merge tree xs [] ≡ xs
  none_after [] = refl
  none_after (x ∷ xs) = ap (λ ys. x ∷ ys) (none_after xs)

  step : (x : Offer) (xs : List Offer) (y : Offer) (ys : List Offer) (b : Bool) → is_before tree x y ≡ b →
      merge tree (x ∷ xs) (y ∷ ys) ≡ (if b then x ∷ merge tree xs (y ∷ ys) else y ∷ merge tree (x ∷ xs) ys)
  step x xs y ys b e = rw e refl

  -- one more of one list makes no difference behind
  one_longer : {A : Type 0} (n : ℕ) (x : A) (xs : List A) → take n (x ∷ take n xs) ≡ take n (x ∷ xs)
  one_longer zero x xs = refl
  one_longer (suc n) x xs = ap (λ ys. x ∷ ys) (shorter n xs)
    where
      shorter : {A : Type 0} (n : ℕ) (xs : List A) → take n (take (suc n) xs) ≡ take n xs
      shorter zero xs = refl
      shorter (suc n) [] = refl
      shorter (suc n) (x ∷ xs) = ap (λ ys. x ∷ ys) (shorter n xs)

  merged_first : (n : ℕ) (xs ys : List Offer) → take n (merge tree xs ys) ≡ take n (merge tree (take n xs) (take n ys))
  merged_first zero xs ys = refl
  merged_first (suc n) [] ys = sym (take_take (suc n) ys)
  merged_first (suc n) (x ∷ xs) [] =
      ap (λ zs. take (suc n) zs) (none_after (x ∷ xs)) ∙ sym (take_take (suc n) (x ∷ xs))
      ∙ ap (λ zs. take (suc n) zs) (sym (none_after (take (suc n) (x ∷ xs))))
  merged_first (suc n) (x ∷ xs) (y ∷ ys) = elim (cases_Bool (is_before tree x y)) [
    | inl e ↦
        ap (λ zs. take (suc n) zs) (step x xs y ys true e)
        ∙ ap (λ zs. x ∷ zs)
        (merged_first n xs (y ∷ ys)
        ∙ ap (λ zs. take n (merge tree (take n xs) zs)) (sym (one_longer n y ys))
        ∙ ap (λ zs. take n (merge tree zs (take n (y ∷ take n ys)))) (sym (take_take n xs))
        ∙ sym (merged_first n (take n xs) (y ∷ take n ys)))
        ∙ ap (λ zs. take (suc n) zs) (sym (step x (take n xs) y (take n ys) true e))
    | inr f ↦
        ap (λ zs. take (suc n) zs) (step x xs y ys false f)
        ∙ ap (λ zs. y ∷ zs)
        (merged_first n (x ∷ xs) ys
        ∙ ap (λ zs. take n (merge tree zs (take n ys))) (sym (one_longer n x xs))
        ∙ ap (λ zs. take n (merge tree (take n (x ∷ take n xs)) zs)) (sym (take_take n ys))
        ∙ sym (merged_first n (x ∷ take n xs) (take n ys)))
        ∙ ap (λ zs. take (suc n) zs) (sym (step x (take n xs) y (take n ys) false f))
  ]

pub take_merged : TakeMerged
take_merged tree n xs ys = merged_first tree n xs ys

-- ---- places

same_first : (x : ℕ) (xs ys : List ℕ) → is_less (x ∷ xs) (x ∷ ys) ≡ is_less xs ys
same_first x xs ys = behind x (is_less xs ys)
  where
    behind : (x : ℕ) (p : Bool) → (nat_lt x x || (x == x && p)) ≡ p
    behind x p = grind (arith, nat_tests)

same_delay_first : (d : Option Delay) (r s : List ℕ) → is_less (delay_numbers d ++ r) (delay_numbers d ++ s) ≡ is_less r s
same_delay_first None r s = same_first 0 (0 ∷ r) (0 ∷ s) ∙ same_first 0 r s
same_delay_first (Some (Blocks n)) r s = same_first (600 * n + 1) (0 ∷ r) (0 ∷ s) ∙ same_first 0 r s
same_delay_first (Some (Units n)) r s = same_first (512 * n + 1) (1 ∷ r) (1 ∷ s) ∙ same_first 1 r s

pub by_places_alone : ByPlaces
by_places_alone tree a b d m k =
    ap (λ e. is_less (delay_numbers a.delay ++ rest a) (delay_numbers e ++ rest b)) (sym d)
    ∙ same_delay_first a.delay (rest a) (rest b)
    ∙ ap (λ n. is_less (rest a) (n ∷ keys b ∷ places b)) (sym (ap locktime_of m))
    ∙ same_first (locktime_of a.moment) (keys a ∷ places a) (keys b ∷ places b)
    ∙ ap (λ n. is_less (keys a ∷ places a) (n ∷ places b)) (sym k)
    ∙ same_first (keys a) (places a) (places b)
  where
    keys : Offer → ℕ
    keys o = length (filter is_key o.secrets)

    places : Offer → List ℕ
    places o = map (λ secret. place secret (secrets tree)) o.secrets

    rest : Offer → List ℕ
    rest o = locktime_of o.moment ∷ keys o ∷ places o
