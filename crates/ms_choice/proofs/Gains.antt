-- Of sorted differences the last ones are the greatest.
use Rattle.std.proofs.Common.{◌≡◌, ℕ, zero, suc, ◌+◌, ◌-◌, ◌*◌, ◌<◌, ◌≤◌, List, [], ◌∷◌, false, length, get_or, take, drop, refl, subst, arith, add-one, length-drop, IsPermutation}
use Rattle.std.specs.Prelude.{⊤, ℤ, IsSortedByKey}
use Rattle.std.specs.Ordering.{int_cmp, is_lt}
use Rattle.std.proofs.lemmas.Int.{ints}
use Rattle.std.proofs.lemmas.List.Sorted.{length_permutation}
use Rattle.std.proofs.lemmas.Slice.{between_to_end}
use borrow.Author.Differences.{up, down}
use Rattle.ms_choice.specs.Sums.{total, above, is_above, is_reached, IsGain}
use Rattle.ms_choice.proofs.Totals.{total_split, total-permutation}

not_less : (x y : ℤ) → is_lt (int_cmp y x) ≡ false → up x + down y ≤ up y + down x
not_less x y h = grind (arith, ints)

module _ {X : Type 0} (key : X → ℤ) where
  -- all are at a - b at least, each at least at the one before
  abbrev pub Rises : (a b : ℕ) → List X → Type 0
  Rises a b [] = ⊤
  Rises a b (x ∷ xs) = (down (key x) + a ≤ up (key x) + b) × Rises (up (key x)) (down (key x)) xs

  abbrev pub Low : (a b : ℕ) → List X → Type 0
  Low a b [] = ⊤
  Low a b (x ∷ xs) = (up (key x) + b ≤ down (key x) + a) × Low a b xs

  abbrev pub High : (a b : ℕ) → List X → Type 0
  High a b [] = ⊤
  High a b (x ∷ xs) = (down (key x) + a ≤ up (key x) + b) × High a b xs

  abbrev pub Neighbours : List X → Type 0
  Neighbours xs = (k : ℕ) (d : X) → suc k < length xs → up (key (get_or xs k d)) + down (key (get_or xs (suc k) d)) ≤ up (key (get_or xs (suc k) d)) + down (key (get_or xs k d))

  neighbours : (xs : List X) → IsSortedByKey key int_cmp xs → Neighbours xs
  neighbours xs sorted k d h =
      not_less (key (get_or xs k d)) (key (get_or xs (suc k) d))
      (let P : ℕ → Type 0 = λ j. is_lt (int_cmp (key (get_or xs j d)) (key (get_or xs k d))) ≡ false in subst P (add-one k) (sorted k d (omega arith) (omega (arith, h))))

  rises_from : (x : X) (xs : List X) → Neighbours (x ∷ xs) → Rises (up (key x)) (down (key x)) xs
  rises_from x [] n = tt
  rises_from x (y ∷ ys) n =
      (omega (arith, n zero x (omega arith)), rises_from y ys (λ k d h. n (suc k) d (omega (arith, h))))

  high_from : (a b c d : ℕ) (xs : List X) → d + a ≤ c + b → Rises c d xs → High a b xs
  high_from a b c d [] h r = tt
  high_from a b c d (x ∷ xs) h r = (omega (arith, h, r.0), high_from a b (up (key x)) (down (key x)) xs (omega (arith, h, r.0)) r.1)

  -- a mark between the first n and the others
  pub record Split (n : ℕ) (c d : ℕ) (xs : List X) : Type 0 where
    pub a : ℕ
    pub b : ℕ
    pub from : b + c ≤ a + d
    pub low : Low a b (take n xs)
    pub high : High a b (drop n xs)

  split_at : (n c d : ℕ) (xs : List X) → Rises c d xs → Split n c d xs
  split_at zero c d xs r = record { a = c; b = d; from = omega arith; low = tt; high = high_from c d c d xs (omega arith) r }
  split_at (suc n) c d [] r = record { a = c; b = d; from = omega arith; low = tt; high = tt }
  split_at (suc n) c d (x ∷ xs) r =
      let s = split_at n (up (key x)) (down (key x)) xs r.1 in
      record { a = s.a; b = s.b; from = omega (arith, r.0, s.from); low = (omega (arith, s.from), s.low); high = s.high }

  marked : (n : ℕ) (xs : List X) → Neighbours xs → (c : ℕ) × (d : ℕ) × Split n c d xs
  marked n [] h = (0, 0, split_at n 0 0 [] tt)
  marked n (x ∷ xs) h = (up (key x), down (key x), split_at n (up (key x)) (down (key x)) (x ∷ xs) (omega arith, rises_from x xs h))

  low_none : (a b : ℕ) (xs : List X) → Low a b xs → (total (λ x. above a b (key x)) xs ≡ 0) × (total (λ x. is_above a b (key x)) xs ≡ 0)
  low_none a b [] h = (refl, refl)
  low_none a b (x ∷ xs) h = let g = low_none a b xs h.1 in (omega (arith, h.0, g.0), omega (arith, h.0, g.1))

  few_above : (a b : ℕ) (xs : List X) → total (λ x. is_above a b (key x)) xs ≤ length xs
  few_above a b [] = omega arith
  few_above a b (x ∷ xs) = omega (arith, few_above a b xs)

  high_reached : (a b : ℕ) (xs : List X) → High a b xs → total (λ x. is_reached a b (key x)) xs ≡ length xs
  high_reached a b [] h = refl
  high_reached a b (x ∷ xs) h = omega (arith, h.0, high_reached a b xs h.1)

  high_sum : (a b : ℕ) (xs : List X) → High a b xs
      → total (λ x. above a b (key x)) xs + total (λ x. down (key x)) xs + length xs * a ≡ total (λ x. up (key x)) xs + length xs * b
  high_sum a b [] h = omega arith
  high_sum a b (x ∷ xs) h = omega (arith, h.0, high_sum a b xs h.1)

  -- the sum of those behind the first n
  pub gain_of_sorted : (n : ℕ) (xs : List X) (gain : ℤ) → IsSortedByKey key int_cmp xs
      → up gain + total (λ x. down (key x)) (drop n xs) ≡ down gain + total (λ x. up (key x)) (drop n xs)
      → IsGain key xs (length (drop n xs)) gain
  gain_of_sorted n xs gain sorted sum =
      let m = (marked n xs (neighbours xs sorted)).2 in
      let low = low_none m.a m.b (take n xs) m.low in
      let split_above = total_split (λ x. above m.a m.b (key x)) n xs in
      let split_is = total_split (λ x. is_above m.a m.b (key x)) n xs in
      let split_reached = total_split (λ x. is_reached m.a m.b (key x)) n xs in
      record {
        a = m.a;
        b = m.b;
        enough = omega (arith, split_is, low.1, few_above m.a m.b (drop n xs));
        reached = omega (arith, split_reached, high_reached m.a m.b (drop n xs) m.high);
        sum = omega (arith, sum, split_above, low.0, high_sum m.a m.b (drop n xs) m.high);
      }

  pub gain_of_permutation : (xs ys : List X) (count : ℕ) (gain : ℤ) → IsPermutation xs ys → IsGain key ys count gain → IsGain key xs count gain
  gain_of_permutation xs ys count gain moved g = record {
    a = g.a;
    b = g.b;
    enough = omega (arith, g.enough, total-permutation (λ x. is_above g.a g.b (key x)) xs ys moved);
    reached = omega (arith, g.reached, total-permutation (λ x. is_reached g.a g.b (key x)) xs ys moved);
    sum = omega (arith, g.sum, total-permutation (λ x. above g.a g.b (key x)) xs ys moved);
  }

  -- the sum of the last ones after a sort
  pub gain_from : (xs ys : List X) (count : ℕ) (gain : ℤ) → IsPermutation xs ys → IsSortedByKey key int_cmp ys → count ≤ length xs
      → (let back = take (length ys - (length ys - count)) (drop (length ys - count) ys) in up gain + total (λ x. down (key x)) back ≡ down gain + total (λ x. up (key x)) back)
      → IsGain key xs count gain
  gain_from xs ys count gain moved sorted enough sum =
      let n = length ys - count in
      let same : length ys ≡ length xs = length_permutation xs ys moved in
      let all : take (length ys - n) (drop n ys) ≡ drop n ys = between_to_end ys n (length ys) (omega arith) in
      let Sums : List X → Type 0 = λ back. up gain + total (λ x. down (key x)) back ≡ down gain + total (λ x. up (key x)) back in
      let last : length (drop n ys) ≡ count = omega (arith, length-drop n ys, same, enough) in
      let Of : ℕ → Type 0 = λ k. IsGain key ys k gain in
      gain_of_permutation xs ys count gain moved (subst Of last (gain_of_sorted n ys gain sorted (subst Sums all sum)))
