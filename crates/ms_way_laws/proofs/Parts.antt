-- The least sets with which so many parts hold that have nothing in common: of so many that don't hold with nothing a least
-- set each.
use Rattle.std.proofs.Common.{◌≡◌, ◌⊎◌, inl, inr, ℕ, suc, ◌+◌, ◌-◌, ◌≤◌, Bool, true, false, List, [], ◌∷◌, refl, sym, ◌∙◌, ap, subst, arith}
use Rattle.std.proofs.lemmas.Bool.{cases_Bool, false≢true}
use Rattle.ms_way_laws.specs.Parts.{Part, IsPart, IsLeast, AreParts, Fit, AreWithin, one, so_many, free, AreLeast, Chosen}

abbrev pub head_of : {A : Type 0} (d : A) → List A → A
head_of d [] = d
head_of d (a ∷ ss) = a

abbrev pub tail_of : {A : Type 0} → List A → List A
tail_of [] = []
tail_of (a ∷ ss) = ss

pub same_head : {A : Type 0} (a b : A) (ss ts : List A) → b ∷ ts ≡ a ∷ ss → b ≡ a
same_head a b ss ts e = ap (head_of b) e

pub same_tail : {A : Type 0} (a b : A) (ss ts : List A) → b ∷ ts ≡ a ∷ ss → ts ≡ ss
same_tail a b ss ts e = ap tail_of e

one_true : (b : Bool) → b ≡ true → one b ≡ 1
one_true b e = rw e refl

one_false : (b : Bool) → b ≡ false → one b ≡ 0
one_false b e = rw e refl

one_le : (b c : Bool) → (b ≡ true → c ≡ true) → one b ≤ one c
one_le b c f = grind arith

more_true : (b c : Bool) → one c ≤ one b → c ≡ true → b ≡ true
more_true b c h e = grind arith

module _ (A : Type 0) (IsWithin : A → A → Type 0) (within : (a : A) → IsWithin a a) where
  -- nothing of each part
  abbrev nothings : List (Part A) → List A
  nothings [] = []
  nothings (x ∷ xs) = x.nothing ∷ nothings xs

  fit_nothings : (xs : List (Part A)) → AreParts A IsWithin xs → Fit xs (nothings xs)
  fit_nothings [] are = tt
  fit_nothings (x ∷ xs) are = (are.0.empty, fit_nothings xs are.1)

  within_nothings : (xs : List (Part A)) (ss : List A) → AreParts A IsWithin xs → Fit xs ss → AreWithin A IsWithin (nothings xs) ss
  within_nothings [] [] are fit = tt
  within_nothings [] (a ∷ ss) are fit = absurd fit
  within_nothings (x ∷ xs) [] are fit = absurd fit
  within_nothings (x ∷ xs) (a ∷ ss) are fit = (are.0.least a fit.0, within_nothings xs ss are.1 fit.1)

  within_same : (ss : List A) → AreWithin A IsWithin ss ss
  within_same [] = tt
  within_same (a ∷ ss) = (within a, within_same ss)

  free_nothings : (xs : List (Part A)) → so_many xs (nothings xs) ≡ free xs
  free_nothings [] = refl
  free_nothings (x ∷ xs) = ap (λ n. one (x.holds x.nothing) + n) (free_nothings xs)

  -- with more of each part at least as many hold
  more_hold : (xs : List (Part A)) (ss ts : List A) → AreParts A IsWithin xs → Fit xs ss → Fit xs ts → AreWithin A IsWithin ss ts → so_many xs ss ≤ so_many xs ts
  more_hold [] ss ts are fit fits are_within = omega arith
  more_hold (x ∷ xs) [] ts are fit fits are_within = absurd fit
  more_hold (x ∷ xs) (a ∷ ss) [] are fit fits are_within = absurd fits
  more_hold (x ∷ xs) (a ∷ ss) (b ∷ ts) are fit fits are_within =
      let rest = more_hold xs ss ts are.1 fit.1 fits.1 are_within.1 in
      let here = one_le (x.holds a) (x.holds b) (are.0.more a b fit.0 fits.0 are_within.0) in
      omega (arith, rest, here)

  free_hold : (xs : List (Part A)) (ss : List A) → AreParts A IsWithin xs → Fit xs ss → free xs ≤ so_many xs ss
  free_hold xs ss are fit =
      let more = more_hold xs (nothings xs) ss are (fit_nothings xs are) fit (within_nothings xs ss are fit) in
      let same = free_nothings xs in
      omega (arith, more, same)

  -- ---- what is chosen is least

  chosen_fit : (m : ℕ) (xs : List (Part A)) (ss : List A) → AreParts A IsWithin xs → Chosen A IsWithin m xs ss → Fit xs ss
  chosen_fit m [] [] are c = tt
  chosen_fit m [] (a ∷ ss) are c = absurd c
  chosen_fit m (x ∷ xs) [] are c = absurd c
  chosen_fit m (x ∷ xs) (a ∷ ss) are (inl c) = (c.1.fits, chosen_fit c.2.0 xs ss are.1 c.2.2)
  chosen_fit m (x ∷ xs) (a ∷ ss) are (inr c) = (subst (λ a. x.fits a ≡ true) (sym c.0) are.0.empty, chosen_fit m xs ss are.1 c.1)

  -- exactly so many hold, and those that hold with nothing
  pub chosen_hold : (m : ℕ) (xs : List (Part A)) (ss : List A) → Chosen A IsWithin m xs ss → so_many xs ss ≡ m + free xs
  chosen_hold m [] [] c = omega (arith, c)
  chosen_hold m [] (a ∷ ss) c = absurd c
  chosen_hold m (x ∷ xs) [] c = absurd c
  chosen_hold m (x ∷ xs) (a ∷ ss) (inl c) =
      let here = one_true (x.holds a) c.1.holds in
      let none = one_false (x.holds x.nothing) c.0 in
      let count = c.2.1 in
      let rest = chosen_hold c.2.0 xs ss c.2.2 in
      omega (arith, here, none, count, rest)
  chosen_hold m (x ∷ xs) (a ∷ ss) (inr c) =
      let here : one (x.holds a) ≡ one (x.holds x.nothing) = ap (λ a. one (x.holds a)) c.0 in
      let rest = chosen_hold m xs ss c.1 in
      omega (arith, here, rest)

  -- with less of one of them fewer hold
  chosen_least : (m : ℕ) (xs : List (Part A)) (ss ts : List A) → AreParts A IsWithin xs → Chosen A IsWithin m xs ss → Fit xs ts →
      AreWithin A IsWithin ts ss → so_many xs ss ≤ so_many xs ts → ts ≡ ss
  chosen_least m [] [] [] are c fit are_within h = refl
  chosen_least m [] [] (b ∷ ts) are c fit are_within h = absurd fit
  chosen_least m [] (a ∷ ss) ts are c fit are_within h = absurd c
  chosen_least m (x ∷ xs) [] ts are c fit are_within h = absurd c
  chosen_least m (x ∷ xs) (a ∷ ss) [] are c fit are_within h = absurd fit
  chosen_least m (x ∷ xs) (a ∷ ss) (b ∷ ts) are c fit are_within h =
      let fits = chosen_fit m (x ∷ xs) (a ∷ ss) are c in
      let first = one_le (x.holds b) (x.holds a) (are.0.more b a fit.0 fits.0 are_within.0) in
      let others = more_hold xs ts ss are.1 fit.1 fits.1 are_within.1 in
      let first_same : one (x.holds a) ≤ one (x.holds b) = omega (arith, h, first, others) in
      let others_same : so_many xs ss ≤ so_many xs ts = omega (arith, h, first, others) in
      elim c [
        | inl c ↦
            let held = more_true (x.holds b) (x.holds a) first_same c.1.holds in
            let here : b ≡ a = c.1.least b fit.0 held are_within.0 in
            let rest = chosen_least c.2.0 xs ss ts are.1 c.2.2 fit.1 are_within.1 others_same in
            ap (λ b. b ∷ ts) here ∙ ap (λ ts. a ∷ ts) rest
        | inr c ↦
            let here : b ≡ a = are.0.only b fit.0 (subst (IsWithin b) c.0 are_within.0) ∙ sym c.0 in
            let rest = chosen_least m xs ss ts are.1 c.1 fit.1 are_within.1 others_same in
            ap (λ b. b ∷ ts) here ∙ ap (λ ts. a ∷ ts) rest
      ]

  pub chosen_are_least : (xs : List (Part A)) (n : ℕ) (ss : List A) → AreParts A IsWithin xs → Chosen A IsWithin (n - free xs) xs ss → AreLeast A IsWithin n xs ss
  chosen_are_least xs n ss are c = record {
    fit = chosen_fit (n - free xs) xs ss are c;
    hold = let held = chosen_hold (n - free xs) xs ss c in omega (arith, held);
    least = λ ts fit h are_within.
        let held = chosen_hold (n - free xs) xs ss c in
        let above = free_hold xs ts are fit in
        let enough : so_many xs ss ≤ so_many xs ts = omega (arith, held, above, h) in
        chosen_least (n - free xs) xs ss ts are c fit are_within enough;
  }

  -- ---- what is least is chosen

  -- without the first part
  rest_least : (n m : ℕ) (x : Part A) (xs : List (Part A)) (a : A) (ss : List A) →
      ((k : ℕ) → m ≤ k → n ≤ one (x.holds a) + k) → m ≤ so_many xs ss →
      AreLeast A IsWithin n (x ∷ xs) (a ∷ ss) → AreLeast A IsWithin m xs ss
  rest_least n m x xs a ss enough hold l = record {
    fit = l.fit.1;
    hold = hold;
    least = λ ts fit h are_within.
        same_tail a a ss ts (l.least (a ∷ ts) (l.fit.0, fit) (enough (so_many xs ts) h) (within a, are_within));
  }

  -- the first part has nothing where so many hold without it
  first_nothing : (n : ℕ) (x : Part A) (xs : List (Part A)) (a : A) (ss : List A) → IsPart A IsWithin x →
      n ≤ one (x.holds x.nothing) + so_many xs ss → AreLeast A IsWithin n (x ∷ xs) (a ∷ ss) → a ≡ x.nothing
  first_nothing n x xs a ss is h l =
      sym (same_head a x.nothing ss ss (l.least (x.nothing ∷ ss) (is.empty, l.fit.1) h (is.least a l.fit.0, within_same ss)))

  first_least : (n : ℕ) (x : Part A) (xs : List (Part A)) (a : A) (ss : List A) → x.holds a ≡ true → AreLeast A IsWithin n (x ∷ xs) (a ∷ ss) → IsLeast A IsWithin x a
  first_least n x xs a ss e l = record {
    fits = l.fit.0;
    holds = e;
    least = λ b fit held is_within.
        let same : one (x.holds a) ≡ one (x.holds b) = ap one (e ∙ sym held) in
        let enough = l.hold in
        same_head a b ss ss (l.least (b ∷ ss) (fit, l.fit.1) (omega (arith, same, enough)) (is_within, within_same ss));
  }

  pub least_are_chosen : (xs : List (Part A)) (n : ℕ) (ss : List A) → AreParts A IsWithin xs → AreLeast A IsWithin n xs ss → Chosen A IsWithin (n - free xs) xs ss
  least_are_chosen [] n [] are l = let h = l.hold in omega (arith, h)
  least_are_chosen [] n (a ∷ ss) are l = absurd l.fit
  least_are_chosen (x ∷ xs) n [] are l = absurd l.fit
  least_are_chosen (x ∷ xs) n (a ∷ ss) are l = elim (cases_Bool (x.holds x.nothing)) [
    | inl f ↦
        -- it holds with nothing
        let counted = one_true (x.holds x.nothing) f in
        let bound = l.hold in
        let held : x.holds a ≡ true = are.0.more x.nothing a are.0.empty l.fit.0 (are.0.least a l.fit.0) f in
        let here = one_true (x.holds a) held in
        let nothing = first_nothing n x xs a ss are.0 (omega (arith, bound, counted, here)) l in
        let rest = rest_least n (n - 1) x xs a ss (λ k h. omega (arith, here, h)) (omega (arith, bound, here)) l in
        let chosen = least_are_chosen xs (n - 1) ss are.1 rest in
        let same : (n - 1) - free xs ≡ n - free (x ∷ xs) = omega (arith, counted) in
        inr (nothing, subst (λ m. Chosen A IsWithin m xs ss) same chosen)
    | inr f ↦
        let none = one_false (x.holds x.nothing) f in
        let bound = l.hold in
        elim (cases_Bool (x.holds a)) [
          | inl e ↦
              let here = one_true (x.holds a) e in
              let least = first_least n x xs a ss e l in
              let rest = rest_least n (n - 1) x xs a ss (λ k h. omega (arith, here, h)) (omega (arith, bound, here)) l in
              let chosen = least_are_chosen xs (n - 1) ss are.1 rest in
              let free_held = free_hold xs ss are.1 l.fit.1 in
              let some : suc (free xs) ≤ n = needed x xs n a ss are l f e in
              let same : (n - 1) - free xs ≡ (n - free (x ∷ xs)) - 1 = omega (arith, none) in
              let next : n - free (x ∷ xs) ≡ suc ((n - free (x ∷ xs)) - 1) = omega (arith, none, some) in
              inl (f, least, ((n - free (x ∷ xs)) - 1, next, subst (λ m. Chosen A IsWithin m xs ss) same chosen))
          | inr e ↦
              let here = one_false (x.holds a) e in
              let nothing = first_nothing n x xs a ss are.0 (omega (arith, bound, none, here)) l in
              let rest = rest_least n n x xs a ss (λ k h. omega (arith, here, h)) (omega (arith, bound, here)) l in
              let chosen = least_are_chosen xs n ss are.1 rest in
              let same : n - free xs ≡ n - free (x ∷ xs) = omega (arith, none) in
              inr (nothing, subst (λ m. Chosen A IsWithin m xs ss) same chosen)
        ]
  ]
    where
      -- more are wanted than hold with nothing, where a part that doesn't has something
      needed : (x : Part A) (xs : List (Part A)) (n : ℕ) (a : A) (ss : List A) → AreParts A IsWithin (x ∷ xs) → AreLeast A IsWithin n (x ∷ xs) (a ∷ ss) →
          x.holds x.nothing ≡ false → x.holds a ≡ true → suc (free xs) ≤ n
      needed x xs n a ss are l f e = elim (below n (free xs)) [
        | inl h ↦
            let enough : n ≤ so_many (x ∷ xs) (nothings (x ∷ xs)) = let same = free_nothings (x ∷ xs) in omega (arith, same, h) in
            let all = l.least (nothings (x ∷ xs)) (fit_nothings (x ∷ xs) are) enough (within_nothings (x ∷ xs) (a ∷ ss) are l.fit) in
            let nothing = same_head a x.nothing ss (nothings xs) all in
            absurd (false≢true (sym f ∙ ap x.holds nothing ∙ e))
        | inr h ↦ h
      ]
        where
          below : (n m : ℕ) → (n ≤ m) ⊎ (suc m ≤ n)
          below n m = grind arith
