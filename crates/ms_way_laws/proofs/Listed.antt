-- What is listed are the choices, each once, and so many.
use Rattle.std.proofs.Common.{◌≡◌, ◌⊎◌, inl, inr, ℕ, zero, suc, ◌+◌, ◌*◌, Bool, true, false, List, [], ◌∷◌, ◌++◌, length, map, refl, sym, ◌∙◌, ap, subst, arith, if◌then◌else◌}
use Rattle.std.proofs.lemmas.Bool.{false≢true}
use Rattle.std.proofs.lemmas.List.{length-map, length-append}
use Rattle.ms_way_laws.specs.Parts.{Chosen}
use Rattle.ms_way_laws.specs.Listed.{Counted, parts_of, with_each, listed, counted, In, AreOnce, AreCounted}
use Rattle.ms_way_laws.proofs.Parts.{same_head, same_tail}

module _ {A : Type 0} where
  pub in_left : (a : A) (xs ys : List A) → In a xs → In a (xs ++ ys)
  in_left a [] ys h = absurd h
  in_left a (x ∷ xs) ys (inl e) = inl e
  in_left a (x ∷ xs) ys (inr h) = inr (in_left a xs ys h)

  pub in_right : (a : A) (xs ys : List A) → In a ys → In a (xs ++ ys)
  in_right a [] ys h = h
  in_right a (x ∷ xs) ys h = inr (in_right a xs ys h)

  pub in_either : (a : A) (xs ys : List A) → In a (xs ++ ys) → In a xs ⊎ In a ys
  in_either a [] ys h = inr h
  in_either a (x ∷ xs) ys (inl e) = inl (inl e)
  in_either a (x ∷ xs) ys (inr h) = elim (in_either a xs ys h) [ inl l ↦ inl (inr l) | inr r ↦ inr r ]

  pub once_joined : (xs ys : List A) → AreOnce xs → AreOnce ys → ((a : A) → In a xs → In a ys → ⊥) → AreOnce (xs ++ ys)
  once_joined [] ys p q apart = q
  once_joined (x ∷ xs) ys p q apart = (
    (λ h. elim (in_either x xs ys h) [ inl l ↦ p.0 l | inr r ↦ apart x (inl refl) r ]),
    once_joined xs ys p.1 q (λ a l r. apart a (inr l) r),
  )

module _ {A : Type 0} where
  -- ---- lists with a first set

  in_before : (a : A) (ss : List A) (rests : List (List A)) → In ss rests → In (a ∷ ss) (map (λ ss. a ∷ ss) rests)
  in_before a ss [] h = absurd h
  in_before a ss (t ∷ ts) (inl e) = inl (ap (λ ss. a ∷ ss) e)
  in_before a ss (t ∷ ts) (inr h) = inr (in_before a ss ts h)

  record HasFirst (a : A) (ss : List A) (rests : List (List A)) : Type 0 where
    rest : List A
    is : ss ≡ a ∷ rest
    listed : In rest rests

  first_of : (a : A) (ss : List A) (rests : List (List A)) → In ss (map (λ ss. a ∷ ss) rests) → HasFirst a ss rests
  first_of a ss [] h = absurd h
  first_of a ss (t ∷ ts) (inl e) = record { rest = t; is = e; listed = inl refl }
  first_of a ss (t ∷ ts) (inr h) = let f = first_of a ss ts h in record { rest = f.rest; is = f.is; listed = inr f.listed }

  once_before : (a : A) (rests : List (List A)) → AreOnce rests → AreOnce (map (λ ss. a ∷ ss) rests)
  once_before a [] p = tt
  once_before a (t ∷ ts) p = (
    (λ h. let f = first_of a (a ∷ t) ts h in p.0 (subst (λ u. In u ts) (sym (same_tail a a f.rest t f.is)) f.listed)),
    once_before a ts p.1,
  )

  record HasSome (firsts : List A) (rests : List (List A)) (ss : List A) : Type 0 where
    first : A
    rest : List A
    is : ss ≡ first ∷ rest
    of_firsts : In first firsts
    of_rests : In rest rests

  some_of : (firsts : List A) (rests : List (List A)) (ss : List A) → In ss (with_each firsts rests) → HasSome firsts rests ss
  some_of [] rests ss h = absurd h
  some_of (a ∷ firsts) rests ss h = elim (in_either ss (map (λ ss. a ∷ ss) rests) (with_each firsts rests) h) [
    | inl l ↦ let f = first_of a ss rests l in record { first = a; rest = f.rest; is = f.is; of_firsts = inl refl; of_rests = f.listed }
    | inr r ↦ let s = some_of firsts rests ss r in record { first = s.first; rest = s.rest; is = s.is; of_firsts = inr s.of_firsts; of_rests = s.of_rests }
  ]

  in_with_each : (firsts : List A) (rests : List (List A)) (a : A) (ss : List A) → In a firsts → In ss rests → In (a ∷ ss) (with_each firsts rests)
  in_with_each [] rests a ss h k = absurd h
  in_with_each (b ∷ firsts) rests a ss (inl e) k =
      in_left (a ∷ ss) (map (λ ss. b ∷ ss) rests) (with_each firsts rests)
      (subst (λ c. In (a ∷ ss) (map (λ ss. c ∷ ss) rests)) e (in_before a ss rests k))
  in_with_each (b ∷ firsts) rests a ss (inr h) k = in_right (a ∷ ss) (map (λ ss. b ∷ ss) rests) (with_each firsts rests) (in_with_each firsts rests a ss h k)

  once_with_each : (firsts : List A) (rests : List (List A)) → AreOnce firsts → AreOnce rests → AreOnce (with_each firsts rests)
  once_with_each [] rests p q = tt
  once_with_each (a ∷ firsts) rests p q =
      once_joined (map (λ ss. a ∷ ss) rests) (with_each firsts rests) (once_before a rests q) (once_with_each firsts rests p.1 q)
      (λ ss l r.
      let f = first_of a ss rests l in
      let s = some_of firsts rests ss r in
      let same : s.first ≡ a = same_head a s.first f.rest s.rest (sym s.is ∙ f.is) in
      p.0 (subst (λ b. In b firsts) same s.of_firsts))

  length_with_each : (firsts : List A) (rests : List (List A)) → length (with_each firsts rests) ≡ length firsts * length rests
  length_with_each [] rests = omega arith
  length_with_each (a ∷ firsts) rests =
      let here : length (map (λ ss. a ∷ ss) rests) ≡ length rests = length-map rests (λ ss. a ∷ ss) in
      let more = length_with_each firsts rests in
      length-append (map (λ ss. a ∷ ss) rests) (with_each firsts rests) ∙ grind (arith, here, more)

module _ (A : Type 0) (IsWithin : A → A → Type 0) where
  -- what is listed with the first part taken
  abbrev taken : Bool → List A → List (List A) → List (List A)
  taken free firsts rests = if free then [] else with_each firsts rests

  -- ---- what is listed is chosen

  listed_chosen : (xs : List (Counted A)) (n : ℕ) (ss : List A) → AreCounted A IsWithin xs → In ss (listed n xs) → Chosen A IsWithin n (parts_of xs) ss
  listed_chosen [] zero [] are h = refl
  listed_chosen [] zero (s ∷ ss) are (inl e) = absurd (no_nil s ss e)
    where
      no_nil : (s : A) (ss : List A) → s ∷ ss ≡ [] → ⊥
      no_nil s ss e = let l : length (s ∷ ss) ≡ 0 = ap (λ ss. length ss) e in omega (arith, l)
  listed_chosen [] zero (s ∷ ss) are (inr h) = absurd h
  listed_chosen [] (suc n) ss are h = absurd h
  listed_chosen (x ∷ xs) zero ss are h =
      let f = first_of x.part.nothing ss (listed zero xs) h in
      subst (λ ss. Chosen A IsWithin zero (parts_of (x ∷ xs)) ss) (sym f.is) (inr (refl, listed_chosen xs zero f.rest are.2 f.listed))
  listed_chosen (x ∷ xs) (suc n) ss are h =
      elim (in_either ss (taken (x.part.holds x.part.nothing) x.leasts (listed n xs)) (map (λ ss. x.part.nothing ∷ ss) (listed (suc n) xs)) h) [
        | inl l ↦ first (λ rest h. listed_chosen xs n rest are.2 h) (x.part.holds x.part.nothing) refl l
        | inr r ↦
            let f = first_of x.part.nothing ss (listed (suc n) xs) r in
            subst (λ ss. Chosen A IsWithin (suc n) (parts_of (x ∷ xs)) ss) (sym f.is) (inr (refl, listed_chosen xs (suc n) f.rest are.2 f.listed))
      ]
    where
      first : ((rest : List A) → In rest (listed n xs) → Chosen A IsWithin n (parts_of xs) rest) →
          (b : Bool) → x.part.holds x.part.nothing ≡ b → In ss (taken b x.leasts (listed n xs)) → Chosen A IsWithin (suc n) (parts_of (x ∷ xs)) ss
      first others true e l = absurd l
      first others false e l =
          let s = some_of x.leasts (listed n xs) ss l in
          subst (λ ss. Chosen A IsWithin (suc n) (parts_of (x ∷ xs)) ss) (sym s.is)
          (inl (e, (are.0 s.first).0 s.of_firsts, (n, refl, others s.rest s.of_rests)))

  -- ---- what is chosen is listed

  in_taken : (b : Bool) → b ≡ false → (firsts : List A) (rests : List (List A)) (ss : List A) → In ss (with_each firsts rests) → In ss (taken b firsts rests)
  in_taken true e firsts rests ss h = absurd (false≢true (sym e))
  in_taken false e firsts rests ss h = h

  chosen_listed : (xs : List (Counted A)) (n : ℕ) (ss : List A) → AreCounted A IsWithin xs → Chosen A IsWithin n (parts_of xs) ss → In ss (listed n xs)
  chosen_listed [] zero [] are c = inl refl
  chosen_listed [] zero (s ∷ ss) are c = absurd c
  chosen_listed [] (suc n) [] are c = absurd (none n c)
    where
      none : (n : ℕ) → suc n ≡ 0 → ⊥
      none n e = omega (arith, e)
  chosen_listed [] (suc n) (s ∷ ss) are c = absurd c
  chosen_listed (x ∷ xs) n [] are c = absurd c
  chosen_listed (x ∷ xs) zero (a ∷ ss) are (inl c) = absurd (none c.2.0 c.2.1)
    where
      none : (m : ℕ) → 0 ≡ suc m → ⊥
      none m e = omega (arith, e)
  chosen_listed (x ∷ xs) zero (a ∷ ss) are (inr c) =
      subst (λ b. In (b ∷ ss) (listed zero (x ∷ xs))) (sym c.0) (in_before x.part.nothing ss (listed zero xs) (chosen_listed xs zero ss are.2 c.1))
  chosen_listed (x ∷ xs) (suc n) (a ∷ ss) are (inl c) =
      let same : c.2.0 ≡ n = let e = c.2.1 in omega (arith, e) in
      let rest = chosen_listed xs n ss are.2 (subst (λ m. Chosen A IsWithin m (parts_of xs) ss) same c.2.2) in
      in_left (a ∷ ss) (taken (x.part.holds x.part.nothing) x.leasts (listed n xs)) (map (λ ss. x.part.nothing ∷ ss) (listed (suc n) xs))
      (in_taken (x.part.holds x.part.nothing) c.0 x.leasts (listed n xs) (a ∷ ss)
      (in_with_each x.leasts (listed n xs) a ss ((are.0 a).1 c.1) rest))
  chosen_listed (x ∷ xs) (suc n) (a ∷ ss) are (inr c) =
      in_right (a ∷ ss) (taken (x.part.holds x.part.nothing) x.leasts (listed n xs)) (map (λ ss. x.part.nothing ∷ ss) (listed (suc n) xs))
      (subst (λ b. In (b ∷ ss) (map (λ ss. x.part.nothing ∷ ss) (listed (suc n) xs))) (sym c.0)
      (in_before x.part.nothing ss (listed (suc n) xs) (chosen_listed xs (suc n) ss are.2 c.1)))

  -- ---- each once

  listed_once : (xs : List (Counted A)) (n : ℕ) → AreCounted A IsWithin xs → AreOnce (listed n xs)
  listed_once [] zero are = (λ h. h, tt)
  listed_once [] (suc n) are = tt
  listed_once (x ∷ xs) zero are = once_before x.part.nothing (listed zero xs) (listed_once xs zero are.2)
  listed_once (x ∷ xs) (suc n) are =
      once_joined (taken (x.part.holds x.part.nothing) x.leasts (listed n xs)) (map (λ ss. x.part.nothing ∷ ss) (listed (suc n) xs))
      (once (listed_once xs n are.2) (x.part.holds x.part.nothing)) (once_before x.part.nothing (listed (suc n) xs) (listed_once xs (suc n) are.2))
      (λ ss l r. apart (x.part.holds x.part.nothing) refl ss l r)
    where
      once : AreOnce (listed n xs) → (b : Bool) → AreOnce (taken b x.leasts (listed n xs))
      once rests true = tt
      once rests false = once_with_each x.leasts (listed n xs) are.1 rests

      -- a least set isn't empty where the part doesn't hold with nothing
      apart : (b : Bool) → x.part.holds x.part.nothing ≡ b → (ss : List A) → In ss (taken b x.leasts (listed n xs)) →
          In ss (map (λ ss. x.part.nothing ∷ ss) (listed (suc n) xs)) → ⊥
      apart true e ss l r = l
      apart false e ss l r =
          let s = some_of x.leasts (listed n xs) ss l in
          let f = first_of x.part.nothing ss (listed (suc n) xs) r in
          let same : s.first ≡ x.part.nothing = same_head x.part.nothing s.first f.rest s.rest (sym s.is ∙ f.is) in
          let least = (are.0 s.first).0 s.of_firsts in
          false≢true (sym e ∙ ap x.part.holds (sym same) ∙ least.holds)

  -- ---- and so many

  listed_counted : (xs : List (Counted A)) (n : ℕ) → length (listed n xs) ≡ counted n xs
  listed_counted [] zero = refl
  listed_counted [] (suc n) = refl
  listed_counted (x ∷ xs) zero = length-map (listed zero xs) (λ ss. x.part.nothing ∷ ss) ∙ listed_counted xs zero
  listed_counted (x ∷ xs) (suc n) =
      length-append (taken (x.part.holds x.part.nothing) x.leasts (listed n xs)) (map (λ ss. x.part.nothing ∷ ss) (listed (suc n) xs))
      ∙ ap (λ m. m + length (map (λ ss. x.part.nothing ∷ ss) (listed (suc n) xs))) (first (listed_counted xs n) (x.part.holds x.part.nothing))
      ∙ ap (λ m. (if x.part.holds x.part.nothing then 0 else length x.leasts * counted n xs) + m)
      (length-map (listed (suc n) xs) (λ ss. x.part.nothing ∷ ss) ∙ listed_counted xs (suc n))
    where
      first : length (listed n xs) ≡ counted n xs → (b : Bool) → length (taken b x.leasts (listed n xs)) ≡ (if b then 0 else length x.leasts * counted n xs)
      first rests true = refl
      first rests false = length_with_each x.leasts (listed n xs) ∙ ap (λ m. length x.leasts * m) rests

  pub listed_are_chosen : (xs : List (Counted A)) (n : ℕ) → AreCounted A IsWithin xs →
      ((ss : List A) → (In ss (listed n xs) → Chosen A IsWithin n (parts_of xs) ss) × (Chosen A IsWithin n (parts_of xs) ss → In ss (listed n xs))) ×
      AreOnce (listed n xs) × (length (listed n xs) ≡ counted n xs)
  listed_are_chosen xs n are =
      ((λ ss. (listed_chosen xs n ss are, chosen_listed xs n ss are)), listed_once xs n are, listed_counted xs n)
