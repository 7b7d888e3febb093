-- What is in lists that are made of others.
use Rattle.std.proofs.Common.{◌≡◌, ◌⊎◌, inl, inr, Bool, true, false, ◌&&◌, ◌||◌, List, [], ◌∷◌, map, filter, filter_map, flat_map, Option, Some, None, refl, sym, ◌∙◌, ap, subst, arith, if◌then◌else◌}
use Rattle.std.specs.List.{list_any, list_all}
use Rattle.std.proofs.lemmas.Bool.{cases_Bool, false≢true}
use Rattle.def_ways.specs.Tried.{or_none}
use Rattle.ms_way_laws.specs.Listed.{In, AreOnce}
use Rattle.ms_way_laws.proofs.Listed.{in_left, in_right, in_either, once_joined}

module _ {A : Type 0} where
  -- ---- those that pass a test

  pub filter_step : (test : A → Bool) (x : A) (xs : List A) (b : Bool) → test x ≡ b → filter test (x ∷ xs) ≡ (if b then x ∷ filter test xs else filter test xs)
  filter_step test x xs b e = rw e refl

  pub in_filter : (test : A → Bool) (a : A) (xs : List A) → In a xs → test a ≡ true → In a (filter test xs)
  in_filter test a [] h e = absurd h
  in_filter test a (x ∷ xs) (inl same) e =
      subst (λ ys. In a ys) (sym (filter_step test x xs true (subst (λ y. test y ≡ true) same e))) (inl same)
  in_filter test a (x ∷ xs) (inr h) e = elim (cases_Bool (test x)) [
    | inl t ↦ subst (λ ys. In a ys) (sym (filter_step test x xs true t)) (inr (in_filter test a xs h e))
    | inr f ↦ subst (λ ys. In a ys) (sym (filter_step test x xs false f)) (in_filter test a xs h e)
  ]

  pub of_filter : (test : A → Bool) (a : A) (xs : List A) → In a (filter test xs) → In a xs × (test a ≡ true)
  of_filter test a [] h = absurd h
  of_filter test a (x ∷ xs) h = elim (cases_Bool (test x)) [
    | inl t ↦ elim (subst (λ ys. In a ys) (filter_step test x xs true t) h) [
      | inl same ↦ (inl same, subst (λ y. test y ≡ true) (sym same) t)
      | inr i ↦ let r = of_filter test a xs i in (inr r.0, r.1)
    ]
    | inr f ↦ let r = of_filter test a xs (subst (λ ys. In a ys) (filter_step test x xs false f) h) in (inr r.0, r.1)
  ]

  pub once_filter : (test : A → Bool) (xs : List A) → AreOnce xs → AreOnce (filter test xs)
  once_filter test [] h = tt
  once_filter test (x ∷ xs) h = elim (cases_Bool (test x)) [
    | inl t ↦ subst AreOnce (sym (filter_step test x xs true t)) ((λ i. h.0 (of_filter test x xs i).0), once_filter test xs h.1)
    | inr f ↦ subst AreOnce (sym (filter_step test x xs false f)) (once_filter test xs h.1)
  ]

  -- ---- some, and all

  pub any_of : (test : A → Bool) (a : A) (xs : List A) → In a xs → test a ≡ true → list_any test xs ≡ true
  any_of test a [] h e = absurd h
  any_of test a (x ∷ xs) (inl same) e = let t : test x ≡ true = subst (λ y. test y ≡ true) same e in rw t refl
  any_of test a (x ∷ xs) (inr h) e = let t = any_of test a xs h e in or_true (test x) (list_any test xs) t
    where
      or_true : (a b : Bool) → b ≡ true → (a || b) ≡ true
      or_true a b e = grind arith

  pub record HasOne (test : A → Bool) (xs : List A) : Type 0 where
    pub one : A
    pub listed : In one xs
    pub passes : test one ≡ true

  pub one_of : (test : A → Bool) (xs : List A) → list_any test xs ≡ true → HasOne test xs
  one_of test [] e = absurd (false≢true e)
  one_of test (x ∷ xs) e = elim (cases_Bool (test x)) [
    | inl t ↦ record { one = x; listed = inl refl; passes = t }
    | inr f ↦
        let r = one_of test xs (rest (test x) (list_any test xs) f e) in
        record { one = r.one; listed = inr r.listed; passes = r.passes }
  ]
    where
      rest : (a b : Bool) → a ≡ false → (a || b) ≡ true → b ≡ true
      rest a b e h = grind arith

  pub all_of : (test : A → Bool) (xs : List A) → ((a : A) → In a xs → test a ≡ true) → list_all test xs ≡ true
  all_of test [] h = refl
  all_of test (x ∷ xs) h = let t = h x (inl refl) in let r = all_of test xs (λ a i. h a (inr i)) in both (test x) (list_all test xs) t r
    where
      both : (a b : Bool) → a ≡ true → b ≡ true → (a && b) ≡ true
      both a b e f = grind arith

  pub each_of : (test : A → Bool) (xs : List A) → list_all test xs ≡ true → (a : A) → In a xs → test a ≡ true
  each_of test [] e a h = absurd h
  each_of test (x ∷ xs) e a (inl same) = subst (λ y. test y ≡ true) (sym same) (left (test x) (list_all test xs) e)
    where
      left : (a b : Bool) → (a && b) ≡ true → a ≡ true
      left a b e = grind arith
  each_of test (x ∷ xs) e a (inr h) = each_of test xs (right (test x) (list_all test xs) e) a h
    where
      right : (a b : Bool) → (a && b) ≡ true → b ≡ true
      right a b e = grind arith

option_cases : {X : Type 0} (o : Option X) → (o ≡ None) ⊎ ((x : X) × (o ≡ Some x))
option_cases None = inl refl
option_cases (Some x) = inr (x, refl)

is_there : {X : Type 0} → Option X → Bool
is_there None = false
is_there (Some x) = true

value_or : {X : Type 0} → X → Option X → X
value_or y None = y
value_or y (Some x) = x

pub some_apart : {X : Type 0} (y : X) → None ≡ Some y → ⊥
unfolding is_there
some_apart y e = false≢true (ap is_there e)

pub some_same : {X : Type 0} (y z : X) → Some y ≡ Some z → y ≡ z
unfolding value_or
some_same y z e = ap (value_or y) e

module _ {A B : Type 0} where
  -- ---- lists made of each

  pub in_map : (f : A → B) (a : A) (xs : List A) → In a xs → In (f a) (map f xs)
  in_map f a [] h = absurd h
  in_map f a (x ∷ xs) (inl same) = inl (ap f same)
  in_map f a (x ∷ xs) (inr h) = inr (in_map f a xs h)

  pub record HasSource (f : A → B) (b : B) (xs : List A) : Type 0 where
    pub source : A
    pub listed : In source xs
    pub is : b ≡ f source

  pub of_map : (f : A → B) (b : B) (xs : List A) → In b (map f xs) → HasSource f b xs
  of_map f b [] h = absurd h
  of_map f b (x ∷ xs) (inl e) = record { source = x; listed = inl refl; is = e }
  of_map f b (x ∷ xs) (inr h) = let s = of_map f b xs h in record { source = s.source; listed = inr s.listed; is = s.is }

  pub once_map : (f : A → B) (xs : List A) → ((x y : A) → In x xs → In y xs → f x ≡ f y → x ≡ y) → AreOnce xs → AreOnce (map f xs)
  once_map f [] apart h = tt
  once_map f (x ∷ xs) apart h = (
    (λ again. let s = of_map f (f x) xs again in h.0 (subst (λ y. In y xs) (sym (apart x s.source (inl refl) (inr s.listed) s.is)) s.listed)),
    once_map f xs (λ y z i j. apart y z (inr i) (inr j)) h.1,
  )

  pub in_each : (f : A → List B) (a : A) (b : B) (xs : List A) → In a xs → In b (f a) → In b (flat_map f xs)
  in_each f a b [] h i = absurd h
  in_each f a b (x ∷ xs) (inl same) i = in_left b (f x) (flat_map f xs) (subst (λ y. In b (f y)) same i)
  in_each f a b (x ∷ xs) (inr h) i = in_right b (f x) (flat_map f xs) (in_each f a b xs h i)

  pub record HasMaker (f : A → List B) (b : B) (xs : List A) : Type 0 where
    pub maker : A
    pub listed : In maker xs
    pub made : In b (f maker)

  pub of_each : (f : A → List B) (b : B) (xs : List A) → In b (flat_map f xs) → HasMaker f b xs
  of_each f b [] h = absurd h
  of_each f b (x ∷ xs) h = elim (in_either b (f x) (flat_map f xs) h) [
    | inl l ↦ record { maker = x; listed = inl refl; made = l }
    | inr r ↦ let m = of_each f b xs r in record { maker = m.maker; listed = inr m.listed; made = m.made }
  ]

  pub once_each : (f : A → List B) (xs : List A) → AreOnce xs → ((x : A) → In x xs → AreOnce (f x)) →
      ((x y : A) (b : B) → In x xs → In y xs → In b (f x) → In b (f y) → x ≡ y) → AreOnce (flat_map f xs)
  once_each f [] h each apart = tt
  once_each f (x ∷ xs) h each apart =
      once_joined (f x) (flat_map f xs) (each x (inl refl))
      (once_each f xs h.1 (λ y i. each y (inr i)) (λ y z b i j. apart y z b (inr i) (inr j)))
      (λ b l r.
      let m = of_each f b xs r in
      h.0 (subst (λ y. In y xs) (sym (apart x m.maker b (inl refl) (inr m.listed) l m.made)) m.listed))

  found_step : (f : A → Option B) (x : A) (xs : List A) (y : B) → f x ≡ Some y → filter_map f (x ∷ xs) ≡ y ∷ filter_map f xs
  found_step f x xs y e = rw e refl

  none_step : (f : A → Option B) (x : A) (xs : List A) → f x ≡ None → filter_map f (x ∷ xs) ≡ filter_map f xs
  none_step f x xs e = rw e refl

  pub in_found : (f : A → Option B) (a : A) (b : B) (xs : List A) → In a xs → f a ≡ Some b → In b (filter_map f xs)
  in_found f a b [] h e = absurd h
  in_found f a b (x ∷ xs) (inl same) e = subst (λ ys. In b ys) (sym (found_step f x xs b (subst (λ y. f y ≡ Some b) same e))) (inl refl)
  in_found f a b (x ∷ xs) (inr h) e = elim (option_cases (f x)) [
    | inl n ↦ subst (λ ys. In b ys) (sym (none_step f x xs n)) (in_found f a b xs h e)
    | inr s ↦ subst (λ ys. In b ys) (sym (found_step f x xs s.0 s.1)) (inr (in_found f a b xs h e))
  ]

  pub record HasFound (f : A → Option B) (b : B) (xs : List A) : Type 0 where
    pub source : A
    pub listed : In source xs
    pub is : f source ≡ Some b

  pub of_found : (f : A → Option B) (b : B) (xs : List A) → In b (filter_map f xs) → HasFound f b xs
  of_found f b [] h = absurd h
  of_found f b (x ∷ xs) h = elim (option_cases (f x)) [
    | inl n ↦
        let r = of_found f b xs (subst (λ ys. In b ys) (none_step f x xs n) h) in
        record { source = r.source; listed = inr r.listed; is = r.is }
    | inr s ↦ elim (subst (λ ys. In b ys) (found_step f x xs s.0 s.1) h) [
      | inl same ↦ record { source = x; listed = inl refl; is = s.1 ∙ ap (λ y. Some y) (sym same) }
      | inr i ↦ let r = of_found f b xs i in record { source = r.source; listed = inr r.listed; is = r.is }
    ]
  ]

module _ {A : Type 0} where
  -- ---- none, or one of a list

  pub in_none : (xs : List A) → In None (or_none xs)
  in_none xs = inl refl

  pub in_some : (x : A) (xs : List A) → In x xs → In (Some x) (or_none xs)
  in_some x xs h = inr (in_map (λ x. Some x) x xs h)

  pub once_or_none : (xs : List A) → AreOnce xs → AreOnce (or_none xs)
  once_or_none xs h = (
    (λ i. let s = of_map (λ x. Some x) None xs i in some_apart s.source s.is),
    once_map (λ x. Some x) xs (λ x y i j e. some_same x y e) h,
  )
