-- The order of flags is the order of places.
use Rattle.std.proofs.Common.{◌≡◌, ◌⊎◌, inl, inr, ℕ, ◌+◌, ◌<◌, ◌≤◌, Bool, true, false, not, ◌||◌, List, [], ◌∷◌, map, filter, refl, sym, ◌∙◌, ap, subst, arith, if◌then◌else◌}
use Rattle.std.specs.Prelude.{⊤}
use Rattle.std.proofs.lemmas.Bool.{cases_Bool, false≢true}
use Rattle.def_ways.specs.Secret.{Secret, same, firsts}
use Rattle.def_ways.specs.Order.{place, is_less}
use Rattle.ms_way_laws.specs.Listed.{In, AreOnce}
use Rattle.ms_way_laws.specs.Reckoned.{times}
use Rattle.ms_way_laws.proofs.Lists.{filter_step, in_filter, of_filter, in_map, of_map, any_of, one_of}
use Rattle.ms_way_laws.proofs.SomeOf.{in_firsts, of_firsts}
use Rattle.ms_way_laws.proofs.SameTruth.{same_is, same_own}
use Rattle.ms_way_laws.proofs.Settled.{refuse}
use Rattle.ms_way_laws.proofs.Sorted.{less_of, less_behind}
use Rattle.ms_way_laws.proofs.OfTree.{Picked, done, with, without, in_picked}
use Rattle.ms_way_laws.proofs.Named.{times_picked}
use Rattle.ms_way_laws.proofs.Picked.{in_times}
use Rattle.ms_way_laws.proofs.Flags.{some, precedes}

pub map_same : {A B : Type 0} (f g : A → B) → ((a : A) → f a ≡ g a) → (xs : List A) → map f xs ≡ map g xs
map_same f g h [] = refl
map_same f g h (x ∷ xs) = ap (λ b. b ∷ map f xs) (h x) ∙ ap (λ bs. g x ∷ bs) (map_same f g h xs)

some_in : (g : Secret → Bool) (s : Secret) (xs : List Secret) → In s xs → g s ≡ true → some (map g xs) ≡ true
some_in g s xs h e = any_of (λ b. b) (g s) (map g xs) (in_map g s xs h) e

record HasFlagged (g : Secret → Bool) (xs : List Secret) : Type 0 where
  pub one : Secret
  pub listed : In one xs
  pub flagged : g one ≡ true

in_some : (g : Secret → Bool) (xs : List Secret) → some (map g xs) ≡ true → HasFlagged g xs
in_some g xs e =
    let o = one_of (λ b. b) (map g xs) e in
    let m = of_map g o.one xs o.listed in
    record { one = m.source; listed = m.listed; flagged = sym m.is ∙ o.passes }

-- the first of two lists of flags precedes, told at the head
module _ (f g : Secret → Bool) where
  abbrev pub Precede : List Secret → Type 0
  Precede xs = precedes (map f xs) (map g xs) ≡ true

  -- either the head decides, or its flags are the same
  pub record IsSame (x : Secret) (xs : List Secret) : Type 0 where
    pub flags : f x ≡ g x
    pub rest : Precede xs

  pub record IsFirst (x : Secret) (xs : List Secret) : Type 0 where
    pub here : f x ≡ true
    pub not_there : g x ≡ false
    pub later : some (map g xs) ≡ true

  pub at_head : (x : Secret) (xs : List Secret) → Precede (x ∷ xs) → IsFirst x xs ⊎ IsSame x xs
  at_head x xs h = go (f x) (g x) refl refl h
    where
      go : (a b : Bool) → f x ≡ a → g x ≡ b → precedes (a ∷ map f xs) (b ∷ map g xs) ≡ true → IsFirst x xs ⊎ IsSame x xs
      go true false d e h = inl (record { here = d; not_there = e; later = h })
      go true true d e h = inr (record { flags = d ∙ sym e; rest = h })
      go false false d e h = inr (record { flags = d ∙ sym e; rest = h })
      go false true d e h = refuse h

  pub head_first : (x : Secret) (xs : List Secret) → f x ≡ true → g x ≡ false → some (map g xs) ≡ true → Precede (x ∷ xs)
  head_first x xs d e h = rw (d, e) h

  pub head_same : (x : Secret) (xs : List Secret) → f x ≡ g x → Precede xs → Precede (x ∷ xs)
  head_same x xs d h = go (f x) (g x) d h
    where
      go : (a b : Bool) → a ≡ b → precedes (map f xs) (map g xs) ≡ true → precedes (a ∷ map f xs) (b ∷ map g xs) ≡ true
      go true true d h = h
      go false false d h = h
      go true false d h = refuse (sym d)
      go false true d h = refuse d

  -- ---- of some of a list, and of the whole list

  abbrev pub IsFlagged : Secret → Type 0
  IsFlagged s = (f s ≡ true) ⊎ (g s ≡ true)

  unflagged : (s : Secret) → (IsFlagged s → ⊥) → f s ≡ g s
  unflagged s h = go (f s) (g s) refl refl
    where
      go : (a b : Bool) → f s ≡ a → g s ≡ b → a ≡ b
      go true b d e = absurd (h (inl d))
      go false true d e = absurd (h (inr e))
      go false false d e = refl

  pub extend : (part whole : List Secret) → Picked part whole → ((s : Secret) → IsFlagged s → times s part ≡ times s whole) → Precede part → Precede whole
  extend part whole done h e = e
  extend part whole (with x a xs p) h e = elim (at_head x a e) [
    | inl i ↦
        let l = in_some g a i.later in
        head_first x xs i.here i.not_there (some_in g l.one xs (in_picked a xs p l.one l.listed) l.flagged)
    | inr i ↦ head_same x xs i.flags (extend a xs p (λ s k. same_rest (if same s x then 1 else 0) (times s a) (times s xs) (h s k)) i.rest)
  ]
    where
      same_rest : (c m n : ℕ) → c + m ≡ c + n → m ≡ n
      same_rest c m n e = omega (arith, e)
  extend part whole (without x a xs p) h e =
      head_same x xs
      (unflagged x (λ k. none (same x x) (times x part) (times x xs) (same_own x) (times_picked x part xs p) (h x k)))
      (extend part xs p (λ s k. rest (same s x) (times s part) (times s xs) (times_picked s part xs p) (h s k)) e)
    where
      none : (b : Bool) (m n : ℕ) → b ≡ true → m ≤ n → m ≡ (if b then 1 else 0) + n → ⊥
      none b m n e l h = grind arith

      rest : (b : Bool) (m n : ℕ) → m ≤ n → m ≡ (if b then 1 else 0) + n → m ≡ n
      rest b m n l h = grind arith

  -- ---- without some that aren't flagged

  pub passing : (test : Secret → Bool) (xs : List Secret) → ((s : Secret) → In s xs → test s ≡ false → IsFlagged s → ⊥) → Precede xs → Precede (filter test xs)
  passing test [] h e = e
  passing test (x ∷ xs) h e = elim (cases_Bool (test x)) [
    | inl t ↦ subst Precede (sym (filter_step test x xs true t)) (elim (at_head x xs e) [
      | inl i ↦
          let l = in_some g xs i.later in
          head_first x (filter test xs) i.here i.not_there
          (some_in g l.one (filter test xs) (in_filter test l.one xs l.listed (passes l.one (λ f. h l.one (inr l.listed) f (inr l.flagged)))) l.flagged)
      | inr i ↦ head_same x (filter test xs) i.flags (passing test xs (λ s k. h s (inr k)) i.rest)
    ])
    | inr t ↦ subst Precede (sym (filter_step test x xs false t)) (passing test xs (λ s k. h s (inr k)) (elim (at_head x xs e) [
      | inl i ↦ absurd (h x (inl refl) t (inl i.here))
      | inr i ↦ i.rest
    ]))
  ]
    where
      passes : (s : Secret) → (test s ≡ false → ⊥) → test s ≡ true
      passes s h = elim (cases_Bool (test s)) [ inl e ↦ e | inr f ↦ absurd (h f) ]

  pub of_firsts_too : (xs : List Secret) → ((s : Secret) → IsFlagged s → times s xs ≤ 1) → Precede xs → Precede (firsts xs)
  of_firsts_too [] h e = e
  of_firsts_too (x ∷ xs) h e = elim (at_head x xs e) [
    | inl i ↦
        let l = in_some g xs i.later in
        head_first x (filter (λ other. not (same x other)) (firsts xs)) i.here i.not_there
        (some_in g l.one (filter (λ other. not (same x other)) (firsts xs))
        (in_filter (λ other. not (same x other)) l.one (firsts xs) (in_firsts l.one xs l.listed)
        (other l.one (λ e. false≢true (sym i.not_there ∙ subst (λ s. g s ≡ true) (sym e) l.flagged)))) l.flagged)
    | inr i ↦
        head_same x (filter (λ other. not (same x other)) (firsts xs)) i.flags
        (passing (λ other. not (same x other)) (firsts xs)
        (λ s k t is. twice (same s x) (times s xs) (subst (λ y. same s y ≡ true) (sym (same_one s t)) (same_own s)) (in_times s xs (of_firsts s xs k)) (h s is))
        (of_firsts_too xs (λ s is. fewer (same s x) (times s xs) (h s is)) i.rest))
  ]
    where
      other : (s : Secret) → (x ≡ s → ⊥) → not (same x s) ≡ true
      other s h = elim (cases_Bool (same x s)) [ inl e ↦ absurd (h (same_is x s e)) | inr f ↦ ap not f ]

      same_one : (s : Secret) → not (same x s) ≡ false → x ≡ s
      same_one s t = same_is x s (turned (same x s) t)
        where
          turned : (b : Bool) → not b ≡ false → b ≡ true
          turned b e = grind arith

      twice : (b : Bool) (n : ℕ) → b ≡ true → 1 ≤ n → (if b then 1 else 0) + n ≤ 1 → ⊥
      twice b n e l m = grind arith

      fewer : (b : Bool) (n : ℕ) → (if b then 1 else 0) + n ≤ 1 → n ≤ 1
      fewer b n m = grind arith

  -- ---- with others, which both have

  pub with_others : (k : Secret → Bool) → ((s : Secret) → IsFlagged s → k s ≡ false) → (xs : List Secret) → Precede xs →
      precedes (map (λ s. k s || f s) xs) (map (λ s. k s || g s) xs) ≡ true
  with_others k h [] e = e
  with_others k h (x ∷ xs) e = elim (at_head x xs e) [
    | inl i ↦
        let l = in_some g xs i.later in
        let away = h x (inl i.here) in
        let here : (k x || f x) ≡ true = second (k x) (f x) i.here in
        let there : (k x || g x) ≡ false = neither (k x) (g x) away i.not_there in
        first (k x || f x) (k x || g x) here there (some_in (λ s. k s || g s) l.one xs l.listed (second (k l.one) (g l.one) l.flagged))
    | inr i ↦ same_heads (k x || f x) (k x || g x) (ap (λ b. k x || b) i.flags) (with_others k h xs i.rest)
  ]
    where
      second : (a b : Bool) → b ≡ true → (a || b) ≡ true
      second a b e = grind arith

      neither : (a b : Bool) → a ≡ false → b ≡ false → (a || b) ≡ false
      neither a b e f = grind arith

      first : (a b : Bool) → a ≡ true → b ≡ false → some (map (λ s. k s || g s) xs) ≡ true →
          precedes (a ∷ map (λ s. k s || f s) xs) (b ∷ map (λ s. k s || g s) xs) ≡ true
      first true false d e h = h
      first false b d e h = refuse d
      first true true d e h = refuse (sym e)

      same_heads : (a b : Bool) → a ≡ b → precedes (map (λ s. k s || f s) xs) (map (λ s. k s || g s) xs) ≡ true →
          precedes (a ∷ map (λ s. k s || f s) xs) (b ∷ map (λ s. k s || g s) xs) ≡ true
      same_heads true true d h = h
      same_heads false false d h = h
      same_heads true false d h = refuse (sym d)
      same_heads false true d h = refuse d

  -- ---- the numbers of those that are flagged

  abbrev pub AreRising : (number : Secret → ℕ) → List Secret → Type 0
  AreRising number [] = ⊤
  AreRising number (x ∷ xs) = ((y : Secret) → In y xs → number x < number y) × AreRising number xs

  pub less_numbers : (number : Secret → ℕ) (xs : List Secret) → AreRising number xs → Precede xs →
      is_less (map number (filter f xs)) (map number (filter g xs)) ≡ true
  less_numbers number [] r e = refuse e
  less_numbers number (x ∷ xs) r e = elim (at_head x xs e) [
    | inl i ↦
        let l = in_some g xs i.later in
        subst (λ ys. is_less (map number ys) (map number (filter g (x ∷ xs))) ≡ true) (sym (filter_step f x xs true i.here))
        (subst (λ ys. is_less (map number (x ∷ filter f xs)) (map number ys) ≡ true) (sym (filter_step g x xs false i.not_there))
        (first (filter g xs) l.one (in_filter g l.one xs l.listed l.flagged) (λ y k. r.0 y (of_filter g y xs k).0)))
    | inr i ↦ elim (cases_Bool (f x)) [
      | inl t ↦
          subst (λ ys. is_less (map number ys) (map number (filter g (x ∷ xs))) ≡ true) (sym (filter_step f x xs true t))
          (subst (λ ys. is_less (map number (x ∷ filter f xs)) (map number ys) ≡ true) (sym (filter_step g x xs true (sym i.flags ∙ t)))
          (less_behind (number x) (map number (filter f xs)) (map number (filter g xs)) (less_numbers number xs r.1 i.rest)))
      | inr t ↦
          subst (λ ys. is_less (map number ys) (map number (filter g (x ∷ xs))) ≡ true) (sym (filter_step f x xs false t))
          (subst (λ ys. is_less (map number (filter f xs)) (map number ys) ≡ true) (sym (filter_step g x xs false (sym i.flags ∙ t)))
          (less_numbers number xs r.1 i.rest))
    ]
  ]
    where
      first : (ys : List Secret) (s : Secret) → In s ys → ((y : Secret) → In y ys → number x < number y) →
          is_less (number x ∷ map number (filter f xs)) (map number ys) ≡ true
      first [] s h below = absurd h
      first (y ∷ ys) s h below = less_of (number x) (number y) (map number (filter f xs)) (map number ys) (below y (inl refl))

-- places rise
module _ (f g : Secret → Bool) where
  rising_later : (number later : Secret → ℕ) (xs : List Secret) → ((s : Secret) → In s xs → later s ≡ number s + 1) → AreRising f g number xs → AreRising f g later xs
  rising_later number later [] h r = tt
  rising_later number later (x ∷ xs) h r = (
    (λ y i.
        let a = h x (inl refl) in
        let b = h y (inr i) in
        let l = r.0 y i in
        omega (arith, a, b, l)),
    rising_later number later xs (λ s i. h s (inr i)) r.1,
  )

  behind_first : (s x : Secret) (all : List Secret) → same s x ≡ false → place s (x ∷ all) ≡ place s all + 1
  behind_first s x all e = rw e refl

  at_first : (x : Secret) (all : List Secret) → place x (x ∷ all) ≡ 0
  at_first x all = let e = same_own x in rw e refl

  pub rising_places : (all : List Secret) → AreOnce all → AreRising f g (λ s. place s all) all
  rising_places [] o = tt
  rising_places (x ∷ all) o = (
    (λ y i.
        let a = at_first x all in
        let b = behind_first y x all (differs y i) in
        omega (arith, a, b)),
    rising_later (λ s. place s all) (λ s. place s (x ∷ all)) all (λ s i. behind_first s x all (differs s i)) (rising_places all o.1),
  )
    where
      differs : (y : Secret) → In y all → same y x ≡ false
      differs y i = elim (cases_Bool (same y x)) [ inl e ↦ absurd (o.0 (subst (λ z. In z all) (same_is y x e) i)) | inr f ↦ f ]
