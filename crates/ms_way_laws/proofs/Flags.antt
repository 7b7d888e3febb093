-- The least sets of a policy are listed in the order of its leaves: of two the one that takes the first leaf in which they differ
-- stands first.
use Rattle.std.proofs.Common.{◌≡◌, inl, inr, ℕ, zero, suc, ◌-◌, nat_le, Bool, true, false, ◌||◌, List, [], ◌∷◌, ◌++◌, length, map, flat_map, Option, Some, None, refl, sym, ◌∙◌, ap, subst, arith, if◌then◌else◌}
use Rattle.std.specs.Prelude.{⊤}
use Rattle.std.specs.List.{list_any}
use Rattle.std.proofs.lemmas.Bool.{cases_Bool, false≢true, and_parts}
use Rattle.std.proofs.lemmas.List.Folds.{list_any-append}
use Rattle.def_policy.specs.Policy as policy
use Rattle.def_policy.specs.Policy.{Policy, Policies, never, always, older, after, hash, all, any, thresh, none, more}
use Rattle.def_policy.specs.Truth.{how_many}
use Rattle.def_policy.specs.Laws.{count}
use Rattle.ms_way_laws.specs.Parts.{free}
use Rattle.ms_way_laws.specs.Listed.{with_each, listed, In}
use Rattle.ms_way_laws.specs.Settled.{Setting, Choice, Choices, leaf, node, ended, next, fits, fit, nothing, nothings, is_taken, settled_or, holds, hold, parts}
use Rattle.ms_way_laws.specs.Leasts.{choices_of, of_settled, of_hash, of_parts, leasts, each}
use Rattle.ms_way_laws.proofs.Listed.{in_either}
use Rattle.ms_way_laws.proofs.Lists.{of_map, of_each}
use Rattle.ms_way_laws.proofs.Sorted.{IsSorted, sorted_joined}
use Rattle.ms_way_laws.proofs.Settled.{refuse}
use Rattle.ms_way_laws.proofs.Leasts.{leasts_are_least}

-- ---- flags

abbrev pub some : List Bool → Bool
some bs = list_any (λ b. b) bs

-- the first difference is taken here, and something later there
abbrev pub precedes : List Bool → List Bool → Bool
precedes (true ∷ ls) (false ∷ bs) = some bs
precedes (true ∷ ls) (true ∷ bs) = precedes ls bs
precedes (false ∷ ls) (false ∷ bs) = precedes ls bs
precedes (false ∷ ls) (true ∷ bs) = false
precedes [] bs = false
precedes (a ∷ ls) [] = false

some_left : (ls bs : List Bool) → some ls ≡ true → some (ls ++ bs) ≡ true
some_left ls bs e = list_any-append (λ b. b) ls bs ∙ rw e refl

some_right : (ls bs : List Bool) → some bs ≡ true → some (ls ++ bs) ≡ true
some_right ls bs e = list_any-append (λ b. b) ls bs ∙ second (some ls) (some bs) e
  where
    second : (a b : Bool) → b ≡ true → (a || b) ≡ true
    second a b e = grind arith

longer : (ls bs cs ds : List Bool) → precedes ls bs ≡ true → precedes (ls ++ cs) (bs ++ ds) ≡ true
longer [] bs cs ds e = refuse e
longer (true ∷ ls) [] cs ds e = refuse e
longer (false ∷ ls) [] cs ds e = refuse e
longer (true ∷ ls) (false ∷ bs) cs ds e = some_left bs ds e
longer (true ∷ ls) (true ∷ bs) cs ds e = longer ls bs cs ds e
longer (false ∷ ls) (false ∷ bs) cs ds e = longer ls bs cs ds e
longer (false ∷ ls) (true ∷ bs) cs ds e = refuse e

behind : (cs ls bs : List Bool) → precedes ls bs ≡ true → precedes (cs ++ ls) (cs ++ bs) ≡ true
behind [] ls bs e = e
behind (true ∷ cs) ls bs e = behind cs ls bs e
behind (false ∷ cs) ls bs e = behind cs ls bs e

-- something is taken in the one, and nothing in the other but later
first_taken : (ls zs cs ds : List Bool) → length ls ≡ length zs → some ls ≡ true → some zs ≡ false → some ds ≡ true →
    precedes (ls ++ cs) (zs ++ ds) ≡ true
first_taken [] zs cs ds l e f g = refuse e
first_taken (a ∷ ls) [] cs ds l e f g = absurd (none (length ls) l)
  where
    none : (n : ℕ) → suc n ≡ 0 → ⊥
    none n l = omega (arith, l)
first_taken (true ∷ ls) (false ∷ zs) cs ds l e f g = some_right zs ds g
first_taken (false ∷ ls) (false ∷ zs) cs ds l e f g = first_taken ls zs cs ds (less (length ls) (length zs) l) e f g
  where
    less : (n m : ℕ) → suc n ≡ suc m → n ≡ m
    less n m l = omega (arith, l)
first_taken (true ∷ ls) (true ∷ zs) cs ds l e f g = refuse (sym f)
first_taken (false ∷ ls) (true ∷ zs) cs ds l e f g = refuse (sym f)

-- ---- the flags of a choice

abbrev mutual
  pub flags : Policy → Choice → List Bool
  flags never x = []
  flags always x = []
  flags (policy.key k) x = is_taken x ∷ []
  flags (older n) x = []
  flags (after n) x = []
  flags (hash kind value) x = is_taken x ∷ []
  flags (all ps) (node xs) = flags_of ps xs
  flags (any ps) (node xs) = flags_of ps xs
  flags (thresh k ps) (node xs) = flags_of ps xs
  flags (all ps) (leaf a) = []
  flags (any ps) (leaf a) = []
  flags (thresh k ps) (leaf a) = []

  pub flags_of : Policies → Choices → List Bool
  flags_of none xs = []
  flags_of (more p ps) ended = []
  flags_of (more p ps) (next x xs) = flags p x ++ flags_of ps xs

mutual
  no_flags : (p : Policy) → some (flags p (nothing p)) ≡ false
  no_flags never = refl
  no_flags always = refl
  no_flags (policy.key k) = refl
  no_flags (older n) = refl
  no_flags (after n) = refl
  no_flags (hash kind value) = refl
  no_flags (all ps) = no_flags_of ps
  no_flags (any ps) = no_flags_of ps
  no_flags (thresh k ps) = no_flags_of ps

  no_flags_of : (ps : Policies) → some (flags_of ps (nothings ps)) ≡ false
  no_flags_of none = refl
  no_flags_of (more p ps) =
      list_any-append (λ b. b) (flags p (nothing p)) (flags_of ps (nothings ps)) ∙ (let a = no_flags p in let b = no_flags_of ps in rw (a, b) refl)

append_length : (ls bs cs ds : List Bool) → length ls ≡ length cs → length bs ≡ length ds → length (ls ++ bs) ≡ length (cs ++ ds)
append_length [] bs [] ds e f = f
append_length [] bs (c ∷ cs) ds e f = absurd (none (length cs) e)
  where
    none : (n : ℕ) → 0 ≡ suc n → ⊥
    none n l = omega (arith, l)
append_length (a ∷ ls) bs [] ds e f = absurd (none (length ls) e)
  where
    none : (n : ℕ) → suc n ≡ 0 → ⊥
    none n l = omega (arith, l)
append_length (a ∷ ls) bs (c ∷ cs) ds e f = ap (λ n. suc n) (append_length ls bs cs ds (less (length ls) (length cs) e) f)
  where
    less : (n m : ℕ) → suc n ≡ suc m → n ≡ m
    less n m l = omega (arith, l)

mutual
  as_many_flags : (p : Policy) (x : Choice) → fits p x ≡ true → length (flags p x) ≡ length (flags p (nothing p))
  as_many_flags never x e = refl
  as_many_flags always x e = refl
  as_many_flags (policy.key k) x e = refl
  as_many_flags (older n) x e = refl
  as_many_flags (after n) x e = refl
  as_many_flags (hash kind value) x e = refl
  as_many_flags (all ps) (node xs) e = as_many_flags_of ps xs e
  as_many_flags (any ps) (node xs) e = as_many_flags_of ps xs e
  as_many_flags (thresh k ps) (node xs) e = as_many_flags_of ps xs e
  as_many_flags (all ps) (leaf a) e = refuse e
  as_many_flags (any ps) (leaf a) e = refuse e
  as_many_flags (thresh k ps) (leaf a) e = refuse e

  as_many_flags_of : (ps : Policies) (xs : Choices) → fit ps xs ≡ true → length (flags_of ps xs) ≡ length (flags_of ps (nothings ps))
  as_many_flags_of none xs e = refl
  as_many_flags_of (more p ps) ended e = refuse e
  as_many_flags_of (more p ps) (next x xs) e =
      let both = and_parts (fits p x) (fit ps xs) e in
      append_length (flags p x) (flags_of ps xs) (flags p (nothing p)) (flags_of ps (nothings ps)) (as_many_flags p x both.0) (as_many_flags_of ps xs both.1)

neither : (ls bs : List Bool) → some (ls ++ bs) ≡ false → (some ls ≡ false) × (some bs ≡ false)
neither ls bs e = go (some ls) (some bs) (sym (list_any-append (λ b. b) ls bs) ∙ e)
  where
    go : (a b : Bool) → (a || b) ≡ false → (a ≡ false) × (b ≡ false)
    go false false e = (refl, refl)
    go false true e = refuse (sym e)
    go true b e = refuse (sym e)

one_flag : (b : Bool) → some (b ∷ []) ≡ false → b ≡ false
one_flag true e = refuse (sym e)
one_flag false e = refl

-- with nothing taken it holds as with nothing
module _ (s : Setting) where
  mutual
    as_nothing : (p : Policy) (x : Choice) → fits p x ≡ true → some (flags p x) ≡ false → holds s p x ≡ holds s p (nothing p)
    as_nothing never x e f = refl
    as_nothing always x e f = refl
    as_nothing (policy.key k) x e f = one_flag (is_taken x) f
    as_nothing (older n) x e f = refl
    as_nothing (after n) x e f = refl
    as_nothing (hash kind value) x e f = ap (λ b. settled_or (s.known kind value) b) (one_flag (is_taken x) f)
    as_nothing (all ps) (node xs) e f = ap (λ bs. nat_le (count ps) (how_many bs)) (as_nothings ps xs e f)
    as_nothing (any ps) (node xs) e f = ap (λ bs. nat_le 1 (how_many bs)) (as_nothings ps xs e f)
    as_nothing (thresh k ps) (node xs) e f = ap (λ bs. nat_le k (how_many bs)) (as_nothings ps xs e f)
    as_nothing (all ps) (leaf a) e f = refuse e
    as_nothing (any ps) (leaf a) e f = refuse e
    as_nothing (thresh k ps) (leaf a) e f = refuse e

    as_nothings : (ps : Policies) (xs : Choices) → fit ps xs ≡ true → some (flags_of ps xs) ≡ false → hold s ps xs ≡ hold s ps (nothings ps)
    as_nothings none xs e f = refl
    as_nothings (more p ps) ended e f = refuse e
    as_nothings (more p ps) (next x xs) e f =
        let both = and_parts (fits p x) (fit ps xs) e in
        let none = neither (flags p x) (flags_of ps xs) f in
        ap (λ b. b ∷ hold s ps xs) (as_nothing p x both.0 none.0) ∙ ap (λ bs. holds s p (nothing p) ∷ bs) (as_nothings ps xs both.1 none.1)

  -- what is least takes something, where the policy doesn't hold with nothing
  least_takes : (p : Policy) (x : Choice) → In x (leasts s p) → holds s p (nothing p) ≡ false → some (flags p x) ≡ true
  least_takes p x h n = elim (cases_Bool (some (flags p x))) [
    | inl e ↦ e
    | inr f ↦
        let l = ((leasts_are_least s p).0 x).0 h in
        absurd (false≢true (sym n ∙ sym (as_nothing p x l.fits f) ∙ l.holds))
  ]

  -- ---- sorted lists

  abbrev pub by_flags : Policy → Choice → Choice → Bool
  by_flags p = λ x y. precedes (flags p x) (flags p y)

  abbrev each_flags : Policies → List Choice → List Bool
  each_flags none xs = []
  each_flags (more p ps) [] = []
  each_flags (more p ps) (x ∷ xs) = flags p x ++ each_flags ps xs

  abbrev by_each : Policies → List Choice → List Choice → Bool
  by_each ps = λ xs ys. precedes (each_flags ps xs) (each_flags ps ys)

  as_each : (ps : Policies) (xs : List Choice) → flags_of ps (choices_of xs) ≡ each_flags ps xs
  as_each none xs = refl
  as_each (more p ps) [] = refl
  as_each (more p ps) (x ∷ xs) = ap (λ bs. flags p x ++ bs) (as_each ps xs)

pub sorted_map : {A B : Type 0} (before : B → B → Bool) (first : A → A → Bool) (f : A → B) → ((x y : A) → first x y ≡ true → before (f x) (f y) ≡ true) →
    (xs : List A) → IsSorted first xs → IsSorted before (map f xs)
sorted_map before first f h [] s = tt
sorted_map before first f h (x ∷ xs) s = (
  (λ y i. let m = of_map f y xs i in subst (λ z. before (f x) z ≡ true) (sym m.is) (h x m.source (s.0 m.source m.listed))),
  sorted_map before first f h xs s.1,
)

-- of each of a list in order a list in order
pub sorted_each : {A B : Type 0} (before : B → B → Bool) (first : A → A → Bool) (f : A → List B) (xs : List A) → IsSorted first xs →
    ((x : A) → In x xs → IsSorted before (f x)) →
    ((x y : A) → In x xs → In y xs → first x y ≡ true → (a b : B) → In a (f x) → In b (f y) → before a b ≡ true) → IsSorted before (flat_map f xs)
sorted_each before first f [] s each apart = tt
sorted_each before first f (x ∷ xs) s each apart =
    sorted_joined before (f x) (flat_map f xs) (each x (inl refl))
    (sorted_each before first f xs s.1 (λ y i. each y (inr i)) (λ y z i j. apart y z (inr i) (inr j)))
    (λ a b i j. let m = of_each f b xs j in apart x m.maker (inl refl) (inr m.listed) (s.0 m.maker m.listed) a b i m.made)

module _ (s : Setting) where
  abbrev taken_first : Bool → List Choice → List (List Choice) → List (List Choice)
  taken_first free firsts rests = if free then [] else with_each firsts rests

  -- of so many parts something is taken
  listed_take : (ps : Policies) (n : ℕ) (ss : List Choice) → In ss (listed (suc n) (each s ps)) → some (each_flags s ps ss) ≡ true
  listed_take none n ss h = absurd h
  listed_take (more p ps) n ss h =
      elim (in_either ss (taken_first (holds s p (nothing p)) (leasts s p) (listed n (each s ps))) (map (λ ss. nothing p ∷ ss) (listed (suc n) (each s ps))) h) [
        | inl l ↦ first (holds s p (nothing p)) refl l
        | inr r ↦
            let m = of_map (λ ss. nothing p ∷ ss) ss (listed (suc n) (each s ps)) r in
            subst (λ ts. some (each_flags s (more p ps) ts) ≡ true) (sym m.is)
            (some_right (flags p (nothing p)) (each_flags s ps m.source) (listed_take ps n m.source m.listed))
      ]
    where
      first : (b : Bool) → holds s p (nothing p) ≡ b → In ss (taken_first b (leasts s p) (listed n (each s ps))) → some (each_flags s (more p ps) ss) ≡ true
      first true e l = absurd l
      first false e l =
          let a = of_each (λ a. map (λ ss. a ∷ ss) (listed n (each s ps))) ss (leasts s p) l in
          let m = of_map (λ ss. a.maker ∷ ss) ss (listed n (each s ps)) a.made in
          subst (λ ts. some (each_flags s (more p ps) ts) ≡ true) (sym m.is)
          (some_left (flags p a.maker) (each_flags s ps m.source) (least_takes s p a.maker a.listed e))

  -- the least sets of each part are in order
  abbrev AreSorted : Policies → Type 0
  AreSorted none = ⊤
  AreSorted (more p ps) = IsSorted (by_flags s p) (leasts s p) × AreSorted ps

  sorted_firsts : (p : Policy) (ps : Policies) (n : ℕ) → IsSorted (by_flags s p) (leasts s p) → IsSorted (by_each s ps) (listed n (each s ps)) →
      (b : Bool) → IsSorted (by_each s (more p ps)) (taken_first b (leasts s p) (listed n (each s ps)))
  sorted_firsts p ps n firsts rests true = tt
  sorted_firsts p ps n firsts rests false =
      sorted_each (by_each s (more p ps)) (by_flags s p) (λ a. map (λ ss. a ∷ ss) (listed n (each s ps))) (leasts s p) firsts
      (λ a i. sorted_map (by_each s (more p ps)) (by_each s ps) (λ ss. a ∷ ss)
      (λ x y e. behind (flags p a) (each_flags s ps x) (each_flags s ps y) e) (listed n (each s ps)) rests)
      (λ a b i j e ss ts k l.
      let x = of_map (λ ss. a ∷ ss) ss (listed n (each s ps)) k in
      let y = of_map (λ ss. b ∷ ss) ts (listed n (each s ps)) l in
      subst (λ us. precedes us (each_flags s (more p ps) ts) ≡ true) (ap (each_flags s (more p ps)) (sym x.is))
      (subst (λ us. precedes (each_flags s (more p ps) (a ∷ x.source)) us ≡ true) (ap (each_flags s (more p ps)) (sym y.is))
      (longer (flags p a) (flags p b) (each_flags s ps x.source) (each_flags s ps y.source) e)))

  sorted_listed : (ps : Policies) (n : ℕ) → AreSorted ps → IsSorted (by_each s ps) (listed n (each s ps))
  sorted_listed none zero are = ((λ y h. absurd h), tt)
  sorted_listed none (suc n) are = tt
  sorted_listed (more p ps) zero are =
      sorted_map (by_each s (more p ps)) (by_each s ps) (λ ss. nothing p ∷ ss)
      (λ x y e. behind (flags p (nothing p)) (each_flags s ps x) (each_flags s ps y) e) (listed zero (each s ps)) (sorted_listed ps zero are.1)
  sorted_listed (more p ps) (suc n) are =
      sorted_joined (by_each s (more p ps)) (taken_first (holds s p (nothing p)) (leasts s p) (listed n (each s ps))) (map (λ ss. nothing p ∷ ss) (listed (suc n) (each s ps)))
      (sorted_firsts p ps n are.0 (sorted_listed ps n are.1) (holds s p (nothing p)))
      (sorted_map (by_each s (more p ps)) (by_each s ps) (λ ss. nothing p ∷ ss)
      (λ x y e. behind (flags p (nothing p)) (each_flags s ps x) (each_flags s ps y) e) (listed (suc n) (each s ps)) (sorted_listed ps (suc n) are.1))
      (λ ss ts k l. apart (holds s p (nothing p)) refl ss ts k l)
    where
      apart : (b : Bool) → holds s p (nothing p) ≡ b → (ss ts : List Choice) → In ss (taken_first b (leasts s p) (listed n (each s ps))) →
          In ts (map (λ ss. nothing p ∷ ss) (listed (suc n) (each s ps))) → by_each s (more p ps) ss ts ≡ true
      apart true e ss ts k l = absurd k
      apart false e ss ts k l =
          let a = of_each (λ a. map (λ ss. a ∷ ss) (listed n (each s ps))) ss (leasts s p) k in
          let x = of_map (λ ss. a.maker ∷ ss) ss (listed n (each s ps)) a.made in
          let y = of_map (λ ss. nothing p ∷ ss) ts (listed (suc n) (each s ps)) l in
          let least = ((leasts_are_least s p).0 a.maker).0 a.listed in
          subst (λ us. precedes us (each_flags s (more p ps) ts) ≡ true) (ap (each_flags s (more p ps)) (sym x.is))
          (subst (λ us. precedes (each_flags s (more p ps) (a.maker ∷ x.source)) us ≡ true) (ap (each_flags s (more p ps)) (sym y.is))
          (first_taken (flags p a.maker) (flags p (nothing p)) (each_flags s ps x.source) (each_flags s ps y.source)
          (as_many_flags p a.maker least.fits) (least_takes s p a.maker a.listed e) (no_flags p) (listed_take ps n y.source y.listed)))

  -- ---- each policy

  sorted_settled : (p : Policy) (b : Bool) → IsSorted (by_flags s p) (of_settled b)
  sorted_settled p true = ((λ y h. absurd h), tt)
  sorted_settled p false = tt

  sorted_hash : (p : Policy) (o : Option Bool) → IsSorted (by_flags s p) (of_hash o)
  sorted_hash p None = ((λ y h. absurd h), tt)
  sorted_hash p (Some b) = sorted_settled p b

  sorted_parts : (before : Choice → Choice → Bool) (ps : Policies) (k : ℕ) →
      ((xs ys : List Choice) → by_each s ps xs ys ≡ true → before (node (choices_of xs)) (node (choices_of ys)) ≡ true) → AreSorted ps →
      IsSorted before (of_parts k (parts s ps) (each s ps))
  sorted_parts before ps k h are =
      sorted_map before (by_each s ps) (λ ss. node (choices_of ss)) h (listed (k - free (parts s ps)) (each s ps)) (sorted_listed ps (k - free (parts s ps)) are)

  made : (ps : Policies) (xs ys : List Choice) → by_each s ps xs ys ≡ true → precedes (flags_of ps (choices_of xs)) (flags_of ps (choices_of ys)) ≡ true
  made ps xs ys e = let a = as_each s ps xs in let b = as_each s ps ys in rw (a, b) e

  mutual
    pub sorted_leasts : (p : Policy) → IsSorted (by_flags s p) (leasts s p)
    sorted_leasts never = tt
    sorted_leasts always = ((λ y h. absurd h), tt)
    sorted_leasts (policy.key k) = ((λ y h. absurd h), tt)
    sorted_leasts (older n) = sorted_settled (older n) (s.older n)
    sorted_leasts (after n) = sorted_settled (after n) (s.after n)
    sorted_leasts (hash kind value) = sorted_hash (hash kind value) (s.known kind value)
    sorted_leasts (all ps) = sorted_parts (by_flags s (all ps)) ps (count ps) (made ps) (all_sorted ps)
    sorted_leasts (any ps) = sorted_parts (by_flags s (any ps)) ps 1 (made ps) (all_sorted ps)
    sorted_leasts (thresh k ps) = sorted_parts (by_flags s (thresh k ps)) ps k (made ps) (all_sorted ps)

    all_sorted : (ps : Policies) → AreSorted ps
    all_sorted none = tt
    all_sorted (more p ps) = (sorted_leasts p, all_sorted ps)
