-- Maps that consist of some pairs and of others.
use Rattle.std.proofs.Common.{◌≡◌, Bool, true, false, cond, List, [], ◌∷◌, map, filter, find, Contains, Some, inl, inr, ◌⊎◌, refl, sym, ap, subst, ◌∙◌, arith}
use Rattle.std.proofs.lemmas.Bool.{cases_Bool, or_parts, or_from, false≢true}
use Rattle.std.specs.List.{AllByRecursion, list_any}
use Rattle.std.proofs.lemmas.List.Elements.{Contains-append_right, Contains-append_cases, Contains-push_cases}
use Rattle.def_psbt.specs.Map.{Pair, Map}
use Rattle.ms_spend_laws.specs.Planned.{ConsistsOf}

-- each from its side
pub turned : (later some others : Map) → ConsistsOf later some others → ConsistsOf later others some
turned [] some others h = (h.1, h.0)
turned (pair ∷ later) some others (inl h) = inr (h.0, h.1, turned later h.0 others h.2)
turned (pair ∷ later) some others (inr h) = inl (h.0, h.1, turned later some h.0 h.2)

-- what none of the others passes is found among the first ones
pub found_among : (test : Pair → Bool) (later some others : Map) → ConsistsOf later some others → AllByRecursion (λ pair. test pair ≡ false) others → find test later ≡ find test some
found_among test [] some others h none = ap (find test) (sym h.0)
found_among test (pair ∷ later) some others (inl h) none =
    ap (cond (test pair) (Some pair)) (found_among test later h.0 others h.2 none) ∙ ap (find test) (sym h.1)
found_among test (pair ∷ later) some others (inr h) none =
    let passed = subst (AllByRecursion (λ pair. test pair ≡ false)) h.1 none in
    ap (λ b. cond b (Some pair) (find test later)) passed.0 ∙ found_among test later some h.0 h.2 passed.1

-- and those that pass are the first ones that do
pub kept_among : (test : Pair → Bool) (later some others : Map) → ConsistsOf later some others → AllByRecursion (λ pair. test pair ≡ false) others → filter test later ≡ filter test some
kept_among test [] some others h none = ap (filter test) (sym h.0)
kept_among test (pair ∷ later) some others (inl h) none =
    ap (λ l. cond (test pair) (pair ∷ l) l) (kept_among test later h.0 others h.2 none) ∙ ap (filter test) (sym h.1)
kept_among test (pair ∷ later) some others (inr h) none =
    let passed = subst (AllByRecursion (λ pair. test pair ≡ false)) h.1 none in
    ap (λ b. cond b (pair ∷ filter test later) (filter test later)) passed.0 ∙ kept_among test later some h.0 h.2 passed.1

-- ---- what is made of those that pass

pub no_element : {B : Type 0} (x : B) → Contains [] x → ⊥
no_element {B} x i = let low = i.1 in omega (arith, low)

pub first_or_rest : {B : Type 0} (x first : B) (rest : List B) → Contains (first ∷ rest) x → (first ≡ x) ⊎ Contains rest x
first_or_rest {B} x first rest i =
    elim (Contains-append_cases (first ∷ []) rest x i) [
      | inl h ↦ elim (Contains-push_cases [] first x h) [ inl e ↦ absurd (no_element x e) | inr e ↦ inl e ]
      | inr h ↦ inr h
    ]

-- it stays
pub made_stays : {B : Type 0} (test : Pair → Bool) (make : Pair → B) (later some others : Map) → ConsistsOf later some others → (x : B)
    → Contains (map make (filter test some)) x → Contains (map make (filter test later)) x
made_stays {B} test make [] some others h x i = absurd (no_element x (subst (λ l. Contains (map make (filter test l)) x) h.0 i))
made_stays {B} test make (pair ∷ later) some others (inl h) x i =
    let rest = made_stays test make later h.0 others h.2 x in
    let i = subst (λ l. Contains (map make (filter test l)) x) h.1 i in
    elim (cases_Bool (test pair)) [
      | inl is ↦ rw is (elim (first_or_rest x (make pair) (map make (filter test h.0)) (rw is at i)) [
        | inl same ↦ (0, omega arith, same)
        | inr j ↦ Contains-append_right (make pair ∷ []) (map make (filter test later)) x (rest j)
      ])
      | inr other ↦ rw other (rest (rw other at i))
    ]
made_stays {B} test make (pair ∷ later) some others (inr h) x i =
    let rest = made_stays test make later some h.0 h.2 x i in
    elim (cases_Bool (test pair)) [
      | inl is ↦ rw is (Contains-append_right (make pair ∷ []) (map make (filter test later)) x rest)
      | inr other ↦ rw other rest
    ]

-- a pair before some, of which the same passes no further test as of others
one_before : {B : Type 0} (bad : B → Bool) (test : Pair → Bool) (make : Pair → B) (pair : Pair) (some later : Map)
    → (list_any bad (map make (filter test some)) ≡ false → list_any bad (map make (filter test later)) ≡ false)
    → list_any bad (map make (filter test (pair ∷ some))) ≡ false → list_any bad (map make (filter test (pair ∷ later))) ≡ false
one_before {B} bad test make pair some later rest p = elim (cases_Bool (test pair)) [
  | inl is ↦
      let parts = or_parts (bad (make pair)) (list_any bad (map make (filter test some))) (rw is at p) in
      rw is (or_from (bad (make pair)) (list_any bad (map make (filter test later))) parts.0 (rest parts.1))
  | inr other ↦ rw other (rest (rw other at p))
]

-- what passes no further test among both passes none
pub none_among : {B : Type 0} (bad : B → Bool) (test : Pair → Bool) (make : Pair → B) (later some others : Map) → ConsistsOf later some others
    → list_any bad (map make (filter test some)) ≡ false → list_any bad (map make (filter test others)) ≡ false → list_any bad (map make (filter test later)) ≡ false
none_among {B} bad test make [] some others h p q = refl
none_among {B} bad test make (pair ∷ later) some others (inl h) p q =
    one_before bad test make pair h.0 later (λ p. none_among bad test make later h.0 others h.2 p q)
    (subst (λ l. list_any bad (map make (filter test l)) ≡ false) h.1 p)
none_among {B} bad test make (pair ∷ later) some others (inr h) p q =
    one_before bad test make pair h.0 later (λ q. none_among bad test make later some h.0 h.2 p q)
    (subst (λ l. list_any bad (map make (filter test l)) ≡ false) h.1 q)

-- and of both it is of one
pub made_of : {B : Type 0} (test : Pair → Bool) (make : Pair → B) (later some others : Map) → ConsistsOf later some others → (x : B)
    → Contains (map make (filter test later)) x → Contains (map make (filter test some)) x ⊎ Contains (map make (filter test others)) x
made_of {B} test make [] some others h x i = absurd (no_element x i)
made_of {B} test make (pair ∷ later) some others (inl h) x i =
    subst (λ l. Contains (map make (filter test l)) x ⊎ Contains (map make (filter test others)) x) (sym h.1)
    (elim (cases_Bool (test pair)) [
      | inl is ↦ rw is (elim (first_or_rest x (make pair) (map make (filter test later)) (rw is at i)) [
        | inl same ↦ inl (0, omega arith, same)
        | inr j ↦ elim (made_of test make later h.0 others h.2 x j) [
          | inl k ↦ inl (Contains-append_right (make pair ∷ []) (map make (filter test h.0)) x k)
          | inr k ↦ inr k
        ]
      ])
      | inr other ↦ rw other (made_of test make later h.0 others h.2 x (rw other at i))
    ])
made_of {B} test make (pair ∷ later) some others (inr h) x i =
    subst (λ l. Contains (map make (filter test some)) x ⊎ Contains (map make (filter test l)) x) (sym h.1)
    (elim (cases_Bool (test pair)) [
      | inl is ↦ rw is (elim (first_or_rest x (make pair) (map make (filter test later)) (rw is at i)) [
        | inl same ↦ inr (0, omega arith, same)
        | inr j ↦ elim (made_of test make later some h.0 h.2 x j) [
          | inl k ↦ inl k
          | inr k ↦ inr (Contains-append_right (make pair ∷ []) (map make (filter test h.0)) x k)
        ]
      ])
      | inr other ↦ rw other (made_of test make later some h.0 h.2 x (rw other at i))
    ])

-- what passes none of both passes none of the first ones
none_behind : {B : Type 0} (bad : B → Bool) (test : Pair → Bool) (make : Pair → B) (pair : Pair) (later : Map)
    → list_any bad (map make (filter test (pair ∷ later))) ≡ false → list_any bad (map make (filter test later)) ≡ false
none_behind {B} bad test make pair later p = elim (cases_Bool (test pair)) [
  | inl is ↦ (or_parts (bad (make pair)) (list_any bad (map make (filter test later))) (rw is at p)).1
  | inr other ↦ rw other at p
]

pub none_of_some : {B : Type 0} (bad : B → Bool) (test : Pair → Bool) (make : Pair → B) (later some others : Map) → ConsistsOf later some others
    → list_any bad (map make (filter test later)) ≡ false → list_any bad (map make (filter test some)) ≡ false
none_of_some {B} bad test make [] some others h p = subst (λ l. list_any bad (map make (filter test l)) ≡ false) (sym h.0) refl
none_of_some {B} bad test make (pair ∷ later) some others (inl h) p =
    subst (λ l. list_any bad (map make (filter test l)) ≡ false) (sym h.1)
    (one_before bad test make pair later h.0 (none_of_some bad test make later h.0 others h.2) p)
none_of_some {B} bad test make (pair ∷ later) some others (inr h) p =
    none_of_some bad test make later some h.0 h.2 (none_behind bad test make pair later p)

-- ---- what passes a test

-- an element that is left has passed
pub passed_is : {A : Type 0} (test : A → Bool) (xs : List A) (x : A) → Contains (filter test xs) x → Contains xs x × (test x ≡ true)
passed_is {A} test [] x i = absurd (no_element x i)
passed_is {A} test (y ∷ xs) x i = elim (cases_Bool (test y)) [
  | inl is ↦ elim (first_or_rest x y (filter test xs) (rw is at i)) [
    | inl same ↦ ((0, omega arith, same), subst (λ z. test z ≡ true) same is)
    | inr j ↦ (let r = passed_is test xs x j in (Contains-append_right (y ∷ []) xs x r.0, r.1))
  ]
  | inr other ↦ (let r = passed_is test xs x (rw other at i) in (Contains-append_right (y ∷ []) xs x r.0, r.1))
]

-- and one that passes is left
pub is_passed : {A : Type 0} (test : A → Bool) (xs : List A) (x : A) → Contains xs x → test x ≡ true → Contains (filter test xs) x
is_passed {A} test [] x i p = absurd (no_element x i)
is_passed {A} test (y ∷ xs) x i p = elim (cases_Bool (test y)) [
  | inl is ↦ rw is (elim (first_or_rest x y xs i) [
    | inl same ↦ (0, omega arith, same)
    | inr j ↦ Contains-append_right (y ∷ []) (filter test xs) x (is_passed test xs x j p)
  ])
  | inr other ↦ elim (first_or_rest x y xs i) [
    | inl same ↦ absurd (false≢true (sym other ∙ ap test same ∙ p))
    | inr j ↦ rw other (is_passed test xs x j p)
  ]
]
