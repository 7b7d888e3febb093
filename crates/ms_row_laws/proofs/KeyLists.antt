-- What holds of all elements of a list turned round; lists of keys: their elements, lists in which no key stands twice,
-- and lists that share none.
use Rattle.std.proofs.Common.{◌≡◌, ◌-◌, length, All, List, [], ◌∷◌, ◌++◌, reverse, Contains, refl, sym, subst, inl, inr, arith}
use Rattle.std.proofs.lemmas.List.Elements.{Contains-append_left, Contains-append_right, Contains-append_cases, Contains-push_cases}
use Rattle.std.proofs.lemmas.List.{length-reverse, get_or-reverse}
use Rattle.def_tree.specs.Tree.{Key}
use Rattle.def_sane.specs.Keys.{AreDistinct}
use Rattle.def_choice.proofs.Weights.{reverse-cons, contains-reverse}

pub all_reversed : {X : Type 0} (P : X → Type 0) (xs : List X) → All P xs → All P (reverse xs)
all_reversed P xs h k d lt =
    let l = length-reverse xs in
    subst P (sym (get_or-reverse xs k d (omega arith))) (h (length xs - 1 - k) d (omega arith))

-- no key is in both lists
abbrev pub Disjoint : List Key → List Key → Type 0
Disjoint a b = (key : Key) → Contains a key → Contains b key → ⊥

pub first_in : (key : Key) (keys : List Key) → Contains (key ∷ keys) key
first_in key keys = (0, omega arith, refl)

pub later_in : (key : Key) (keys : List Key) (k : Key) → Contains keys k → Contains (key ∷ keys) k
later_in key keys k i = Contains-append_right (key ∷ []) keys k i

pub no_element : (key : Key) → Contains [] key → ⊥
no_element key i = let l = i.1 in omega arith

only_in : (key k : Key) → Contains (key ∷ []) k → key ≡ k
only_in key k i = elim (Contains-push_cases [] key k i) [ inl h ↦ absurd (no_element k h) | inr e ↦ e ]

pub distinct_parts : (a b : List Key) → AreDistinct (a ++ b) → AreDistinct a × AreDistinct b × Disjoint a b
distinct_parts [] b h = (tt, h, λ key i j. no_element key i)
distinct_parts (key ∷ a) b h =
    let p = distinct_parts a b h.1 in (
      (λ i. h.0 (Contains-append_left a b key i), p.0),
      p.1,
      λ k i j.
          elim (Contains-append_cases (key ∷ []) a k i) [
            | inl first ↦ h.0 (subst (Contains (a ++ b)) (sym (only_in key k first)) (Contains-append_right a b k j))
            | inr later ↦ p.2 k later j
          ],
    )

distinct_both : (a b : List Key) → AreDistinct a → AreDistinct b → Disjoint a b → AreDistinct (a ++ b)
distinct_both [] b i j apart = j
distinct_both (key ∷ a) b i j apart = (
  λ h. elim (Contains-append_cases a b key h) [ inl k ↦ i.0 k | inr k ↦ apart key (first_in key a) k ],
  distinct_both a b i.1 j (λ k l m. apart k (later_in key a k l) m),
)

pub distinct_reverse : (keys : List Key) → AreDistinct keys → AreDistinct (reverse keys)
distinct_reverse [] h = h
distinct_reverse (key ∷ keys) h =
    subst AreDistinct (sym (reverse-cons key keys))
    (distinct_both (reverse keys) (key ∷ []) (distinct_reverse keys h.1) (no_element key, tt)
    (λ k i j. h.0 (subst (Contains keys) (sym (only_in key k j)) (contains-reverse keys k i))))

-- the keys of the one list are among those of the other
abbrev pub Among : List Key → List Key → Type 0
Among a b = (key : Key) → Contains a key → Contains b key

pub among_left : (a b : List Key) → Among a (a ++ b)
among_left a b key i = Contains-append_left a b key i

pub among_right : (a b : List Key) → Among b (a ++ b)
among_right a b key i = Contains-append_right a b key i
