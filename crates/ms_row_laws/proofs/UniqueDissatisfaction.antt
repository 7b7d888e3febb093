-- Dissatisfactions without signatures: where a miniscript has the letter e there is one of them, and where the
-- table has none of its keys it is the only one.
use Rattle.std.proofs.Common.{◌≡◌, ◌+◌, Bool, true, false, ◌&&◌, ◌||◌, List, [], ◌∷◌, ◌++◌, replicate, refl, sym, ◌∙◌, ap, inl, inr, arith, if◌then◌else◌}
use Rattle.std.specs.List.{list_all}
use Rattle.std.proofs.lemmas.Bool.{cases_Bool, or_cases, false≢true, and_parts}
use Rattle.def_machine.specs.Stacks.{Stack}
use Rattle.def_tree.specs.declared.Two.TheVariants as kind
use Rattle.def_tree.specs.declared.Wrapper.TheVariants as wrapper
use Rattle.def_tree.specs.Tree.{Tree, Trees, Key, just_0, pk_k, pk_h, and_or, two, thresh, multi, wrap, none, more}
use Rattle.def_tree.specs.Range.{IsWritable, AreWritable}
use Rattle.def_types.specs.declared.MalleabilityProperties.{MalleabilityProperties}
use Rattle.def_types.specs.Malleable.{count_not_s}
use Rattle.def_types.specs.Typed.{IsTyped, AreTyped, properties_of, all_properties_of, IsMalleabilityTyped, AreMalleabilityTyped}
use Rattle.def_types.proofs.Rows.{malleability_rows}
use Rattle.def_sane.specs.Keys.{keys, keys_of_all}
use Rattle.def_satisfaction.specs.StackSet.{StackSet, Both, Either}
use Rattle.def_satisfaction.specs.Setting.{Setting, CountsAsKey}
use Rattle.def_satisfaction.specs.Rows.{EMPTY, ONE, row, parts}
use Rattle.def_choice.specs.Tight.{HasOne}
use Rattle.ms_row_laws.proofs.NeededSignatures.{NoKeys, IsEmpty, below_none, above_none, either_none, if_none, none_left, none_right, counts_itself, needs, few_satisfied}

pub one_both : (P Q : StackSet) → HasOne P → HasOne Q → HasOne (Both P Q)
one_both P Q p q = (q.0 ++ p.0, (p.0, q.0, p.1, q.1, refl))

and_b_e : (a b c d : Bool) → (a && b && c && d) ≡ true → (a ≡ true) × (b ≡ true) × (c ≡ true) × (d ≡ true)
and_b_e a b c d e =
    let p = and_parts (a && b && c) d e in
    let q = and_parts (a && b) c p.0 in
    let r = and_parts a b q.0 in
    (r.0, r.1, q.1, p.1)

-- the requirement e of a threshold, and what the letter e of a threshold says
abbrev pub all_e : List MalleabilityProperties → Bool
all_e = list_all (λ x. x.e)

abbrev pub all_s : List MalleabilityProperties → Bool
all_s = list_all (λ x. x.s)

-- where the first of two doesn't hold, the second does
or_second : (a b : Bool) → a ≡ false → (a || b) ≡ true → b ≡ true
or_second a b i e = sym (ap (λ c. c || b) i) ∙ e

-- the one dissatisfaction without signatures of a miniscript with the letter e. Of others it says nothing
abbrev mutual
  the_dsat : Tree → Stack
  the_dsat (pk_k key) = EMPTY ∷ []
  the_dsat (pk_h key) = key ∷ EMPTY ∷ []
  the_dsat (and_or x y z) = the_dsat x ++ the_dsat z
  the_dsat (two kind.AndV x y) = []
  the_dsat (two kind.OrC x z) = []
  the_dsat (two kind.OrI x z) = if (properties_of x).e && (properties_of z).f then ONE ∷ the_dsat x else EMPTY ∷ the_dsat z
  the_dsat (two which x y) = the_dsat x ++ the_dsat y
  the_dsat (thresh k xs) = none_satisfied xs
  the_dsat (multi k own) = replicate (k + 1) EMPTY
  the_dsat (wrap wrapper.D x) = EMPTY ∷ []
  the_dsat (wrap wrapper.V x) = []
  the_dsat (wrap wrapper.J x) = EMPTY ∷ []
  the_dsat (wrap letter x) = the_dsat x
  the_dsat tree = []

  -- all children dissatisfied
  none_satisfied : Trees → Stack
  none_satisfied none = []
  none_satisfied (more x xs) = the_dsat x ++ none_satisfied xs

module _ (s : Setting) where
  mutual
    unfolding malleability_rows

    is_dsat : (t : Tree) → IsWritable t → IsMalleabilityTyped t → (properties_of t).e ≡ true → (row s t).dsat (the_dsat t)
    is_dsat just_0 k safe e = refl
    is_dsat (pk_k key) k safe e = refl
    is_dsat (pk_h key) k safe e = (key, k.form, refl, counts_itself s.mode key, (EMPTY ∷ [], key ∷ [], refl, refl, refl))
    is_dsat (and_or x y z) k safe e =
        let p = and_parts (properties_of z).e ((properties_of x).s || (properties_of y).f) e in
        inl (_, _, is_dsat z k.2 safe.2 p.0, is_dsat x k.0 safe.0 safe.3.0, refl)
    is_dsat (two kind.AndB x y) k safe e =
        let p = and_b_e (properties_of x).e (properties_of y).e (properties_of x).s (properties_of y).s e in
        inl (_, _, is_dsat y k.1 safe.1 p.1, is_dsat x k.0 safe.0 p.0, refl)
    is_dsat (two kind.OrB x z) k safe e =
        let p = and_parts (properties_of x).e (properties_of z).e safe.2.0 in
        (_, _, is_dsat z k.1 safe.1 p.1, is_dsat x k.0 safe.0 p.0, refl)
    is_dsat (two kind.OrD x z) k safe e = (_, _, is_dsat z k.1 safe.1 e, is_dsat x k.0 safe.0 safe.2.0, refl)
    is_dsat (two kind.OrI x z) k safe e =
        elim (cases_Bool ((properties_of x).e && (properties_of z).f)) [
          | inl a ↦ rw a (inl (_, ONE ∷ [], is_dsat x k.0 safe.0 (and_parts (properties_of x).e (properties_of z).f a).0, refl, refl))
          | inr b ↦
              let p = and_parts (properties_of z).e (properties_of x).f (or_second _ _ b e) in
              rw b (inr (_, EMPTY ∷ [], is_dsat z k.1 safe.1 p.0, refl, refl))
        ]
    is_dsat (thresh k xs) writable safe e = inl (are_none xs writable.2 safe.0 safe.1.0)
    is_dsat (multi k own) writable safe e = refl
    is_dsat (wrap wrapper.D x) k safe e = refl
    is_dsat (wrap wrapper.V x) k safe e = absurd (false≢true e)
    is_dsat (wrap wrapper.J x) k safe e = inl refl
    is_dsat (wrap letter x) k safe e = is_dsat x k safe.0 e
    is_dsat tree k safe e = absurd (false≢true e)

    are_none : (xs : Trees) → AreWritable xs → AreMalleabilityTyped xs → all_e (all_properties_of xs) ≡ true → parts s xs 0 (none_satisfied xs)
    are_none none k safe e = (refl, refl)
    are_none (more x xs) k safe e =
        let p = and_parts (properties_of x).e (all_e (all_properties_of xs)) e in
        inr (_, _, are_none xs k.1 safe.1 p.1, is_dsat x k.0 safe.0 p.0, refl)

pub free_dsat : (s : Setting) (t : Tree) → IsWritable t → IsMalleabilityTyped t → (properties_of t).e ≡ true → HasOne (row s t).dsat
free_dsat s t k safe e = (the_dsat t, is_dsat s t k safe e)

-- every stack of the set is this one
abbrev Only : StackSet → Stack → Type 0
Only P a = (w : Stack) → P w → w ≡ a

both_only : {P Q : StackSet} (a b : Stack) → Only P b → Only Q a → Only (Both P Q) (a ++ b)
both_only a b p q w r = r.4 ∙ ap (λ v. v ++ r.0) (q r.1 r.3) ∙ ap (λ v. a ++ v) (p r.0 r.2)

first_only : {P Q : StackSet} {a : Stack} → Only P a → IsEmpty Q → Only (Either P Q) a
first_only p q w (inl r) = p w r
first_only p q w (inr r) = absurd (q w r)

second_only : {P Q : StackSet} {a : Stack} → IsEmpty P → Only Q a → Only (Either P Q) a
second_only p q w (inl r) = absurd (p w r)
second_only p q w (inr r) = q w r

none_not_s : (ms : List MalleabilityProperties) → all_s ms ≡ true → count_not_s ms ≡ 0
none_not_s [] e = refl
none_not_s (m ∷ ms) e =
    let p = and_parts m.s (all_s ms) e in
    ap (λ b. (if b then 0 else 1) + count_not_s ms) p.0 ∙ (let l = none_not_s ms p.1 in omega arith)

-- only a key itself counts for it
abbrev pub OwnKeys : Setting → Type 0
OwnKeys s = (key other : Key) → CountsAsKey s.mode key other → other ≡ key

module _ (s : Setting) (own : OwnKeys s) where
  mutual
    unfolding malleability_rows

    only_dsat : (tree : Tree) → IsTyped tree → IsMalleabilityTyped tree → NoKeys s (keys tree) → (properties_of tree).e ≡ true → Only (row s tree).dsat (the_dsat tree)
    only_dsat just_0 typed safe h e = λ w r. r
    only_dsat (pk_k key) typed safe h e = λ w r. r
    only_dsat (pk_h key) typed safe h e =
        λ w r. both_only (key ∷ []) (EMPTY ∷ []) (λ v i. i) (λ v i. i ∙ ap (λ other. other ∷ []) (own key r.0 r.3)) w r.4
    only_dsat (and_or x y z) typed safe h e =
        let p = and_parts (properties_of z).e ((properties_of x).s || (properties_of y).f) e in
        let h_xy = none_left s (keys x ++ keys y) (keys z) h in
        let h_x = none_left s (keys x) (keys y) h_xy in
        let i = needs s x typed.0 h_x in
        let j = needs s y typed.1 (none_right s (keys x) (keys y) h_xy) in
        first_only
        (both_only _ _ (only_dsat z typed.2 safe.2 (none_right s (keys x ++ keys y) (keys z) h) p.0) (only_dsat x typed.0 safe.0 h_x safe.3.0))
        (if_none (elim (or_cases (properties_of x).s (properties_of y).f p.1) [ inl a ↦ above_none (i.sat a) | inr a ↦ below_none (j.dsat a) ]))
    only_dsat (two kind.AndB x y) typed safe h e =
        let p = and_b_e (properties_of x).e (properties_of y).e (properties_of x).s (properties_of y).s e in
        let h_x = none_left s (keys x) (keys y) h in
        let h_y = none_right s (keys x) (keys y) h in
        let i = needs s x typed.0 h_x in
        let j = needs s y typed.1 h_y in
        first_only (both_only _ _ (only_dsat y typed.1 safe.1 h_y p.1) (only_dsat x typed.0 safe.0 h_x p.0))
        (if_none (either_none (below_none (j.sat p.3)) (above_none (i.sat p.2))))
    only_dsat (two kind.OrB x z) typed safe h e =
        let p = and_parts (properties_of x).e (properties_of z).e safe.2.0 in
        both_only _ _ (only_dsat z typed.1 safe.1 (none_right s (keys x) (keys z) h) p.1) (only_dsat x typed.0 safe.0 (none_left s (keys x) (keys z) h) p.0)
    only_dsat (two kind.OrD x z) typed safe h e =
        both_only _ _ (only_dsat z typed.1 safe.1 (none_right s (keys x) (keys z) h) e) (only_dsat x typed.0 safe.0 (none_left s (keys x) (keys z) h) safe.2.0)
    only_dsat (two kind.OrI x z) typed safe h e =
        let h_x = none_left s (keys x) (keys z) h in
        let h_z = none_right s (keys x) (keys z) h in
        let i = needs s x typed.0 h_x in
        let k = needs s z typed.1 h_z in
        elim (cases_Bool ((properties_of x).e && (properties_of z).f)) [
          | inl a ↦
              let p = and_parts (properties_of x).e (properties_of z).f a in
              rw a (first_only (both_only (ONE ∷ []) _ (only_dsat x typed.0 safe.0 h_x p.0) (λ w r. r)) (below_none (k.dsat p.1)))
          | inr b ↦
              let p = and_parts (properties_of z).e (properties_of x).f (or_second _ _ b e) in
              rw b (second_only (below_none (i.dsat p.1)) (both_only (EMPTY ∷ []) _ (only_dsat z typed.1 safe.1 h_z p.0) (λ w r. r)))
        ]
    only_dsat (thresh k xs) typed safe h e =
        first_only (only_none xs typed.0 safe.0 h safe.1.0)
        (λ w r.
        let few = few_satisfied s xs typed.0 h r.1.0 w r.1.3 in
        let l = none_not_s (all_properties_of xs) e in
        r.1.1 (omega arith))
    only_dsat (multi k keys) typed safe h e = λ w r. r
    only_dsat (wrap wrapper.D x) typed safe h e = λ w r. r
    only_dsat (wrap wrapper.V x) typed safe h e = absurd (false≢true e)
    only_dsat (wrap wrapper.J x) typed safe h e = let i = needs s x typed.0 h in first_only (λ w r. r) (if_none (λ w r. i.dsat e w r.1))
    only_dsat (wrap letter x) typed safe h e = only_dsat x typed.0 safe.0 h e
    only_dsat tree typed safe h e = absurd (false≢true e)

    only_none : (xs : Trees) → AreTyped xs → AreMalleabilityTyped xs → NoKeys s (keys_of_all xs) → all_e (all_properties_of xs) ≡ true → Only (parts s xs 0) (none_satisfied xs)
    only_none none typed safe h e = λ w r. r.1
    only_none (more x xs) typed safe h e =
        let p = and_parts (properties_of x).e (all_e (all_properties_of xs)) e in
        second_only (λ w r. absurd (omega (arith, r.1)))
        (both_only _ _ (only_none xs typed.1 safe.1 (none_right s (keys x) (keys_of_all xs) h) p.1)
        (only_dsat x typed.0 safe.0 (none_left s (keys x) (keys_of_all xs) h) p.0))

-- a stack of the one set is the same as each of the other
abbrev pub AreOne : StackSet → StackSet → Type 0
AreOne P Q = (w v : Stack) → P w → Q v → w ≡ v

pub one_dsat : (s t : Setting) → OwnKeys s → OwnKeys t → (tree : Tree) → IsTyped tree → IsMalleabilityTyped tree → NoKeys s (keys tree) → NoKeys t (keys tree)
    → (properties_of tree).e ≡ true → AreOne (row s tree).dsat (row t tree).dsat
one_dsat s t own_s own_t tree typed safe h i e w v p q = only_dsat s own_s tree typed safe h e w p ∙ sym (only_dsat t own_t tree typed safe i e v q)
