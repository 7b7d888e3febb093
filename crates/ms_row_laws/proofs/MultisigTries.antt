-- What CHECKMULTISIG finds in its tries: signatures in the order of their keys, and nothing in empty strings.
use Rattle.std.proofs.Common.{◌≡◌, ℕ, zero, suc, ◌+◌, ◌≤◌, nat_lt, true, false, IsTrue, List, [], ◌∷◌, ◌++◌, length, reverse, replicate, All, Option, Some, None, Ok, refl, sym, ◌∙◌, ap, ◌⊎◌, inl, inr, arith}
use Rattle.std.specs.List.{list_all}
use Rattle.std.proofs.lemmas.Bool.{cases_Bool, le-ltb, false≢true}
use Rattle.std.proofs.lemmas.List.Elements.{All-head, All-tail, All-weaker}
use Rattle.def_script.specs.Bytes.{Bytes}
use Rattle.def_script.specs.Key.{is_key}
use Rattle.def_machine.specs.Faults.{OrFault}
use Rattle.def_machine.specs.Stacks.{Stack, Pairs, Checker, is_empty}
use Rattle.def_machine.specs.MultiSig.{is_good, tries}
use Rattle.def_tree.specs.Tree.{Key}
use Rattle.def_tree.specs.Range.{IsKey}
use Rattle.def_satisfaction.specs.Rows.{EMPTY, AreSignatures}
use Rattle.ms_row_laws.proofs.Outcomes.{no_fault}
use Rattle.ms_row_laws.proofs.KeyLists.{all_reversed}

-- the keys of a miniscript have the form that the machine asks of them
pub forms : (keys : List Key) → All IsKey keys → All (λ key. IsTrue (is_key key)) keys
forms keys h = All-weaker IsKey (λ key. IsTrue (is_key key)) (λ key k. k.form) keys h

pub reversed_forms : (keys : List Key) → All (λ key. IsTrue (is_key key)) keys → All (λ key. IsTrue (is_key key)) (reverse keys)
reversed_forms keys h = all_reversed (λ key. IsTrue (is_key key)) keys h

-- there are no more signatures than keys
pub signatures_few : (checker : Checker) (keys : List Key) (sigs : Stack) → AreSignatures checker keys sigs → length sigs ≤ length keys
signatures_few checker keys [] h = omega arith
signatures_few checker [] (sig ∷ sigs) h = absurd h
signatures_few checker (key ∷ keys) (sig ∷ sigs) (inl h) = let l = signatures_few checker keys sigs h.1 in omega arith
signatures_few checker (key ∷ keys) (sig ∷ sigs) (inr h) = let l = signatures_few checker keys (sig ∷ sigs) h in omega arith

-- one signature fewer
pub signatures_drop : (checker : Checker) (keys : List Key) (sig : Bytes) (sigs : Stack) → AreSignatures checker keys (sig ∷ sigs) → AreSignatures checker keys sigs
signatures_drop checker [] sig sigs h = absurd h
signatures_drop checker (key ∷ keys) sig [] h = tt
signatures_drop checker (key ∷ keys) sig (next ∷ sigs) (inl h) = inr h.1
signatures_drop checker (key ∷ keys) sig (next ∷ sigs) (inr h) = inr (signatures_drop checker keys sig (next ∷ sigs) h)

pub all_empty : (n : ℕ) → list_all is_empty (replicate n EMPTY) ≡ true
all_empty zero = refl
all_empty (suc n) = all_empty n

pub empties_split : (n : ℕ) → replicate (n + 1) EMPTY ≡ replicate n EMPTY ++ EMPTY ∷ []
empties_split n = ap (λ m. replicate m EMPTY) (let e : n + 1 ≡ suc n = omega arith in e) ∙ go n
  where
    go : (n : ℕ) → replicate (suc n) EMPTY ≡ replicate n EMPTY ++ EMPTY ∷ []
    go zero = refl
    go (suc n) = ap (λ v. EMPTY ∷ v) (go n)

-- a try that is good, and one that isn't
pub good_step : (checker : Checker) (key sig : Bytes) (keys sigs : Stack) (found : Pairs) (t : OrFault (Option Pairs))
    → nat_lt (length (key ∷ keys)) (length (sig ∷ sigs)) ≡ false → is_key key ≡ true → is_good checker key sig ≡ true
    → tries checker keys sigs (found ++ (key, sig) ∷ []) ≡ t → tries checker (key ∷ keys) (sig ∷ sigs) found ≡ t
unfolding tries
good_step checker key sig keys sigs found t enough form good e = rw (enough, form, good) e

pub bad_step : (checker : Checker) (key sig : Bytes) (keys sigs : Stack) (found : Pairs) (t : OrFault (Option Pairs))
    → nat_lt (length (key ∷ keys)) (length (sig ∷ sigs)) ≡ false → is_key key ≡ true → is_good checker key sig ≡ false → tries checker keys (sig ∷ sigs) found ≡ t
    → tries checker (key ∷ keys) (sig ∷ sigs) found ≡ t
unfolding tries
bad_step checker key sig keys sigs found t enough form bad e = rw (enough, form, bad) e

pub no_more : (checker : Checker) (key sig : Bytes) (keys sigs : Stack) (found : Pairs) → nat_lt (length (key ∷ keys)) (length (sig ∷ sigs)) ≡ true
    → tries checker (key ∷ keys) (sig ∷ sigs) found ≡ Ok None
unfolding tries
no_more checker key sig keys sigs found enough = rw enough refl

-- what is left to find behind a good try, and behind one that isn't
pub rest_good : (checker : Checker) (key sig : Bytes) (keys sigs : Stack) → AreSignatures checker (key ∷ keys) (sig ∷ sigs) → AreSignatures checker keys sigs
rest_good checker key sig keys sigs (inl h) = h.1
rest_good checker key sig keys sigs (inr h) = signatures_drop checker keys sig sigs h

pub rest_bad : (checker : Checker) (key sig : Bytes) (keys sigs : Stack) → is_good checker key sig ≡ false → AreSignatures checker (key ∷ keys) (sig ∷ sigs) → AreSignatures checker keys (sig ∷ sigs)
rest_bad checker key sig keys sigs bad (inl h) = absurd (false≢true (sym bad ∙ h.0))
rest_bad checker key sig keys sigs bad (inr h) = h

-- trying the keys one after the other finds the signatures
pub good_tries : (checker : Checker) (keys : List Key) (sigs : Stack) (found : Pairs) → All (λ key. IsTrue (is_key key)) keys → AreSignatures checker keys sigs
    → (all : Pairs) × (tries checker keys sigs found ≡ Ok (Some all))
unfolding tries
good_tries checker keys [] found forms h = (found, refl)
good_tries checker [] (sig ∷ sigs) found forms h = absurd h
good_tries checker (key ∷ keys) (sig ∷ sigs) found forms h =
    let few = signatures_few checker (key ∷ keys) (sig ∷ sigs) h in
    let enough = le-ltb (length (key ∷ keys)) (length (sig ∷ sigs)) few in
    let form = All-head (λ key. IsTrue (is_key key)) key keys forms in
    let others = All-tail (λ key. IsTrue (is_key key)) key keys forms in
    elim (cases_Bool (is_good checker key sig)) [
      | inl good ↦
          let all = good_tries checker keys sigs (found ++ (key, sig) ∷ []) others (rest_good checker key sig keys sigs h) in
          (all.0, good_step checker key sig keys sigs found (Ok (Some all.0)) enough form good all.1)
      | inr bad ↦
          let all = good_tries checker keys (sig ∷ sigs) found others (rest_bad checker key sig keys sigs bad h) in
          (all.0, bad_step checker key sig keys sigs found (Ok (Some all.0)) enough form bad all.1)
    ]

-- empty strings are never found
pub empty_tries : (checker : Checker) (keys : List Key) (n : ℕ) (found : Pairs) → All (λ key. IsTrue (is_key key)) keys → tries checker keys (replicate (suc n) EMPTY) found ≡ Ok None
unfolding tries
empty_tries checker [] n found forms = refl
empty_tries checker (key ∷ keys) n found forms =
    let form = All-head (λ key. IsTrue (is_key key)) key keys forms in
    let others = All-tail (λ key. IsTrue (is_key key)) key keys forms in
    elim (cases_Bool (nat_lt (length (key ∷ keys)) (length (replicate (suc n) EMPTY)))) [
      | inl more ↦ no_more checker key EMPTY keys (replicate n EMPTY) found more
      | inr enough ↦ bad_step checker key EMPTY keys (replicate n EMPTY) found (Ok None) enough form refl (empty_tries checker keys n found others)
    ]

-- only empty strings may be left over
pub all_empties : (sigs : Stack) → list_all is_empty sigs ≡ true → sigs ≡ replicate (length sigs) EMPTY
all_empties [] e = refl
all_empties ([] ∷ sigs) e = ap (λ v. EMPTY ∷ v) (all_empties sigs e)
all_empties ((b ∷ sig) ∷ sigs) e = absurd (false≢true e)

-- what tries end with, where no fault ends them
abbrev pub ok_found : Option Pairs → OrFault (Option Pairs)
ok_found t = Ok t

pub not_found : (all : Pairs) → ok_found None ≡ ok_found (Some all) → ⊥
not_found all e = cc

pub same_found : (p q : Pairs) → ok_found (Some p) ≡ ok_found (Some q) → p ≡ q
same_found p q e = cc

-- the first try of some that pass
pub first_try : (checker : Checker) (key sig : Bytes) (keys sigs : Stack) (found all : Pairs) → tries checker (key ∷ keys) (sig ∷ sigs) found ≡ ok_found (Some all) →
    (IsTrue (is_good checker key sig) × (tries checker keys sigs (found ++ (key, sig) ∷ []) ≡ ok_found (Some all))) ⊎ (tries checker keys (sig ∷ sigs) found ≡ ok_found (Some all))
unfolding tries
first_try checker key sig keys sigs found all e =
    elim (cases_Bool (nat_lt (length (key ∷ keys)) (length (sig ∷ sigs)))) [
      | inl short ↦ absurd (not_found all (rw short at e))
      | inr enough ↦ elim (cases_Bool (is_key key)) [
        | inr formless ↦ absurd (no_fault _ (Some all) (rw (enough, formless) at e))
        | inl form ↦ elim (cases_Bool (is_good checker key sig)) [
          | inl good ↦ inl (good, rw (enough, form, good) at e)
          | inr bad ↦ inr (rw (enough, form, bad) at e)
        ]
      ]
    ]

-- the tries that pass find signatures in the order of their keys
pub tries_signs : (checker : Checker) (keys sigs : Stack) (found all : Pairs) → tries checker keys sigs found ≡ ok_found (Some all) → AreSignatures checker keys sigs
unfolding tries
tries_signs checker keys [] found all e = tt
tries_signs checker [] (sig ∷ sigs) found all e = absurd (not_found all e)
tries_signs checker (key ∷ keys) (sig ∷ sigs) found all e =
    elim (first_try checker key sig keys sigs found all e) [
      | inl good ↦ inl (good.0, tries_signs checker keys sigs (found ++ (key, sig) ∷ []) all good.1)
      | inr bad ↦ inr (tries_signs checker keys (sig ∷ sigs) found all bad)
    ]
