-- Which pairs CHECKMULTISIG finds good, and that a table with no other pairs of its keys leaves no other signatures.
use Rattle.std.proofs.Common.{◌≡◌, ◌≤◌, true, IsTrue, List, [], ◌∷◌, ◌++◌, length, reverse, All, Contains, Some, refl, sym, ◌∙◌, ap, subst, ◌⊎◌, inl, inr, arith, not}
use Rattle.std.proofs.lemmas.Bool.{and_parts}
use Rattle.std.proofs.lemmas.List.{append-nil, append_assoc}
use Rattle.def_script.specs.Bytes.{Bytes}
use Rattle.def_machine.specs.Stacks.{Stack, Pairs, Checker, member, is_empty}
use Rattle.def_machine.specs.MultiSig.{is_good, tries}
use Rattle.def_tree.specs.Range.{IsKey}
use Rattle.def_tree.specs.Tree.{Key}
use Rattle.def_sane.specs.Keys.{AreDistinct}
use Rattle.def_satisfaction.specs.Rows.{AreSignatures}
use Rattle.ms_row_laws.proofs.RowLogs.{found_in, multi_log}
use Rattle.ms_row_laws.proofs.MultisigTries.{forms, reversed_forms, good_tries, first_try, same_found, ok_found, not_found}
use Rattle.ms_row_laws.proofs.KeyLists.{first_in, later_in}
use Rattle.ms_strict_laws.proofs.PairSets.{first_or_later, in_none}

-- signatures of keys of the list, in their order, and the pairs of both
abbrev pub Matched : List Key → List Bytes → Pairs → Type 0
Matched keys [] found = found ≡ []
Matched [] (sig ∷ sigs) found = ⊥
Matched (key ∷ keys) (sig ∷ sigs) found =
    ((rest : Pairs) × (found ≡ (key, sig) ∷ rest) × Matched keys sigs rest) ⊎ Matched keys (sig ∷ sigs) found

-- their keys are keys of the list
pub matched_inside : (keys : List Key) (sigs : List Bytes) (found : Pairs) → Matched keys sigs found → (k g : Bytes) → member found k g ≡ true → Contains keys k
matched_inside keys [] found m k g h = absurd (in_none found k g m h)
matched_inside [] (sig ∷ sigs) found m k g h = absurd m
matched_inside (key ∷ keys) (sig ∷ sigs) found (inl (rest, e, m)) k g h =
    elim (first_or_later key sig rest k g (sym (ap (λ q. member q k g) e) ∙ h)) [
      | inl p ↦ subst (Contains (key ∷ keys)) p.0 (first_in key keys)
      | inr p ↦ later_in key keys k (matched_inside keys sigs rest m k g p)
    ]
matched_inside (key ∷ keys) (sig ∷ sigs) found (inr m) k g h = later_in key keys k (matched_inside keys (sig ∷ sigs) found m k g h)

-- the tries find such pairs
abbrev Finds : (keys sigs : Stack) → (found all : Pairs) → Type 0
Finds keys sigs found all = (more : Pairs) × (all ≡ found ++ more) × Matched keys sigs more

tries_found : (checker : Checker) (keys sigs : Stack) (found all : Pairs) → tries checker keys sigs found ≡ ok_found (Some all) → Finds keys sigs found all
unfolding tries
tries_found checker keys [] found all e = ([], sym (same_found found all e) ∙ sym (append-nil found), refl)
tries_found checker [] (sig ∷ sigs) found all e = absurd (not_found all e)
tries_found checker (key ∷ keys) (sig ∷ sigs) found all e =
    elim (first_try checker key sig keys sigs found all e) [
      | inl good ↦
          let f = tries_found checker keys sigs (found ++ (key, sig) ∷ []) all good.1 in
          ((key, sig) ∷ f.0, f.1 ∙ append_assoc found ((key, sig) ∷ []) f.0, inl (f.0, refl, f.2))
      | inr bad ↦ let f = tries_found checker keys (sig ∷ sigs) found all bad in (f.0, f.1, inr f.2)
    ]

pub matched_log : (checker : Checker) (keys : List Key) (sigs : Stack) → All IsKey keys → AreSignatures checker (reverse keys) sigs → Matched (reverse keys) sigs (multi_log checker keys sigs).checks
matched_log checker keys sigs are h =
    let all = good_tries checker (reverse keys) sigs [] (reversed_forms keys (forms keys are)) h in
    let f = tries_found checker (reverse keys) sigs [] all.0 all.1 in
    subst (Matched (reverse keys) sigs) (sym (ap found_in all.1 ∙ f.1)) f.2

-- of these keys no pairs are good but those that were found
abbrev pub Covered : Checker → List Key → Pairs → Type 0
Covered checker keys found = (key sig : Bytes) → Contains keys key → IsTrue (is_good checker key sig) → IsTrue (member found key sig)

pub covered_itself : (checks : Pairs) (keys : List Key) → Covered (member checks) keys checks
covered_itself checks keys key sig i good = (and_parts (not (is_empty sig)) (member checks key sig) good).1

covered_later : (checker : Checker) (key : Key) (keys : List Key) (found : Pairs) → Covered checker (key ∷ keys) found → Covered checker keys found
covered_later checker key keys found h k g i = h k g (later_in key keys k i)

covered_rest : (checker : Checker) (key : Key) (sig : Bytes) (keys : List Key) (found rest : Pairs) → ¬ Contains keys key → found ≡ (key, sig) ∷ rest
    → Covered checker (key ∷ keys) found → Covered checker keys rest
covered_rest checker key sig keys found rest apart e h k g i good =
    elim (first_or_later key sig rest k g (sym (ap (λ q. member q k g) e) ∙ h k g (later_in key keys k i) good)) [
      | inl p ↦ absurd (apart (subst (Contains keys) (sym p.0) i))
      | inr p ↦ p
    ]

-- the signature of a key that was found with one
the_first : (checker : Checker) (key : Key) (sig : Bytes) (keys : List Key) (sigs : List Bytes) (found rest : Pairs) → ¬ Contains keys key → found ≡ (key, sig)
    ∷ rest → Matched keys sigs rest → Covered checker (key ∷ keys) found → (g : Bytes) → is_good checker key g ≡ true → g ≡ sig
the_first checker key sig keys sigs found rest apart e m h g good =
    elim (first_or_later key sig rest key g (sym (ap (λ q. member q key g) e) ∙ h key g (first_in key keys) good)) [
      | inl p ↦ sym p.1
      | inr p ↦ absurd (apart (matched_inside keys sigs rest m key g p))
    ]

-- then there are no more signatures in any other stack, and the same where there are as many
pub matched_only : (checker : Checker) (keys : List Key) (sigs : Stack) (found : Pairs) → AreDistinct keys → Matched keys sigs found → Covered checker keys found
    → (others : Stack) → AreSignatures checker keys others → (length others ≤ length sigs) × (length others ≡ length sigs → others ≡ sigs)
matched_only checker keys [] found distinct m h [] r = (omega arith, λ e. refl)
matched_only checker keys (sig ∷ sigs) found distinct m h [] r = (omega arith, λ e. absurd (omega arith))
matched_only checker [] sigs found distinct m h (g ∷ others) r = absurd r
matched_only checker (key ∷ keys) [] found distinct m h (g ∷ others) (inl r) = absurd (in_none found key g m (h key g (first_in key keys) r.0))
matched_only checker (key ∷ keys) [] found distinct m h (g ∷ others) (inr r) =
    matched_only checker keys [] found distinct.1 m (covered_later checker key keys found h) (g ∷ others) r
matched_only checker (key ∷ keys) (sig ∷ sigs) found distinct (inl (rest, e, m)) h (g ∷ others) (inl r) =
    let o = matched_only checker keys sigs rest distinct.1 m (covered_rest checker key sig keys found rest distinct.0 e h) others r.1 in
    let l = o.0 in
    let first = the_first checker key sig keys sigs found rest distinct.0 e m h g r.0 in
    (omega arith, λ same. ap (λ x. x ∷ others) first ∙ ap (λ v. sig ∷ v) (o.1 (omega arith)))
matched_only checker (key ∷ keys) (sig ∷ sigs) found distinct (inl (rest, e, m)) h (g ∷ others) (inr r) =
    let o = matched_only checker keys sigs rest distinct.1 m (covered_rest checker key sig keys found rest distinct.0 e h) (g ∷ others) r in
    let l = o.0 in
    (omega arith, λ same. absurd (omega arith))
matched_only checker (key ∷ keys) (sig ∷ sigs) found distinct (inr m) h (g ∷ others) (inl r) =
    absurd (distinct.0 (matched_inside keys (sig ∷ sigs) found m key g (h key g (first_in key keys) r.0)))
matched_only checker (key ∷ keys) (sig ∷ sigs) found distinct (inr m) h (g ∷ others) (inr r) =
    matched_only checker keys (sig ∷ sigs) found distinct.1 m (covered_later checker key keys found h) (g ∷ others) r
