-- A tight satisfaction is the only satisfaction under the pairs of its own run.
use Rattle.std.proofs.Common.{◌≡◌, ℕ, true, List, [], ◌∷◌, reverse, refl, sym, ◌∙◌, ap, inl, inr, arith}
use Rattle.std.proofs.lemmas.Bool.{false≢true, and_parts}
use Rattle.def_script.specs.Bytes.{Bytes}
use Rattle.def_machine.specs.Stacks.{Stack, Checker, member}
use Rattle.def_machine.specs.MultiSig.{is_good}
use Rattle.def_tree.specs.declared.Two.TheVariants as kind
use Rattle.def_tree.specs.declared.Wrapper.TheVariants as wrapper
use Rattle.def_tree.specs.Tree.{Tree, Trees, Key, just_0, just_1, pk_k, pk_h, hash, and_or, two, thresh, multi, wrap, none, more}
use Rattle.def_tree.specs.Range.{IsWritable}
use Rattle.def_types.specs.Typed.{IsTyped, properties_of, all_properties_of, IsMalleabilityTyped}
use Rattle.def_types.proofs.Rows.{malleability_rows}
use Rattle.def_assets.specs.Assets.{Assets, known}
use Rattle.def_sane.specs.Keys.{keys, keys_of_all, AreDistinct}
use Rattle.def_satisfaction.specs.Setting.{Setting, only}
use Rattle.def_satisfaction.specs.Rows.{ONE, AreSignatures, row, parts}
use Rattle.def_satisfaction.specs.Satisfaction.{full, Holds}
use Rattle.def_satisfaction.proofs.Canonical.{held}
use Rattle.def_choice.specs.Tight.{TightSat, TightParts}
use Rattle.def_choice.specs.NonMalleable.{given_with}
use Rattle.ms_row_laws.proofs.RowLogs.{sat_log, parts_log}
use Rattle.ms_row_laws.proofs.UniqueDissatisfaction.{all_e}
use Rattle.ms_strict_laws.proofs.CanonicalChecks.{quiet_dsat}
use Rattle.ms_strict_laws.proofs.MultisigPairs.{Covered, matched_log}
use Rattle.ms_strict_laws.proofs.UniqueUnderPairs.{Sole, SoleParts, both_sole, item_sole, sat_part, dsat_part}
use Rattle.ms_strict_laws.proofs.TightOptions.{Fits, AllFit, fit_wrap, fit_two, fit_and_or, fit_more, at, under, Sats, freed, no_pairs, dsat_sole, fixed_sole, pk_k_sole, pk_h_stack, pk_h_sole, some_same, multi_sole, or_b_first, or_b_second, or_first, or_second, or_i_first, or_i_second, and_or_first, and_or_second}
use Rattle.ms_strict_laws.proofs.PairSets.{in_none}

module _ (assets : Assets) (checker : Checker) (holds : Holds checker assets) where
  abbrev here : Setting
  here = at assets checker

  -- a row of the stack under this table, along which it is the only one
  abbrev One : (t : Tree) → Stack → Type 0
  One t w = (r : (row here t).sat w) × Sole (keys t) (sat_log here t w r).checks (Sats assets t) w

  abbrev OneOf : (xs : Trees) → ℕ → Stack → Type 0
  OneOf xs n w =
      (r : parts here xs n w) × SoleParts (keys_of_all xs) (parts_log here xs n w r).checks n (λ other m. parts (under assets other) xs m) w

  good_here : (key sig : Bytes) → is_good (member assets.pairs) key sig ≡ true → is_good checker key sig ≡ true
  good_here key sig h = held assets checker holds key sig h

  signed_here : (own : List Key) (sigs : Stack) → AreSignatures (member assets.pairs) own sigs → AreSignatures checker own sigs
  signed_here own [] h = tt
  signed_here [] (sig ∷ sigs) h = h
  signed_here (key ∷ own) (sig ∷ sigs) (inl h) = inl (good_here key sig h.0, signed_here own sigs h.1)
  signed_here (key ∷ own) (sig ∷ sigs) (inr h) = inr (signed_here own (sig ∷ sigs) h)

  mutual
    unfolding malleability_rows

    pub one_sat : (t : Tree) → Fits t → (w : Stack) → TightSat assets t w → One t w
    one_sat just_0 f w r = absurd r
    one_sat just_1 f w r = (r, fixed_sole [] _ w [] (λ other v h. h) r)
    one_sat (pk_k key) f w r = ((r.0, good_here key r.0 r.1, r.2), pk_k_sole assets key r.0 w r.2)
    one_sat (pk_h key) f w (other, form, same, own, (below, above, sig, at_top, e)) = (
      (other, form, same, own, (below, above, (sig.0, good_here other sig.0 sig.1, sig.2), at_top, e)),
      pk_h_sole assets key other sig.0 w own (pk_h_stack other sig.0 w above below e at_top sig.2),
    )
    one_sat (hash kind value) f w r =
        (r, fixed_sole [] _ w (r.0 ∷ []) (λ other v h. h.2 ∙ ap (λ x. x ∷ []) (some_same h.0 r.0 (known assets kind value) h.1.1 r.1.1)) r.2)
    one_sat (and_or x y z) f w (inl (r, free)) =
        let t = fit_and_or x y z f in
        let i = one_sat x t.0 r.1 r.3 in
        let j = one_sat y t.1 r.0 r.2 in
        (inl (r.0, r.1, j.0, i.0, r.4), and_or_first assets x y z _ _ w r.1 r.0 f r.4 i.1 j.1 free)
    one_sat (and_or x y z) f w (inr (r, free)) =
        let t = fit_and_or x y z f in
        let i = dsat_sole assets checker x t.0 f.safe.3.0 r.1 r.3 in
        let j = one_sat z t.2 r.0 r.2 in
        (inr (r.0, r.1, j.0, i.0, r.4), and_or_second assets x y z _ _ w r.1 r.0 f r.4 i.2 j.1 (i.1 (keys z)) free)
    one_sat (two kind.AndV x y) f w r =
        let t = fit_two kind.AndV x y f in
        let i = one_sat x t.0 r.1 r.3 in
        let j = one_sat y t.1 r.0 r.2 in
        ((r.0, r.1, j.0, i.0, r.4), both_sole (keys x) (keys y) _ _ (Sats assets x) (Sats assets y) w r.1 r.0 t.2 i.1 j.1 r.4)
    one_sat (two kind.AndB x y) f w r =
        let t = fit_two kind.AndB x y f in
        let i = one_sat x t.0 r.1 r.3 in
        let j = one_sat y t.1 r.0 r.2 in
        ((r.0, r.1, j.0, i.0, r.4), both_sole (keys x) (keys y) _ _ (Sats assets x) (Sats assets y) w r.1 r.0 t.2 i.1 j.1 r.4)
    one_sat (two kind.OrB x z) f w (inl (r, free)) =
        let t = fit_two kind.OrB x z f in
        let i = one_sat x t.0 r.1 r.3 in
        let j = dsat_sole assets checker z t.1 (and_parts (properties_of x).e (properties_of z).e f.safe.2.0).1 r.0 r.2 in
        (inl (r.0, r.1, j.0, i.0, r.4), or_b_first assets x z _ _ w r.1 r.0 f r.4 i.1 j.2 (j.1 (keys x)) free)
    one_sat (two kind.OrB x z) f w (inr (r, free)) =
        let t = fit_two kind.OrB x z f in
        let i = dsat_sole assets checker x t.0 (and_parts (properties_of x).e (properties_of z).e f.safe.2.0).0 r.1 r.3 in
        let j = one_sat z t.1 r.0 r.2 in
        (inr (inl (r.0, r.1, j.0, i.0, r.4)), or_b_second assets x z _ _ w r.1 r.0 f r.4 i.2 j.1 (i.1 (keys z)) free)
    one_sat (two kind.OrI x z) f w (inl (r, free)) =
        let t = fit_two kind.OrI x z f in
        let i = one_sat x t.0 r.0 r.2 in
        (inl (r.0, r.1, i.0, r.3, r.4), or_i_first assets x z _ w r.1 r.0 f r.4 r.3 i.1 free)
    one_sat (two kind.OrI x z) f w (inr (r, free)) =
        let t = fit_two kind.OrI x z f in
        let i = one_sat z t.1 r.0 r.2 in
        (inr (r.0, r.1, i.0, r.3, r.4), or_i_second assets x z _ w r.1 r.0 f r.4 r.3 i.1 free)
    one_sat (two which x z) f w (inl (r, free)) =
        let t = fit_two which x z f in
        let i = one_sat x t.0 w r in
        (inl i.0, or_first assets x z _ w t.0 t.1 t.2 f.safe.2.0 f.safe.2.1.0 i.1 free)
    one_sat (two which x z) f w (inr (r, free)) =
        let t = fit_two which x z f in
        let i = dsat_sole assets checker x t.0 f.safe.2.0 r.1 r.3 in
        let j = one_sat z t.1 r.0 r.2 in
        (inr (r.0, r.1, j.0, i.0, r.4), or_second assets x z _ _ w r.1 r.0 t.0 t.1 t.2 f.safe.2.0 f.safe.2.1.0 r.4 i.2 j.1 (i.1 (keys z)) free)
    one_sat (thresh k xs) f w r =
        let i = one_parts xs (record { writable = f.writable.2; typed = f.typed.0; safe = f.safe.0; distinct = f.distinct }) f.safe.1.0 k w r in
        let s = i.1 in
        (i.0, record { inside = s.inside; only = λ other c v h. (s.only other c k v h).1 refl })
    one_sat (multi k own) f w r =
        let signed = signed_here (reverse own) r.1 r.3.1 in (
          (r.0, r.1, r.2, (r.3.0, signed), r.4),
          multi_sole assets k own _ r.1 w r.0 f.distinct (matched_log checker own r.1 f.writable.2 signed) r.3.0 r.2 r.4,
        )
    one_sat (wrap wrapper.D x) f w r =
        let i = one_sat x (fit_wrap wrapper.D x f) r.0 r.2 in
        ((r.0, r.1, i.0, r.3, r.4), item_sole (keys x) _ (Sats assets x) ONE w r.1 r.0 i.1 r.3 r.4)
    one_sat (wrap letter x) f w r = one_sat x (fit_wrap letter x f) w r
    one_sat tree f w r = (r, fixed_sole [] _ w [] (λ other v h. h.1) r.1)

    pub one_parts : (xs : Trees) → AllFit xs → all_e (all_properties_of xs) ≡ true → (n : ℕ) (w : Stack) → TightParts assets xs n w → OneOf xs n w
    one_parts none f e n w r =
        (r, record { inside = λ key sig h. absurd (in_none [] key sig refl h); only = λ other c m v h. (let i = h.0 in let j = r.0 in (omega arith, λ same. h.1 ∙ sym r.1)) })
    one_parts (more x xs) f e n w (inl (m, g, (below, above, rest, taken, eq))) =
        let t = fit_more x xs f in
        let es = and_parts (properties_of x).e (all_e (all_properties_of xs)) e in
        let i = one_sat x t.0 above taken.0 in
        let j = one_parts xs t.1 es.1 m below rest in (
          inl (m, g, (below, above, j.0, i.0, eq)),
          sat_part (keys x) (keys_of_all xs) _ _ n m (λ other. row (under assets other) x) (λ other k. parts (under assets other) xs k) w above below t.2 i.1 j.1 g eq,
        )
    one_parts (more x xs) f e n w (inr (below, above, rest, (unfree, taken), eq)) =
        let t = fit_more x xs f in
        let es = and_parts (properties_of x).e (all_e (all_properties_of xs)) e in
        let i = dsat_sole assets checker x t.0 es.0 above taken in
        let j = one_parts xs t.1 es.1 n below rest in (
          inr (below, above, j.0, i.0, eq),
          dsat_part (keys x) (keys_of_all xs) _ _ n (λ other. row (under assets other) x) (λ other k. parts (under assets other) xs k) w above below t.2 i.2 j.1 eq
              (λ other c v h. unfree (freed assets other x t.0 (no_pairs assets other (keys x) _ (quiet_dsat here false≢true x above i.0) c) v h)),
        )

-- a tight satisfaction has a row under each table that holds the assets' pairs; and under no table, which of the
-- miniscript's keys has but the pairs of that row, has it another satisfaction
pub only_sat : (assets : Assets) (checker : Checker) → Holds checker assets → (tree : Tree) → IsWritable tree → IsTyped tree → IsMalleabilityTyped tree
    → AreDistinct (keys tree) → (w : Stack) → TightSat assets tree w →
    (r : (row (at assets checker) tree).sat w) ×
    ((other : Checker) → Covered other (keys tree) (sat_log (at assets checker) tree w r).checks → (v : Stack) → (row (full (given_with assets other) (only (known assets))) tree).sat v → v ≡ w)
only_sat assets checker holds tree writable typed safe distinct w tight =
    let one = one_sat assets checker holds tree (record { writable = writable; typed = typed; safe = safe; distinct = distinct }) w tight in
    let s = one.1 in
    (one.0, s.only)
