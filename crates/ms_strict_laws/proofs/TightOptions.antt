-- The fragments with options: a tight satisfaction takes one of them, and under the pairs of its run the other has
-- no satisfaction.
use Rattle.std.proofs.Common.{◌≡◌, ℕ, true, false, ◌||◌, IsTrue, List, [], ◌∷◌, ◌++◌, length, reverse, Option, Some, refl, sym, ◌∙◌, ap, subst, inl, inr, arith}
use Rattle.std.proofs.lemmas.Bool.{or_cases, false≢true, and_parts}
use Rattle.std.proofs.lemmas.List.Elements.{Contains-append_left, Contains-append_right, Contains-append_cases}
use Rattle.def_script.specs.Bytes.{Bytes}
use Rattle.def_machine.specs.Stacks.{Stack, Pairs, Checker, member}
use Rattle.def_machine.specs.MultiSig.{is_good}
use Rattle.def_tree.specs.declared.Two.{Two}
use Rattle.def_tree.specs.declared.Two.TheVariants as kind
use Rattle.def_tree.specs.declared.Wrapper.{Wrapper}
use Rattle.def_tree.specs.Tree.{Tree, Trees, Key, pk_k, pk_h, and_or, two, multi, wrap, more}
use Rattle.def_tree.specs.Range.{IsWritable, AreWritable}
use Rattle.def_types.specs.Typed.{IsTyped, AreTyped, properties_of, IsMalleabilityTyped, AreMalleabilityTyped}
use Rattle.def_types.proofs.Rows.{malleability_rows}
use Rattle.def_assets.specs.Assets.{Assets, known, unsigned}
use Rattle.def_sane.specs.Keys.{keys, keys_of_all, AreDistinct}
use Rattle.def_satisfaction.specs.StackSet.{StackSet, Is, Both, Either}
use Rattle.def_satisfaction.specs.Setting.{Setting, only}
use Rattle.def_satisfaction.specs.Rows.{EMPTY, ONE, row}
use Rattle.def_satisfaction.specs.Satisfaction.{canonical, full}
use Rattle.def_satisfaction.proofs.Canonical.{held}
use Rattle.def_satisfaction.proofs.Bare.{dsat_within}
use Rattle.def_choice.specs.Tight.{HasOne}
use Rattle.def_choice.specs.NonMalleable.{given_with}
use Rattle.def_choice.proofs.Weights.{contains-reverse}
use Rattle.ms_row_laws.proofs.RowLogs.{dsat_log}
use Rattle.ms_row_laws.proofs.NeededSignatures.{NoKeys, IsEmpty, needs, no_table}
use Rattle.ms_row_laws.proofs.UniqueDissatisfaction.{one_both, free_dsat, one_dsat}
use Rattle.ms_strict_laws.proofs.CanonicalExists.{HasAssets, Gives, free_sat}
use Rattle.ms_strict_laws.proofs.CanonicalChecks.{quiet_dsat}
use Rattle.ms_strict_laws.proofs.MultisigPairs.{Covered, Matched, matched_inside, matched_only}
use Rattle.ms_strict_laws.proofs.UniqueUnderPairs.{NoneOf, Sole, none_of, both_sole, item_sole, more_keys, first_sole, second_sole}
use Rattle.ms_acceptance_laws.proofs.ForwardFragments.{or_turned}
use Rattle.ms_row_laws.proofs.KeyLists.{Disjoint, first_in, distinct_parts, distinct_reverse, Among, among_left, among_right}
use Rattle.ms_strict_laws.proofs.PairSets.{first_or_later, in_none, Inside, has_cases, own_inside}

-- what is asked of the miniscript
pub record Fits (t : Tree) : Type 0 where
  pub writable : IsWritable t
  pub typed : IsTyped t
  pub safe : IsMalleabilityTyped t
  pub distinct : AreDistinct (keys t)

pub record AllFit (xs : Trees) : Type 0 where
  pub writable : AreWritable xs
  pub typed : AreTyped xs
  pub safe : AreMalleabilityTyped xs
  pub distinct : AreDistinct (keys_of_all xs)

pub fit_wrap : (wrapper : Wrapper) (x : Tree) → Fits (wrap wrapper x) → Fits x
fit_wrap wrapper x f =
    record { writable = f.writable; typed = f.typed.0; safe = f.safe.0; distinct = f.distinct }

pub fit_two : (kind : Two) (x y : Tree) → Fits (two kind x y) → Fits x × Fits y × Disjoint (keys x) (keys y)
fit_two kind x y f =
    let d = distinct_parts (keys x) (keys y) f.distinct in (
      record { writable = f.writable.0; typed = f.typed.0; safe = f.safe.0; distinct = d.0 },
      record { writable = f.writable.1; typed = f.typed.1; safe = f.safe.1; distinct = d.1 },
      d.2,
    )

pub fit_and_or : (x y z : Tree) → Fits (and_or x y z) → Fits x × Fits y × Fits z × Disjoint (keys x) (keys y) × Disjoint (keys x ++ keys y) (keys z)
fit_and_or x y z f =
    let d = distinct_parts (keys x ++ keys y) (keys z) f.distinct in
    let c = distinct_parts (keys x) (keys y) d.0 in (
      record { writable = f.writable.0; typed = f.typed.0; safe = f.safe.0; distinct = c.0 },
      record { writable = f.writable.1; typed = f.typed.1; safe = f.safe.1; distinct = c.1 },
      record { writable = f.writable.2; typed = f.typed.2; safe = f.safe.2; distinct = d.1 },
      c.2,
      d.2,
    )

pub fit_more : (x : Tree) (xs : Trees) → AllFit (more x xs) → Fits x × AllFit xs × Disjoint (keys x) (keys_of_all xs)
fit_more x xs f =
    let d = distinct_parts (keys x) (keys_of_all xs) f.distinct in (
      record { writable = f.writable.0; typed = f.typed.0; safe = f.safe.0; distinct = d.0 },
      record { writable = f.writable.1; typed = f.typed.1; safe = f.safe.1; distinct = d.1 },
      d.2,
    )

-- the assets' settings: under a table alone, and under any table that may have other pairs
abbrev pub at : Assets → Checker → Setting
at assets checker = record { given = given_with assets checker; mode = only (known assets); all_rows = false }

abbrev pub under : Assets → Checker → Setting
under assets checker = full (given_with assets checker) (only (known assets))

module _ (assets : Assets) where
  abbrev pub bare : Setting
  bare = canonical (unsigned assets)

  no_keys : (checker : Checker) (own : List Key) → NoneOf checker own → NoKeys (under assets checker) own
  no_keys checker own h key other sig i same counts = ap (λ k. is_good checker k sig) counts ∙ h key sig i

  has_assets : (checker : Checker) → HasAssets (under assets checker) bare
  has_assets checker = record { older = λ n h. h; after = λ n h. h; preimages = λ kind value preimage h. h }

  pub freed : (checker : Checker) (t : Tree) → Fits t → NoneOf checker (keys t) → Gives (row (under assets checker) t).sat (row bare t).sat
  freed checker t f h = free_sat (under assets checker) bare (has_assets checker) t f.writable f.typed f.safe (no_keys checker (keys t) h)

  not_sat : (checker : Checker) (t : Tree) → Fits t → NoneOf checker (keys t) → (properties_of t).s ≡ true → IsEmpty (row (under assets checker) t).sat
  not_sat checker t f h = (needs (under assets checker) t f.typed (no_keys checker (keys t) h)).sat

  not_free : (t : Tree) → Fits t → (properties_of t).s ≡ true → IsEmpty (row bare t).sat
  not_free t f = (needs bare t f.typed (no_table bare (keys t) refl)).sat

  -- not both of two options without signatures, where one has the letter s
  clash : (checker : Checker) (x z : Tree) → Fits x → Fits z → NoneOf checker (keys z) → ((properties_of x).s || (properties_of z).s) ≡ true → HasOne (row bare x).sat
      → HasOne (row (under assets checker) z).sat → ⊥
  clash checker x z f g h e p q =
      elim (or_cases (properties_of x).s (properties_of z).s e) [ inl a ↦ not_free x f a p.0 p.1 | inr b ↦ not_sat checker z g h b q.0 q.1 ]

  -- the sets of a fragment under a table
  abbrev pub Sats : Tree → Checker → StackSet
  Sats t checker = (row (under assets checker) t).sat

  abbrev pub Dsats : Tree → Checker → StackSet
  Dsats t checker = (row (under assets checker) t).dsat

  -- a canonical dissatisfaction
  pub no_pairs : (checker : Checker) (own : List Key) (checks : Pairs) → checks ≡ [] → Covered checker own checks → NoneOf checker own
  no_pairs checker own checks e c = none_of checker own [] own [] (λ key sig h. absurd (in_none [] key sig refl h)) (λ key i j. absurd (let l = i.1 in omega arith)) (λ key i. i)
      (λ key sig i good. subst (λ p. IsTrue (member p key sig)) e (c key sig i good))

  module _ (checker : Checker) where
    abbrev pub s0 : Setting
    s0 = at assets checker

    pub dsat_sole : (t : Tree) → Fits t → (properties_of t).e ≡ true → (w : Stack) → (row (canonical assets) t).dsat w →
        (r : (row s0 t).dsat w) × ((keys' : List Key) → Inside (dsat_log s0 t w r).checks keys') × Sole (keys t) (dsat_log s0 t w r).checks (Dsats t) w
    dsat_sole t f e w d =
        let r = dsat_within (canonical assets) s0 false≢true (λ key other h. h) t w d in
        let q = quiet_dsat s0 false≢true t w r in
        let b = dsat_within (canonical assets) bare false≢true (λ key other h. h) t w d in (
          r,
          λ own key sig h. absurd (in_none _ key sig q h),
          record {
            inside = λ key sig h. absurd (in_none _ key sig q h);
            only = λ other c v h.
                one_dsat (under assets other) bare (λ key k i. i) (λ key k i. i) t f.typed f.safe
                (no_keys other (keys t) (no_pairs other (keys t) _ q c)) (no_table bare (keys t) refl) e v w h b;
          },
        )

-- the leaves
pub fixed_sole : (own : List Key) (P : Checker → StackSet) (w c : Stack) → ((checker : Checker) (v : Stack) → P checker v → v ≡ c) → w ≡ c → Sole own [] P w
fixed_sole own P w c is e = record {
  inside = λ key sig h. absurd (in_none [] key sig refl h);
  only = λ checker covered v r. is checker v r ∙ sym e;
}

-- the signature of the key that was found
that_signature : (key sig g : Bytes) (checker : Checker) → Covered checker (key ∷ []) ((key, sig) ∷ []) → is_good checker key g ≡ true → g ≡ sig
that_signature key sig g checker c good =
    elim (first_or_later key sig [] key g (c key g (first_in key []) good)) [
      | inl p ↦ sym p.1
      | inr p ↦ absurd (in_none [] key g refl p)
    ]

pub pk_k_sole : (assets : Assets) (key sig : Bytes) (w : Stack) → w ≡ sig ∷ [] → Sole (key ∷ []) ((key, sig) ∷ []) (Sats assets (pk_k key)) w
pk_k_sole assets key sig w e = record {
  inside = own_inside key sig;
  only = λ checker c v r. r.2 ∙ ap (λ g. g ∷ []) (that_signature key sig r.0 checker c r.1) ∙ sym e;
}

pub pk_h_stack : (other sig : Bytes) (w above below : Stack) → w ≡ above ++ below → above ≡ other ∷ [] → below ≡ sig ∷ [] → w ≡ other ∷ sig ∷ []
pk_h_stack other sig w above below e i j = e ∙ ap (λ x. x ++ below) i ∙ ap (λ x. other ∷ x) j

pub pk_h_sole : (assets : Assets) (key other sig : Bytes) (w : Stack) → other ≡ key → w ≡ other ∷ sig ∷ [] → Sole (key ∷ []) ((other, sig) ∷ []) (Sats assets (pk_h key)) w
pk_h_sole assets key other sig w own e =
    subst (λ k. Sole (key ∷ []) ((k, sig) ∷ []) (Sats assets (pk_h key)) w) (sym own)
    (record {
      inside = own_inside key sig;
      only = λ checker c v r.
          let b = r.4 in
          let g = b.2 in
          let good = subst (λ k. is_good checker k g.0 ≡ true) r.3 g.1 in
          pk_h_stack r.0 g.0 v b.1 b.0 b.4 b.3 g.2
          ∙ ap (λ k. k ∷ g.0 ∷ []) (r.3 ∙ sym own)
          ∙ ap (λ x. other ∷ x ∷ []) (that_signature key sig g.0 checker c good)
          ∙ sym e;
    })

pub some_same : (x y : Bytes) (held : Option Bytes) → held ≡ Some x → held ≡ Some y → x ≡ y
some_same x y held e f = cc

pub multi_sole : (assets : Assets) (k : ℕ) (own : List Key) (found : Pairs) (sigs w below : Stack) → AreDistinct own → Matched (reverse own) sigs found
    → length sigs ≡ k → below ≡ EMPTY ∷ [] → w ≡ sigs ++ below → Sole own found (Sats assets (multi k own)) w
multi_sole assets k own found sigs w below distinct m e i j = record {
  inside = λ key sig h. contains-reverse own key (matched_inside (reverse own) sigs found m key sig h);
  only = λ checker c v r.
      let s = r.3 in
      let one = matched_only checker (reverse own) sigs found (distinct_reverse own distinct) m (λ key sig h. c key sig (contains-reverse own key h)) r.1 s.1 in
      r.4 ∙ ap (λ x. x ++ r.0) (one.1 (s.0 ∙ sym e)) ∙ ap (λ x. sigs ++ x) (r.2 ∙ sym i) ∙ sym j;
}

-- options
inside_all : (own : List Key) (p q : Pairs) → Inside p own → Inside q own → Inside (p ++ q) own
inside_all own p q i j key sig h = elim (has_cases p q key sig h) [ inl k ↦ i key sig k | inr k ↦ j key sig k ]

turned : (a b : List Key) → Disjoint a b → Disjoint b a
turned a b apart key i j = apart key j i

module _ (assets : Assets) where
  -- of two options, the other one's child isn't satisfied
  no_other : (x z : Tree) (checks : Pairs) (checker : Checker) (own : List Key) → Fits x → Fits z → Disjoint (keys x) (keys z) → Among (keys z) own
      → ((properties_of x).s || (properties_of z).s) ≡ true
      → Inside checks (keys x) → (HasOne (row (bare assets) z).sat → HasOne (row (bare assets) x).sat) → Covered checker own checks
      → IsEmpty (Sats assets z checker)
  no_other x z checks checker own f g apart among e inside free c v q =
      let h = none_of checker own (keys x) (keys z) checks inside apart among c in
      clash assets checker x z f g h e (free (freed assets checker z g h v q)) (v, q)

  no_second : (x z : Tree) (checks : Pairs) (checker : Checker) → Fits x → Fits z → Disjoint (keys x) (keys z) → ((properties_of x).s || (properties_of z).s) ≡ true
      → Inside checks (keys x) → (HasOne (row (bare assets) z).sat → HasOne (row (bare assets) x).sat) → Covered checker (keys x ++ keys z) checks
      → IsEmpty (Sats assets z checker)
  no_second x z checks checker f g apart e = no_other x z checks checker _ f g apart (among_right (keys x) (keys z)) e

  no_first : (x z : Tree) (checks : Pairs) (checker : Checker) → Fits x → Fits z → Disjoint (keys x) (keys z) → ((properties_of x).s || (properties_of z).s) ≡ true
      → Inside checks (keys z) → (HasOne (row (bare assets) x).sat → HasOne (row (bare assets) z).sat) → Covered checker (keys x ++ keys z) checks
      → IsEmpty (Sats assets x checker)
  no_first x z checks checker f g apart e =
      no_other z x checks checker _ g f (turned (keys x) (keys z) apart) (among_left (keys x) (keys z)) (or_turned (properties_of z).s (properties_of x).s ∙ e)

  free_other : (t : Tree) → Fits t → (properties_of t).e ≡ true → HasOne (row (bare assets) t).dsat
  free_other t f e = free_dsat (bare assets) t f.writable f.safe e

  pub or_b_first : (x z : Tree) (p q : Pairs) (w above below : Stack) → Fits (two kind.OrB x z) → w ≡ above ++ below →
      Sole (keys x) p (Sats assets x) above → Sole (keys z) q (Dsats assets z) below → Inside q (keys x) →
      (HasOne (Either (Both (row (bare assets) z).dsat (row (bare assets) x).sat) (Both (row (bare assets) z).sat (row (bare assets) x).dsat))
      → Both (row (bare assets) z).dsat (row (bare assets) x).sat w) →
      Sole (keys x ++ keys z) (p ++ q) (Sats assets (two kind.OrB x z)) w
  unfolding malleability_rows
  or_b_first x z p q w above below f e i j inside free =
      let t = fit_two kind.OrB x z f in
      let es = and_parts (properties_of x).e (properties_of z).e f.safe.2.0 in
      let no : (checker : Checker) → Covered checker (keys x ++ keys z) (p ++ q) → IsEmpty (Sats assets z checker) =
      λ checker. no_second x z (p ++ q) checker t.0 t.1 t.2 f.safe.2.1.0 (inside_all (keys x) p q i.inside inside)
      (λ one. let b = one_both _ _ one (free_other x t.0 es.0) in let g = free (b.0, inr b.1) in (g.1, g.3)) in
      first_sole (keys x ++ keys z) (p ++ q) (λ checker. Both (Dsats assets z checker) (Sats assets x checker)) _ w
      (both_sole (keys x) (keys z) p q (Sats assets x) (Dsats assets z) w above below t.2 i j e)
      (λ checker c v r. elim r [ inl a ↦ no checker c a.0 a.2 | inr b ↦ no checker c b.1.0 b.1.2 ])

  pub or_b_second : (x z : Tree) (p q : Pairs) (w above below : Stack) → Fits (two kind.OrB x z) → w ≡ above ++ below →
      Sole (keys x) p (Dsats assets x) above → Sole (keys z) q (Sats assets z) below → Inside p (keys z) →
      (HasOne (Either (Both (row (bare assets) z).dsat (row (bare assets) x).sat) (Both (row (bare assets) z).sat (row (bare assets) x).dsat))
      → Both (row (bare assets) z).sat (row (bare assets) x).dsat w) →
      Sole (keys x ++ keys z) (p ++ q) (Sats assets (two kind.OrB x z)) w
  unfolding malleability_rows
  or_b_second x z p q w above below f e i j inside free =
      let t = fit_two kind.OrB x z f in
      let es = and_parts (properties_of x).e (properties_of z).e f.safe.2.0 in
      let no : (checker : Checker) → Covered checker (keys x ++ keys z) (p ++ q) → IsEmpty (Sats assets x checker) =
      λ checker. no_first x z (p ++ q) checker t.0 t.1 t.2 f.safe.2.1.0 (inside_all (keys z) p q inside j.inside)
      (λ one. let b = one_both _ _ (free_other z t.1 es.1) one in let g = free (b.0, inl b.1) in (g.0, g.2)) in
      second_sole (keys x ++ keys z) (p ++ q) _ _ w
      (first_sole (keys x ++ keys z) (p ++ q) (λ checker. Both (Sats assets z checker) (Dsats assets x checker)) _ w
      (both_sole (keys x) (keys z) p q (Dsats assets x) (Sats assets z) w above below t.2 i j e)
      (λ checker c v r. no checker c r.1.1 r.1.3))
      (λ checker c v r. no checker c r.1 r.3)

  -- `or_c` and `or_d`
  pub or_first : (x z : Tree) (p : Pairs) (w : Stack) → Fits x → Fits z → Disjoint (keys x) (keys z) → (properties_of x).e ≡ true → ((properties_of x).s || (properties_of z).s) ≡ true →
      Sole (keys x) p (Sats assets x) w →
      (HasOne (Either (row (bare assets) x).sat (Both (row (bare assets) z).sat (row (bare assets) x).dsat)) → (row (bare assets) x).sat w) →
      Sole (keys x ++ keys z) p (λ checker. Either (Sats assets x checker) (Both (Sats assets z checker) (Dsats assets x checker))) w
  or_first x z p w f g apart e s i free =
      first_sole (keys x ++ keys z) p (Sats assets x) _ w
      (more_keys (keys x) (keys x ++ keys z) p (Sats assets x) w (among_left (keys x) (keys z)) i)
      (λ checker c v r.
      no_second x z p checker f g apart s i.inside
      (λ one. let b = one_both _ _ one (free_other x f e) in (w, free (b.0, inr b.1)))
      c r.0 r.2)

  pub or_second : (x z : Tree) (p q : Pairs) (w above below : Stack) → Fits x → Fits z → Disjoint (keys x) (keys z) → (properties_of x).e ≡ true
      → ((properties_of x).s || (properties_of z).s) ≡ true → w ≡ above ++ below →
      Sole (keys x) p (Dsats assets x) above → Sole (keys z) q (Sats assets z) below → Inside p (keys z) →
      (HasOne (Either (row (bare assets) x).sat (Both (row (bare assets) z).sat (row (bare assets) x).dsat)) → Both (row (bare assets) z).sat (row (bare assets) x).dsat w) →
      Sole (keys x ++ keys z) (p ++ q) (λ checker. Either (Sats assets x checker) (Both (Sats assets z checker) (Dsats assets x checker))) w
  or_second x z p q w above below f g apart e s eq i j inside free =
      second_sole (keys x ++ keys z) (p ++ q) (Sats assets x) _ w
      (both_sole (keys x) (keys z) p q (Dsats assets x) (Sats assets z) w above below apart i j eq)
      (λ checker c v r.
      no_first x z (p ++ q) checker f g apart s (inside_all (keys z) p q inside j.inside)
      (λ one. let g = free (one.0, inl one.1) in (g.0, g.2))
      c v r)

  pub or_i_first : (x z : Tree) (p : Pairs) (w above below : Stack) → Fits (two kind.OrI x z) → w ≡ above ++ below → above ≡ ONE ∷ [] →
      Sole (keys x) p (Sats assets x) below →
      (HasOne (Either (Both (row (bare assets) x).sat (Is ONE)) (Both (row (bare assets) z).sat (Is EMPTY))) → Both (row (bare assets) x).sat (Is ONE) w) →
      Sole (keys x ++ keys z) p (Sats assets (two kind.OrI x z)) w
  unfolding malleability_rows
  or_i_first x z p w above below f e one i free =
      let t = fit_two kind.OrI x z f in
      first_sole (keys x ++ keys z) p (λ checker. Both (Sats assets x checker) (Is ONE)) _ w
      (more_keys (keys x) (keys x ++ keys z) p _ w (among_left (keys x) (keys z))
      (item_sole (keys x) p (Sats assets x) ONE w above below i one e))
      (λ checker c v r.
      no_second x z p checker t.0 t.1 t.2 f.safe.2.0 i.inside
      (λ o. let b = one_both _ (Is EMPTY) o (EMPTY ∷ [], refl) in let g = free (b.0, inr b.1) in (g.0, g.2))
      c r.0 r.2)

  pub or_i_second : (x z : Tree) (p : Pairs) (w above below : Stack) → Fits (two kind.OrI x z) → w ≡ above ++ below → above ≡ EMPTY ∷ [] →
      Sole (keys z) p (Sats assets z) below →
      (HasOne (Either (Both (row (bare assets) x).sat (Is ONE)) (Both (row (bare assets) z).sat (Is EMPTY))) → Both (row (bare assets) z).sat (Is EMPTY) w) →
      Sole (keys x ++ keys z) p (Sats assets (two kind.OrI x z)) w
  unfolding malleability_rows
  or_i_second x z p w above below f e empty i free =
      let t = fit_two kind.OrI x z f in
      second_sole (keys x ++ keys z) p _ (λ checker. Both (Sats assets z checker) (Is EMPTY)) w
      (more_keys (keys z) (keys x ++ keys z) p _ w (among_right (keys x) (keys z))
      (item_sole (keys z) p (Sats assets z) EMPTY w above below i empty e))
      (λ checker c v r.
      no_first x z p checker t.0 t.1 t.2 f.safe.2.0 i.inside
      (λ o. let b = one_both _ (Is ONE) o (ONE ∷ [], refl) in let g = free (b.0, inl b.1) in (g.0, g.2))
      c r.0 r.2)

  pub and_or_first : (x y z : Tree) (p q : Pairs) (w above below : Stack) → Fits (and_or x y z) → w ≡ above ++ below →
      Sole (keys x) p (Sats assets x) above → Sole (keys y) q (Sats assets y) below →
      (HasOne (Either (Both (row (bare assets) y).sat (row (bare assets) x).sat) (Both (row (bare assets) z).sat (row (bare assets) x).dsat))
      → Both (row (bare assets) y).sat (row (bare assets) x).sat w) →
      Sole (keys x ++ keys y ++ keys z) (p ++ q) (Sats assets (and_or x y z)) w
  unfolding malleability_rows
  and_or_first x y z p q w above below f e i j free =
      let t = fit_and_or x y z f in
      let both = both_sole (keys x) (keys y) p q (Sats assets x) (Sats assets y) w above below t.3 i j e in
      first_sole (keys x ++ keys y ++ keys z) (p ++ q) (λ checker. Both (Sats assets y checker) (Sats assets x checker)) _ w
      (more_keys (keys x ++ keys y) (keys x ++ keys y ++ keys z) (p ++ q) _ w (among_left (keys x ++ keys y) (keys z)) both)
      (λ checker c v r.
      let h = none_of checker (keys x ++ keys y ++ keys z) (keys x ++ keys y) (keys z) (p ++ q) both.inside t.4 (among_right (keys x ++ keys y) (keys z)) c in
      let b = one_both _ _ (freed assets checker z t.2 h r.0 r.2) (free_other x t.0 f.safe.3.0) in
      let g = free (b.0, inr b.1) in
      elim (or_cases ((properties_of x).s || (properties_of y).s) (properties_of z).s f.safe.3.1.0) [
        | inl s ↦ elim (or_cases (properties_of x).s (properties_of y).s s) [ inl a ↦ not_free assets x t.0 a g.1 g.3 | inr a ↦ not_free assets y t.1 a g.0 g.2 ]
        | inr s ↦ not_sat assets checker z t.2 h s r.0 r.2
      ])

  pub and_or_second : (x y z : Tree) (p q : Pairs) (w above below : Stack) → Fits (and_or x y z) → w ≡ above ++ below →
      Sole (keys x) p (Dsats assets x) above → Sole (keys z) q (Sats assets z) below → Inside p (keys z) →
      (HasOne (Either (Both (row (bare assets) y).sat (row (bare assets) x).sat) (Both (row (bare assets) z).sat (row (bare assets) x).dsat))
      → Both (row (bare assets) z).sat (row (bare assets) x).dsat w) →
      Sole (keys x ++ keys y ++ keys z) (p ++ q) (Sats assets (and_or x y z)) w
  unfolding malleability_rows
  and_or_second x y z p q w above below f e i j inside free =
      let t = fit_and_or x y z f in
      let apart : Disjoint (keys x) (keys z) = λ key k l. t.4 key (Contains-append_left (keys x) (keys y) key k) l in
      let both = both_sole (keys x) (keys z) p q (Dsats assets x) (Sats assets z) w above below apart i j e in
      let among : Among (keys x ++ keys z) (keys x ++ keys y ++ keys z) =
      λ key k. elim (Contains-append_cases (keys x) (keys z) key k) [
        | inl a ↦ Contains-append_left (keys x ++ keys y) (keys z) key (Contains-append_left (keys x) (keys y) key a)
        | inr a ↦ Contains-append_right (keys x ++ keys y) (keys z) key a
      ] in
      second_sole (keys x ++ keys y ++ keys z) (p ++ q) _ (λ checker. Both (Sats assets z checker) (Dsats assets x checker)) w
      (more_keys (keys x ++ keys z) (keys x ++ keys y ++ keys z) (p ++ q) _ w among both)
      (λ checker c v r.
      let h = none_of checker (keys x ++ keys y ++ keys z) (keys z) (keys x ++ keys y) (p ++ q) (inside_all (keys z) p q inside j.inside)
      (turned (keys x ++ keys y) (keys z) t.4) (among_left (keys x ++ keys y) (keys z)) c in
      let h_x : NoneOf checker (keys x) = λ key sig k. h key sig (Contains-append_left (keys x) (keys y) key k) in
      let h_y : NoneOf checker (keys y) = λ key sig k. h key sig (Contains-append_right (keys x) (keys y) key k) in
      let b = one_both _ _ (freed assets checker y t.1 h_y r.0 r.2) (freed assets checker x t.0 h_x r.1 r.3) in
      let g = free (b.0, inl b.1) in
      elim (or_cases ((properties_of x).s || (properties_of y).s) (properties_of z).s f.safe.3.1.0) [
        | inl s ↦ elim (or_cases (properties_of x).s (properties_of y).s s) [ inl a ↦ not_sat assets checker x t.0 h_x a r.1 r.3 | inr a ↦ not_sat assets checker y t.1 h_y a r.0 r.2 ]
        | inr s ↦ not_free assets z t.2 s g.0 g.2
      ])
