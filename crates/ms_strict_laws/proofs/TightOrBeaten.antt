-- A canonical satisfaction that isn't tight is beaten: another one needs fewer of its signatures, and no other.
use Rattle.std.proofs.Common.{◌≡◌, ℕ, suc, ◌+◌, ◌≤◌, Bool, true, false, [], ◌++◌, refl, subst, ◌⊎◌, inl, inr, arith, if◌then◌else◌}
use Rattle.std.specs.List.{list_all}
use Rattle.std.proofs.lemmas.Bool.{leb-true, false≢true, and_parts}
use Rattle.def_script.specs.Bytes.{Bytes}
use Rattle.def_machine.specs.Stacks.{Stack, Pairs}
use Rattle.def_tree.specs.declared.Two.TheVariants as kind
use Rattle.def_tree.specs.declared.Wrapper.TheVariants as wrapper
use Rattle.def_tree.specs.Tree.{Tree, Trees, and_or, two, thresh, wrap, none, more}
use Rattle.def_tree.specs.Range.{IsWritable, AreWritable}
use Rattle.def_types.specs.Malleable.{count_not_s}
use Rattle.def_types.specs.Typed.{IsTyped, AreTyped, properties_of, all_properties_of, IsMalleabilityTyped, AreMalleabilityTyped}
use Rattle.def_types.proofs.Rows.{malleability_rows}
use Rattle.def_assets.specs.Assets.{Assets, AreAssets}
use Rattle.def_sane.specs.Keys.{AreDistinct, keys, keys_of_all}
use Rattle.def_satisfaction.specs.StackSet.{StackSet, Is, Both}
use Rattle.def_satisfaction.specs.Rows.{EMPTY, ONE, parts}
use Rattle.def_satisfaction.specs.Satisfaction.{canonical}
use Rattle.def_choice.specs.Tight.{HasOne, signed_row, free_row, TightSat, TightParts}
use Rattle.def_choice.proofs.TightFree.{free_dsat}
use Rattle.def_choice.proofs.StrictTight.{free_best}
use Rattle.ms_row_laws.proofs.UniqueDissatisfaction.{free_dsat as has_dsat}
use Rattle.ms_strict_laws.proofs.UnsignedStacks.{signs}
use Rattle.ms_strict_laws.proofs.StrictChoiceExists.{one_or_none}
use Rattle.ms_strict_laws.proofs.PairSets.{HasPair, IsWithin, Fewer, Apart, has_right, apart_none, apart_turned, apart_inside, fewer_none, fewer_within, within_right, fewer_left, fewer_right, has_cases, in_none}
use Rattle.ms_strict_laws.proofs.CanonicalChecks.{checks, dsat_checks, parts_checks, dsat_quiet, free_quiet, both_free, then_free, told, told_parts}
use Rattle.ms_row_laws.proofs.KeyLists.{Disjoint, distinct_parts}

third : {P Q R : Type 0} → P ⊎ Q → P ⊎ (Q ⊎ R)
third (inl p) = inl p
third (inr q) = inr (inl q)

-- a stack of the set with fewer pairs
abbrev pub LesserIn : (P : StackSet) (p : (w : Stack) → P w → Pairs) → Pairs → Type 0
LesserIn P p c = (v : Stack) × (q : P v) × Fewer (p v q) c

abbrev both_checks : (P Q : StackSet) (p : (w : Stack) → P w → Pairs) (q : (w : Stack) → Q w → Pairs) (w : Stack) → Both P Q w → Pairs
both_checks P Q p q w r = q r.1 r.3 ++ p r.0 r.2

-- of two parts both are tight, or the whole is beaten by one of them
beats_both : (P Q S T : StackSet) (p : (w : Stack) → P w → Pairs) (q : (w : Stack) → Q w → Pairs) (w : Stack) (r : Both P Q w) →
    S r.0 ⊎ LesserIn P p (p r.0 r.2) → T r.1 ⊎ LesserIn Q q (q r.1 r.3) → Apart (q r.1 r.3) (p r.0 r.2) →
    Both S T w ⊎ LesserIn (Both P Q) (both_checks P Q p q) (both_checks P Q p q w r)
beats_both P Q S T p q w r (inl a) (inl b) apart = inl (r.0, r.1, a, b, r.4)
beats_both P Q S T p q w r (inr a) b apart =
    inr (r.1 ++ a.0, (a.0, r.1, a.1, r.3, refl), fewer_right (q r.1 r.3) (p a.0 a.1) (p r.0 r.2) a.2 apart)
beats_both P Q S T p q w r (inl a) (inr b) apart =
    inr (b.0 ++ r.0, (r.0, b.0, r.2, b.1, refl), fewer_left (q b.0 b.1) (q r.1 r.3) (p r.0 r.2) b.2 apart)

module _ (assets : Assets) (are : AreAssets assets) where
  abbrev sat : Tree → StackSet
  sat tree = (signed_row assets tree).sat

  abbrev dsat : Tree → StackSet
  dsat tree = (signed_row assets tree).dsat

  -- a canonical satisfaction with fewer pairs
  abbrev pub Lesser : Tree → Pairs → Type 0
  Lesser tree c = LesserIn (sat tree) (checks assets tree) c

  abbrev LesserParts : Trees → (n : ℕ) → Pairs → Type 0
  LesserParts xs n c = LesserIn (parts (canonical assets) xs n) (parts_checks assets xs n) c

  -- one child more satisfied, with no pair more
  abbrev MoreParts : Trees → (n : ℕ) → Pairs → Type 0
  MoreParts xs n c =
      (j : ℕ) × (j ≡ suc n) × (v : Stack) × (q : parts (canonical assets) xs j v) × IsWithin (parts_checks assets xs j v q) c

  -- one child fewer satisfied, with fewer pairs
  abbrev FewerParts : Trees → (n : ℕ) → Pairs → Type 0
  FewerParts xs n c =
      (j : ℕ) × (n ≡ suc j) × (v : Stack) × (q : parts (canonical assets) xs j v) × Fewer (parts_checks assets xs j v q) c

  abbrev Outcome : Trees → (n : ℕ) → Stack → Pairs → Type 0
  Outcome xs n w c = TightParts assets xs n w ⊎ (LesserParts xs n c ⊎ MoreParts xs n c)

  -- a free stack has fewer pairs than one with a pair
  free_beats : (tree : Tree) → IsTyped tree → (v : Stack) → (free_row assets tree).sat v → (c : Pairs) → HasPair c → Lesser tree c
  free_beats tree t v f c pair = let q = free_quiet assets tree t v f in (v, q.0, fewer_none (checks assets tree v q.0) c q.1 pair)

  -- what was taken is tight where it is free, or where there is nothing free; otherwise what is free beats it
  settled : (tree : Tree) → IsWritable tree → IsTyped tree → (T B F E : Type 0) (c : Pairs) → T ⊎ B → (B → Lesser tree c) → F ⊎ HasPair c →
      (E → HasOne (free_row assets tree).sat) → (T × (E → F)) ⊎ Lesser tree c
  settled tree k t T B F E c (inr b) beat f free = inr (beat b)
  settled tree k t T B F E c (inl p) beat (inl f) free = inl (p, λ e. f)
  settled tree k t T B F E c (inl p) beat (inr pair) free =
      elim (one_or_none _ _ (free_best assets are tree k)) [
        | inl one ↦ inr (free_beats tree t one.0 one.1 c pair)
        | inr never ↦ inl (p, λ e. absurd (never (free e)))
      ]

  -- a first child that is satisfied, and the others
  with_satisfied : (x : Tree) (xs : Trees) (n : ℕ) (w : Stack) (r : (m : ℕ) × (n ≡ suc m) × Both (parts (canonical assets) xs m) (sat x) w) →
      let g = r.2 in
      (TightSat assets x g.1 × (HasOne (free_row assets x).sat → (free_row assets x).sat g.1)) ⊎ Lesser x (checks assets x g.1 g.3) →
      Outcome xs r.0 g.0 (parts_checks assets xs r.0 g.0 g.2) → Apart (checks assets x g.1 g.3) (parts_checks assets xs r.0 g.0 g.2) →
      Outcome (more x xs) n w (checks assets x g.1 g.3 ++ parts_checks assets xs r.0 g.0 g.2)
  with_satisfied x xs n w r (inr b) o apart =
      let g = r.2 in
      inr (inl (b.0 ++ g.0, inl (r.0, r.1, (g.0, b.0, g.2, b.1, refl)), fewer_left _ _ _ b.2 apart))
  with_satisfied x xs n w r (inl c) (inl ts) apart = let g = r.2 in inl (inl (r.0, r.1, (g.0, g.1, ts, c, g.4)))
  with_satisfied x xs n w r (inl c) (inr (inl b)) apart =
      let g = r.2 in
      inr (inl (g.1 ++ b.0, inl (r.0, r.1, (b.0, g.1, b.1, g.3, refl)), fewer_right _ _ _ b.2 apart))
  with_satisfied x xs n w r (inl c) (inr (inr u)) apart =
      let g = r.2 in
      let up : suc u.0 ≡ suc n = omega (arith, r.1, u.1) in
      inr (inr (suc u.0, up, g.1 ++ u.2, inl (u.0, refl, (u.2, g.1, u.3, g.3, refl)), within_right _ _ _ u.4))

  -- one that is dissatisfied
  with_dissatisfied : (x : Tree) (xs : Trees) → IsTyped x → (n : ℕ) (w : Stack) (r : Both (parts (canonical assets) xs n) (dsat x) w) →
      HasOne (free_row assets x).sat ⊎ (HasOne (free_row assets x).sat → ⊥) → Outcome xs n r.0 (parts_checks assets xs n r.0 r.2) →
      Outcome (more x xs) n w (dsat_checks assets x r.1 r.3 ++ parts_checks assets xs n r.0 r.2)
  with_dissatisfied x xs t n w r (inl one) o =
      let q = free_quiet assets x t one.0 one.1 in
      inr (inr (
        suc n,
        refl,
        one.0 ++ r.0,
        inl (n, refl, (r.0, one.0, r.2, q.0, refl)),
        λ key sig h.
            elim (has_cases (checks assets x one.0 q.0) (parts_checks assets xs n r.0 r.2) key sig h) [
              | inl i ↦ absurd (in_none (checks assets x one.0 q.0) key sig q.1 i)
              | inr i ↦ has_right (dsat_checks assets x r.1 r.3) (parts_checks assets xs n r.0 r.2) key sig i
            ],
      ))
  with_dissatisfied x xs t n w r (inr never) (inl ts) = inl (inr (r.0, r.1, ts, (never, r.3), r.4))
  with_dissatisfied x xs t n w r (inr never) (inr (inl b)) =
      inr (inl (r.1 ++ b.0, inr (b.0, r.1, b.1, r.3, refl), fewer_right _ _ _ b.2 (apart_none _ _ (dsat_quiet assets x r.1 r.3))))
  with_dissatisfied x xs t n w r (inr never) (inr (inr u)) =
      inr (inr (u.0, u.1, r.1 ++ u.2, inr (u.2, r.1, u.3, r.3, refl), within_right _ _ _ u.4))

  -- a satisfied child with s is dissatisfied instead, where more are satisfied than there are without s
  down_here : (x : Tree) (xs : Trees) → IsWritable x → IsTyped x → IsMalleabilityTyped x → (properties_of x).e ≡ true → (n : ℕ) (w : Stack)
      (r : (m : ℕ) × (n ≡ suc m) × Both (parts (canonical assets) xs m) (sat x) w) → let g = r.2 in
      Apart (checks assets x g.1 g.3) (parts_checks assets xs r.0 g.0 g.2) →
      (suc (count_not_s (all_properties_of xs)) ≤ r.0 → FewerParts xs r.0 (parts_checks assets xs r.0 g.0 g.2)) →
      (s : Bool) → (properties_of x).s ≡ s → suc ((if s then 0 else 1) + count_not_s (all_properties_of xs)) ≤ n →
      FewerParts (more x xs) n (checks assets x g.1 g.3 ++ parts_checks assets xs r.0 g.0 g.2)
  down_here x xs k t m e n w r apart others true s many =
      let g = r.2 in
      let d = has_dsat (canonical assets) x k m e in (
        r.0,
        r.1,
        d.0 ++ g.0,
        inr (g.0, d.0, g.2, d.1, refl),
        fewer_left _ _ _
            (fewer_none (dsat_checks assets x d.0 d.1) (checks assets x g.1 g.3) (dsat_quiet assets x d.0 d.1)
            (elim (told assets x k t g.1 g.3).free [ inl f ↦ absurd (signs assets x t s g.1 f) | inr pair ↦ pair ]))
            apart,
      )
  down_here x xs k t m e n w r apart others false s many =
      let g = r.2 in
      let i = others (omega (arith, many, r.1)) in
      (r.0, r.1, g.1 ++ i.2, inl (i.0, i.1, (i.2, g.1, i.3, g.3, refl)), fewer_right _ _ _ i.4 apart)

  down : (xs : Trees) → AreWritable xs → AreTyped xs → AreMalleabilityTyped xs → list_all (λ x. x.e) (all_properties_of xs) ≡ true → AreDistinct (keys_of_all xs) →
      (n : ℕ) (w : Stack) (r : parts (canonical assets) xs n w) → suc (count_not_s (all_properties_of xs)) ≤ n → FewerParts xs n (parts_checks assets xs n w r)
  down none k t m e d n w r many = absurd (omega (arith, r.0, many))
  down (more x xs) k t m e d n w (inl r) many =
      let g = r.2 in
      let f = and_parts (properties_of x).e (list_all (λ y. y.e) (all_properties_of xs)) e in
      let p = distinct_parts (keys x) (keys_of_all xs) d in
      down_here x xs k.0 t.0 m.0 f.0 n w r
      (apart_inside _ _ (keys x) (keys_of_all xs) (told assets x k.0 t.0 g.1 g.3).inside (told_parts assets xs k.1 t.1 r.0 g.0 g.2).inside p.2)
      (down xs k.1 t.1 m.1 f.1 p.1 r.0 g.0 g.2) (properties_of x).s refl many
  down (more x xs) k t m e d n w (inr r) many =
      let f = and_parts (properties_of x).e (list_all (λ y. y.e) (all_properties_of xs)) e in
      let p = distinct_parts (keys x) (keys_of_all xs) d in
      let i = down xs k.1 t.1 m.1 f.1 p.1 n r.0 r.2 (fewer_others (properties_of x).s many) in
      (i.0, i.1, r.1 ++ i.2, inr (i.2, r.1, i.3, r.3, refl), fewer_right _ _ _ i.4 (apart_none _ _ (dsat_quiet assets x r.1 r.3)))
    where
      fewer_others : (s : Bool) → suc ((if s then 0 else 1) + count_not_s (all_properties_of xs)) ≤ n → suc (count_not_s (all_properties_of xs)) ≤ n
      fewer_others true h = omega (arith, h)
      fewer_others false h = omega (arith, h)

  -- of two children, both satisfied, or one dissatisfied
  both_satisfied : (x y : Tree) → IsWritable x → IsTyped x → IsWritable y → IsTyped y → Disjoint (keys x) (keys y) → (w : Stack) (r : Both (sat y) (sat x) w) →
      TightSat assets y r.0 ⊎ Lesser y (checks assets y r.0 r.2) → TightSat assets x r.1 ⊎ Lesser x (checks assets x r.1 r.3) →
      Both (TightSat assets y) (TightSat assets x) w ⊎
      LesserIn (Both (sat y) (sat x)) (both_checks (sat y) (sat x) (checks assets y) (checks assets x)) (checks assets x r.1 r.3 ++ checks assets y r.0 r.2)
  both_satisfied x y kx tx ky ty apart w r a b =
      beats_both (sat y) (sat x) (TightSat assets y) (TightSat assets x) (checks assets y) (checks assets x) w r a b
      (apart_inside _ _ (keys x) (keys y) (told assets x kx tx r.1 r.3).inside (told assets y ky ty r.0 r.2).inside apart)

  lower_satisfied : (x z : Tree) (w : Stack) (r : Both (sat z) (dsat x) w) → TightSat assets z r.0 ⊎ Lesser z (checks assets z r.0 r.2) →
      Both (TightSat assets z) (dsat x) w ⊎
      LesserIn (Both (sat z) (dsat x)) (both_checks (sat z) (dsat x) (checks assets z) (dsat_checks assets x)) (dsat_checks assets x r.1 r.3 ++ checks assets z r.0 r.2)
  lower_satisfied x z w r a =
      beats_both (sat z) (dsat x) (TightSat assets z) (dsat x) (checks assets z) (dsat_checks assets x) w r a (inl r.3)
      (apart_none _ _ (dsat_quiet assets x r.1 r.3))

  -- an item on top, which has no pair
  under_item : (x : Tree) (item : Bytes) (w : Stack) (r : Both (sat x) (Is item) w) → TightSat assets x r.0 ⊎ Lesser x (checks assets x r.0 r.2) →
      Both (TightSat assets x) (Is item) w ⊎ ((v : Stack) × (q : Both (sat x) (Is item) v) × Fewer (checks assets x q.0 q.2) (checks assets x r.0 r.2))
  under_item x item w r (inl a) = inl (r.0, r.1, a, r.3, r.4)
  under_item x item w r (inr b) = inr (r.1 ++ b.0, (b.0, r.1, b.1, r.3, refl), b.2)

  -- at a threshold: where one more could be satisfied with no pair more, one with s is dissatisfied
  at_threshold : (xs : Trees) → AreWritable xs → AreTyped xs → AreMalleabilityTyped xs → list_all (λ x. x.e) (all_properties_of xs) ≡ true → AreDistinct (keys_of_all xs) →
      (n : ℕ) (w : Stack) (r : parts (canonical assets) xs n w) → count_not_s (all_properties_of xs) ≤ n → Outcome xs n w (parts_checks assets xs n w r) →
      TightParts assets xs n w ⊎ LesserParts xs n (parts_checks assets xs n w r)
  at_threshold xs k t m e d n w r most (inl ts) = inl ts
  at_threshold xs k t m e d n w r most (inr (inl b)) = inr b
  at_threshold xs k t m e d n w r most (inr (inr u)) =
      let i = down xs k t m e d u.0 u.2 u.3 (omega (arith, most, u.1)) in
      let same : i.0 ≡ n = omega (arith, i.1, u.1) in
      inr (subst (λ j. LesserParts xs j (parts_checks assets xs n w r)) same (i.2, i.3, fewer_within _ _ _ i.4 u.4))

  mutual
    unfolding malleability_rows

    -- a canonical satisfaction is tight or beaten
    pub beats : (tree : Tree) → IsWritable tree → IsTyped tree → IsMalleabilityTyped tree → AreDistinct (keys tree) →
        (w : Stack) (r : sat tree w) → TightSat assets tree w ⊎ Lesser tree (checks assets tree w r)
    beats (and_or x y z) k t m d w (inl r) =
        let p = distinct_parts (keys x ++ keys y) (keys z) d in
        let q = distinct_parts (keys x) (keys y) p.0 in
        then_free (λ p. inl p) (settled (and_or x y z) k t _ _ _ _ _
        (both_satisfied x y k.0 t.0 k.1 t.1 q.2 w r (beats y k.1 t.1 m.1 q.1 r.0 r.2) (beats x k.0 t.0 m.0 q.0 r.1 r.3)) (λ b. (b.0, inl b.1, b.2))
        (both_free _ _ _ _ w r.0 r.1 r.4 (told assets y k.1 t.1 r.0 r.2).free (told assets x k.0 t.0 r.1 r.3).free) (λ e. e))
    beats (and_or x y z) k t m d w (inr r) =
        let p = distinct_parts (keys x ++ keys y) (keys z) d in
        then_free (λ p. inr p) (settled (and_or x y z) k t _ _ _ _ _
        (lower_satisfied x z w r (beats z k.2 t.2 m.2 p.1 r.0 r.2)) (λ b. (b.0, inr b.1, b.2))
        (both_free _ _ _ _ w r.0 r.1 r.4 (told assets z k.2 t.2 r.0 r.2).free (inl (free_dsat assets x r.1 r.3))) (λ e. e))
    beats (two kind.AndV x y) k t m d w r =
        let q = distinct_parts (keys x) (keys y) d in
        both_satisfied x y k.0 t.0 k.1 t.1 q.2 w r (beats y k.1 t.1 m.1 q.1 r.0 r.2) (beats x k.0 t.0 m.0 q.0 r.1 r.3)
    beats (two kind.AndB x y) k t m d w r =
        let q = distinct_parts (keys x) (keys y) d in
        both_satisfied x y k.0 t.0 k.1 t.1 q.2 w r (beats y k.1 t.1 m.1 q.1 r.0 r.2) (beats x k.0 t.0 m.0 q.0 r.1 r.3)
    beats (two kind.OrB x z) k t m d w (inl r) =
        let q = distinct_parts (keys x) (keys z) d in
        then_free (λ p. inl p) (settled (two kind.OrB x z) k t _ _ _ _ _
        (beats_both (dsat z) (sat x) (dsat z) (TightSat assets x) (dsat_checks assets z) (checks assets x) w r (inl r.2) (beats x k.0 t.0 m.0 q.0 r.1 r.3)
        (apart_turned _ _ (apart_none _ (checks assets x r.1 r.3) (dsat_quiet assets z r.0 r.2)))) (λ b. (b.0, inl b.1, b.2))
        (both_free _ _ _ _ w r.0 r.1 r.4 (inl (free_dsat assets z r.0 r.2)) (told assets x k.0 t.0 r.1 r.3).free) (λ e. (e.0, third e.1)))
    beats (two kind.OrB x z) k t m d w (inr (inl r)) =
        let q = distinct_parts (keys x) (keys z) d in
        then_free (λ p. inr p) (settled (two kind.OrB x z) k t _ _ _ _ _
        (lower_satisfied x z w r (beats z k.1 t.1 m.1 q.1 r.0 r.2)) (λ b. (b.0, inr (inl b.1), b.2))
        (both_free _ _ _ _ w r.0 r.1 r.4 (told assets z k.1 t.1 r.0 r.2).free (inl (free_dsat assets x r.1 r.3))) (λ e. (e.0, third e.1)))
    beats (two kind.OrB x z) k t m d w (inr (inr r)) = absurd (false≢true r.0)
    beats (two kind.OrI x z) k t m d w (inl r) =
        let q = distinct_parts (keys x) (keys z) d in
        then_free (λ p. inl p) (settled (two kind.OrI x z) k t _ _ _ _ _
        (under_item x ONE w r (beats x k.0 t.0 m.0 q.0 r.0 r.2)) (λ b. (b.0, inl b.1, b.2))
        (both_free _ _ _ [] w r.0 r.1 r.4 (told assets x k.0 t.0 r.0 r.2).free (inl r.3)) (λ e. e))
    beats (two kind.OrI x z) k t m d w (inr r) =
        let q = distinct_parts (keys x) (keys z) d in
        then_free (λ p. inr p) (settled (two kind.OrI x z) k t _ _ _ _ _
        (under_item z EMPTY w r (beats z k.1 t.1 m.1 q.1 r.0 r.2)) (λ b. (b.0, inr b.1, b.2))
        (both_free _ _ _ [] w r.0 r.1 r.4 (told assets z k.1 t.1 r.0 r.2).free (inl r.3)) (λ e. e))
    beats (two which x z) k t m d w (inl r) =
        let q = distinct_parts (keys x) (keys z) d in
        then_free (λ p. inl p) (settled (two which x z) k t _ _ _ _ _
        (beats x k.0 t.0 m.0 q.0 w r) (λ b. (b.0, inl b.1, b.2))
        (told assets x k.0 t.0 w r).free (λ e. e))
    beats (two which x z) k t m d w (inr r) =
        let q = distinct_parts (keys x) (keys z) d in
        then_free (λ p. inr p) (settled (two which x z) k t _ _ _ _ _
        (lower_satisfied x z w r (beats z k.1 t.1 m.1 q.1 r.0 r.2)) (λ b. (b.0, inr b.1, b.2))
        (both_free _ _ _ _ w r.0 r.1 r.4 (told assets z k.1 t.1 r.0 r.2).free (inl (free_dsat assets x r.1 r.3))) (λ e. e))
    beats (thresh n xs) k t m d w r =
        let most = leb-true (count_not_s (all_properties_of xs)) n m.1.1.0 in
        at_threshold xs k.2 t.0 m.0 m.1.0 d n w r most (beats_parts xs k.2 t.0 m.0 d n w r)
    beats (wrap wrapper.D x) k t m d w r = under_item x ONE w r (beats x k t.0 m.0 d r.0 r.2)
    beats (wrap letter x) k t m d w r = beats x k t.0 m.0 d w r
    beats tree k t m d w r = inl r

    beats_parts : (xs : Trees) → AreWritable xs → AreTyped xs → AreMalleabilityTyped xs → AreDistinct (keys_of_all xs) →
        (n : ℕ) (w : Stack) (r : parts (canonical assets) xs n w) → Outcome xs n w (parts_checks assets xs n w r)
    beats_parts none k t m d n w r = inl r
    beats_parts (more x xs) k t m d n w (inl r) =
        let g = r.2 in
        let p = distinct_parts (keys x) (keys_of_all xs) d in
        with_satisfied x xs n w r
        (settled x k.0 t.0 _ _ _ _ _ (beats x k.0 t.0 m.0 p.0 g.1 g.3) (λ b. b) (told assets x k.0 t.0 g.1 g.3).free (λ e. e))
        (beats_parts xs k.1 t.1 m.1 p.1 r.0 g.0 g.2)
        (apart_inside _ _ (keys x) (keys_of_all xs) (told assets x k.0 t.0 g.1 g.3).inside (told_parts assets xs k.1 t.1 r.0 g.0 g.2).inside p.2)
    beats_parts (more x xs) k t m d n w (inr r) =
        let p = distinct_parts (keys x) (keys_of_all xs) d in
        with_dissatisfied x xs t.0 n w r (one_or_none _ _ (free_best assets are x k.0)) (beats_parts xs k.1 t.1 m.1 p.1 n r.0 r.2)
