-- No key is taken in vain: under signatures of the keys that are taken, but for one of them, nothing satisfies.
use Rattle.std.proofs.Common.{◌≡◌, ℕ, suc, ◌≤◌, Bool, true, false, not, ◌&&◌, ◌||◌, List, [], ◌∷◌, ◌++◌, length, reverse, Contains, Option, Some, None, is_some, refl, sym, ◌∙◌, ap, subst, ◌⊎◌, inl, inr, arith, if◌then◌else◌}
use Rattle.std.specs.Str.{bytes_eq}
use Rattle.std.proofs.lemmas.Bool.{false≢true, or_cases, cases_Bool}
use Rattle.std.proofs.lemmas.Option.{none-some}
use Rattle.std.proofs.lemmas.List.{append-nil}
use Rattle.std.proofs.lemmas.List.Elements.{Contains-append_left, Contains-append_right, Contains-append_cases}
use Rattle.std.proofs.lemmas.Slice.Eq.{bytes_eq-Decides}
use Rattle.def_script.specs.Bytes.{Bytes}
use Rattle.def_machine.specs.Stacks.{Stack, Pairs, Checker, member}
use Rattle.def_machine.specs.MultiSig.{is_good}
use Rattle.def_tree.specs.declared.Two.TheVariants as kind
use Rattle.def_tree.specs.declared.Wrapper.TheVariants as wrapper
use Rattle.def_tree.specs.Tree.{Tree, Trees, Key, pk_k, pk_h, and_or, two, thresh, multi, wrap, none, more}
use Rattle.def_tree.specs.Range.{count}
use Rattle.def_types.specs.Typed.{properties_of}
use Rattle.def_types.proofs.Rows.{malleability_rows}
use Rattle.def_assets.specs.Assets.{Assets, AreAssets, unsigned}
use Rattle.def_sane.specs.Keys.{keys, keys_of_all, AreDistinct}
use Rattle.def_satisfaction.specs.StackSet.{StackSet, Is, Both, Either}
use Rattle.def_satisfaction.specs.Rows.{EMPTY, ONE, AreSignatures, parts}
use Rattle.def_satisfaction.specs.Satisfaction.{canonical}
use Rattle.def_choice.specs.Sets.{sets}
use Rattle.def_choice.specs.Least.{both}
use Rattle.def_choice.specs.Lightest.{IsLightest}
use Rattle.def_choice.specs.Cheapest.{stack_of, signatures_of, signatures}
use Rattle.def_choice.specs.Dissatisfaction.{dissatisfaction}
use Rattle.def_choice.specs.Strict.{free_first, free_children, has_all, strict_of, strict_children}
use Rattle.def_choice.specs.Free.{free}
use Rattle.def_choice.specs.Tight.{HasOne, signed_row, free_row}
use Rattle.def_choice.proofs.Best.{best_both}
use Rattle.def_choice.proofs.Leaves.{is_best}
use Rattle.ms_row_laws.proofs.NeededSignatures.{IsEmpty}
use Rattle.ms_row_laws.proofs.UniqueDissatisfaction.{one_both, free_dsat}
use Rattle.ms_strict_laws.proofs.CanonicalExists.{HasAssets, free_sat}
use Rattle.ms_strict_laws.proofs.UnsignedStacks.{signs}
use Rattle.ms_row_laws.proofs.KeyLists.{Disjoint, first_in, later_in, no_element}
use Rattle.ms_strict_laws.proofs.TightOptions.{Fits, AllFit, fit_wrap, fit_two, fit_and_or, fit_more}
use Rattle.std.proofs.lemmas.Bool.{and_parts}
use Rattle.def_plan.specs.Taken.{takes_former, children_taken, signers_taken, keys_of_set, taken, taken_of_children}
use Rattle.def_choice.proofs.Weights.{reverse-cons}
use Rattle.def_choice.proofs.StrictTight.{free_best, free_dsat_best}
use Rattle.ms_plan_laws.proofs.Sets.{first_taken, both_joined, each-filter, ones, IsSet, sets_are, set_is_taken}
use Rattle.ms_plan_laws.proofs.Moved.{with_pairs}
use Rattle.ms_plan_laws.proofs.Enough.{not_wanted, wanted_or_not, not_free}
use Rattle.ms_plan_laws.proofs.Order.{taken_part, part_both, taken_in, children_in, first_or_other, in_part, set_part}

-- where the former of two options is taken and the latter is free, the former is free too
former_free : (F G : StackSet) (f g a b : Option Stack) → IsLightest F f → IsLightest G g → takes_former f g a b ≡ true → HasOne G → HasOne F
former_free F G (Some v) g a b ff gg e one = (v, ff.is v refl)
former_free F G None (Some v) a b ff gg e one = absurd (false≢true e)
former_free F G None None a b ff gg e one = let k = gg.lightest one.0 one.1 in absurd (none-some k.0 k.1)

-- where the latter is taken, the former isn't free
latter_free : (F : StackSet) (f g a b : Option Stack) → IsLightest F f → takes_former f g a b ≡ false → HasOne F → ⊥
latter_free F f g a b ff e one = let k = ff.lightest one.0 one.1 in false≢true (sym e ∙ ap (λ o. takes_former o g a b) k.1)

-- which option is taken, and what that says of free ones
option_taken : (F G : StackSet) (f g a b : Option Stack) → IsLightest F f → IsLightest G g → (w : Stack) → free_first f g a b ≡ Some w →
    ((takes_former f g a b ≡ true) × (a ≡ Some w) × (HasOne G → HasOne F)) ⊎ ((takes_former f g a b ≡ false) × (b ≡ Some w) × (HasOne F → ⊥))
option_taken F G f g a b ff gg w e =
    elim (first_taken f g a b w e) [
      | inl h ↦ inl (h.0, h.1, former_free F G f g a b ff gg h.0)
      | inr h ↦ inr (h.0, h.1, latter_free F f g a b ff h.0)
    ]

-- the signatures of a `multi`, of which the last key may be the last one
last_or_not : (checker : Checker) (own : List Key) (key : Key) (sigs : Stack) → AreSignatures checker (own ++ key ∷ []) sigs →
    AreSignatures checker own sigs ⊎ ((rest : Stack) × (sig : Bytes) × (is_good checker key sig ≡ true) × AreSignatures checker own rest × (length sigs ≡ suc (length rest)))
last_or_not checker own key [] h = inl tt
last_or_not checker [] key (sig ∷ sigs) (inl h) = inr ([], sig, h.0, tt, ap suc (empty sigs h.1))
  where
    empty : (sigs : Stack) → AreSignatures checker [] sigs → length sigs ≡ 0
    empty [] h = refl
    empty (g ∷ sigs) h = absurd h
last_or_not checker [] key (sig ∷ sigs) (inr h) = absurd h
last_or_not checker (k ∷ own) key (sig ∷ sigs) (inl h) =
    elim (last_or_not checker own key sigs h.1) [
      | inl i ↦ inl (inl (h.0, i))
      | inr l ↦ inr (sig ∷ l.0, l.1, l.2, inl (h.0, l.3), ap suc l.4)
    ]
last_or_not checker (k ∷ own) key (sig ∷ sigs) (inr h) =
    elim (last_or_not checker own key (sig ∷ sigs) h) [
      | inl i ↦ inl (inr i)
      | inr l ↦ inr (l.0, l.1, l.2, more l.0 l.3, l.4)
    ]
  where
    more : (v : Stack) → AreSignatures checker own v → AreSignatures checker (k ∷ own) v
    more [] h = tt
    more (g ∷ v) h = inr h

-- a set but for one key
abbrev without : Key → List Key → List Bool → List Bool
without k [] set = []
without k (key ∷ own) [] = []
without k (key ∷ own) (b ∷ set) = (b && not (bytes_eq key k)) ∷ without k own set

no_more : (k : Key) (own : List Key) (set : List Bool) → ones (without k own set) ≤ ones set
no_more k [] set = omega arith
no_more k (c ∷ own) [] = omega arith
no_more k (c ∷ own) (b ∷ set) = step b (not (bytes_eq c k)) (without k own set) set (no_more k own set)
  where
    step : (b c : Bool) (m n : List Bool) → ones m ≤ ones n → ones ((b && c) ∷ m) ≤ ones (b ∷ n)
    step b c m n le = grind arith

fewer_ones : (own : List Key) (set : List Bool) (k : Key) → Contains (keys_of_set own set) k → suc (ones (without k own set)) ≤ ones set
fewer_ones [] set k i = absurd (no_element k i)
fewer_ones (key ∷ own) [] k i = absurd (no_element k i)
fewer_ones (key ∷ own) (false ∷ set) k i = fewer_ones own set k i
fewer_ones (key ∷ own) (true ∷ set) k i =
    elim (cases_Bool (bytes_eq key k)) [
      | inl same ↦ rw same (let n = no_more k own set in omega (arith, n))
      | inr other ↦ rw other (elim (first_or_other key (keys_of_set own set) k i) [
        | inl e ↦ absurd (false≢true (sym other ∙ (bytes_eq-Decides key k).1 (sym e)))
        | inr j ↦ (let n = fewer_ones own set k j in omega (arith, n))
      ])
    ]

module _ (assets : Assets) (are : AreAssets assets) (pairs : Pairs) where
  abbrev there : Assets
  there = with_pairs assets pairs

  abbrev Sats : Tree → StackSet
  Sats t = (signed_row there t).sat

  -- no key of these signs; of some keys only these do; one of these doesn't
  abbrev NoneSigns : List Key → Type 0
  NoneSigns own = (key sig : Bytes) → Contains own key → is_good (member pairs) key sig ≡ false

  abbrev OnlySign : (some own : List Key) → Type 0
  OnlySign some own = (key sig : Bytes) → Contains own key → is_good (member pairs) key sig ≡ true → Contains some key

  abbrev Missing : List Key → Type 0
  Missing some = (key : Key) × Contains some key × ((sig : Bytes) → is_good (member pairs) key sig ≡ false)

  -- those of a part
  in_left : (some a b : List Key) → OnlySign some (a ++ b) → OnlySign some a
  in_left some a b h key sig i = h key sig (Contains-append_left a b key i)

  in_right : (some a b : List Key) → OnlySign some (a ++ b) → OnlySign some b
  in_right some a b h key sig i = h key sig (Contains-append_right a b key i)

  only_left : (p q a b : List Key) → Disjoint a b → ((key : Key) → Contains q key → Contains b key) → OnlySign (p ++ q) (a ++ b) → OnlySign p a
  only_left p q a b apart among h key sig i good =
      elim (Contains-append_cases p q key (in_left (p ++ q) a b h key sig i good)) [ inl k ↦ k | inr k ↦ absurd (apart key i (among key k)) ]

  only_right : (p q a b : List Key) → Disjoint a b → ((key : Key) → Contains p key → Contains a key) → OnlySign (p ++ q) (a ++ b) → OnlySign q b
  only_right p q a b apart among h key sig i good =
      elim (Contains-append_cases p q key (in_right (p ++ q) a b h key sig i good)) [ inl k ↦ absurd (apart key (among key k) i) | inr k ↦ k ]

  none_of : (some own : List Key) → ((key : Key) → Contains own key → Contains some key → ⊥) → OnlySign some own → NoneSigns own
  none_of some own apart h key sig i =
      elim (cases_Bool (is_good (member pairs) key sig)) [ inl good ↦ absurd (apart key i (h key sig i good)) | inr bad ↦ bad ]

  none_left : (some a b : List Key) → Disjoint a b → ((key : Key) → Contains some key → Contains b key) → OnlySign some (a ++ b) → NoneSigns a
  none_left some a b apart among h = none_of some a (λ key i j. apart key i (among key j)) (in_left some a b h)

  none_right : (some a b : List Key) → Disjoint a b → ((key : Key) → Contains some key → Contains a key) → OnlySign some (a ++ b) → NoneSigns b
  none_right some a b apart among h = none_of some b (λ key i j. apart key (among key j) i) (in_right some a b h)

  freed : (t : Tree) → Fits t → NoneSigns (keys t) → (w : Stack) → Sats t w → HasOne (free_row assets t).sat
  freed t f h =
      let has : HasAssets (canonical there) (canonical (unsigned assets)) = record { older = λ n i. i; after = λ n i. i; preimages = λ kind value preimage i. i } in
      free_sat (canonical there) (canonical (unsigned assets)) has t f.writable f.typed f.safe
      (λ key other sig i same counts. ap (λ k. is_good (member pairs) k sig) counts ∙ h key sig i)

  bare_dsat : (t : Tree) → Fits t → (properties_of t).e ≡ true → HasOne (free_row assets t).dsat
  bare_dsat t f e = free_dsat (canonical (unsigned assets)) t f.writable f.safe e

  clash : (x z : Tree) → Fits x → Fits z → ((properties_of x).s || (properties_of z).s) ≡ true → HasOne (free_row assets x).sat → HasOne (free_row assets z).sat → ⊥
  clash x z f g e p q =
      elim (or_cases (properties_of x).s (properties_of z).s e) [ inl a ↦ signs assets x f.typed a p.0 p.1 | inr a ↦ signs assets z g.typed a q.0 q.1 ]

  -- two parts of a tree: both, of which one lacks a signature
  both_empty : (x y : Tree) → Disjoint (keys x) (keys y) → OnlySign (taken assets x ++ taken assets y) (keys x ++ keys y) → Missing (taken assets x ++ taken assets y) →
      (OnlySign (taken assets x) (keys x) → Missing (taken assets x) → IsEmpty (Sats x)) →
      (OnlySign (taken assets y) (keys y) → Missing (taken assets y) → IsEmpty (Sats y)) → IsEmpty (Both (Sats y) (Sats x))
  both_empty x y apart only missing of_x of_y w (below, above, i, j, e) =
      elim (Contains-append_cases (taken assets x) (taken assets y) missing.0 missing.1) [
        | inl k ↦ of_x (only_left (taken assets x) (taken assets y) (keys x) (keys y) apart (taken_in assets y) only) (missing.0, k, missing.2) above j
        | inr k ↦ of_y (only_right (taken assets x) (taken assets y) (keys x) (keys y) apart (taken_in assets x) only) (missing.0, k, missing.2) below i
      ]

  -- the facts of the option that is taken
  abbrev OnOption : Bool → (former latter : List Key) → (own : List Key) → Type 0
  OnOption test former latter own = OnlySign (if test then former else latter) own × Missing (if test then former else latter)

  few_signers : (own : List Key) (set : List Bool) (k : Key) → AreDistinct own → OnlySign (keys_of_set own set) own → ((sig : Bytes) → is_good (member pairs) k sig ≡ false) →
      (sigs : Stack) → AreSignatures (member pairs) (reverse own) sigs → length sigs ≤ ones (without k own set)
  few_signers [] set k d only bad [] h = omega arith
  few_signers [] set k d only bad (sig ∷ sigs) h = absurd h
  few_signers (key ∷ own) [] k d only bad sigs h =
      elim (last_or_not (member pairs) (reverse own) key sigs (subst (λ ks. AreSignatures (member pairs) ks sigs) (reverse-cons key own) h)) [
        | inl i ↦ (let n = few_signers own [] k d.1 (λ c sig j good. absurd (no_element c (only c sig (later_in key own c j) good))) bad sigs i in let m = no_more k own [] in omega (arith, n, m))
        | inr l ↦ absurd (no_element key (only key l.1 (first_in key own) l.2))
      ]
  few_signers (key ∷ own) (b ∷ set) k d only bad sigs h =
      let rest : OnlySign (keys_of_set own set) own = λ c sig j good. tail b c j (only c sig (later_in key own c j) good) in
      elim (last_or_not (member pairs) (reverse own) key sigs (subst (λ ks. AreSignatures (member pairs) ks sigs) (reverse-cons key own) h)) [
        | inl i ↦ (let n = few_signers own set k d.1 rest bad sigs i in at_least (b && not (bytes_eq key k)) n)
        | inr l ↦ (let n = few_signers own set k d.1 rest bad l.0 l.3 in let e = l.4 in one_more b (only key l.1 (first_in key own) l.2) l.1 l.2 n e)
      ]
    where
      tail : (b : Bool) (c : Key) → Contains own c → Contains (if b then key ∷ keys_of_set own set else keys_of_set own set) c → Contains (keys_of_set own set) c
      tail false c j i = i
      tail true c j i = elim (first_or_other key (keys_of_set own set) c i) [ inl e ↦ absurd (d.0 (subst (Contains own) e j)) | inr i ↦ i ]

      at_least : (c : Bool) → length sigs ≤ ones (without k own set) → length sigs ≤ ones (c ∷ without k own set)
      at_least c n = grind arith

      one_more : (b : Bool) → Contains (if b then key ∷ keys_of_set own set else keys_of_set own set) key → (sig : Bytes) → is_good (member pairs) key sig ≡ true
          → {m : ℕ} → m ≤ ones (without k own set) → length sigs ≡ suc m →
          length sigs ≤ ones ((b && not (bytes_eq key k)) ∷ without k own set)
      one_more false i sig good n e = absurd (d.0 (in_part (keys_of_set own set) own (set_part own set) key i))
      one_more true i sig good n e =
          elim (cases_Bool (bytes_eq key k)) [
            | inl same ↦ absurd (false≢true (sym (bad sig) ∙ subst (λ c. is_good (member pairs) c sig ≡ true) ((bytes_eq-Decides key k).0 same) good))
            | inr other ↦ rw other (omega (arith, n, e))
          ]

  -- the option that is taken lacks a signature, and the other one isn't satisfied
  options_empty : (F G P Q : StackSet) (f g a b : Option Stack) (former latter own : List Key) (w : Stack) → IsLightest F f → IsLightest G g →
      free_first f g a b ≡ Some w → OnOption (takes_former f g a b) former latter own →
      (a ≡ Some w → OnlySign former own → Missing former → IsEmpty P) → (OnlySign former own → (HasOne G → HasOne F) → IsEmpty Q) →
      (b ≡ Some w → OnlySign latter own → Missing latter → IsEmpty Q) → (OnlySign latter own → (HasOne F → ⊥) → IsEmpty P) → IsEmpty (Either P Q)
  options_empty F G P Q f g a b former latter own w ff gg e on of_first no_second of_second no_first =
      elim (option_taken F G f g a b ff gg w e) [
        | inl h ↦ (let o = rw h.0 at on in λ v r. elim r [ inl p ↦ of_first h.1 o.0 o.1 v p | inr q ↦ no_second o.0 h.2 v q ])
        | inr h ↦ (let o = rw h.0 at on in λ v r. elim r [ inl p ↦ no_first o.0 h.2 v p | inr q ↦ of_second h.1 o.0 o.1 v q ])
      ]

  -- the children of a threshold: no more are satisfied than are chosen
  rest_only : (x : Tree) (xs : Trees) (set : List Bool) → Disjoint (keys x) (keys_of_all xs) →
      OnlySign (taken assets x ++ taken_of_children assets xs set) (keys x ++ keys_of_all xs) → OnlySign (taken_of_children assets xs set) (keys_of_all xs)
  rest_only x xs set apart = only_right (taken assets x) (taken_of_children assets xs set) (keys x) (keys_of_all xs) apart (taken_in assets x)

  -- a child that isn't chosen isn't satisfied
  not_chosen : (x : Tree) (xs : Trees) (set : List Bool) → Fits x → Disjoint (keys x) (keys_of_all xs) → is_some (free assets x) ≡ false →
      OnlySign (taken_of_children assets xs set) (keys x ++ keys_of_all xs) → IsEmpty (Sats x)
  not_chosen x xs set f apart e only v h =
      not_free assets are x f.writable e
      (freed x f (none_left (taken_of_children assets xs set) (keys x) (keys_of_all xs) apart (children_in assets xs set) only) v h)

  few_parts : (xs : Trees) → AllFit xs → (set : List Bool) → (w : Stack) → stack_of (strict_children assets xs) set ≡ Some w → has_all (free_children assets xs) set ≡ true →
      OnlySign (taken_of_children assets xs set) (keys_of_all xs) → (n : ℕ) (v : Stack) → parts (canonical there) xs n v → n ≤ ones set
  few_parts none f set w e all only n v h = let z = h.0 in omega (arith, z)
  few_parts (more x xs) f [] w e all only n v h = absurd (none-some w e)
  few_parts (more x xs) f (true ∷ set) w e all only n v (inl h) =
      let t = fit_more x xs f in
      let j = both_joined _ _ w e in
      let r = few_parts xs t.1 set j.below j.left (wanted_or_not (is_some (free assets x)) _ all) (rest_only x xs set t.2 only) h.0 h.2.0 h.2.2 in
      let s = h.1 in
      omega (arith, r, s)
  few_parts (more x xs) f (true ∷ set) w e all only n v (inr h) =
      let t = fit_more x xs f in
      let j = both_joined _ _ w e in
      let r = few_parts xs t.1 set j.below j.left (wanted_or_not (is_some (free assets x)) _ all) (rest_only x xs set t.2 only) n h.0 h.2 in
      omega (arith, r)
  few_parts (more x xs) f (false ∷ set) w e all only n v (inl h) =
      let t = fit_more x xs f in
      let u = not_wanted (is_some (free assets x)) _ all in
      absurd (not_chosen x xs set t.0 t.2 u.0 only h.2.1 h.2.3)
  few_parts (more x xs) f (false ∷ set) w e all only n v (inr h) =
      let t = fit_more x xs f in
      let j = both_joined _ _ w e in
      let u = not_wanted (is_some (free assets x)) _ all in
      few_parts xs t.1 set j.below j.left u.1 (in_right (taken_of_children assets xs set) (keys x) (keys_of_all xs) only) n h.0 h.2

  mutual
    unfolding malleability_rows

    pub vain : (t : Tree) → Fits t → (w : Stack) → strict_of assets t ≡ Some w → OnlySign (taken assets t) (keys t) → Missing (taken assets t) → IsEmpty (Sats t)
    vain (pk_k key) f w e only missing =
        λ v h. elim (first_or_other key [] missing.0 missing.1) [
          | inl same ↦ false≢true (sym (missing.2 h.0) ∙ subst (λ k. is_good (member pairs) k h.0 ≡ true) (sym same) h.1)
          | inr i ↦ no_element missing.0 i
        ]
    vain (pk_h key) f w e only missing =
        λ v h. let s = h.4.2 in elim (first_or_other key [] missing.0 missing.1) [
          | inl same ↦ false≢true (sym (missing.2 s.0) ∙ subst (λ k. is_good (member pairs) k s.0 ≡ true) (h.3 ∙ sym same) s.1)
          | inr i ↦ no_element missing.0 i
        ]
    vain (and_or x y z) f w e only missing =
        let t = fit_and_or x y z f in
        let xy = taken assets x ++ taken assets y in
        let own = keys (and_or x y z) in
        options_empty _ _ _ _
        (both (free assets y) (free assets x)) (both (free assets z) (dissatisfaction x)) (both (strict_of assets y) (strict_of assets x)) (both (strict_of assets z) (dissatisfaction x))
        xy (taken assets z) own w
        (best_both _ _ _ _ (free_best assets are y t.1.writable) (free_best assets are x t.0.writable))
        (best_both _ _ _ _ (free_best assets are z t.2.writable) (free_dsat_best assets are x t.0.writable)) e (only, missing)
        (λ i signs_xy lacks. let j = both_joined _ _ w i in
        both_empty x y t.3 (in_left xy (keys x ++ keys y) (keys z) signs_xy) lacks (vain x t.0 j.above j.right) (vain y t.1 j.below j.left))
        (λ signs_xy freer v r.
        let bare_z = none_right xy (keys x ++ keys y) (keys z) t.4 (in_part xy (keys x ++ keys y) (part_both _ _ _ _ (taken_part assets x) (taken_part assets y))) signs_xy in
        let free_z = freed z t.2 bare_z r.0 r.2 in
        let first = freer (one_both _ _ free_z (bare_dsat x t.0 f.safe.3.0)) in
        elim (or_cases ((properties_of x).s || (properties_of y).s) (properties_of z).s f.safe.3.1.0) [
          | inl s ↦ clash x y t.0 t.1 s (first.1.1, first.1.3) (first.1.0, first.1.2)
          | inr s ↦ signs assets z t.2.typed s free_z.0 free_z.1
        ])
        (λ i signs_z lacks v r. let j = both_joined _ _ w i in
        vain z t.2 j.below j.left (in_right (taken assets z) (keys x ++ keys y) (keys z) signs_z) lacks r.0 r.2)
        (λ signs_z unfree v r.
        let bare = none_left (taken assets z) (keys x ++ keys y) (keys z) t.4 (taken_in assets z) signs_z in
        unfree
        (one_both _ _ (freed y t.1 (λ key sig i. bare key sig (Contains-append_right (keys x) (keys y) key i)) r.0 r.2)
        (freed x t.0 (λ key sig i. bare key sig (Contains-append_left (keys x) (keys y) key i)) r.1 r.3)))
    vain (two kind.AndV x y) f w e only missing =
        let t = fit_two kind.AndV x y f in
        let j = both_joined _ _ w e in
        both_empty x y t.2 only missing (vain x t.0 j.above j.right) (vain y t.1 j.below j.left)
    vain (two kind.AndB x y) f w e only missing =
        let t = fit_two kind.AndB x y f in
        let j = both_joined _ _ w e in
        both_empty x y t.2 only missing (vain x t.0 j.above j.right) (vain y t.1 j.below j.left)
    vain (two kind.OrB x z) f w e only missing =
        let t = fit_two kind.OrB x z f in
        let es = and_parts (properties_of x).e (properties_of z).e f.safe.2.0 in
        let own = keys x ++ keys z in
        let alone : OnlySign (taken assets x ++ []) own → OnlySign (taken assets x) own = subst (λ ks. OnlySign ks own) (append-nil (taken assets x)) in
        let neither = options_empty _ _ (Both (signed_row there z).dsat (Sats x)) (Both (Sats z) (signed_row there x).dsat)
        (both (dissatisfaction z) (free assets x)) (both (free assets z) (dissatisfaction x)) (both (dissatisfaction z) (strict_of assets x)) (both (strict_of assets z) (dissatisfaction x))
        (taken assets x ++ []) (taken assets z) own w
        (best_both _ _ _ _ (free_dsat_best assets are z t.1.writable) (free_best assets are x t.0.writable))
        (best_both _ _ _ _ (free_best assets are z t.1.writable) (free_dsat_best assets are x t.0.writable)) e (only, missing)
        (λ i signs_x lacks v r. let j = both_joined _ _ w i in
        vain x t.0 j.above j.right (in_left (taken assets x) (keys x) (keys z) (alone signs_x)) (subst Missing (append-nil (taken assets x)) lacks) r.1 r.3)
        (λ signs_x freer v r.
        let free_z = freed z t.1 (none_right (taken assets x) (keys x) (keys z) t.2 (taken_in assets x) (alone signs_x)) r.0 r.2 in
        let first = freer (one_both _ _ free_z (bare_dsat x t.0 es.0)) in
        clash x z t.0 t.1 f.safe.2.1.0 (first.1.1, first.1.3) free_z)
        (λ i signs_z lacks v r. let j = both_joined _ _ w i in vain z t.1 j.below j.left (in_right (taken assets z) (keys x) (keys z) signs_z) lacks r.0 r.2)
        (λ signs_z unfree v r. unfree (one_both _ _ (bare_dsat z t.1 es.1) (freed x t.0 (none_left (taken assets z) (keys x) (keys z) t.2 (taken_in assets z) signs_z) r.1 r.3))) in
        λ v r. elim r [ inl a ↦ neither v (inl a) | inr b ↦ elim b [ inl a ↦ neither v (inr a) | inr c ↦ false≢true c.0 ] ]
    vain (two kind.OrI x z) f w e only missing =
        let t = fit_two kind.OrI x z f in
        options_empty _ _ _ _
        (both (free assets x) (Some (ONE ∷ []))) (both (free assets z) (Some (EMPTY ∷ []))) (both (strict_of assets x) (Some (ONE ∷ []))) (both (strict_of assets z) (Some (EMPTY ∷ [])))
        (taken assets x) (taken assets z) (keys x ++ keys z) w
        (best_both _ _ _ _ (free_best assets are x t.0.writable) (is_best ONE)) (best_both _ _ _ _ (free_best assets are z t.1.writable) (is_best EMPTY)) e (only, missing)
        (λ i signs_x lacks v r. let j = both_joined _ _ w i in vain x t.0 j.below j.left (in_left (taken assets x) (keys x) (keys z) signs_x) lacks r.0 r.2)
        (λ signs_x freer v r.
        let free_z = freed z t.1 (none_right (taken assets x) (keys x) (keys z) t.2 (taken_in assets x) signs_x) r.0 r.2 in
        let first = freer (one_both _ (Is EMPTY) free_z (EMPTY ∷ [], refl)) in
        clash x z t.0 t.1 f.safe.2.0 (first.1.0, first.1.2) free_z)
        (λ i signs_z lacks v r. let j = both_joined _ _ w i in vain z t.1 j.below j.left (in_right (taken assets z) (keys x) (keys z) signs_z) lacks r.0 r.2)
        (λ signs_z unfree v r. unfree (one_both _ (Is ONE) (freed x t.0 (none_left (taken assets z) (keys x) (keys z) t.2 (taken_in assets z) signs_z) r.0 r.2) (ONE ∷ [], refl)))
    vain (two which x z) f w e only missing =
        let t = fit_two which x z f in
        options_empty _ _ _ _
        (free assets x) (both (free assets z) (dissatisfaction x)) (strict_of assets x) (both (strict_of assets z) (dissatisfaction x))
        (taken assets x) (taken assets z) (keys x ++ keys z) w
        (free_best assets are x t.0.writable) (best_both _ _ _ _ (free_best assets are z t.1.writable) (free_dsat_best assets are x t.0.writable)) e (only, missing)
        (λ i signs_x lacks. vain x t.0 w i (in_left (taken assets x) (keys x) (keys z) signs_x) lacks)
        (λ signs_x freer v r. let free_z = freed z t.1 (none_right (taken assets x) (keys x) (keys z) t.2 (taken_in assets x) signs_x) r.0 r.2 in
        clash x z t.0 t.1 f.safe.2.1.0 (freer (one_both _ _ free_z (bare_dsat x t.0 f.safe.2.0))) free_z)
        (λ i signs_z lacks v r. let j = both_joined _ _ w i in vain z t.1 j.below j.left (in_right (taken assets z) (keys x) (keys z) signs_z) lacks r.0 r.2)
        (λ signs_z unfree v r. unfree (freed x t.0 (none_left (taken assets z) (keys x) (keys z) t.2 (taken_in assets z) signs_z) v r))
    vain (thresh k xs) f w e only missing =
        let fits : AllFit xs = record { writable = f.writable.2; typed = f.typed.0; safe = f.safe.0; distinct = f.distinct } in
        let t = set_is_taken (λ set. IsSet (count xs) k set × (has_all (free_children assets xs) set ≡ true)) (stack_of (strict_children assets xs)) _
        (each-filter (IsSet (count xs) k) (has_all (free_children assets xs)) (sets (count xs) k) (sets_are (count xs) k)) w e in
        λ v h.
        let n = fewer_parts xs fits (children_taken assets k xs) w t.1 t.0.1 only missing k v h in
        let m = t.0.0.1 in
        absurd (omega (arith, n, m))
    vain (multi k own) f w e only missing =
        let j = both_joined (Some (EMPTY ∷ [])) (signatures assets k own) w e in
        let t = set_is_taken (IsSet (length own) k) (signatures_of assets own) (sets (length own) k) (sets_are (length own) k) j.above j.right in
        λ v h.
        let n = few_signers own (signers_taken assets k own) missing.0 f.distinct only missing.2 h.1 h.3.1 in
        let m = fewer_ones own (signers_taken assets k own) missing.0 missing.1 in
        let c = t.0.1 in
        let d = h.3.0 in
        absurd (omega (arith, n, m, c, d))
    vain (wrap wrapper.D x) f w e only missing =
        let j = both_joined _ _ w e in
        λ v h. vain x (fit_wrap wrapper.D x f) j.below j.left only missing h.0 h.2
    vain (wrap letter x) f w e only missing = vain x (fit_wrap letter x f) w e only missing
    vain tree f w e only missing = absurd (no_element missing.0 missing.1)

    fewer_parts : (xs : Trees) → AllFit xs → (set : List Bool) → (w : Stack) → stack_of (strict_children assets xs) set ≡ Some w → has_all (free_children assets xs) set ≡ true →
        OnlySign (taken_of_children assets xs set) (keys_of_all xs) → Missing (taken_of_children assets xs set) →
        (n : ℕ) (v : Stack) → parts (canonical there) xs n v → suc n ≤ ones set
    fewer_parts none f set w e all only missing n v h = absurd (no_element missing.0 missing.1)
    fewer_parts (more x xs) f [] w e all only missing n v h = absurd (none-some w e)
    fewer_parts (more x xs) f (true ∷ set) w e all only missing n v h =
        let t = fit_more x xs f in
        let j = both_joined _ _ w e in
        let others = wanted_or_not (is_some (free assets x)) _ all in
        let rest = rest_only x xs set t.2 only in
        elim (Contains-append_cases (taken assets x) (taken_of_children assets xs set) missing.0 missing.1) [
          | inl i ↦ elim h [
            | inl a ↦ absurd (vain x t.0 j.above j.right (only_left (taken assets x) (taken_of_children assets xs set) (keys x) (keys_of_all xs) t.2 (children_in assets xs set) only)
                (missing.0, i, missing.2) a.2.1 a.2.3)
            | inr a ↦ (let r = few_parts xs t.1 set j.below j.left others rest n a.0 a.2 in omega (arith, r))
          ]
          | inr i ↦ elim h [
            | inl a ↦ (let r = fewer_parts xs t.1 set j.below j.left others rest (missing.0, i, missing.2) a.0 a.2.0 a.2.2 in let s = a.1 in omega (arith, r, s))
            | inr a ↦ (let r = fewer_parts xs t.1 set j.below j.left others rest (missing.0, i, missing.2) n a.0 a.2 in omega (arith, r))
          ]
        ]
    fewer_parts (more x xs) f (false ∷ set) w e all only missing n v h =
        let t = fit_more x xs f in
        let j = both_joined _ _ w e in
        let u = not_wanted (is_some (free assets x)) _ all in
        elim h [
          | inl a ↦ absurd (not_chosen x xs set t.0 t.2 u.0 only a.2.1 a.2.3)
          | inr a ↦ fewer_parts xs t.1 set j.below j.left u.1 (in_right (taken_of_children assets xs set) (keys x) (keys_of_all xs) only) missing n a.0 a.2
        ]
