-- The strict choice of a sane miniscript is the lightest tight satisfaction, and there is a tight one wherever there is a canonical one.
use Rattle.std.proofs.Common.{◌≡◌, ℕ, zero, suc, ◌+◌, ◌≤◌, nat_le, Bool, true, false, ◌++◌, Option, Some, None, refl, sym, subst, ◌⊎◌, inl, inr, arith, if◌then◌else◌, ◌||◌, [], ◌∷◌, is_some, ◌∙◌, ap, List, reverse}
use Rattle.std.proofs.lemmas.Bool.{leb-true, leb-false, or_cases, and_parts}
use Rattle.std.proofs.lemmas.Option.{none-some}
use Rattle.def_machine.specs.Stacks.{Stack}
use Rattle.def_tree.specs.Tree.{Trees, none, more, Tree, and_or, two, thresh, wrap}
use Rattle.def_tree.specs.Range.{AreWritable, IsWritable, count}
use Rattle.def_types.specs.Malleable.{count_not_s}
use Rattle.def_types.specs.Typed.{AreTyped, properties_of, all_properties_of, IsTyped, IsMalleabilityTyped, AreMalleabilityTyped}
use Rattle.def_assets.specs.Assets.{Assets, AreAssets}
use Rattle.def_satisfaction.specs.StackSet.{StackSet, Both, Either, Is, If}
use Rattle.def_satisfaction.specs.Rows.{PartsOf, parts, EMPTY, ONE, PartsOfNone}
use Rattle.def_satisfaction.specs.Satisfaction.{canonical, Sat}
use Rattle.def_satisfaction.proofs.Wider.{Within, both_within, same}
use Rattle.def_choice.specs.Lightest.{IsLightest}
use Rattle.def_choice.specs.Cheapest.{cheapest_of, Child}
use Rattle.def_choice.specs.Dissatisfaction.{dissatisfaction}
use Rattle.def_choice.specs.Strict.{free_first, free_children, strict_of, strict_children, strict}
use Rattle.def_choice.specs.Free.{free}
use Rattle.def_choice.specs.Tight.{HasOne, FreeFirst, required, signed_row, free_row, TightSat, TightParts, Tight}
use Rattle.def_choice.proofs.Cheapest.{sat_best, dsat_best}
use Rattle.def_choice.proofs.StrictTight.{free_best, choice, choice_counted, free_dsat_best, below_free, always}
use Rattle.ms_row_laws.proofs.UniqueDissatisfaction.{one_both, free_dsat as has_dsat}
use Rattle.ms_strict_laws.proofs.UnsignedStacks.{free_within, signs, signed_dsat}
use Rattle.std.proofs.Math.Numerals.{add-one}
use Rattle.std.specs.List.{list_all}
use Rattle.def_script.specs.Bytes.{Bytes}
use Rattle.def_tree.specs.declared.Two.TheVariants as kind
use Rattle.def_tree.specs.declared.Wrapper.TheVariants as wrapper
use Rattle.def_types.proofs.Rows.{malleability_rows}
use Rattle.def_choice.specs.Least.{both}
use Rattle.def_choice.proofs.Best.{none_best, one_best, best_as, best_both, best_two, best_reverse}
use Rattle.def_choice.proofs.Counted.{counted, counted_best}
use Rattle.def_choice.proofs.Leaves.{is_best}
use Rattle.def_choice.proofs.TightFree.{tight_free, free_dsat, not_third}
use Rattle.std.proofs.lemmas.List.{reverse-reverse}
use Rattle.def_sane.specs.declared.Rules.TheVariants.{Consensus}
use Rattle.def_sane.specs.Unfit.{IsSaneUnder}
use Rattle.def_sane.proofs.Meanings.{valid_means_under, sane_means_under}
use Rattle.def_script.specs.Witness.{weight}
use Rattle.def_choice.proofs.Chosen.{strict_is_canonical}
use Rattle.def_promises.specs.Promises.{StrictExists}

-- whether there is one
pub one_or_none : (P : StackSet) (m : Option Stack) → IsLightest P m → HasOne P ⊎ (HasOne P → ⊥)
one_or_none P None best = inr (λ one. let k = best.lightest one.0 one.1 in none-some k.0 k.1)
one_or_none P (Some w) best = inl (w, best.is w refl)

one_mapped : (P Q P' Q' : StackSet) → (HasOne P → HasOne P') → (HasOne Q → HasOne Q') → HasOne (Both P Q) → HasOne (Both P' Q')
one_mapped P Q P' Q' p q one = let h = one.1 in one_both P' Q' (p (h.0, h.2)) (q (h.1, h.3))

-- of two options F and G are the free stacks, P and Q the tight ones, and S and T the canonical ones
one_first : (F G P Q S T : StackSet) → HasOne F ⊎ (HasOne F → ⊥) → HasOne G ⊎ (HasOne G → ⊥) → Within F S → Within G T →
    (HasOne S → HasOne P) → (HasOne T → HasOne Q) → (HasOne F → Within P F) → (HasOne G → Within Q G) →
    HasOne (Either S T) → HasOne (FreeFirst F G P Q)
one_first F G P Q S T (inl f) g fs gt p q pf qg one =
    let v = p (f.0, fs f.0 f.1) in (v.0, inl (v.1, λ any. pf f v.0 v.1))
one_first F G P Q S T (inr f) (inl g) fs gt p q pf qg one =
    let v = q (g.0, gt g.0 g.1) in (v.0, inr (v.1, λ any. qg g v.0 v.1))
one_first F G P Q S T (inr f) (inr g) fs gt p q pf qg one = go one
  where
    never : HasOne (Either F G) → ⊥
    never (v, inl i) = f (v, i)
    never (v, inr i) = g (v, i)

    go : HasOne (Either S T) → HasOne (FreeFirst F G P Q)
    go (w, inl h) = let v = p (w, h) in (v.0, inl (v.1, λ any. absurd (never any)))
    go (w, inr h) = let v = q (w, h) in (v.0, inr (v.1, λ any. absurd (never any)))

-- how many stacks an option has
abbrev one_if : Option Stack → ℕ
one_if None = 0
one_if (Some w) = 1

-- how many children have a free satisfaction, and how many have one at all
abbrev count_free : Assets → Trees → ℕ
count_free assets none = 0
count_free assets (more x xs) = one_if (free assets x) + count_free assets xs

abbrev count_met : Assets → Trees → ℕ
count_met assets none = 0
count_met assets (more x xs) = one_if (cheapest_of assets x) + count_met assets xs

-- one more child: F are its free stacks, S its satisfactions, D its dissatisfactions and C its tight ones
module _ (F S D C : StackSet) (T : ℕ → StackSet) where
  abbrev WithChild : ℕ → StackSet
  WithChild = PartsOf (required F (record { dsat = D; sat = C })) T

  satisfied : (m : ℕ) → (HasOne F → Within C F) → HasOne C → HasOne (T m) → HasOne (WithChild (suc m))
  satisfied m cf c t = (c.0 ++ t.0, inl (m, refl, (t.0, c.0, t.1, (c.1, λ one. cf one c.0 c.1), refl)))

  left_out : (n : ℕ) → (HasOne F → ⊥) → HasOne D → HasOne (T n) → HasOne (WithChild n)
  left_out n never d t = (d.0 ++ t.0, inr (t.0, d.0, t.1, (never, d.1), refl))

  -- any number between the free ones and those that can be met
  one_more : (u c : ℕ) (f s : Option Stack) → IsLightest F f → IsLightest S s → Within F S → (HasOne S → HasOne C) → (HasOne F → Within C F) →
      HasOne D → u ≤ c → ((n : ℕ) → u ≤ n → n ≤ c → HasOne (T n)) → (n : ℕ) → one_if f + u ≤ n → n ≤ one_if s + c → HasOne (WithChild n)
  one_more u c (Some v) s ff ss fs sc cf d uc t zero low high = absurd (omega (arith, low))
  one_more u c (Some v) s ff ss fs sc cf d uc t (suc m) low high =
      satisfied m cf (sc (v, fs v (ff.is v refl))) (t m (omega (arith, low)) (below s high))
    where
      below : (o : Option Stack) → suc m ≤ one_if o + c → m ≤ c
      below None h = omega (arith, h)
      below (Some w) h = omega (arith, h)
  one_more u c None None ff ss fs sc cf d uc t n low high =
      left_out n (λ one. let k = ff.lightest one.0 one.1 in none-some k.0 k.1) d (t n (omega (arith, low)) (omega (arith, high)))
  one_more u c None (Some w) ff ss fs sc cf d uc t n low high = go (nat_le n c) n refl low high
    where
      go : (b : Bool) (n : ℕ) → nat_le n c ≡ b → 0 + u ≤ n → n ≤ 1 + c → HasOne (WithChild n)
      go true n e low high =
          left_out n (λ one. let k = ff.lightest one.0 one.1 in none-some k.0 k.1) d (t n (omega (arith, low)) (leb-true n c e))
      go false zero e low high = let below = leb-false zero c e in absurd (omega (arith, below))
      go false (suc m) e low high =
          let below = leb-false (suc m) c e in
          satisfied m cf (sc (w, ss.is w refl)) (t m (omega (arith, uc, below)) (omega (arith, high)))

-- a free child can be met
free_is_met : (F S : StackSet) (u c : ℕ) (f s : Option Stack) → IsLightest F f → IsLightest S s → Within F S → u ≤ c → one_if f + u ≤ one_if s + c
free_is_met F S u c None None ff ss fs h = omega (arith, h)
free_is_met F S u c None (Some w) ff ss fs h = omega (arith, h)
free_is_met F S u c (Some v) None ff ss fs h = let k = ss.lightest v (fs v (ff.is v refl)) in absurd (none-some k.0 k.1)
free_is_met F S u c (Some v) (Some w) ff ss fs h = omega (arith, h)

-- with s a child isn't free
not_free : (F : StackSet) (u c : ℕ) (f : Option Stack) (s : Bool) → IsLightest F f → (s ≡ true → (w : Stack) → F w → ⊥) → u ≤ c → one_if f + u ≤ (if s then 0 else 1) + c
not_free F u c None true ff never h = omega (arith, h)
not_free F u c None false ff never h = omega (arith, h)
not_free F u c (Some v) true ff never h = absurd (never refl v (ff.is v refl))
not_free F u c (Some v) false ff never h = omega (arith, h)

-- a child that is satisfied is one that can be
met_more : (S : StackSet) (m c : ℕ) (w : Stack) (s : Option Stack) → IsLightest S s → S w → m ≤ c → suc m ≤ one_if s + c
met_more S m c w None ss p h = let k = ss.lightest w p in absurd (none-some k.0 k.1)
met_more S m c w (Some v) ss p h = omega (arith, h)

met_less : (n c : ℕ) (s : Option Stack) → n ≤ c → n ≤ one_if s + c
met_less n c None h = omega (arith, h)
met_less n c (Some v) h = omega (arith, h)

module _ (assets : Assets) (are : AreAssets assets) where
  -- the free ones are among those that can be met, and not among those with s
  free_below_met : (xs : Trees) → AreWritable xs → count_free assets xs ≤ count_met assets xs
  free_below_met none w = omega arith
  free_below_met (more x xs) w =
      free_is_met (free_row assets x).sat (signed_row assets x).sat (count_free assets xs) (count_met assets xs) (free assets x) (cheapest_of assets x)
      (free_best assets are x w.0) (sat_best assets are x w.0) (free_within assets x) (free_below_met xs w.1)

  free_not_s : (xs : Trees) → AreWritable xs → AreTyped xs → count_free assets xs ≤ count_not_s (all_properties_of xs)
  free_not_s none w t = omega arith
  free_not_s (more x xs) w t =
      not_free (free_row assets x).sat (count_free assets xs) (count_not_s (all_properties_of xs)) (free assets x) (properties_of x).s
      (free_best assets are x w.0) (signs assets x t.0) (free_not_s xs w.1 t.1)

  -- so many are satisfied as can be met
  met_at_least : (xs : Trees) → AreWritable xs → (n : ℕ) (v : Stack) → parts (canonical assets) xs n v → n ≤ count_met assets xs
  met_at_least none w n v h = omega (arith, h.0)
  met_at_least (more x xs) w n v (inl h) =
      subst (λ j. j ≤ one_if (cheapest_of assets x) + count_met assets xs) (sym h.1)
      (met_more (signed_row assets x).sat h.0 (count_met assets xs) h.2.1 (cheapest_of assets x) (sat_best assets are x w.0) h.2.3
      (met_at_least xs w.1 h.0 h.2.0 h.2.2))
  met_at_least (more x xs) w n v (inr h) =
      met_less n (count_met assets xs) (cheapest_of assets x) (met_at_least xs w.1 n h.0 h.2)

-- the lightest of two options with their free stacks, where not both have one
best_first : (F G P Q : StackSet) (f g o p : Option Stack) → IsLightest F f → IsLightest G g → IsLightest P o → IsLightest Q p →
    (HasOne F → Within P F) → (HasOne G → Within Q G) → (HasOne F → HasOne G → ⊥) →
    IsLightest (FreeFirst F G P Q) (free_first f g o p)
best_first F G P Q (Some v) g o p ff gg oo pp pf qg apart =
    best_as P (FreeFirst F G P Q) o (λ w h. inl (h, λ any. pf one w h)) from oo
  where
    one : HasOne F
    one = (v, ff.is v refl)

    from : (w : Stack) → FreeFirst F G P Q w → P w
    from w (inl h) = h.0
    from w (inr h) = absurd (apart one (w, h.1 (v, inl (ff.is v refl))))
best_first F G P Q None (Some v) o p ff gg oo pp pf qg apart =
    best_as Q (FreeFirst F G P Q) p (λ w h. inr (h, λ any. qg one w h)) from pp
  where
    one : HasOne G
    one = (v, gg.is v refl)

    from : (w : Stack) → FreeFirst F G P Q w → Q w
    from w (inl h) = absurd (apart (w, h.1 (v, inr (gg.is v refl))) one)
    from w (inr h) = h.0
best_first F G P Q None None o p ff gg oo pp pf qg apart =
    best_as (Either P Q) (FreeFirst F G P Q) _ to from (best_two P Q o p oo pp)
  where
    never : HasOne (Either F G) → ⊥
    never (v, inl i) = let k = ff.lightest v i in none-some k.0 k.1
    never (v, inr i) = let k = gg.lightest v i in none-some k.0 k.1

    to : (w : Stack) → Either P Q w → FreeFirst F G P Q w
    to w (inl h) = inl (h, λ any. absurd (never any))
    to w (inr h) = inr (h, λ any. absurd (never any))

    from : (w : Stack) → FreeFirst F G P Q w → Either P Q w
    from w (inl h) = inl h.0
    from w (inr h) = inr h.0

-- a child is dissatisfied only where it has no free satisfaction
best_unwanted : (F D : StackSet) (f d : Option Stack) → IsLightest F f → IsLightest D d → IsLightest (If (HasOne F → ⊥) D) (if is_some f then None else d)
best_unwanted F D None d ff dd =
    best_as D (If (HasOne F → ⊥) D) d (λ w h. (λ one. let k = ff.lightest one.0 one.1 in none-some k.0 k.1, h)) (λ w h. h.1) dd
best_unwanted F D (Some v) d ff dd = none_best (If (HasOne F → ⊥) D) (λ w h. h.0 (v, ff.is v refl))

-- of an option its free stacks F, its canonical ones S and its tight ones P, with the lightest of F and of P
record Way (F S P : StackSet) (f o : Option Stack) : Type 0 where
  free_best : IsLightest F f
  best : IsLightest P o
  within : Within F S
  exists : HasOne S → HasOne P
  free : HasOne F → Within P F

both_ways : {F S P G T Q : StackSet} {f o g p : Option Stack} → Way F S P f o → Way G T Q g p → Way (Both F G) (Both S T) (Both P Q) (both f g) (both o p)
both_ways a b = record {
  free_best = best_both _ _ _ _ a.free_best b.free_best;
  best = best_both _ _ _ _ a.best b.best;
  within = both_within _ _ _ _ a.within b.within;
  exists = one_mapped _ _ _ _ a.exists b.exists;
  free = below_free _ _ _ _ a.free b.free;
}

item_way : (item : Bytes) → Way (Is item) (Is item) (Is item) (Some (item ∷ [])) (Some (item ∷ []))
item_way item = record { free_best = is_best item; best = is_best item; within = same _; exists = λ one. one; free = always _ _ (same _) }

-- of the canonical stacks S and the tight ones P: the lightest tight one, and that there is one where there is a canonical one
record Found (S P : StackSet) (o : Option Stack) : Type 0 where
  best : IsLightest P o
  exists : HasOne S → HasOne P

found_of : {F S P : StackSet} {f o : Option Stack} → Way F S P f o → Found S P o
found_of a = record { best = a.best; exists = a.exists }

found_first : {F S P G T Q : StackSet} {f o g p : Option Stack} → Way F S P f o → Way G T Q g p → (HasOne F → HasOne G → ⊥) →
    Found (Either S T) (FreeFirst F G P Q) (free_first f g o p)
found_first a b apart = record {
  best = best_first _ _ _ _ _ _ _ _ a.free_best b.free_best a.best b.best a.free b.free apart;
  exists = one_first _ _ _ _ _ _ (one_or_none _ _ a.free_best) (one_or_none _ _ b.free_best) a.within b.within a.exists b.exists a.free b.free;
}

module _ (assets : Assets) (are : AreAssets assets) where
  abbrev FoundTight : Tree → Type 0
  FoundTight tree = Found (signed_row assets tree).sat (TightSat assets tree) (strict_of assets tree)

  sat_way : (tree : Tree) → IsWritable tree → FoundTight tree →
      Way (free_row assets tree).sat (signed_row assets tree).sat (TightSat assets tree) (free assets tree) (strict_of assets tree)
  sat_way tree w found = record {
    free_best = free_best assets are tree w;
    best = found.best;
    within = free_within assets tree;
    exists = found.exists;
    free = tight_free assets tree;
  }

  dsat_way : (tree : Tree) → IsWritable tree →
      Way (free_row assets tree).dsat (signed_row assets tree).dsat (signed_row assets tree).dsat (dissatisfaction tree) (dissatisfaction tree)
  dsat_way tree w = record {
    free_best = free_dsat_best assets are tree w;
    best = dsat_best assets tree w;
    within = signed_dsat assets tree;
    exists = λ one. one;
    free = always _ _ (free_dsat assets tree);
  }

  -- children with s, of which one option has a part: not both have a free stack
  below_signs : (x : Tree) (P : StackSet) → IsTyped x → (properties_of x).s ≡ true → HasOne (Both (free_row assets x).sat P) → ⊥
  below_signs x P t s one = let h = one.1 in signs assets x t s h.0 h.2

  above_signs : (x : Tree) (P : StackSet) → IsTyped x → (properties_of x).s ≡ true → HasOne (Both P (free_row assets x).sat) → ⊥
  above_signs x P t s one = let h = one.1 in signs assets x t s h.1 h.3

  apart : (F G : StackSet) (a b : Bool) → (a ≡ true → HasOne F → ⊥) → (b ≡ true → HasOne G → ⊥) → (a || b) ≡ true → HasOne F → HasOne G → ⊥
  apart F G a b f g e p q = elim (or_cases a b e) [ inl s ↦ f s p | inr s ↦ g s q ]

  mutual
    unfolding malleability_rows

    found_tight : (tree : Tree) → IsWritable tree → IsTyped tree → IsMalleabilityTyped tree → FoundTight tree
    found_tight (and_or x y z) w t m =
        found_first
        (both_ways (sat_way y w.1 (found_tight y w.1 t.1 m.1)) (sat_way x w.0 (found_tight x w.0 t.0 m.0)))
        (both_ways (sat_way z w.2 (found_tight z w.2 t.2 m.2)) (dsat_way x w.0))
        (apart _ _ ((properties_of x).s || (properties_of y).s) (properties_of z).s
        (λ s. elim (or_cases (properties_of x).s (properties_of y).s s) [ inl i ↦ above_signs x _ t.0 i | inr i ↦ below_signs y _ t.1 i ])
        (below_signs z _ t.2) m.3.1.0)
    found_tight (two kind.OrB x z) w t m =
        let f = found_first
        (both_ways (dsat_way z w.1) (sat_way x w.0 (found_tight x w.0 t.0 m.0))) (both_ways (sat_way z w.1 (found_tight z w.1 t.1 m.1)) (dsat_way x w.0))
        (apart _ _ (properties_of x).s (properties_of z).s (above_signs x _ t.0) (below_signs z _ t.1) m.2.1.0) in
        record { best = f.best; exists = λ one. f.exists (not_third _ _ _ assets one) }
    found_tight (two kind.OrC x z) w t m =
        found_first
        (sat_way x w.0 (found_tight x w.0 t.0 m.0)) (both_ways (sat_way z w.1 (found_tight z w.1 t.1 m.1)) (dsat_way x w.0))
        (apart _ _ (properties_of x).s (properties_of z).s (λ s one. signs assets x t.0 s one.0 one.1) (below_signs z _ t.1) m.2.1.0)
    found_tight (two kind.OrD x z) w t m =
        found_first
        (sat_way x w.0 (found_tight x w.0 t.0 m.0)) (both_ways (sat_way z w.1 (found_tight z w.1 t.1 m.1)) (dsat_way x w.0))
        (apart _ _ (properties_of x).s (properties_of z).s (λ s one. signs assets x t.0 s one.0 one.1) (below_signs z _ t.1) m.2.1.0)
    found_tight (two kind.OrI x z) w t m =
        found_first
        (both_ways (sat_way x w.0 (found_tight x w.0 t.0 m.0)) (item_way ONE)) (both_ways (sat_way z w.1 (found_tight z w.1 t.1 m.1)) (item_way EMPTY))
        (apart _ _ (properties_of x).s (properties_of z).s (below_signs x _ t.0) (below_signs z _ t.1) m.2.0)
    found_tight (two which x y) w t m = found_of (both_ways (sat_way y w.1 (found_tight y w.1 t.1 m.1)) (sat_way x w.0 (found_tight x w.0 t.0 m.0)))
    found_tight (thresh k xs) w t m =
        let most = leb-true (count_not_s (all_properties_of xs)) k m.1.1.0 in
        let few = free_not_s assets are xs w.2 t.0 in record {
          best = strict_parts_best xs w.2 t.0 m.0 k;
          exists = λ one. tight_parts xs w.2 t.0 m.0 m.1.0 k (omega (arith, most, few)) (met_at_least assets are xs w.2 k one.0 one.1);
        }
    found_tight (wrap wrapper.D x) w t m = found_of (both_ways (sat_way x w (found_tight x w t.0 m.0)) (item_way ONE))
    found_tight (wrap letter x) w t m = found_tight x w t.0 m.0
    found_tight tree w t m = record { best = sat_best assets are tree w; exists = λ one. one }

    -- of several that all have e, any number between the free ones and those that can be met
    tight_parts : (xs : Trees) → AreWritable xs → AreTyped xs → AreMalleabilityTyped xs → list_all (λ x. x.e) (all_properties_of xs) ≡ true →
        (n : ℕ) → count_free assets xs ≤ n → n ≤ count_met assets xs → HasOne (TightParts assets xs n)
    tight_parts none w t m e n low high = ([], (omega (arith, high), refl))
    tight_parts (more x xs) w t m e n low high =
        let f = and_parts (properties_of x).e (list_all (λ y. y.e) (all_properties_of xs)) e in
        one_more (free_row assets x).sat (signed_row assets x).sat (signed_row assets x).dsat (TightSat assets x) (TightParts assets xs)
        (count_free assets xs) (count_met assets xs) (free assets x) (cheapest_of assets x)
        (free_best assets are x w.0) (sat_best assets are x w.0) (free_within assets x)
        (found_tight x w.0 t.0 m.0).exists (tight_free assets x) (has_dsat (canonical assets) x w.0 m.0 f.0)
        (free_below_met assets are xs w.1) (tight_parts xs w.1 t.1 m.1 f.1) n low high

    strict_parts_best : (xs : Trees) → AreWritable xs → AreTyped xs → AreMalleabilityTyped xs → (k : ℕ) →
        IsLightest (TightParts assets xs k) (choice (strict_children assets xs) (free_children assets xs) (count xs) k)
    strict_parts_best none w t m zero = one_best (PartsOfNone zero) [] (refl, refl) (λ v h. h.1)
    strict_parts_best none w t m (suc k) = none_best (PartsOfNone (suc k)) (λ v h. omega (arith, h.0))
    strict_parts_best (more x xs) w t m k =
        let c : Child = record { sat = strict_of assets x; dsat = dissatisfaction x } in
        let cs = strict_children assets xs in
        let wanted = is_some (free assets x) in
        let rest = free_children assets xs in
        let child = required (free_row assets x).sat (record { dsat = (signed_row assets x).dsat; sat = TightSat assets x }) in
        let e : choice (c ∷ cs) (wanted ∷ rest) (count xs + 1) k ≡ counted c.sat (if wanted then None else c.dsat) (choice cs rest (count xs)) k =
        ap (λ n. choice (c ∷ cs) (wanted ∷ rest) n k) (add-one (count xs)) ∙ choice_counted c cs wanted rest (count xs) k
        in
        subst (λ o. IsLightest (PartsOf child (TightParts assets xs) k) o) (sym e)
        (counted_best child (TightParts assets xs) c.sat (if wanted then None else c.dsat) (choice cs rest (count xs))
        (best_as (TightSat assets x) child.sat c.sat (λ v h. (h, λ one. tight_free assets x one v h)) (λ v h. h.0) (found_tight x w.0 t.0 m.0).best)
        (best_unwanted (free_row assets x).sat (signed_row assets x).dsat (free assets x) (dissatisfaction x) (free_best assets are x w.0) (dsat_best assets x w.0))
        (strict_parts_best xs w.1 t.1 m.1) k)

  strict_best : (tree : Tree) → IsWritable tree → IsTyped tree → IsMalleabilityTyped tree → IsLightest (TightSat assets tree) (strict_of assets tree)
  strict_best tree w t m = (found_tight tree w t m).best

  tight_exists : (tree : Tree) → IsWritable tree → IsTyped tree → IsMalleabilityTyped tree → HasOne (signed_row assets tree).sat → HasOne (TightSat assets tree)
  tight_exists tree w t m = (found_tight tree w t m).exists

-- the strict choice is the lightest tight satisfaction
pub strict_is_lightest_tight : (tree : Tree) (assets : Assets) → IsWritable tree → IsSaneUnder Consensus tree → AreAssets assets → IsLightest (Tight tree assets) (strict tree assets)
strict_is_lightest_tight tree assets writable sane are =
    let s = (sane_means_under Consensus tree).0 sane in
    let v = (valid_means_under Consensus tree).0 s.0 in
    best_reverse (TightSat assets tree) (strict_of assets tree) (strict_best assets are tree writable v.0 s.1)

pub lightest_of_tight : (tree : Tree) (assets : Assets) (other : List Bytes) → IsWritable tree → IsSaneUnder Consensus tree → AreAssets assets → Tight tree assets other →
    (stack : List Bytes) × (strict tree assets ≡ Some stack) × (weight stack ≤ weight other)
lightest_of_tight tree assets other writable sane are tight =
    let best = strict_is_lightest_tight tree assets writable sane are in
    best.lightest other tight

-- where a canonical satisfaction exists, a tight one does
pub tight_of_canonical : (tree : Tree) (assets : Assets) (stack : List Bytes) → IsWritable tree → IsSaneUnder Consensus tree → AreAssets assets → Sat tree assets stack →
    (other : List Bytes) × Tight tree assets other
tight_of_canonical tree assets stack writable sane are sat =
    let s = (sane_means_under Consensus tree).0 sane in
    let v = (valid_means_under Consensus tree).0 s.0 in
    let t = tight_exists assets are tree writable v.0 s.1 (reverse stack, sat) in
    (reverse t.0, subst (TightSat assets tree) (sym (reverse-reverse t.0)) t.1)

pub strict_exists : StrictExists
strict_exists tree assets writable sane are = (
  λ found. (found.0, strict_is_canonical tree assets found.0 writable are found.1),
  λ one.
      let t = tight_of_canonical tree assets one.0 writable sane are one.1 in
      let v = lightest_of_tight tree assets t.0 writable sane are t.1 in
      (v.0, v.1),
)
