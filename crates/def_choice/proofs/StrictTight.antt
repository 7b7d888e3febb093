-- The strict choice is tight.
use Rattle.std.proofs.Common.{◌≡◌, ℕ, zero, suc, ◌+◌, Bool, true, false, List, [], ◌∷◌, ◌++◌, map, filter, nat_lt, Option, Some, None, is_some, refl, sym, ◌∙◌, ap, inl, inr, if◌then◌else◌, arith}
use Rattle.std.proofs.Math.Numerals.{add-one}
use Rattle.std.proofs.lemmas.List.{map-append}
use Rattle.std.proofs.lemmas.List.Elements.{filter-append, All-nil}
use Rattle.std.specs.List.{IsDistinct}
use Rattle.std.proofs.lemmas.Option.{none-some, same_Some}
use Rattle.def_script.specs.Bytes.{Bytes}
use Rattle.def_machine.specs.Stacks.{Stack}
use Rattle.def_tree.specs.declared.Two.TheVariants as kind
use Rattle.def_tree.specs.declared.Wrapper.TheVariants as wrapper
use Rattle.def_tree.specs.Tree.{Tree, Trees, and_or, two, thresh, wrap, none, more}
use Rattle.def_tree.specs.Range.{IsWritable, AreWritable, count}
use Rattle.def_assets.specs.Assets.{Assets, AreAssets, unsigned}
use Rattle.def_script.specs.Witness.{weight}
use Rattle.def_satisfaction.specs.StackSet.{StackSet, Is, Both, Either}
use Rattle.def_satisfaction.specs.Rows.{EMPTY, ONE, Row, PartsOf}
use Rattle.def_satisfaction.proofs.Wider.{Within, both_within, same}
use Rattle.def_choice.specs.Sets.{sets}
use Rattle.def_choice.specs.Least.{both, lighter, least}
use Rattle.def_choice.specs.Lightest.{IsLightest}
use Rattle.def_choice.specs.Cheapest.{Child, stack_of, cheapest_of}
use Rattle.def_choice.specs.Dissatisfaction.{dissatisfaction}
use Rattle.def_choice.specs.Strict.{free_first, free_children, has_all, strict_of, strict_children}
use Rattle.def_choice.specs.Free.{free}
use Rattle.def_choice.specs.Tight.{HasOne, FreeFirst, required, signed_row, free_row, TightSat, TightParts}
use Rattle.def_choice.proofs.Best.{best_both, lighter-none}
use Rattle.def_choice.proofs.Counted.{counted, least-append, least-map_map, least-above, both-none}
use Rattle.def_choice.proofs.Leaves.{is_best}
use Rattle.def_choice.proofs.Cheapest.{dsat_best, sat_best}
use Rattle.def_choice.proofs.TightFree.{tight_free, free_dsat}

-- what is chosen is a stack of the set
abbrev Gives : StackSet → Option Stack → Type 0
Gives P m = (w : Stack) → m ≡ Some w → P w

gives_both : (P Q : StackSet) (a b : Option Stack) → Gives P a → Gives Q b → Gives (Both P Q) (both a b)
gives_both P Q None b p q w h = absurd (none-some w h)
gives_both P Q (Some a) None p q w h = absurd (none-some w h)
gives_both P Q (Some a) (Some b) p q w h = (a, b, p a refl, q b refl, sym (same_Some (b ++ a) w h))

gives_lighter : (P Q : StackSet) (a b : Option Stack) → Gives P a → Gives Q b → Gives (Either P Q) (lighter a b)
gives_lighter P Q None b p q w h = inr (q w h)
gives_lighter P Q (Some v) None p q w h = inl (p w h)
gives_lighter P Q (Some v) (Some u) p q w h = go (nat_lt (weight u) (weight v)) h
  where
    go : (test : Bool) → (if test then Some u else Some v) ≡ Some w → Either P Q w
    go true e = inr (q w e)
    go false e = inl (p w e)

gives_is : (x : Bytes) → Gives (Is x) (Some (x ∷ []))
gives_is x w h = sym (same_Some (x ∷ []) w h)

-- assets without their signatures are assets
pub unsigned_are : (assets : Assets) → AreAssets assets → AreAssets (unsigned assets)
unfolding IsDistinct
unsigned_are assets are = record {
  keys = All-nil _;
  signatures = All-nil _;
  distinct = tt;
  preimages = are.preimages;
  version = are.version;
  sequence = are.sequence;
  locktime = are.locktime;
}

-- of two options with their free stacks, where tight stacks of a free option are free
free_first_tight : (F G P Q : StackSet) (f g o p : Option Stack) → IsLightest F f → IsLightest G g → Gives P o → Gives Q p →
    (HasOne F → Within P F) → (HasOne G → Within Q G) → Gives (FreeFirst F G P Q) (free_first f g o p)
free_first_tight F G P Q (Some v) g o p ff gg oo pp of pg w h = inl (oo w h, λ one. of (v, ff.is v refl) w (oo w h))
free_first_tight F G P Q None (Some v) o p ff gg oo pp of pg w h = inr (pp w h, λ one. pg (v, gg.is v refl) w (pp w h))
free_first_tight F G P Q None None o p ff gg oo pp of pg w h =
    elim (gives_lighter P Q o (lighter p None) oo (λ v k. pp v (sym (lighter-none p) ∙ k)) w h) [
      | inl i ↦ inl (i, λ one. absurd (never one))
      | inr i ↦ inr (i, λ one. absurd (never one))
    ]
  where
    never : HasOne (Either F G) → ⊥
    never (v, inl i) = let k = ff.lightest v i in none-some k.0 k.1
    never (v, inr i) = let k = gg.lightest v i in none-some k.0 k.1

-- the sets with every wanted position: those with the first one, and, unless it is wanted, those without it
filter-map : {A B : Type 0} (test : B → Bool) (g : A → B) (xs : List A) → filter test (map g xs) ≡ map g (filter (λ x. test (g x)) xs)
filter-map test g [] = refl
filter-map test g (x ∷ xs) = grind (arith, filter-map test g xs)

filter-none : {A : Type 0} (xs : List A) → filter (λ x. false) xs ≡ []
filter-none [] = refl
filter-none (x ∷ xs) = filter-none xs

with_first : (wanted : Bool) (rest : List Bool) (xs : List (List Bool)) → filter (has_all (wanted ∷ rest)) (map (λ set. true ∷ set) xs) ≡ map (λ set. true ∷ set) (filter (has_all rest) xs)
with_first true rest xs = filter-map (has_all (true ∷ rest)) (λ set. true ∷ set) xs
with_first false rest xs = filter-map (has_all (false ∷ rest)) (λ set. true ∷ set) xs

without_first : (rest : List Bool) (xs : List (List Bool)) → filter (has_all (false ∷ rest)) (map (λ set. false ∷ set) xs) ≡ map (λ set. false ∷ set) (filter (has_all rest) xs)
without_first rest xs = filter-map (has_all (false ∷ rest)) (λ set. false ∷ set) xs

none_without : (rest : List Bool) (xs : List (List Bool)) → filter (has_all (true ∷ rest)) (map (λ set. false ∷ set) xs) ≡ []
none_without rest xs = filter-map (has_all (true ∷ rest)) (λ set. false ∷ set) xs ∙ ap (map (λ set. false ∷ set)) (filter-none xs)

-- the choice among the sets with every wanted position
abbrev pub choice : List Child → (wanted : List Bool) → (n k : ℕ) → Option Stack
choice cs wanted n k = least (map (stack_of cs) (filter (has_all wanted) (sets n k)))

-- the choice among the sets without the first position
left_out : (c : Child) (cs : List Child) (wanted : Bool) (rest : List Bool) (xs : List (List Bool)) →
    least (map (stack_of (c ∷ cs)) (filter (has_all (wanted ∷ rest)) (map (λ set. false ∷ set) xs))) ≡
    both (least (map (stack_of cs) (filter (has_all rest) xs))) (if wanted then None else c.dsat)
left_out c cs true rest xs = simp (none_without, both-none)
left_out c cs false rest xs = simp (without_first, least-map_map, least-above)

taken_in : (c : Child) (cs : List Child) (wanted : Bool) (rest : List Bool) (xs : List (List Bool)) →
    least (map (stack_of (c ∷ cs)) (filter (has_all (wanted ∷ rest)) (map (λ set. true ∷ set) xs))) ≡
    both (least (map (stack_of cs) (filter (has_all rest) xs))) c.sat
taken_in c cs wanted rest xs = simp (with_first, least-map_map, least-above)

pub choice_counted : (c : Child) (cs : List Child) (wanted : Bool) (rest : List Bool) (n k : ℕ) →
    choice (c ∷ cs) (wanted ∷ rest) (suc n) k ≡ counted c.sat (if wanted then None else c.dsat) (choice cs rest n) k
choice_counted c cs wanted rest n zero = left_out c cs wanted rest (sets n zero)
choice_counted c cs wanted rest n (suc k) = simp (filter-append, map-append, least-append, taken_in, left_out)

-- each child by what is chosen for it
gives_counted : (x : Row) (others : ℕ → StackSet) (sat dsat : Option Stack) (choice : ℕ → Option Stack) →
    Gives x.sat sat → Gives x.dsat dsat → ((n : ℕ) → Gives (others n) (choice n)) →
    (n : ℕ) → Gives (PartsOf x others n) (counted sat dsat choice n)
gives_counted x others sat dsat choice p q r zero w h = inr (gives_both (others zero) x.dsat (choice zero) dsat (r zero) q w h)
gives_counted x others sat dsat choice p q r (suc n) w h =
    elim (gives_lighter (Both (others n) x.sat) (Both (others (suc n)) x.dsat) _ _
    (gives_both (others n) x.sat (choice n) sat (r n) p)
    (gives_both (others (suc n)) x.dsat (choice (suc n)) dsat (r (suc n)) q) w h) [ inl i ↦ inl (n, refl, i) | inr i ↦ inr i ]

-- a child is dissatisfied only where it has no free satisfaction
gives_unwanted : (F D : StackSet) (f d : Option Stack) → IsLightest F f → Gives D d →
    (w : Stack) → (if is_some f then None else d) ≡ Some w → (HasOne F → ⊥) × D w
gives_unwanted F D None d ff dd w h = ((λ one. let k = ff.lightest one.0 one.1 in none-some k.0 k.1), dd w h)
gives_unwanted F D (Some v) d ff dd w h = absurd (none-some w h)

-- free parts make a free whole
pub below_free : (P Q P' Q' : StackSet) → (HasOne P' → Within P P') → (HasOne Q' → Within Q Q') → HasOne (Both P' Q') → Within (Both P Q) (Both P' Q')
below_free P Q P' Q' p q (v, (below, above, i, j, e)) = both_within P P' Q Q' (p (below, i)) (q (above, j))

pub always : (P P' : StackSet) → Within P P' → HasOne P' → Within P P'
always P P' p one = p

module _ (assets : Assets) (are : AreAssets assets) where
  pub free_best : (tree : Tree) → IsWritable tree → IsLightest (free_row assets tree).sat (free assets tree)
  free_best tree w = sat_best (unsigned assets) (unsigned_are assets are) tree w

  pub free_dsat_best : (tree : Tree) → IsWritable tree → IsLightest (free_row assets tree).dsat (dissatisfaction tree)
  free_dsat_best tree w = dsat_best (unsigned assets) tree w

  leaf : (tree : Tree) → IsWritable tree → Gives (signed_row assets tree).sat (cheapest_of assets tree)
  leaf tree w = (sat_best assets are tree w).is

  dissatisfied : (tree : Tree) → IsWritable tree → Gives (signed_row assets tree).dsat (dissatisfaction tree)
  dissatisfied tree w = (dsat_best assets tree w).is

  mutual
    pub strict_tight : (tree : Tree) → IsWritable tree → Gives (TightSat assets tree) (strict_of assets tree)
    strict_tight (and_or x y z) w =
        free_first_tight _ _ _ _ _ _ _ _
        (best_both _ _ _ _ (free_best y w.1) (free_best x w.0))
        (best_both _ _ _ _ (free_best z w.2) (free_dsat_best x w.0))
        (gives_both _ _ _ _ (strict_tight y w.1) (strict_tight x w.0))
        (gives_both _ _ _ _ (strict_tight z w.2) (dissatisfied x w.0))
        (below_free _ _ _ _ (tight_free assets y) (tight_free assets x))
        (below_free _ _ _ _ (tight_free assets z) (always _ _ (free_dsat assets x)))
    strict_tight (two kind.AndV x y) w = gives_both _ _ _ _ (strict_tight y w.1) (strict_tight x w.0)
    strict_tight (two kind.AndB x y) w = gives_both _ _ _ _ (strict_tight y w.1) (strict_tight x w.0)
    strict_tight (two kind.OrB x z) w =
        free_first_tight _ _ _ _ _ _ _ _
        (best_both _ _ _ _ (free_dsat_best z w.1) (free_best x w.0))
        (best_both _ _ _ _ (free_best z w.1) (free_dsat_best x w.0))
        (gives_both _ _ _ _ (dissatisfied z w.1) (strict_tight x w.0))
        (gives_both _ _ _ _ (strict_tight z w.1) (dissatisfied x w.0))
        (below_free _ _ _ _ (always _ _ (free_dsat assets z)) (tight_free assets x))
        (below_free _ _ _ _ (tight_free assets z) (always _ _ (free_dsat assets x)))
    strict_tight (two kind.OrI x z) w =
        free_first_tight _ _ _ _ _ _ _ _
        (best_both _ _ _ _ (free_best x w.0) (is_best ONE))
        (best_both _ _ _ _ (free_best z w.1) (is_best EMPTY))
        (gives_both _ _ _ _ (strict_tight x w.0) (gives_is ONE))
        (gives_both _ _ _ _ (strict_tight z w.1) (gives_is EMPTY))
        (below_free _ _ _ _ (tight_free assets x) (always _ _ (same _)))
        (below_free _ _ _ _ (tight_free assets z) (always _ _ (same _)))
    strict_tight (two which x z) w =
        free_first_tight _ _ _ _ _ _ _ _
        (free_best x w.0)
        (best_both _ _ _ _ (free_best z w.1) (free_dsat_best x w.0))
        (strict_tight x w.0)
        (gives_both _ _ _ _ (strict_tight z w.1) (dissatisfied x w.0))
        (tight_free assets x)
        (below_free _ _ _ _ (tight_free assets z) (always _ _ (free_dsat assets x)))
    strict_tight (thresh k xs) w = strict_parts xs w.2 k
    strict_tight (wrap wrapper.D x) w = gives_both _ _ _ _ (strict_tight x w) (gives_is ONE)
    strict_tight (wrap letter x) w = strict_tight x w
    strict_tight tree w = leaf tree w

    strict_parts : (xs : Trees) → AreWritable xs → (k : ℕ) →
        Gives (TightParts assets xs k) (choice (strict_children assets xs) (free_children assets xs) (count xs) k)
    strict_parts none w zero v h = (refl, sym (same_Some [] v h))
    strict_parts none w (suc k) v h = absurd (none-some v h)
    strict_parts (more x xs) w k v h =
        let c : Child = record { sat = strict_of assets x; dsat = dissatisfaction x } in
        let cs = strict_children assets xs in
        let wanted = is_some (free assets x) in
        let rest = free_children assets xs in
        let e : choice (c ∷ cs) (wanted ∷ rest) (count xs + 1) k ≡ counted c.sat (if wanted then None else c.dsat) (choice cs rest (count xs)) k =
        ap (λ n. choice (c ∷ cs) (wanted ∷ rest) n k) (add-one (count xs)) ∙ choice_counted c cs wanted rest (count xs) k
        in
        gives_counted
        (required (free_row assets x).sat (record { dsat = (signed_row assets x).dsat; sat = TightSat assets x })) (TightParts assets xs)
        c.sat (if wanted then None else c.dsat) (choice cs rest (count xs))
        (λ u i. (strict_tight x w.0 u i, λ one. tight_free assets x one u (strict_tight x w.0 u i)))
        (gives_unwanted (free_row assets x).sat (signed_row assets x).dsat (free assets x) (dissatisfaction x) (free_best x w.0) (dissatisfied x w.0))
        (strict_parts xs w.1) k v (sym e ∙ h)
