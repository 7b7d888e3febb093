-- The strict choice under the signatures of the keys that it takes alone: they are enough for a tight satisfaction that
-- weighs no more, where none of them is longer.
use Rattle.std.proofs.Common.{◌≡◌, ◌≤◌, Bool, true, false, not, ◌&&◌, ◌||◌, List, [], ◌∷◌, ◌++◌, length, reverse, Contains, Option, Some, None, is_some, refl, sym, ◌∙◌, ap, subst, inl, inr, arith}
use Rattle.std.proofs.lemmas.Bool.{false≢true}
use Rattle.std.proofs.lemmas.Option.{none-some, same_Some}
use Rattle.std.proofs.lemmas.List.{length-append}
use Rattle.std.proofs.lemmas.List.Elements.{Contains-append_left, Contains-append_right}
use Rattle.def_script.specs.Bytes.{Bytes}
use Rattle.def_machine.specs.Stacks.{Stack, Pairs, Checker, member}
use Rattle.def_machine.specs.MultiSig.{is_good}
use Rattle.def_tree.specs.declared.Two.TheVariants as kind
use Rattle.def_tree.specs.declared.Wrapper.TheVariants as wrapper
use Rattle.def_tree.specs.Tree.{Tree, Trees, Key, pk_k, pk_h, and_or, two, thresh, multi, wrap, none, more}
use Rattle.def_tree.specs.Range.{IsWritable, AreWritable, count}
use Rattle.def_assets.specs.Assets.{Assets, AreAssets, sig_of}
use Rattle.def_script.specs.Witness.{weight}
use Rattle.def_satisfaction.specs.StackSet.{StackSet, Is, Both, Either}
use Rattle.def_satisfaction.specs.Rows.{EMPTY, ONE, AreSignatures}
use Rattle.def_satisfaction.specs.Satisfaction.{canonical}
use Rattle.def_satisfaction.proofs.Wider.{Within, same}
use Rattle.def_satisfaction.proofs.Bare.{dsat_within}
use Rattle.def_choice.specs.Sets.{sets}
use Rattle.def_choice.specs.Least.{item, both}
use Rattle.def_choice.specs.Lightest.{IsLightest}
use Rattle.def_choice.specs.Cheapest.{stack_of, signatures_of}
use Rattle.def_choice.specs.Dissatisfaction.{dissatisfaction}
use Rattle.def_choice.specs.Strict.{free_first, free_children, has_all, strict_of, strict_children}
use Rattle.def_choice.specs.Free.{free}
use Rattle.def_choice.specs.Tight.{HasOne, FreeFirst, signed_row, free_row, TightSat, TightParts}
use Rattle.def_choice.proofs.Weights.{weight-append, reverse-cons}
use Rattle.def_choice.proofs.Best.{best_both}
use Rattle.def_choice.proofs.Leaves.{is_best}
use Rattle.def_choice.proofs.Cheapest.{dsat_best, sat_best}
use Rattle.def_choice.proofs.TightFree.{tight_free, free_dsat}
use Rattle.def_plan.specs.Taken.{takes_former, children_taken, signers_taken, keys_of_set, taken, taken_of_children}
use Rattle.def_choice.proofs.StrictTight.{free_best, free_dsat_best, below_free, always}
use Rattle.def_choice.proofs.Keys.{without_last}
use Rattle.ms_plan_laws.proofs.Sets.{first_taken, both_joined, item_is, each-filter, ones, IsSet, sets_are, set_is_taken}
use Rattle.ms_plan_laws.proofs.Moved.{with_pairs}

-- the last key's signature behind the others'
behind : (checker : Checker) (keys : List Key) (key : Key) (sigs : Stack) (sig : Bytes) → is_good checker key sig ≡ true → AreSignatures checker keys sigs →
    AreSignatures checker (keys ++ key ∷ []) (sigs ++ sig ∷ [])
behind checker [] key [] sig good h = inl (good, tt)
behind checker [] key (g ∷ sigs) sig good h = absurd h
behind checker (k ∷ keys) key [] sig good h = inr (behind checker keys key [] sig good tt)
behind checker (k ∷ keys) key (g ∷ sigs) sig good (inl h) = inl (h.0, behind checker keys key sigs sig good h.1)
behind checker (k ∷ keys) key (g ∷ sigs) sig good (inr h) = inr (behind checker keys key (g ∷ sigs) sig good h)

pub not_wanted : (wanted : Bool) (rest : Bool) → ((not wanted || false) && rest) ≡ true → (wanted ≡ false) × (rest ≡ true)
not_wanted wanted rest h = grind arith

pub wanted_or_not : (wanted : Bool) (rest : Bool) → ((not wanted || true) && rest) ≡ true → rest ≡ true
wanted_or_not wanted rest h = grind arith

pub not_free : (assets : Assets) → AreAssets assets → (x : Tree) → IsWritable x → is_some (free assets x) ≡ false → HasOne (free_row assets x).sat → ⊥
not_free assets are x writable e one = let k = (free_best assets are x writable).lightest one.0 one.1 in false≢true (sym e ∙ ap is_some k.1)

module _ (Light : Type 0) where
  -- beside what is chosen is a stack of the set that weighs no more, where `Light` is so
  abbrev pub Enough : Option Stack → StackSet → Type 0
  Enough m P = (w : Stack) → m ≡ Some w → (v : Stack) × P v × (Light → weight v ≤ weight w)

  one_enough : (m : Option Stack) (P : StackSet) → ((w : Stack) → m ≡ Some w → P w) → Enough m P
  one_enough m P is w e = (w, is w e, λ _. omega arith)

  both_enough : (a b : Option Stack) (P Q : StackSet) → Enough a P → Enough b Q → Enough (both a b) (Both P Q)
  both_enough a b P Q p q w e =
      let j = both_joined a b w e in
      let x = p j.below j.left in
      let y = q j.above j.right in
      let f : weight w ≡ weight (j.above ++ j.below) = ap weight j.whole in
      (y.0 ++ x.0, (x.0, y.0, x.1, y.1, refl), λ light. let a = x.2 light in let b = y.2 light in omega (arith, f, a, b, weight-append j.above j.below, weight-append y.0 x.0))

  -- one of two options, where tight stacks of a free option are free
  first_enough : (F G P Q : StackSet) (f g a b : Option Stack) → IsLightest F f → IsLightest G g → (HasOne F → Within P F) → (HasOne G → Within Q G) →
      (takes_former f g a b ≡ true → Enough a P) → (takes_former f g a b ≡ false → Enough b Q) → Enough (free_first f g a b) (FreeFirst F G P Q)
  first_enough F G P Q (Some u) g a b ff gg pf qg p q w e =
      let x = p refl w e in
      (x.0, inl (x.1, λ one. pf (u, ff.is u refl) x.0 x.1), x.2)
  first_enough F G P Q None (Some u) a b ff gg pf qg p q w e =
      let x = q refl w e in
      (x.0, inr (x.1, λ one. qg (u, gg.is u refl) x.0 x.1), x.2)
  first_enough F G P Q None None a b ff gg pf qg p q w e =
      elim (first_taken None None a b w e) [
        | inl t ↦ (let x = p t.0 w t.1 in (x.0, inl (x.1, λ one. absurd (never one)), x.2))
        | inr t ↦ (let x = q t.0 w t.1 in (x.0, inr (x.1, λ one. absurd (never one)), x.2))
      ]
    where
      never : HasOne (Either F G) → ⊥
      never (v, inl i) = let k = ff.lightest v i in none-some k.0 k.1
      never (v, inr i) = let k = gg.lightest v i in none-some k.0 k.1

  module _ (assets : Assets) (pairs : Pairs) (are : AreAssets assets) where
    abbrev there : Assets
    there = with_pairs assets pairs

    -- of each of these keys a signature is there, which isn't longer where `Light` is so
    abbrev pub Signed : List Key → Type 0
    Signed keys = (key : Key) → Contains keys key → (sig : Bytes) → sig_of assets key ≡ Some sig → (g : Bytes) × (is_good (member pairs) key g ≡ true) × (Light → length g ≤ length sig)

    left : (a b : List Key) → Signed (a ++ b) → Signed a
    left a b h key i = h key (Contains-append_left a b key i)

    right : (a b : List Key) → Signed (a ++ b) → Signed b
    right a b h key i = h key (Contains-append_right a b key i)

    item_enough : (key : Key) → Signed (key ∷ []) → Enough (item (sig_of assets key)) (signed_row there (pk_k key)).sat
    item_enough key h w e =
        let i = item_is (sig_of assets key) w e in
        let x = h key (0, omega arith, refl) i.0 i.1 in
        let f : weight w ≡ weight (i.0 ∷ []) = ap weight i.2 in
        (x.0 ∷ [], (x.0, x.1, refl), λ light. let a = x.2 light in omega (arith, f, a))

    signers_enough : (keys : List Key) (set : List Bool) → Signed (keys_of_set keys set) → (w : Stack) → signatures_of assets keys set ≡ Some w →
        (v : Stack) × AreSignatures (member pairs) (reverse keys) v × (length v ≡ ones set) × (Light → weight v ≤ weight w)
    signers_enough [] [] h w e = ([], tt, refl, λ _. omega arith)
    signers_enough [] (b ∷ set) h w e = absurd (none-some w e)
    signers_enough (key ∷ keys) [] h w e = absurd (none-some w e)
    signers_enough (key ∷ keys) (true ∷ set) h w e =
        let j = both_joined (item (sig_of assets key)) (signatures_of assets keys set) w e in
        let i = item_is (sig_of assets key) j.below j.left in
        let x = h key (0, omega arith, refl) i.0 i.1 in
        let y = signers_enough keys set (right (key ∷ []) (keys_of_set keys set) h) j.above j.right in
        let f : weight w ≡ weight (j.above ++ i.0 ∷ []) = ap weight (j.whole ∙ ap (λ u. j.above ++ u) i.2) in (
          y.0 ++ x.0 ∷ [],
          rw (reverse-cons key keys) (behind (member pairs) (reverse keys) key y.0 x.0 x.1 y.1),
          omega (arith, y.2, length-append y.0 (x.0 ∷ [])),
          λ light. let a = x.2 light in let b = y.3 light in omega (arith, f, a, b, weight-append j.above (i.0 ∷ []), weight-append y.0 (x.0 ∷ [])),
        )
    signers_enough (key ∷ keys) (false ∷ set) h w e =
        let y = signers_enough keys set h w e in
        (y.0, rw (reverse-cons key keys) (without_last (member pairs) (reverse keys) key y.0 y.1), y.2, y.3)

    dsat_there : (x : Tree) → IsWritable x → (w : Stack) → dissatisfaction x ≡ Some w → (signed_row there x).dsat w
    dsat_there x writable w e =
        dsat_within (canonical assets) (canonical there) false≢true (λ key other h. h) x w ((dsat_best assets x writable).is w e)

    is_enough : (x : Bytes) → Enough (Some (x ∷ [])) (Is x)
    is_enough x = one_enough _ (Is x) (λ w e. sym (same_Some (x ∷ []) w e))

    dsat_enough : (x : Tree) → IsWritable x → Enough (dissatisfaction x) (signed_row there x).dsat
    dsat_enough x writable = one_enough (dissatisfaction x) (signed_row there x).dsat (dsat_there x writable)

    mutual
      pub taken_enough : (t : Tree) → IsWritable t → Signed (taken assets t) → Enough (strict_of assets t) (TightSat there t)
      taken_enough (pk_k key) w h = item_enough key h
      taken_enough (pk_h key) w h = λ v e.
          let x = both_enough _ _ _ _ (item_enough key h) (is_enough key) v e in
          (x.0, (key, w.form, refl, refl, x.1), x.2)
      taken_enough (and_or x y z) w h =
          first_enough _ _ _ _ _ _ _ _
          (best_both _ _ _ _ (free_best assets are y w.1) (free_best assets are x w.0))
          (best_both _ _ _ _ (free_best assets are z w.2) (free_dsat_best assets are x w.0))
          (below_free _ _ _ _ (tight_free there y) (tight_free there x))
          (below_free _ _ _ _ (tight_free there z) (always _ _ (free_dsat there x)))
          (λ e. let s = rw e at h in
          both_enough _ _ _ _ (taken_enough y w.1 (right (taken assets x) (taken assets y) s)) (taken_enough x w.0 (left (taken assets x) (taken assets y) s)))
          (λ e. both_enough _ _ _ _ (taken_enough z w.2 (rw e at h)) (dsat_enough x w.0))
      taken_enough (two kind.AndV x y) w h =
          both_enough _ _ _ _ (taken_enough y w.1 (right (taken assets x) (taken assets y) h)) (taken_enough x w.0 (left (taken assets x) (taken assets y) h))
      taken_enough (two kind.AndB x y) w h =
          both_enough _ _ _ _ (taken_enough y w.1 (right (taken assets x) (taken assets y) h)) (taken_enough x w.0 (left (taken assets x) (taken assets y) h))
      taken_enough (two kind.OrB x z) w h =
          first_enough _ _ _ _ _ _ _ _
          (best_both _ _ _ _ (free_dsat_best assets are z w.1) (free_best assets are x w.0))
          (best_both _ _ _ _ (free_best assets are z w.1) (free_dsat_best assets are x w.0))
          (below_free _ _ _ _ (always _ _ (free_dsat there z)) (tight_free there x))
          (below_free _ _ _ _ (tight_free there z) (always _ _ (free_dsat there x)))
          (λ e. both_enough _ _ _ _ (dsat_enough z w.1) (taken_enough x w.0 (left (taken assets x) [] (rw e at h))))
          (λ e. both_enough _ _ _ _ (taken_enough z w.1 (rw e at h)) (dsat_enough x w.0))
      taken_enough (two kind.OrI x z) w h =
          first_enough _ _ _ _ _ _ _ _
          (best_both _ _ _ _ (free_best assets are x w.0) (is_best ONE))
          (best_both _ _ _ _ (free_best assets are z w.1) (is_best EMPTY))
          (below_free _ _ _ _ (tight_free there x) (always _ _ (same _)))
          (below_free _ _ _ _ (tight_free there z) (always _ _ (same _)))
          (λ e. both_enough _ _ _ _ (taken_enough x w.0 (rw e at h)) (is_enough ONE))
          (λ e. both_enough _ _ _ _ (taken_enough z w.1 (rw e at h)) (is_enough EMPTY))
      taken_enough (two which x z) w h =
          first_enough _ _ _ _ _ _ _ _
          (free_best assets are x w.0)
          (best_both _ _ _ _ (free_best assets are z w.1) (free_dsat_best assets are x w.0))
          (tight_free there x)
          (below_free _ _ _ _ (tight_free there z) (always _ _ (free_dsat there x)))
          (λ e. taken_enough x w.0 (rw e at h))
          (λ e. both_enough _ _ _ _ (taken_enough z w.1 (rw e at h)) (dsat_enough x w.0))
      taken_enough (thresh k xs) w h = λ v e.
          let t = set_is_taken (λ set. IsSet (count xs) k set × (has_all (free_children assets xs) set ≡ true)) (stack_of (strict_children assets xs)) _
          (each-filter (IsSet (count xs) k) (has_all (free_children assets xs)) (sets (count xs) k) (sets_are (count xs) k)) v e in
          let x = children_enough xs w.2 (children_taken assets k xs) t.0.1 h v t.1 in
          (x.0, subst (λ n. TightParts there xs n x.0) t.0.0.1 x.1, x.2)
      taken_enough (multi k keys) w h = λ v e.
          let j = both_joined _ _ v e in
          let t = set_is_taken (IsSet (length keys) k) (signatures_of assets keys) (sets (length keys) k) (sets_are (length keys) k) j.above j.right in
          let y = signers_enough keys (signers_taken assets k keys) h j.above t.1 in
          let one = same_Some (EMPTY ∷ []) j.below j.left in
          let f : weight v ≡ weight (j.above ++ EMPTY ∷ []) = ap weight (j.whole ∙ ap (λ u. j.above ++ u) (sym one)) in (
            y.0 ++ EMPTY ∷ [],
            (EMPTY ∷ [], y.0, refl, (y.2 ∙ t.0.1, y.1), refl),
            λ light. let a = y.3 light in omega (arith, f, a, weight-append j.above (EMPTY ∷ []), weight-append y.0 (EMPTY ∷ [])),
          )
      taken_enough (wrap wrapper.D x) w h = both_enough _ _ _ _ (taken_enough x w h) (is_enough ONE)
      taken_enough (wrap letter x) w h = taken_enough x w h
      taken_enough tree w h = one_enough _ _ (sat_best assets are tree w).is

      children_enough : (xs : Trees) → AreWritable xs → (set : List Bool) → has_all (free_children assets xs) set ≡ true → Signed (taken_of_children assets xs set) →
          Enough (stack_of (strict_children assets xs) set) (TightParts there xs (ones set))
      children_enough none w [] all h v e = one_enough (Some []) (TightParts there none 0) (λ v e. (refl, sym (same_Some [] v e))) v e
      children_enough none w (b ∷ set) all h v e = absurd (none-some v e)
      children_enough (more x xs) w [] all h v e = absurd (none-some v e)
      children_enough (more x xs) w (true ∷ set) all h v e =
          let rest = children_enough xs w.1 set (wanted_or_not (is_some (free assets x)) _ all) (right (taken assets x) (taken_of_children assets xs set) h) in
          let y = both_enough _ _ (TightParts there xs (ones set)) (TightSat there x) rest (taken_enough x w.0 (left (taken assets x) (taken_of_children assets xs set) h)) v e in
          let j = y.1 in
          (y.0, inl (ones set, refl, (j.0, j.1, j.2, (j.3, λ one. tight_free there x one j.1 j.3), j.4)), y.2)
      children_enough (more x xs) w (false ∷ set) all h v e =
          let n = not_wanted (is_some (free assets x)) _ all in
          let rest = children_enough xs w.1 set n.1 h in
          let y = both_enough _ _ (TightParts there xs (ones set)) (signed_row there x).dsat rest (dsat_enough x w.0) v e in
          let j = y.1 in
          (y.0, inr (j.0, j.1, j.2, (not_free assets are x w.0 n.0, j.3), j.4), y.2)
