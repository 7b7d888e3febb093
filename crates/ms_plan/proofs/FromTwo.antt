-- The plan that is made from two strict satisfactions.
use Rattle.std.proofs.Common.{◌≡◌, ℕ, ◌≤◌, true, List, [], ◌++◌, length, filter, reverse, Contains, Option, Some, None, refl, sym, ◌∙◌, ap, subst, inl, inr, arith}
use Rattle.std.specs.Option.{option_map}
use Rattle.std.specs.List.{list_any}
use Rattle.std.specs.Str.{bytes_eq}
use Rattle.std.proofs.lemmas.Option.{none-some, same_Some}
use Rattle.std.proofs.lemmas.List.{length-reverse, reverse-reverse}
use Rattle.std.proofs.lemmas.Bool.{false≢true}
use Rattle.def_script.specs.Bytes.{Bytes}
use Rattle.def_machine.specs.Stacks.{Stack}
use Rattle.def_tree.specs.Tree.{Tree, Key}
use Rattle.def_tree.specs.Range.{IsWritable}
use Rattle.def_assets.specs.Assets.{Assets, sig_of}
use Rattle.def_assets.proofs.Distinct.{first_is_shortest}
use Rattle.def_sane.specs.Keys.{keys}
use Rattle.def_sane.specs.Unfit.{IsSane}
use Rattle.def_script.specs.Witness.{weight}
use Rattle.def_choice.specs.Strict.{strict, strict_of}
use Rattle.def_choice.proofs.Best.{turned}
use Rattle.def_plan.specs.Lengths.{Lengths, AreLengths, IsEstimate, estimated}
use Rattle.def_plan.specs.Taken.{taken}
use Rattle.def_plan.specs.Plan.{Plan, plan_with, plan_of}
use Rattle.ms_plan_laws.proofs.Order.{taken_part}
use Rattle.ms_plan_laws.proofs.Alike.{Marks, Same, same_strict}
use Rattle.ms_plan_laws.proofs.Found.{length_is, estimate_exists}
use Rattle.ms_plan_laws.proofs.Plans.{fits_of, estimates_alike}
use Rattle.ms_plan.specs.declared.marks.Marks.{Marks as Mark}
use Rattle.ms_plan.specs.declared.marks.Marks.TheVariants as marks
use Rattle.ms_plan.specs.Scaffolding.Marks.{marked, differing, has_item, signs}
use Rattle.ms_plan.specs.Scaffolding.Marked.{with_marks, AreMarked}
use Rattle.ms_plan.proofs.Told.{found_in, marked_distinct, own_mark, other_mark, marked_long, turned_have, have_reversed, differs, which_differs, part_filter}

-- the signature of a key is the first that stands with it
first_mark : (assets : Assets) (table : Lengths) → AreLengths table → (m : Mark) (key : Key) (sig : Bytes) →
    sig_of (with_marks assets table m) key ≡ Some sig → found_in (marked m 0 table) key ≡ Some sig
first_mark assets table lengths m key sig h =
    sym (first_is_shortest (marked m 0 table) (marked_distinct m 0 table lengths.distinct) key) ∙ h

module _ (tree : Tree) (assets : Assets) (table : Lengths) (lengths : AreLengths table) where
  abbrev First : Assets
  First = with_marks assets table marks.Rising

  abbrev Second : Assets
  Second = with_marks assets table marks.Falling

  first_estimate : IsEstimate assets table First
  first_estimate = record { like = record { locks = refl; preimages = refl }; lengths = marked_long marks.Rising 0 table }

  second_estimate : IsEstimate assets table Second
  second_estimate = record { like = record { locks = refl; preimages = refl }; lengths = marked_long marks.Falling 0 table }

  alike : (taken First tree ≡ taken Second tree) × Same First Second.pairs (taken First tree) (strict_of First tree) (strict_of Second tree)
  alike = same_strict First Second.pairs (λ key. sym (length_is assets table lengths First first_estimate key) ∙ length_is assets table lengths Second second_estimate key) tree

  -- the stacks, top first
  stacks_alike : (w v : Stack) → strict_of First tree ≡ Some w → strict_of Second tree ≡ Some v → Marks First Second.pairs (taken First tree) w v
  stacks_alike w v e f = go (strict_of First tree) (strict_of Second tree) e f alike.1
    where
      go : (m n : Option Stack) → m ≡ Some w → n ≡ Some v → Same First Second.pairs (taken First tree) m n → Marks First Second.pairs (taken First tree) w v
      go None n e f h = absurd (none-some w e)
      go (Some x) None e f h = absurd (none-some v f)
      go (Some x) (Some y) e f h =
          subst (λ s. Marks First Second.pairs (taken First tree) s v) (same_Some x w e) (subst (λ s. Marks First Second.pairs (taken First tree) x s) (same_Some y v f) h)

  same_size : (stack other : List Bytes) → strict tree First ≡ Some stack → strict tree Second ≡ Some other → length stack ≡ length other
  same_size stack other e f =
      let s = turned (strict_of First tree) stack e in
      let t = turned (strict_of Second tree) other f in
      let m = stacks_alike s.0 t.0 s.1 t.1 in
      sym (length-reverse stack) ∙ ap length (sym s.2) ∙ m.size ∙ ap length t.2 ∙ length-reverse other

  module _ (writable : IsWritable tree) (sane : IsSane tree) (are : AreMarked assets table First Second) where
    both_plan : plan_of tree assets table ≡ plan_with tree First
    both_plan = estimates_alike assets table lengths (estimated assets table) First (estimate_exists assets table are.held are.lengths).0 first_estimate tree

    other_plan : plan_of tree assets table ≡ plan_with tree Second
    other_plan = estimates_alike assets table lengths (estimated assets table) Second (estimate_exists assets table are.held are.lengths).0 second_estimate tree

    -- the keys whose signatures differ are those that are taken
    signers : (w v : Stack) → strict_of First tree ≡ Some w → strict_of Second tree ≡ Some v →
        filter (signs First (differing (reverse w) (reverse v))) (keys tree) ≡ taken First tree
    signers w v e f =
        part_filter (signs First (differing (reverse w) (reverse v))) (taken First tree) (keys tree) (taken_part First tree) (fits_of tree writable sane).distinct
        (λ k own i.
        let m = h.full k i in
        passes k m.0 m.3 (differs (reverse w) (reverse v) m.0 m.1 (have_reversed w v m.0 m.1 h.size m.2)
        (other_mark table k m.0 m.1 are.lengths.some are.lengths.few (first_mark assets table lengths marks.Rising k m.0 m.3)
        (first_mark assets table lengths marks.Falling k m.1 m.4))))
        (λ k own t. back k (sig_of First k) refl t)
      where
        h : Marks First Second.pairs (taken First tree) w v
        h = stacks_alike w v e f

        passes : (k : Key) (a : Bytes) → sig_of First k ≡ Some a → list_any (λ item. bytes_eq item a) (differing (reverse w) (reverse v)) ≡ true
            → signs First (differing (reverse w) (reverse v)) k ≡ true
        passes k a s t = ap (has_item (differing (reverse w) (reverse v))) s ∙ t

        back : (k : Key) (o : Option Bytes) → sig_of First k ≡ o → has_item (differing (reverse w) (reverse v)) o ≡ true → Contains (taken First tree) k
        back k None s t = absurd (false≢true t)
        back k (Some a) s t =
            let r = which_differs (reverse w) (reverse v) a t in
            elim (h.sound a r.0 (turned_have w v a r.0 h.size r.1)) [
              | inl same ↦ absurd (r.2 same)
              | inr p ↦ subst (Contains (taken First tree)) (own_mark table p.0 k a are.lengths.some (first_mark assets table lengths marks.Rising p.0 a p.2)
                  (first_mark assets table lengths marks.Rising k a s)) p.1
            ]

    some_is_plan : (stack other : List Bytes) (asked : List Key) (heavy : ℕ) → strict tree First ≡ Some stack → strict tree Second ≡ Some other →
        asked ≡ filter (signs First (differing stack other)) (keys tree) → heavy ≡ weight stack → Some (record { keys = asked; weight = heavy }) ≡ plan_of tree assets table
    some_is_plan stack other asked heavy e f k l =
        let s = turned (strict_of First tree) stack e in
        let t = turned (strict_of Second tree) other f in
        let r : filter (signs First (differing stack other)) (keys tree) ≡ taken First tree =
        ap (λ x. filter (signs First (differing x other)) (keys tree)) (again stack s.0 s.2)
        ∙ ap (λ x. filter (signs First (differing (reverse s.0) x)) (keys tree)) (again other t.0 t.2) ∙ signers s.0 t.0 s.1 t.1 in
        made asked heavy (k ∙ r) l ∙ sym (ap (option_map as_plan) e) ∙ sym both_plan
      where
        as_plan : List Bytes → Plan
        as_plan x = record { keys = taken First tree; weight = weight x }

        made : (ks : List Key) (n : ℕ) → ks ≡ taken First tree → n ≡ weight stack → Some (record { keys = ks; weight = n }) ≡ Some (as_plan stack)
        made ks n p q = rw (p, q) refl

        again : (one w : Stack) → w ≡ reverse one → one ≡ reverse w
        again one w p = sym (reverse-reverse one) ∙ ap reverse (sym p)

    none_is_plan : strict tree First ≡ None → None ≡ plan_of tree assets table
    none_is_plan e = sym (both_plan ∙ ap (option_map (λ (x : List Bytes). planned x)) e)
      where
        planned : List Bytes → Plan
        planned x = record { keys = taken First tree; weight = weight x }

    other_none_is_plan : strict tree Second ≡ None → None ≡ plan_of tree assets table
    other_none_is_plan e = sym (other_plan ∙ ap (option_map (λ (x : List Bytes). planned x)) e)
      where
        planned : List Bytes → Plan
        planned x = record { keys = taken Second tree; weight = weight x }

-- ---- the same of assets that are marked so

marked_ones : (assets : Assets) (table : Lengths) (first second : Assets) → AreMarked assets table first second →
    AreMarked assets table (with_marks assets table marks.Rising) (with_marks assets table marks.Falling)
marked_ones assets table first second m = record { held = m.held; lengths = m.lengths; rising = refl; falling = refl }

pub first_none : (tree : Tree) (assets : Assets) (table : Lengths) (first second : Assets) → IsWritable tree → IsSane tree → AreMarked assets table first second →
    strict tree first ≡ None → None ≡ plan_of tree assets table
first_none tree assets table first second writable sane m e =
    none_is_plan tree assets table m.lengths writable sane (marked_ones assets table first second m) (ap (strict tree) (sym m.rising) ∙ e)

pub second_none : (tree : Tree) (assets : Assets) (table : Lengths) (first second : Assets) → IsWritable tree → IsSane tree → AreMarked assets table first second →
    strict tree second ≡ None → None ≡ plan_of tree assets table
second_none tree assets table first second writable sane m e =
    other_none_is_plan tree assets table m.lengths writable sane (marked_ones assets table first second m) (ap (strict tree) (sym m.falling) ∙ e)

pub no_longer : (tree : Tree) (assets : Assets) (table : Lengths) (first second : Assets) (stack other : List Bytes) → AreMarked assets table first second →
    strict tree first ≡ Some stack → strict tree second ≡ Some other → length stack ≤ length other
no_longer tree assets table first second stack other m e f =
    let same = same_size tree assets table m.lengths stack other (ap (strict tree) (sym m.rising) ∙ e) (ap (strict tree) (sym m.falling) ∙ f) in
    omega (arith, same)

pub plan_found : (tree : Tree) (assets : Assets) (table : Lengths) (first second : Assets) (stack other signatures : List Bytes) (before asked : List Key) (heavy : ℕ) →
    IsWritable tree → IsSane tree → AreMarked assets table first second →
    strict tree first ≡ Some stack → strict tree second ≡ Some other → signatures ≡ differing stack other → before ≡ [] →
    asked ≡ before ++ filter (signs first signatures) (keys tree) → heavy ≡ weight stack → Some (record { keys = asked; weight = heavy }) ≡ plan_of tree assets table
plan_found tree assets table first second stack other signatures before asked heavy writable sane m e f s b k l =
    some_is_plan tree assets table m.lengths writable sane (marked_ones assets table first second m) stack other asked heavy
    (ap (strict tree) (sym m.rising) ∙ e) (ap (strict tree) (sym m.falling) ∙ f)
    (k ∙ ap (λ x. x ++ filter (signs first signatures) (keys tree)) b ∙ ap (λ x. filter (signs first x) (keys tree)) s ∙ ap (λ a. filter (signs a (differing stack other)) (keys tree)) m.rising)
    l
