-- What is promised of plans.
use Rattle.std.proofs.Common.{◌≡◌, ℕ, ◌≤◌, true, List, length, reverse, Contains, Option, Some, None, IsSome, refl, sym, ◌∙◌, ap, subst, inl, inr, arith}
use Rattle.std.specs.Bool.{⊤}
use Rattle.std.specs.Option.{option_map}
use Rattle.std.proofs.lemmas.Bool.{cases_Bool}
use Rattle.std.proofs.lemmas.Option.{none-some, same_Some}
use Rattle.std.proofs.lemmas.List.{reverse-reverse}
use Rattle.def_script.specs.Bytes.{Bytes}
use Rattle.def_machine.specs.Stacks.{Stack, Pairs, member}
use Rattle.def_machine.specs.MultiSig.{is_good}
use Rattle.def_tree.specs.Tree.{Tree, Key}
use Rattle.def_tree.specs.Range.{IsWritable}
use Rattle.def_assets.specs.Assets.{Assets, AreAssets, sig_of}
use Rattle.def_sane.specs.Keys.{keys}
use Rattle.def_sane.specs.declared.Rules.TheVariants.{Policy, Consensus}
use Rattle.def_sane.specs.Unfit.{IsSane, IsSaneUnder}
use Rattle.def_sane.proofs.Meanings.{valid_means, sane_means, sane_under_consensus}
use Rattle.def_script.specs.Witness.{weight}
use Rattle.def_satisfaction.specs.Satisfaction.{Sat}
use Rattle.def_satisfaction.proofs.Held.{held_is_good, good_is_held}
use Rattle.def_choice.specs.Strict.{strict, strict_of}
use Rattle.def_choice.specs.Tight.{TightSat, Tight}
use Rattle.def_choice.proofs.Weights.{weight-reverse}
use Rattle.def_choice.proofs.Chosen.{strict_is_tight, tight_is_canonical}
use Rattle.ms_strict_laws.proofs.TightOptions.{Fits}
use Rattle.ms_strict_laws.proofs.StrictChoiceExists.{lightest_of_tight, tight_of_canonical}
use Rattle.ms_strict_laws.proofs.UnchangeableIsTight.{tight_if_non_malleable}
use Rattle.def_plan.specs.Lengths.{Lengths, AreLengths, length_of, IsLike, IsEstimate, estimated}
use Rattle.def_plan.specs.Taken.{taken}
use Rattle.def_plan.specs.Plan.{Plan, plan_with, plan_of, NoneIsExact, Suffices, WeighsAtMost, IsLeast, AsksListed, AsksNoneInVain, AsksInOrder, IsPartOf}
use Rattle.def_plan.specs.Laws.{IsInput, LengthsDecideAll}
use Rattle.ms_plan_laws.proofs.Moved.{with_pairs, tight_moved}
use Rattle.ms_plan_laws.proofs.Enough.{taken_enough}
use Rattle.ms_plan_laws.proofs.Vain.{vain}
use Rattle.ms_plan_laws.proofs.Order.{taken_part, part_distinct}
use Rattle.ms_plan_laws.proofs.Alike.{Same, same_strict}
use Rattle.ms_plan_laws.proofs.Found.{some_or_none, some_is, held_of, length_is, like_with, like_both, estimate_exists}

pub fits_of : (tree : Tree) → IsWritable tree → IsSane tree → Fits tree
fits_of tree writable sane =
    let s = (sane_means tree).0 sane in
    let v = (valid_means tree).0 s.0 in
    record { writable = writable; typed = v.0; safe = s.1; distinct = s.4 }

-- a tight stack beside a tight one
tight_beside : (one other : Assets) → AreAssets one → AreAssets other → IsLike one other → (Light : Type 0) →
    ((key sig : Bytes) → sig_of one key ≡ Some sig → (g : Bytes) × (sig_of other key ≡ Some g) × (Light → length g ≤ length sig)) →
    (tree : Tree) (stack : List Bytes) → Tight tree one stack → (v : List Bytes) × Tight tree other v × (Light → weight v ≤ weight stack)
tight_beside one other are others like Light covers tree stack tight =
    let x = tight_moved one other.pairs Light
    (λ key sig good.
    let held = good_is_held one key sig good in
    let g = covers key held.0 held.1 in
    let short = held.2 in
    (g.0, held_is_good other others key g.0 g.1, λ light. let a = g.2 light in omega (arith, a, short)))
    tree (reverse stack) tight in (
      reverse x.0,
      subst (λ a. TightSat a tree (reverse (reverse x.0))) (sym (like_with one other like)) (subst (TightSat (with_pairs one other.pairs) tree) (sym (reverse-reverse x.0)) x.1),
      λ light. let a = x.2 light in omega (arith, a, weight-reverse x.0, weight-reverse stack),
    )

-- a plan is a choice with its keys and its weight
pub record IsPlan (tree : Tree) (assets : Assets) (plan : Plan) : Type 0 where
  pub stack : Stack
  pub strict : strict_of assets tree ≡ Some stack
  pub keys : plan.keys ≡ taken assets tree
  pub weight : plan.weight ≡ weight stack

pub plan_is : (tree : Tree) (assets : Assets) (plan : Plan) → plan_with tree assets ≡ Some plan → IsPlan tree assets plan
plan_is tree assets plan h = go (strict_of assets tree) refl h
  where
    go : (o : Option Stack) → strict_of assets tree ≡ o → option_map (λ stack. record { keys = taken assets tree; weight = weight stack }) (option_map reverse o) ≡ Some plan → IsPlan tree assets plan
    go None e k = absurd (none-some plan k)
    go (Some w) e k = record { stack = w; strict = e; keys = cc; weight = cc (weight-reverse w) }

-- a stack with keys as a plan
abbrev as_plan : List Key → List Bytes → Plan
as_plan ks stack = record { keys = ks; weight = weight stack }

none_planned : (tree : Tree) (assets : Assets) → plan_with tree assets ≡ None → strict tree assets ≡ None
none_planned tree assets h = grind arith

none_or_some : {A : Type 0} (o : Option A) → ((x : A) → o ≡ Some x → ⊥) → o ≡ None
none_or_some o h = grind arith

-- with other signatures of the same lengths
plan_same : (tree : Tree) (assets : Assets) (pairs : Pairs) → ((key : Key) → option_map length (sig_of assets key) ≡ option_map length (sig_of (with_pairs assets pairs) key)) →
    plan_with tree assets ≡ plan_with tree (with_pairs assets pairs)
plan_same tree assets pairs lengths =
    let h = same_strict assets pairs lengths tree in
    go (strict_of assets tree) (strict_of (with_pairs assets pairs) tree) (taken assets tree) (taken (with_pairs assets pairs) tree) h.0 h.1
  where
    go : (m n : Option Stack) (ks ls : List Key) → ks ≡ ls → Same assets pairs (taken assets tree) m n →
        option_map (as_plan ks) (option_map reverse m) ≡ option_map (as_plan ls) (option_map reverse n)
    go m n ks ls e h = grind (arith, weight-reverse)

-- two estimates
pub estimates_alike : (assets : Assets) (table : Lengths) → AreLengths table → (one other : Assets) → IsEstimate assets table one
    → IsEstimate assets table other → (tree : Tree) → plan_with tree one ≡ plan_with tree other
estimates_alike assets table lengths one other h k tree =
    let e = like_with one other (like_both assets one other h.like k.like) in
    plan_same tree one other.pairs (λ key. sym (length_is assets table lengths one h key) ∙ length_is assets table lengths other k key ∙ ap (λ a. option_map length (sig_of a key)) e)
    ∙ ap (plan_with tree) (sym e)

pub lengths_decide : LengthsDecideAll
lengths_decide tree assets table input other are estimate =
    estimates_alike assets table input.lengths (estimated assets table) other (estimate_exists assets table input.held input.lengths).0 estimate tree

length_of_some : (o : Option Bytes) (n : ℕ) → option_map length o ≡ Some n → (g : Bytes) × (o ≡ Some g) × (length g ≡ n)
length_of_some o n h = grind arith

module _ (tree : Tree) (assets : Assets) (table : Lengths) where
  abbrev F : Assets
  F = estimated assets table

  module _ (input : IsInput tree assets table) where
    is_estimate : IsEstimate assets table F
    is_estimate = (estimate_exists assets table input.held input.lengths).0

    are_assets : AreAssets F
    are_assets = (estimate_exists assets table input.held input.lengths).1

    sane : IsSaneUnder Consensus tree
    sane = sane_under_consensus Policy tree input.sane

    -- a listed key has a signature of its length
    listed : (key : Key) (n : ℕ) → length_of table key ≡ Some n → (g : Bytes) × (sig_of F key ≡ Some g) × (length g ≡ n)
    listed key n h = length_of_some (sig_of F key) n (sym (length_is assets table input.lengths F is_estimate key) ∙ h)

    of_length : (key : Key) (sig : Bytes) → sig_of F key ≡ Some sig → length_of table key ≡ Some (length sig)
    of_length key sig h = length_is assets table input.lengths F is_estimate key ∙ ap (option_map length) h

    pub none_holds : NoneIsExact tree assets table (plan_of tree assets table)
    none_holds other are like sign = (
      λ none stack sat.
          let t = tight_of_canonical tree other stack input.writable sane are sat in
          let v = tight_beside other F are are_assets (like_both assets other F like is_estimate.like) ⊥
          (λ key sig h.
          let n = some_or_none (length_of table key) ((sign key).0 (some_is _ sig h)) in
          let g = listed key n.0 n.1 in
          (g.0, g.1, λ never. absurd never)) tree t.0 t.1 in
          let s = lightest_of_tight tree F v.0 input.writable sane are_assets v.1 in
          none-some s.0 (sym (none_planned tree F none) ∙ s.1),
      λ never. none_or_some (plan_of tree assets table) (λ plan h.
          let p = plan_is tree F plan h in
          let t = strict_is_tight tree F (reverse p.stack) input.writable are_assets (ap (option_map reverse) p.strict) in
          let v = tight_beside F other are_assets are (like_both assets F other is_estimate.like like) ⊥
          (λ key sig h.
          let g = some_or_none (sig_of other key) ((sign key).1 (some_is _ (length sig) (of_length key sig h))) in
          (g.0, g.1, λ never. absurd never)) tree (reverse p.stack) t in
          never v.0 (tight_is_canonical tree other v.0 v.1)),
    )

  module _ (plan : Plan) (input : IsInput tree assets table) (found : plan_of tree assets table ≡ Some plan) where
    is : IsPlan tree F plan
    is = plan_is tree F plan found

    -- a tight stack where the plan's keys sign
    tight_there : (other : Assets) → AreAssets other → IsLike assets other → (Light : Type 0) →
        ((key : Key) → Contains plan.keys key → (sig : Bytes) → sig_of F key ≡ Some sig → (g : Bytes) × (sig_of other key ≡ Some g) × (Light → length g ≤ length sig)) →
        (v : List Bytes) × Tight tree other v × (Light → weight v ≤ plan.weight)
    tight_there other are like Light signed =
        let x = taken_enough Light F other.pairs (are_assets input) tree input.writable
        (λ key i sig h.
        let g = signed key (subst (λ ks. Contains ks key) (sym is.keys) i) sig h in
        (g.0, held_is_good other are key g.0 g.1, g.2)) is.stack is.strict in (
          reverse x.0,
          subst (λ a. TightSat a tree (reverse (reverse x.0))) (sym (like_with F other (like_both assets F other (is_estimate input).like like)))
              (subst (TightSat (with_pairs F other.pairs) tree) (sym (reverse-reverse x.0)) x.1),
          λ light. let a = x.2 light in let c = is.weight in omega (arith, a, c, weight-reverse x.0),
        )

    pub suffices_always : Suffices tree assets plan
    suffices_always other are like sign =
        let t = tight_there other are like ⊥
        (λ key i sig h. let g = some_or_none (sig_of other key) (sign key i) in (g.0, g.1, λ never. absurd never)) in
        let s = lightest_of_tight tree other t.0 input.writable (sane input) are t.1 in
        some_is _ s.0 s.1

    pub weighs_at_most_always : WeighsAtMost tree assets table plan
    weighs_at_most_always other are like sign =
        let t = tight_there other are like ⊤ short in
        let s = lightest_of_tight tree other t.0 input.writable (sane input) are t.1 in
        (s.0, s.1, let a = t.2 tt in let b = s.2 in omega (arith, a, b))
      where
        short : (key : Key) → Contains plan.keys key → (sig : Bytes) → sig_of F key ≡ Some sig → (g : Bytes) × (sig_of other key ≡ Some g) × (⊤ → length g ≤ length sig)
        short key i sig h =
            let n = sign key i in
            let l = same_Some n.0 (length sig) (sym n.2 ∙ of_length input key sig h) in
            let m = n.4 in
            (n.1, n.3, λ light. omega (arith, l, m))

    pub least_always : IsLeast tree assets table plan
    least_always other stack are fits sat unchanged =
        let t = tight_if_non_malleable tree other stack input.writable (sane input) are sat unchanged in
        let v = tight_beside other F are (are_assets input) (like_both assets other F fits.like (is_estimate input).like) ⊤ shorter tree stack t in
        let s = lightest_of_tight tree F v.0 input.writable (sane input) (are_assets input) v.1 in
        let e = same_Some s.0 (reverse is.stack) (sym s.1 ∙ ap (option_map reverse) is.strict) in
        let w : weight s.0 ≡ weight (reverse is.stack) = ap weight e in
        let a = v.2 tt in
        let b = s.2 in
        let c = is.weight in
        omega (arith, a, b, c, w, weight-reverse is.stack)
      where
        shorter : (key sig : Bytes) → sig_of other key ≡ Some sig → (g : Bytes) × (sig_of F key ≡ Some g) × (⊤ → length g ≤ length sig)
        shorter key sig h =
            let n = fits.pairs key sig (held_of other key sig h) in
            let g = listed input key n.0 n.1 in
            let l = g.2 in
            let m = n.2 in
            (g.0, g.1, λ light. omega (arith, l, m))

    pub listed_always : AsksListed table plan
    listed_always key i =
        let h = rw is.strict at (same_strict F F.pairs (λ k. refl) tree).1 in
        let f = h.full key (subst (λ ks. Contains ks key) is.keys i) in
        some_is _ (length f.0) (of_length input key f.0 f.3)

    pub none_in_vain_ever : AsksNoneInVain tree assets plan
    none_in_vain_ever key other stack i are like sign sat =
        vain F (are_assets input) other.pairs tree (fits_of tree input.writable input.sane) is.stack is.strict
        (λ k sig own good. subst (λ ks. Contains ks k) is.keys ((sign k).0 (signs k sig good)).0) (
          key,
          subst (λ ks. Contains ks key) is.keys i,
          λ sig. elim (cases_Bool (is_good (member other.pairs) key sig)) [
            | inl good ↦ absurd (((sign key).0 (signs key sig good)).1 refl)
            | inr bad ↦ bad
          ],
        )
        (reverse stack) (subst (λ a. Sat tree a stack) (like_with F other (like_both assets F other (is_estimate input).like like)) sat)
      where
        signs : (k : Key) (sig : Bytes) → is_good (member other.pairs) k sig ≡ true → IsSome (sig_of other k)
        signs k sig good = let held = good_is_held other k sig good in some_is _ held.0 held.1

    pub in_order_always : AsksInOrder tree plan
    in_order_always =
        let part = subst (λ ks. IsPartOf ks (keys tree)) (sym is.keys) (taken_part F tree) in
        record { order = part; once = part_distinct plan.keys (keys tree) part (fits_of tree input.writable input.sane).distinct }
