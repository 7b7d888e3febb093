-- What it means that none of the reasons applies.
use Rattle.std.proofs.Common.{◌≡◌, ◌↔◌, ℕ, ◌≤◌, true, Bool, false, nat_lt, [], ◌∷◌, Option, Some, None, Result, Ok, Err, IsTrue, refl, sym, ◌∙◌, ap, subst, if◌then◌else◌, arith}
use Rattle.std.proofs.lemmas.Bool.{ltb-false, le-ltb}
use Rattle.def_tree.specs.Tree.{Tree}
use Rattle.def_types.specs.declared.Base.{Base}
use Rattle.def_types.specs.declared.Base.TheVariants.{B}
use Rattle.def_types.specs.declared.CorrectnessType.{CorrectnessType}
use Rattle.def_types.specs.declared.MalleabilityProperties.{MalleabilityProperties}
use Rattle.def_types.specs.declared.rule.RuleAt.{RuleAt}
use Rattle.def_types.specs.Correctness.{is_b, correctness_of}
use Rattle.def_types.specs.Malleable.{malleability_of}
use Rattle.def_types.specs.Typed.{type_of, IsTyped, properties_of, IsMalleabilityTyped}
use Rattle.def_types.proofs.Typing.{correctness_is_typed, malleability_is_typed}
use Rattle.def_sane.specs.declared.Rules.{Rules}
use Rattle.def_sane.specs.declared.Rules.TheVariants.{Policy, Consensus}
use Rattle.def_sane.specs.declared.Unfit.{Unfit}
use Rattle.def_sane.specs.declared.Unfit.TheVariants as unfit
use Rattle.def_limits.specs.declared.Limits.{Limits}
use Rattle.def_limits.specs.Scaffolding.Most.{limits_of}
use Rattle.def_sane.specs.Locks.{mix}
use Rattle.def_sane.specs.Keys.{keys, AreDistinct, repeated_key}
use Rattle.def_script.specs.Limits.{MAX_OPS_PER_SCRIPT}
use Rattle.def_sane.specs.Unfit.{size_limit, are_too_many, MOST_SIZE, MOST_ITEMS, broken_rule, wrong_top, malleable, no_signature, mixed_locks, repeated, first_reason, IsValidUnder, IsSaneUnder, IsValid, IsSane, first_unfit_valid_by}
use Rattle.def_sane.specs.Laws.{AreFewItems, IsValidWithin, ValidMeans, SaneMeans, ValidUnderConsensus, SaneUnderConsensus}
use Rattle.def_sane.proofs.FirstRepeat.{none_is_repeated}
use Rattle.def_limits.proofs.Greatest.{limits_are_computed}
use Rattle.def_sane.proofs.TheLimits.{reasons_are_by_limits}

-- five reasons of which none applies
none_of_five : (a b c d e : Option Unfit) → first_reason (a ∷ b ∷ c ∷ d ∷ e ∷ []) ≡ None ↔
    ((a ≡ None) × (b ≡ None) × (c ≡ None) × (d ≡ None) × (e ≡ None))
none_of_five a b c d e = grind arith

-- a reason that comes where a test passes
not_told : (b : Bool) (reason : Unfit) → (if b then Some reason else None) ≡ None → b ≡ false
not_told b reason = grind arith

bound_within : (most n : ℕ) (reason : Unfit) → n ≤ most → (if nat_lt most n then Some reason else None) ≡ None
bound_within most n reason h = rw (le-ltb most n h)

-- the items
pub few_items : (rules : Rules) (items : ℕ) → are_too_many rules items ≡ false → AreFewItems rules items
few_items Policy items e = ltb-false MOST_ITEMS items e
few_items Consensus items e = tt

not_too_many : (rules : Rules) (items : ℕ) → AreFewItems rules items → are_too_many rules items ≡ false
not_too_many Policy items h = le-ltb MOST_ITEMS items h
not_too_many Consensus items h = refl

within_items : (rules : Rules) (items : ℕ) (reason : Unfit) → AreFewItems rules items → (if are_too_many rules items then Some reason else None) ≡ None
within_items rules items reason h = let e = not_too_many rules items h in rw e refl

-- a type, and a top of type B
typed_from_none : (r : Result CorrectnessType RuleAt) → broken_rule r ≡ None → (ty : CorrectnessType) × (r ≡ Ok ty)
typed_from_none (Ok ty) e = (ty, refl)
typed_from_none (Err at) e = cc

b_from_none : (base : Base) → (if is_b base then None else Some unfit.TopNotB) ≡ None → base ≡ B
b_from_none base = grind arith

wrong_top-b : (ty : CorrectnessType) → ty.base ≡ B → wrong_top (Ok ty) ≡ None
wrong_top-b ty e = rw e

means_by : (rules : Rules) (tree : Tree) (limits : Limits) → (first_unfit_valid_by rules tree limits ≡ None) ↔ IsValidWithin rules tree limits
means_by rules tree limits = (forth, back)
  where
    forth : first_unfit_valid_by rules tree limits ≡ None → IsValidWithin rules tree limits
    forth valid =
        let none = (none_of_five _ _ _ _ _).0 valid in
        let typed = typed_from_none (correctness_of tree) none.0 in
        let known = (correctness_is_typed tree typed.0).0 typed.1 in
        let base : typed.0.base ≡ B = b_from_none typed.0.base (subst (λ r. wrong_top r ≡ None) typed.1 none.1) in (
          known.0,
          subst (λ (ty : CorrectnessType). ty.base ≡ B) known.1 base,
          ltb-false (size_limit rules) _ (not_told _ _ none.2),
          ltb-false MAX_OPS_PER_SCRIPT _ (not_told _ _ none.3),
          few_items rules _ (not_told _ _ none.4),
        )

    back : IsValidWithin rules tree limits → first_unfit_valid_by rules tree limits ≡ None
    back h =
        let typed : correctness_of tree ≡ Ok (type_of tree) = (correctness_is_typed tree (type_of tree)).1 (h.0, refl) in
        (none_of_five _ _ _ _ _).1 (
          ap broken_rule typed,
          ap wrong_top typed ∙ wrong_top-b (type_of tree) h.1,
          bound_within (size_limit rules) _ _ h.2,
          bound_within MAX_OPS_PER_SCRIPT _ _ h.3,
          within_items rules _ _ h.4,
        )

-- whatever limits a tree has are those by which it is valid
pub valid_means_within : ValidMeans
valid_means_within rules tree limits are =
    subst (λ reason. (reason ≡ None) ↔ IsValidWithin rules tree limits) (sym (reasons_are_by_limits rules tree limits are).0) (means_by rules tree limits)

-- by those that are computed
pub valid_means_under : (rules : Rules) (tree : Tree) → IsValidUnder rules tree ↔ IsValidWithin rules tree (limits_of tree)
valid_means_under rules tree = valid_means_within rules tree (limits_of tree) (limits_are_computed tree)

-- of policy
pub valid_means : (tree : Tree) →
    IsValid tree ↔ (IsTyped tree × ((type_of tree).base ≡ B) × ((limits_of tree).size ≤ MOST_SIZE) × ((limits_of tree).ops ≤ MAX_OPS_PER_SCRIPT) × ((limits_of tree).items ≤ MOST_ITEMS))
valid_means = valid_means_under Policy

-- properties, and a top with s
malleability_from_none : (r : Result MalleabilityProperties RuleAt) → malleable r ≡ None → (m : MalleabilityProperties) × (r ≡ Ok m)
malleability_from_none (Ok m) e = (m, refl)
malleability_from_none (Err at) e = cc

s_from_none : (s : Bool) → (if s then None else Some unfit.NoSignature) ≡ None → s ≡ true
s_from_none s = grind arith

no_signature-s : (m : MalleabilityProperties) → m.s ≡ true → no_signature (Ok m) ≡ None
no_signature-s m e = rw e

mix_from_none : (o : Option ℕ) → mixed_locks o ≡ None → o ≡ None
mix_from_none o = grind arith

repeat_from_none : (o : Option ℕ) → repeated o ≡ None → o ≡ None
repeat_from_none o = grind arith

pub sane_means_under : SaneMeans
sane_means_under rules tree = (forth, back)
  where
    forth : IsSaneUnder rules tree → IsValidUnder rules tree × IsMalleabilityTyped tree × IsTrue (properties_of tree).s × (mix tree ≡ None) × AreDistinct (keys tree)
    forth sane =
        let none = (none_of_five _ _ _ _ _).0 sane in
        let typed = malleability_from_none (malleability_of tree) none.1 in
        let known = (malleability_is_typed tree typed.0).0 typed.1 in
        let signed : typed.0.s ≡ true = s_from_none typed.0.s (subst (λ r. no_signature r ≡ None) typed.1 none.2) in (
          none.0,
          known.0,
          subst (λ (m : MalleabilityProperties). m.s ≡ true) known.1 signed,
          mix_from_none (mix tree) none.3,
          (none_is_repeated tree).0 (repeat_from_none (repeated_key tree) none.4),
        )

    back : IsValidUnder rules tree × IsMalleabilityTyped tree × IsTrue (properties_of tree).s × (mix tree ≡ None) × AreDistinct (keys tree) → IsSaneUnder rules tree
    back h =
        let typed : malleability_of tree ≡ Ok (properties_of tree) = (malleability_is_typed tree (properties_of tree)).1 (h.1, refl) in
        (none_of_five _ _ _ _ _).1 (
          h.0,
          ap malleable typed,
          ap no_signature typed ∙ no_signature-s (properties_of tree) h.2,
          ap mixed_locks h.3,
          ap repeated ((none_is_repeated tree).1 h.4),
        )

-- of policy
pub sane_means : (tree : Tree) →
    IsSane tree ↔ (IsValid tree × IsMalleabilityTyped tree × IsTrue (properties_of tree).s × (mix tree ≡ None) × AreDistinct (keys tree))
sane_means = sane_means_under Policy

-- the limits of consensus are the widest
size_limits : (rules : Rules) → size_limit rules ≤ size_limit Consensus
size_limits Policy = omega arith
size_limits Consensus = omega arith

pub valid_under_consensus : ValidUnderConsensus
valid_under_consensus rules tree valid =
    let means = (valid_means_under rules tree).0 valid in
    let size = size_limits rules in
    (valid_means_under Consensus tree).1 (means.0, means.1, omega (arith, means.2, size), means.3, tt)

pub sane_under_consensus : SaneUnderConsensus
sane_under_consensus rules tree sane =
    let means = (sane_means_under rules tree).0 sane in
    (sane_means_under Consensus tree).1 (valid_under_consensus rules tree means.0, means.1, means.2, means.3, means.4)
