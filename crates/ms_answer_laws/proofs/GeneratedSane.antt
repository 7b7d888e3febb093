-- The generated trees are sane.
use Rattle.std.proofs.Common.{◌≡◌, ℕ, zero, suc, ◌+◌, ◌≤◌, Bool, true, false, ◌&&◌, nat_le, is_none, Option, Some, None, Result, Ok, Err, length, refl, ap, arith}
use Rattle.std.specs.Prelude.{⊤}
use Rattle.std.proofs.lemmas.Bool.{leb-true, le-ltb, and_parts}
use Rattle.def_tree.specs.Tree.{Tree, Trees, none, more}
use Rattle.def_tree.specs.Range.{count}
use Rattle.def_types.specs.declared.CorrectnessType.{CorrectnessType}
use Rattle.def_types.specs.declared.MalleabilityProperties.{MalleabilityProperties}
use Rattle.def_types.specs.declared.rule.RuleAt.{RuleAt}
use Rattle.def_types.specs.Correctness.{is_b, correctness_of}
use Rattle.def_types.specs.Malleable.{malleability_of}
use Rattle.def_emit.specs.Emit.{emit, script_of}
use Rattle.def_limits.specs.Formal.{Takes}
use Rattle.def_script.specs.Instruction.{opcode_count}
use Rattle.def_sane.specs.Locks.{mix}
use Rattle.def_sane.specs.Keys.{repeated_key}
use Rattle.def_limits.specs.Scaffolding.Most.{both, either, most_sat, most_dsat, most_parts, number_of, limits_of}
use Rattle.def_sane.specs.declared.Rules.TheVariants.{Policy}
use Rattle.def_sane.proofs.TheLimits.{valid_by_computed}
use Rattle.def_sane.specs.Unfit.{broken_rule, wrong_top, malleable, no_signature, mixed_locks, repeated, IsValid, IsSane}
use Rattle.def_answer.specs.Generated.{threshold_of, child, generated_children, generated_tree}
use Rattle.ms_answer_laws.specs.Laws.{GeneratedIsSane}
use Rattle.ms_answer_laws.proofs.Decided.{none_tells}
use Rattle.ms_answer_laws.proofs.Computing.{answers_on_literals}
use Rattle.ms_answer_laws.proofs.UpTo.{UpTo, holds_at}

-- ---- what each child takes

-- one item, and no key of a `multi`
abbrev TakesSome : (items : ℕ) → Option Takes → Type 0
TakesSome items None = ⊤
TakesSome items (Some t) = (t.items ≡ items) × (t.keys ≡ 0)

record IsSmall (x : Tree) : Type 0 where
  sat : TakesSome 1 (most_sat x)
  dsat : TakesSome 1 (most_dsat x)

child_is_small : (i : ℕ) → IsSmall (child i)
child_is_small i = grind arith

abbrev AreSmall : Trees → Type 0
AreSmall none = ⊤
AreSmall (more x xs) = IsSmall x × AreSmall xs

children_are_small : (n i : ℕ) → AreSmall (generated_children n i)
children_are_small zero i = tt
children_are_small (suc n) i = (child_is_small i, children_are_small n (i + 1))

both_take : (m k : ℕ) (a b : Option Takes) → TakesSome m a → TakesSome k b → TakesSome (m + k) (both a b)
both_take m k a b h l = grind arith

either_takes : (m : ℕ) (a b : Option Takes) → TakesSome m a → TakesSome m b → TakesSome m (either a b)
either_takes m a b h l = grind arith

parts_take : (xs : Trees) (k : ℕ) → AreSmall xs → TakesSome (count xs) (most_parts xs k)
parts_take none zero h = (refl, refl)
parts_take none (suc k) h = tt
parts_take (more x xs) zero h = both_take (count xs) 1 (most_parts xs zero) (most_dsat x) (parts_take xs zero h.1) h.0.dsat
parts_take (more x xs) (suc k) h =
    either_takes (count xs + 1) (both (most_parts xs k) (most_sat x)) (both (most_parts xs (suc k)) (most_dsat x))
    (both_take (count xs) 1 (most_parts xs k) (most_sat x) (parts_take xs k h.1) h.0.sat)
    (both_take (count xs) 1 (most_parts xs (suc k)) (most_dsat x) (parts_take xs (suc k) h.1) h.0.dsat)

counted_children : (n i : ℕ) → count (generated_children n i) ≡ n
counted_children zero i = refl
counted_children (suc n) i = let rest = counted_children n (i + 1) in omega (arith, rest)

-- ---- what is tested of a tree, its satisfactions aside

abbrev type_fits : Result CorrectnessType RuleAt → Bool
type_fits (Ok ty) = is_b ty.base
type_fits (Err at) = false

abbrev malleability_fits : Result MalleabilityProperties RuleAt → Bool
malleability_fits (Ok m) = m.s
malleability_fits (Err at) = false

abbrev fits : Tree → Bool
fits tree =
    type_fits (correctness_of tree) && (malleability_fits (malleability_of tree) && (is_none (mix tree) && (is_none (repeated_key tree)
    && (nat_le (length (script_of tree)) 3600 && nat_le (opcode_count (emit tree)) 201))))

abbrev IsFit : ℕ → Type 0
IsFit n = fits (generated_tree n) ≡ true

fit_10 : UpTo IsFit 10
unfolding answers_on_literals
fit_10 = ((((((((((tt, refl), refl), refl), refl), refl), refl), refl), refl), refl), refl)

fit_20 : UpTo IsFit 20
unfolding answers_on_literals
fit_20 = ((((((((((fit_10, refl), refl), refl), refl), refl), refl), refl), refl), refl), refl)

fit_30 : UpTo IsFit 30
unfolding answers_on_literals
fit_30 = ((((((((((fit_20, refl), refl), refl), refl), refl), refl), refl), refl), refl), refl)

-- ---- no reason stands against it

no_broken_rule : (r : Result CorrectnessType RuleAt) → type_fits r ≡ true → (broken_rule r ≡ None) × (wrong_top r ≡ None)
no_broken_rule r e = grind arith

not_malleable : (r : Result MalleabilityProperties RuleAt) → malleability_fits r ≡ true → (malleable r ≡ None) × (no_signature r ≡ None)
not_malleable r e = grind arith

few_items : (m : ℕ) (o : Option Takes) → TakesSome m o → m ≤ 100 → (number_of (λ t. t.items) o ≤ 100)
    × (number_of (λ t. t.keys) o ≡ 0)
few_items m o h few = grind arith

sane_tree : (tree : Tree) (m : ℕ) → fits tree ≡ true → TakesSome m (most_sat tree) → m ≤ 100 → IsSane tree
sane_tree tree m e takes few =
    let p1 = and_parts (type_fits (correctness_of tree)) _ e in
    let p2 = and_parts (malleability_fits (malleability_of tree)) _ p1.1 in
    let p3 = and_parts (is_none (mix tree)) _ p2.1 in
    let p4 = and_parts (is_none (repeated_key tree)) _ p3.1 in
    let p5 = and_parts (nat_le (length (script_of tree)) 3600) _ p4.1 in
    let typed = no_broken_rule (correctness_of tree) p1.0 in
    let signed = not_malleable (malleability_of tree) p2.0 in
    let items = few_items m (most_sat tree) takes few in
    let size : (limits_of tree).size ≤ 3600 = leb-true (length (script_of tree)) 3600 p5.0 in
    let codes : opcode_count (emit tree) ≤ 201 = leb-true (opcode_count (emit tree)) 201 p5.1 in
    let ops : (limits_of tree).ops ≤ 201 = let keys = items.1 in omega (arith, codes, keys) in
    let mixed = ap mixed_locks ((none_tells (mix tree)).0 p3.0) in
    let repeats = ap repeated ((none_tells (repeated_key tree)).0 p4.0) in
    let valid : IsValid tree = valid_by_computed Policy tree (rw (typed.0, typed.1, le-ltb 3600 _ size, le-ltb 201 _ ops, le-ltb 100 _ items.0)) in
    rw (valid, signed.0, signed.1, mixed, repeats)

pub generated_is_sane : GeneratedIsSane
generated_is_sane n some few =
    let same = counted_children n 0 in
    sane_tree (generated_tree n) (count (generated_children n 0)) (holds_at IsFit 30 n fit_30 some few)
    (parts_take (generated_children n 0) (threshold_of n) (children_are_small n 0)) (omega (arith, same))
