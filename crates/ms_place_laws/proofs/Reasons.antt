-- Trees that differ in their keys alone are as good.
use Rattle.std.proofs.Common.{◌≡◌, ℕ, ◌+◌, List, [], ◌∷◌, ◌++◌, length, refl, sym, ap, ◌∙◌, Option, Some, None, Ok, Result}
use Rattle.std.specs.Prelude.{IsUtf8}
use Rattle.def_script.specs.Bytes.{Bytes}
use Rattle.def_script.specs.Instruction.{opcode_count}
use Rattle.def_tree.specs.Tree.{Key, Tree}
use Rattle.def_tree.specs.Range.{IsWritable}
use Rattle.def_text.proofs.SpelledWritable.{spelled_writable}
use Rattle.def_types.specs.declared.CorrectnessType.{CorrectnessType}
use Rattle.def_types.specs.declared.MalleabilityProperties.{MalleabilityProperties}
use Rattle.def_types.specs.declared.rule.RuleAt.{RuleAt}
use Rattle.def_types.specs.Correctness.{correctness_of}
use Rattle.def_types.specs.Malleable.{malleability_of}
use Rattle.def_table.specs.Table.{Row, row_of}
use Rattle.def_emit.specs.Emit.{emit, script_of}
use Rattle.def_limits.specs.declared.Limits.{Limits}
use Rattle.def_limits.specs.Formal.{Takes}
use Rattle.def_limits.specs.Scaffolding.Most.{most, number_of, limits_of}
use Rattle.def_sane.specs.declared.Rules.{Rules}
use Rattle.def_sane.specs.declared.Unfit.{Unfit}
use Rattle.def_sane.specs.TheLimits.{the_limits}
use Rattle.def_sane.specs.Locks.{mix}
use Rattle.def_sane.specs.Keys.{repeated_key}
use Rattle.def_sane.specs.Unfit.{broken_rule, wrong_top, too_large, too_many_ops, too_many_items, malleable, no_signature, mixed_locks, repeated, first_reason, first_unfit_under}
use Rattle.def_sane.proofs.TheLimits.{as_computed}
use Rattle.def_descriptor.specs.Parts.{Body}
use Rattle.def_descriptor.specs.Answer.{Descriptor, Answers}
use Rattle.def_descriptor.specs.Gives.{expressions_of, keys_at, HasTree}
use Rattle.ms_key_laws.specs.WithoutKeys.{without_keys}
use Rattle.ms_key_laws.proofs.Read.{trees_differ}
use Rattle.ms_place_laws.specs.Laws.{unless_repeated, AreAsGood}
use Rattle.ms_place_laws.proofs.Filled.{filled, same_filled}
use Rattle.ms_place_laws.proofs.Types.{type_filled, properties_filled}
use Rattle.ms_place_laws.proofs.Mixing.{mix_filled}
use Rattle.ms_place_laws.proofs.Scripts.{size_filled, opcodes_filled}
use Rattle.ms_place_laws.proofs.Taken.{row_filled}

-- ---- the limits

-- by the length of the Script, its opcodes, and what is taken at most
limits_by : (size opcodes : ℕ) → Row (Option Takes) (Option Takes) → Limits
limits_by size opcodes row = record {
  size = size;
  ops = opcodes + number_of (λ t. t.keys) row.sat;
  items = number_of (λ t. t.items) row.sat;
  weight = number_of (λ t. t.weight) row.sat;
}

computed_filled : (x : Tree) → IsWritable x → limits_of (filled x) ≡ limits_of x
unfolding limits_by
computed_filled x h =
    ap (λ (z : ℕ). limits_by z (opcode_count (emit (filled x))) (row_of most (filled x))) (sym (size_filled x h))
    ∙ (ap (λ (z : ℕ). limits_by (length (script_of x)) z (row_of most (filled x))) (sym (opcodes_filled x h))
    ∙ ap (limits_by (length (script_of x)) (opcode_count (emit x))) (row_filled x h))

limits_filled : (x : Tree) → IsWritable x → the_limits (filled x) ≡ the_limits x
limits_filled x h = as_computed (filled x) ∙ (computed_filled x h ∙ sym (as_computed x))

-- ---- the reasons

-- all but the last
other_reasons : (rules : Rules) → Result CorrectnessType RuleAt → Limits → Result MalleabilityProperties RuleAt → Option ℕ → List (Option Unfit)
other_reasons rules ty limits properties node =
    first_reason (broken_rule ty ∷ wrong_top ty ∷ too_large rules limits ∷ too_many_ops limits ∷ too_many_items rules limits ∷ [])
    ∷ malleable properties ∷ no_signature properties ∷ mixed_locks node ∷ []

last_left_out : (reasons : List (Option Unfit)) (last : Option ℕ) → unless_repeated (first_reason (reasons ++ repeated last ∷ [])) ≡ unless_repeated (first_reason reasons)
last_left_out [] None = refl
last_left_out [] (Some node) = refl
last_left_out (None ∷ rest) last = last_left_out rest last
last_left_out (Some reason ∷ rest) last = refl

by_others : (rules : Rules) (x : Tree)
    → unless_repeated (first_unfit_under rules x) ≡ unless_repeated (first_reason (other_reasons rules (correctness_of x) (the_limits x) (malleability_of x) (mix x)))
unfolding other_reasons
by_others rules x = last_left_out (other_reasons rules (correctness_of x) (the_limits x) (malleability_of x) (mix x)) (repeated_key x)

module _ (x y : Tree) (e : filled x ≡ filled y) (h : IsWritable x) (k : IsWritable y) where
  same_type : correctness_of x ≡ correctness_of y
  same_type = sym (type_filled x) ∙ (ap correctness_of e ∙ type_filled y)

  same_properties : malleability_of x ≡ malleability_of y
  same_properties = sym (properties_filled x) ∙ (ap malleability_of e ∙ properties_filled y)

  same_limits : the_limits x ≡ the_limits y
  same_limits = sym (limits_filled x h) ∙ (ap the_limits e ∙ limits_filled y k)

  same_mix : mix x ≡ mix y
  same_mix = sym (mix_filled x) ∙ (ap mix e ∙ mix_filled y)

  same_reasons : (rules : Rules) → unless_repeated (first_unfit_under rules x) ≡ unless_repeated (first_unfit_under rules y)
  same_reasons rules =
      by_others rules x
      ∙ (ap (λ z. unless_repeated (first_reason (other_reasons rules z (the_limits x) (malleability_of x) (mix x)))) same_type
      ∙ (ap (λ z. unless_repeated (first_reason (other_reasons rules (correctness_of y) z (malleability_of x) (mix x)))) same_limits
      ∙ (ap (λ z. unless_repeated (first_reason (other_reasons rules (correctness_of y) (the_limits y) z (mix x)))) same_properties
      ∙ (ap (λ z. unless_repeated (first_reason (other_reasons rules (correctness_of y) (the_limits y) (malleability_of y) z))) same_mix
      ∙ sym (by_others rules y)))))

pub as_good : (x y : Tree) → IsWritable x → IsWritable y → without_keys x ≡ without_keys y → AreAsGood x y
as_good x y h k e =
    let same = same_filled x y e in
    record { types = same_type x y same h k; limits = same_limits x y same h k; properties = same_properties x y same h k; reasons = same_reasons x y same h k }

-- ---- at two places of a descriptor

tree_writable : (body : Body) (keys : List Key) (tree : Tree) (offsets : List ℕ) → HasTree body keys tree offsets → IsWritable tree
tree_writable body keys tree offsets h = spelled_writable h.1.spelled

pub places_as_good : (text : Bytes) (own : Descriptor) (branch i other_branch j : ℕ) (keys others : List Key) (tree other : Tree) (offsets places : List ℕ)
    → IsUtf8 text → Answers text (Ok own) → keys_at branch i (expressions_of own.body) ≡ Ok keys → keys_at other_branch j (expressions_of own.body) ≡ Ok others
    → HasTree own.body keys tree offsets → HasTree own.body others other places → AreAsGood tree other
places_as_good text own branch i other_branch j keys others tree other offsets places utf8 h e f first second =
    as_good tree other (tree_writable own.body keys tree offsets first) (tree_writable own.body others other places second)
    (trees_differ text own branch i other_branch j keys others tree other offsets places utf8 h e f first second).0
