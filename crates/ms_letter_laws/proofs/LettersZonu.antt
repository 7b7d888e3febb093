-- What the letters z, o, n and u of a type say of the satisfactions and dissatisfactions.
use Rattle.std.proofs.Common.{◌≤◌, true, ◌∷◌, length, reverse, sym, ◌∙◌, ap, subst, inl, inr, arith}
use Rattle.std.proofs.lemmas.List.{length-reverse, reverse-reverse}
use Rattle.def_tree.specs.Tree.{Tree}
use Rattle.def_tree.specs.Range.{IsWritable}
use Rattle.def_types.specs.declared.Base.TheVariants.{B}
use Rattle.def_types.specs.Typed.{type_of, IsTyped}
use Rattle.def_choice.proofs.Weights.{reverse-cons}
use Rattle.def_satisfaction.specs.Setting.{any}
use Rattle.def_satisfaction.specs.Rows.{ONE}
use Rattle.def_satisfaction.specs.Satisfaction.{full}
use Rattle.def_promises.specs.Letters.{ZeroArg, OneArg, NonZero, UnitValue}
use Rattle.ms_acceptance_laws.proofs.TreeEffects.{den}
use Rattle.ms_row_laws.proofs.RowLogs.{sat_log}
use Rattle.ms_row_laws.proofs.RowLengths.{takes_none, takes_one}
use Rattle.ms_row_laws.proofs.RowTops.{takes_item}
use Rattle.ms_row_laws.proofs.SmallThresholds.{Few}
use Rattle.ms_acceptance_laws.proofs.ForwardBases.{Ends, EndsB}
use Rattle.ms_acceptance_laws.proofs.ForwardFragments.{unit_ends}
use Rattle.ms_acceptance_laws.proofs.ForwardTrees.{sat_ends}
use Rattle.ms_acceptance_laws.proofs.Accepted.{short_items}
use Rattle.ms_acceptance_laws.proofs.ScriptRuns.{stop_or_leave}
use Rattle.ms_acceptance_laws.proofs.StackEffects.{left}
use Rattle.ms_row_laws.proofs.KeyLists.{all_reversed}

pub zero_arg : (node : Tree) → ZeroArg node (type_of node)
zero_arg node given mode stack z (inl sat) = sym (length-reverse stack) ∙ (takes_none (full given mode) node z).sat (reverse stack) sat
zero_arg node given mode stack z (inr dsat) = sym (length-reverse stack) ∙ (takes_none (full given mode) node z).dsat (reverse stack) dsat

pub one_arg : (node : Tree) → IsTyped node → OneArg node (type_of node)
one_arg node typed given mode stack o (inl sat) = sym (length-reverse stack) ∙ (takes_one (full given mode) node typed o).sat (reverse stack) sat
one_arg node typed given mode stack o (inr dsat) = sym (length-reverse stack) ∙ (takes_one (full given mode) node typed o).dsat (reverse stack) dsat

pub non_zero : (node : Tree) → IsTyped node → NonZero node (type_of node)
non_zero node typed given mode stack n =
    let items = takes_item (full given mode) node typed n in (
      λ dsat. (let l = items.dsat (reverse stack) dsat in omega (arith, l, length-reverse stack)),
      λ sat. (let top = items.sat (reverse stack) sat in
          (reverse top.1, top.0, sym (reverse-reverse stack) ∙ ap reverse top.2 ∙ reverse-cons top.0 top.1, top.3)),
    )

pub unit_value : (node : Tree) → IsWritable node → IsTyped node → Few node → UnitValue node (type_of node)
unit_value node writable typed few given stack below s place base u sat short live main =
    let log = sat_log (full given any) node (reverse stack) sat in
    let items = short_items 520 (omega arith) (reverse stack) (all_reversed (λ item. length item ≤ 520) stack short) in
    let e : EndsB true true (den given node) (reverse stack) below log =
    subst (λ a. Ends given.checker B a true (den given node) (reverse stack) below log) u
    (subst (λ c. Ends given.checker c (type_of node).u true (den given node) (reverse stack) below log) base
    ((sat_ends (full given any) node writable typed few (reverse stack) items sat).ends below)) in
    stop_or_leave given node s place (left (ONE ∷ below) _) writable live (ap (den given node) main ∙ unit_ends true (den given node) (reverse stack) below _ e)
