-- From the run of a satisfaction to the lines of its report.
use Rattle.std.proofs.Common.{◌≡◌, List, refl, sym, subst}
use Rattle.def_script.specs.Bytes.{Bytes}
use Rattle.def_script.specs.Witness.{witness_text}
use Rattle.def_machine.specs.Stacks.{Pairs, member}
use Rattle.def_machine.specs.Run.{Outcome, run}
use Rattle.def_tree.specs.Tree.{Tree}
use Rattle.def_emit.specs.Emit.{script_of}
use Rattle.def_assets.specs.Assets.{Assets}
use Rattle.def_sane.specs.declared.Rules.{Rules}
use Rattle.def_choice.specs.NonMalleable.{given_with}
use Rattle.def_answer.specs.Satisfy.{outcome_with, satisfy_report}
use Rattle.ms_report.specs.declared.limits.Bounds.{Bounds}
use Rattle.ms_report.specs.Bounds.{bounds_of, bounds_line}
use Rattle.ms_report.specs.Satisfactions.{satisfaction_lines}
use Rattle.ms_report.proofs.ToldBounds.{told_bounds}

-- the replay is the run under the assets' own pairs
own_run : (tree : Tree) (assets : Assets) (stack : List Bytes) (table : Pairs) (outcome : Outcome) → table ≡ assets.pairs
    → run (given_with assets (member table)) (script_of tree) stack ≡ outcome → outcome_with tree assets stack ≡ outcome
own_run tree assets stack table outcome same ran = subst (λ t. run (given_with assets (member t)) (script_of tree) stack ≡ outcome) same ran

-- the lines of its Script, of the limits, of the stack, of the witness and of the run are those of the report
pub satisfied_lines : (rules : Rules) (tree : Tree) (assets : Assets) (stack : List Bytes) (table : Pairs) (outcome : Outcome)
    (bounds : Bounds) (script witness all : Bytes) → table ≡ assets.pairs
    → run (given_with assets (member table)) (script_of tree) stack ≡ outcome
    → bounds ≡ bounds_of rules tree → script ≡ script_of tree → witness ≡ witness_text stack (script_of tree)
    → all ≡ satisfaction_lines (bounds_line bounds) script stack witness outcome → all ≡ satisfy_report rules tree assets stack
unfolding satisfaction_lines satisfy_report
satisfied_lines rules tree assets stack table outcome bounds script witness all same_table ran is_bounds is_script is_witness e =
    let own : outcome ≡ outcome_with tree assets stack = sym (own_run tree assets stack table outcome same_table ran) in
    rw (e, told_bounds rules tree bounds is_bounds, is_script, is_witness, own) (refl {a = satisfy_report rules tree assets stack})
