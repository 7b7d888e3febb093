-- From what an audit of a stack comes to, to what is told.
use Rattle.std.proofs.Common.{◌≡◌, ℕ, true, List, [], sym, ◌∙◌, ap, subst}
use Rattle.std.specs.Prelude.{unwrap_or}
use Rattle.def_machine.specs.Stacks.{Pairs}
use Rattle.def_machine.specs.Machine.{Given}
use Rattle.def_machine.specs.Run.{accepted, run}
use Rattle.def_tree.specs.Tree.{Tree}
use Rattle.def_emit.specs.Emit.{script_of}
use Rattle.def_sane.specs.declared.Rules.TheVariants.{Policy}
use Rattle.def_sane.specs.Unfit.{IsValid}
use Rattle.def_sane.proofs.Meanings.{valid_under_consensus}
use Rattle.def_files.specs.RunFile.{RunFile}
use Rattle.def_audit.specs.declared.Step.{Step}
use Rattle.def_audit.specs.Derives.{Derives}
use Rattle.ms_answer_laws.specs.Laws.{steps_found}
use Rattle.def_answer.specs.Reply.{given_by}
use Rattle.ms_audit_laws.proofs.WalkTrees.{walk_is_trail}
use Rattle.ms_replies.specs.Runs.{outcome_for}
use Rattle.ms_calls.specs.Audited.{audited}

-- the steps are those that the walk finds
pub accepted_same : (tree : Tree) (offsets : List ℕ) (file : RunFile) (given : Given) (steps : List Step) (ops peak : ℕ) (checks : Pairs)
    → IsValid tree → given ≡ given_by file → run given (script_of tree) file.stack ≡ accepted ops peak checks → Derives tree given true steps file.stack
    → audited offsets steps (accepted ops peak checks) ≡ audited offsets (steps_found tree file) (outcome_for tree file)
accepted_same tree offsets file given steps ops peak checks valid same is derives =
    let ran = subst (λ g. run g (script_of tree) file.stack ≡ accepted ops peak checks) same is in
    let such = subst (λ g. Derives tree g true steps file.stack) same derives in
    let found : steps_found tree file ≡ steps
    = ap (λ o. unwrap_or o []) ((walk_is_trail tree (given_by file) steps file.stack (valid_under_consensus Policy tree valid)).1 such) in
    ap (λ s. audited offsets s (accepted ops peak checks)) (sym found) ∙ sym (ap (audited offsets (steps_found tree file)) ran)
