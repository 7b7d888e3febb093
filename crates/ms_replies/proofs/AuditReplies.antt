-- From what an audit of a stack comes to, to the reply.
use Rattle.std.proofs.Common.{◌≡◌, ℕ, true, List, [], sym, ◌∙◌, ap, subst}
use Rattle.std.specs.Prelude.{unwrap_or}
use Rattle.def_script.specs.Bytes.{Bytes}
use Rattle.def_machine.specs.Stacks.{Pairs}
use Rattle.def_machine.specs.Machine.{Given}
use Rattle.def_machine.specs.Run.{accepted, run}
use Rattle.def_tree.specs.Tree.{Tree}
use Rattle.def_emit.specs.Emit.{script_of}
use Rattle.def_sane.specs.declared.Rules.TheVariants.{Policy}
use Rattle.def_sane.specs.Unfit.{IsValid}
use Rattle.def_sane.proofs.Meanings.{valid_under_consensus}
use Rattle.def_files.specs.RunFile.{RunFile}
use Rattle.def_audit.specs.declared.Step.{Step}
use Rattle.def_audit.specs.Derives.{Derives}
use Rattle.ms_audit_laws.proofs.WalkTrees.{walk_is_trail}
use Rattle.def_answer.specs.declared.status.Status.TheVariants as status
use Rattle.ms_answer_laws.specs.Laws.{steps_found}
use Rattle.def_answer.specs.Audit.{audit_report}
use Rattle.def_answer.specs.Reply.{reply, given_by, audited_reply}

-- the steps are those that the walk finds
pub accepted_reply : (tree : Tree) (offsets : List ℕ) (file : RunFile) (given : Given) (steps : List Step) (ops peak : ℕ) (checks : Pairs) (report : Bytes)
    → IsValid tree → given ≡ given_by file → run given (script_of tree) file.stack ≡ accepted ops peak checks
    → Derives tree given true steps file.stack → report ≡ audit_report offsets steps ops peak
    → reply status.Done report ≡ audited_reply offsets (steps_found tree file) (run (given_by file) (script_of tree) file.stack)
accepted_reply tree offsets file given steps ops peak checks report valid same is derives e =
    let ran = subst (λ g. run g (script_of tree) file.stack ≡ accepted ops peak checks) same is in
    let such = subst (λ g. Derives tree g true steps file.stack) same derives in
    let found : steps_found tree file ≡ steps
    = ap (λ o. unwrap_or o []) ((walk_is_trail tree (given_by file) steps file.stack (valid_under_consensus Policy tree valid)).1 such) in
    ap (reply status.Done) e ∙ ap (λ s. reply status.Done (audit_report offsets s ops peak)) (sym found)
    ∙ sym (ap (audited_reply offsets (steps_found tree file)) ran)
