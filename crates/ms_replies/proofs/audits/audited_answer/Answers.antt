use Rattle.std.proofs.Common.{◌≡◌, ◌<◌, true, List, All, ◌∙◌, sym, ap, subst}
use Rattle.std.specs.String.{string_bytes}
use Rattle.def_machine.specs.Stacks.{member}
use Rattle.def_machine.specs.Run.{accepted, run}
use Rattle.def_tree.specs.Size.{nodes}
use Rattle.def_emit.specs.Emit.{script_of}
use Rattle.def_audit.specs.declared.Step.{Step}
use Rattle.def_audit.specs.Derives.{Derives}
use Rattle.def_audit.proofs.StepNodes.{steps_are_of_tree}
use Rattle.def_answer.specs.Audit.{audit_report}
use Rattle.ms_interp.specs.Answering.{given_by}
use Rattle.ms_oracle.specs.Sound.{table_of}
use Rattle.ms_tree.specs.Shape.{shape}
use Rattle.ms_replies.specs.Runs.{file_seen}
use Rattle.ms_replies.proofs.AuditReplies.{accepted_reply}
use Rattle.ms_replies.proofs.audits.audited_answer.Goals as goal

pub audit_report-requires : goal.audit_report-requires
audit_report-requires c =
    subst (λ (steps : List Step). All (λ (step : Step). step.node < nodes (shape c.args.text.now.tree)) steps) (sym c.as_slice.ensures)
    (steps_are_of_tree (shape c.args.text.now.tree) (given_by (member (table_of c.new-sigs.result)) c.args.file.now.locks) true c.in-Ok.audit.trail c.args.file.now.stack
    (subst (λ t. Derives (shape t) (given_by (member (table_of c.new-sigs.result)) c.args.file.now.locks) true c.in-Ok.audit.trail c.args.file.now.stack)
    c.tree.ensures c.in-Ok.ensures.derives))

pub returns-in-Ok : goal.returns-in-Ok
returns-in-Ok c =
    let given = given_by (member (table_of c.new-sigs.result)) c.args.file.now.locks in
    let stack = c.args.file.now.stack in
    let found = c.in-Ok.audit in
    accepted_reply (shape c.args.text.now.tree) c.args.text.now.offsets.items (file_seen c.args.file.now) given found.trail
    found.report.ops found.report.peak found.report.checks (string_bytes c.in_ok-audit_report-in-Ok.field-0) c.requires.valid
    (ap (λ table. given_by (member table) c.args.file.now.locks) (c.new-sigs.ensures.table ∙ c.as_slice-pairs.ensures))
    (subst (λ t. run given (script_of (shape t)) stack ≡ accepted found.report.ops found.report.peak found.report.checks) c.tree.ensures c.in-Ok.ensures.outcome)
    (subst (λ t. Derives (shape t) given true found.trail stack) c.tree.ensures c.in-Ok.ensures.derives)
    (c.in_ok-audit_report-in-Ok.ensures ∙ ap (λ (steps : List Step). audit_report c.args.text.now.offsets.items steps found.report.ops found.report.peak) c.as_slice.ensures)
