use Rattle.std.proofs.Common.{◌≡◌, true, ◌∙◌, ap, subst}
use Rattle.def_machine.specs.Stacks.{member}
use Rattle.def_machine.specs.Run.{accepted, run}
use Rattle.def_emit.specs.Emit.{script_of}
use Rattle.def_audit.specs.Derives.{Derives}
use Rattle.def_audit.proofs.StepNodes.{steps_are_of_tree}
use Rattle.ms_interp.specs.Answering.{given_by}
use Rattle.ms_oracle.specs.Sound.{table_of}
use Rattle.ms_tree.specs.Shape.{shape}
use Rattle.ms_replies.specs.Runs.{file_seen}
use Rattle.ms_calls.specs.Stops.{Finds}
use Rattle.ms_calls.specs.TextReply.{told}
use Rattle.ms_calls.proofs.AuditLemmas.{accepted_same}
use Rattle.ms_calls.proofs.auditing.audited_of_stack.Goals as goal

pub accepted_by-requires : goal.accepted_by-requires
accepted_by-requires c =
    steps_are_of_tree (shape c.args.text.now.tree) (given_by (member (table_of c.new-sigs.result)) c.args.file.now.locks) true c.in-Ok-audit.audit.trail c.args.file.now.stack
    (subst (λ t. Derives (shape t) (given_by (member (table_of c.new-sigs.result)) c.args.file.now.locks) true c.in-Ok-audit.audit.trail c.args.file.now.stack)
    c.tree.ensures c.in-Ok-audit.ensures.derives)

pub returns-in-Ok-audit : goal.returns-in-Ok-audit
returns-in-Ok-audit c =
    let given = given_by (member (table_of c.new-sigs.result)) c.args.file.now.locks in
    let stack = c.args.file.now.stack in
    let found = c.in-Ok-audit.audit in
    subst (λ a. Finds (told a) c.accepted_by.result)
    (accepted_same (shape c.args.text.now.tree) c.args.text.now.offsets.items (file_seen c.args.file.now) given found.trail
    found.report.ops found.report.peak found.report.checks c.requires.valid
    (ap (λ table. given_by (member table) c.args.file.now.locks) (c.new-sigs.ensures.table ∙ c.as_slice-pairs.ensures))
    (subst (λ t. run given (script_of (shape t)) stack ≡ accepted found.report.ops found.report.peak found.report.checks) c.tree.ensures c.in-Ok-audit.ensures.outcome)
    (subst (λ t. Derives (shape t) given true found.trail stack) c.tree.ensures c.in-Ok-audit.ensures.derives))
    c.accepted_by.ensures
