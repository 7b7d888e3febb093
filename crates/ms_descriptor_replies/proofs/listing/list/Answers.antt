use Rattle.std.proofs.Common.{◌+◌, subst, ◌∙◌}
use Rattle.std.specs.Prelude.{Option}
use Rattle.std.specs.declared.vec.Vec.{Vec}
use Rattle.std.specs.declared.alloc.Global.{Global}
use Rattle.std.specs.Prelude.{ℕ}
use Rattle.std.proofs.lemmas.Result.{IfOk-weaker}
use Rattle.def_descriptor_answer.specs.Reply.{reply}
use Rattle.ms_descriptor.specs.Bodies.{descriptor_at}
use Rattle.ms_descriptor_replies.specs.Asked.{derivation_at}
use Rattle.ms_descriptor_replies.specs.Scaffolding.Steps.{AddsIndex}
use Rattle.ms_descriptor_replies.proofs.Listed.{goes_next, goes_wrong, goes_last}
use Rattle.ms_descriptor_replies.proofs.listing.list.Goals as goal

pub returns-in-Some : goal.returns-in-Some
returns-in-Some c =
    let asked = c.args.asked.now in
    let d = descriptor_at asked.text.now c.args.descriptor.now in
    let wrong =
    goes_wrong d (derivation_at asked) (asked.index + asked.count) c.loop-index.index c.loop-index-test.true c.loop-index.report.items c.loop-index.invariant _
    c.in-Some.reason
    (subst (λ (z : Option (Vec ℕ Global)). AddsIndex asked.network asked.branch d c.loop-index.index c.loop-index.report.items c.push_index.new.report.items z)
    c.in-Some.is c.in_ok-reason.ensures) in
    IfOk-weaker c.nothing_at.result _ _ (λ made e. wrong.replies (reply made.status made.report.items) e)
    (c.nothing_at.ensures wrong.why (c.deref-in-Some.ensures.value ∙ wrong.is))

pub loop-index-preserved : goal.loop-index-preserved
loop-index-preserved c =
    let asked = c.args.asked.now in
    let d = descriptor_at asked.text.now c.args.descriptor.now in
    goes_next d (derivation_at asked) (asked.index + asked.count) c.loop-index.index c.loop-index-test.true c.loop-index.report.items c.loop-index.invariant _
    (subst (λ (z : Option (Vec ℕ Global)). AddsIndex asked.network asked.branch d c.loop-index.index c.loop-index.report.items c.push_index.new.report.items z)
    c.in_default.is c.in_ok-reason.ensures)

pub returns : goal.returns
returns c =
    let asked = c.args.asked.now in
    let d = descriptor_at asked.text.now c.args.descriptor.now in
    goes_last d (derivation_at asked) (asked.index + asked.count) c.loop-index.index c.loop-index.report.items c.loop-index-test.false c.loop-index.invariant
