use Rattle.std.proofs.Common.{◌<◌, ◌≤◌, ◌+◌, suc, length, Ok, Err, refl, sym, ap, subst, ◌∙◌, arith}
use Rattle.std.specs.List.Sorted.{IsStrictlyIncreasing}
use Rattle.ms_psbt.specs.declared.maps.Step.TheVariants as step
use Rattle.ms_psbt.specs.declared.repeats.Keys.TheVariants as keys
use Rattle.ms_psbt.specs.Scaffolding.Kinds.{forms_of}
use Rattle.ms_psbt.specs.Scaffolding.Repeats.{key_at, places_of}
use Rattle.ms_psbt.specs.Scaffolding.Walks.{IsStepWithin, walk_from, walk_of}
use Rattle.ms_psbt.proofs.Marking.{places_more, marks_more}
use Rattle.ms_psbt.proofs.Walked.{Before, WalksOn, more_before, walk_ended, walk_fault, walk_pair}
use Rattle.ms_psbt.proofs.Walking.{fault_marked, pair_marked}
use Rattle.ms_psbt.proofs.maps.walk.Goals as goal

pub returns-in-End-clause-walk : goal.returns-in-End-clause-walk
returns-in-End-clause-walk c =
    walk_ended (forms_of c.args.kind) c.args.psbt.now c.loop-next.at (places_of c.loop-next.places.items) _ c.loop-next.invariant.0 c.loop-next.invariant.2
    (Ok c.in-End.next) (step.End c.in-End.next) (sym c.in_ok-next.ensures.step ∙ c.in-End.is) (λ next. refl)

pub returns-in-Cut-clause-walk : goal.returns-in-Cut-clause-walk
returns-in-Cut-clause-walk c =
    walk_ended (forms_of c.args.kind) c.args.psbt.now c.loop-next.at (places_of c.loop-next.places.items) _ c.loop-next.invariant.0 c.loop-next.invariant.2
    (Err c.in-Cut.refusal) (step.Cut c.in-Cut.refusal) (sym c.in_ok-next.ensures.step ∙ c.in-Cut.is) (λ next. refl)

pub returns-in-Fault-clause-walk : goal.returns-in-Fault-clause-walk
returns-in-Fault-clause-walk c =
    let is = sym c.in_ok-next.ensures.step ∙ c.in-Fault.is in
    let marked = fault_marked (forms_of c.args.kind) c.args.psbt.now c.loop-next.at c.in-Fault.place c.in-Fault.refusal is in
    ap (λ places. walk_of places (Err c.in-Fault.refusal)) (places_more c.loop-next.places.items _ c.in-Fault.place
    (key_at keys.Pairs c.args.psbt.now c.loop-next.at) c.loop-next.at c.in_ok-push-in-Fault.ensures.items marked)
    ∙ walk_fault (forms_of c.args.kind) c.args.psbt.now c.loop-next.at (places_of c.loop-next.places.items) _ c.loop-next.invariant.0 c.loop-next.invariant.2
    c.in-Fault.place c.in-Fault.refusal is

pub returns-in-Fault-clause-up : goal.returns-in-Fault-clause-up
returns-in-Fault-clause-up c =
    let marked = fault_marked (forms_of c.args.kind) c.args.psbt.now c.loop-next.at c.in-Fault.place c.in-Fault.refusal (sym c.in_ok-next.ensures.step ∙ c.in-Fault.is) in
    let before = more_before (places_of c.loop-next.places.items) c.loop-next.at (c.loop-next.at + 1) c.loop-next.invariant.1 (omega arith) in
    subst IsStrictlyIncreasing (sym (places_more c.loop-next.places.items _ c.in-Fault.place
    (key_at keys.Pairs c.args.psbt.now c.loop-next.at) c.loop-next.at c.in_ok-push-in-Fault.ensures.items marked)) before.up

pub returns-in-Fault-clause-marks : goal.returns-in-Fault-clause-marks
returns-in-Fault-clause-marks c =
    marks_more keys.Pairs c.args.psbt.now c.loop-next.places.items _ c.in-Fault.place c.loop-next.at c.in_ok-push-in-Fault.ensures.items
    (fault_marked (forms_of c.args.kind) c.args.psbt.now c.loop-next.at c.in-Fault.place c.in-Fault.refusal (sym c.in_ok-next.ensures.step ∙ c.in-Fault.is))
    c.loop-next.invariant.3

pub loop-next-preserved : goal.loop-next-preserved
loop-next-preserved c =
    let forms = forms_of c.args.kind in
    let psbt = c.args.psbt.now in
    let end = c.in-Pair.next in
    let is = sym c.in_ok-next.ensures.step ∙ c.in-Pair.is in
    let within : (c.loop-next.at < c.in-Pair.next) × (c.in-Pair.next ≤ length c.args.psbt.now) =
    subst (λ s. IsStepWithin c.loop-next.at (length c.args.psbt.now) s) c.in-Pair.is c.in_ok-next.ensures.within in
    let marked = pair_marked (forms_of c.args.kind) c.args.psbt.now c.loop-next.at c.in-Pair.place c.in-Pair.next is in
    let more = places_more c.loop-next.places.items _ c.in-Pair.place (key_at keys.Pairs c.args.psbt.now c.loop-next.at) c.loop-next.at c.in_ok-push-in-Pair.ensures.items marked in (
      within.1,
      subst (λ places. Before places end) (sym more) (more_before (places_of c.loop-next.places.items) c.loop-next.at end c.loop-next.invariant.1 within.0),
      subst (λ places. WalksOn forms psbt end places (walk_from (forms_of c.args.kind) c.args.psbt.now (suc (length c.args.psbt.now)) c.args.from)) (sym more)
          (walk_pair forms psbt c.loop-next.at (places_of c.loop-next.places.items) _ c.loop-next.invariant.0 c.loop-next.invariant.2 c.in-Pair.place end is within.0),
      marks_more keys.Pairs psbt c.loop-next.places.items _ c.in-Pair.place c.loop-next.at c.in_ok-push-in-Pair.ensures.items marked c.loop-next.invariant.3,
    )
