use Rattle.std.proofs.Common.{rules, ◌≡◌, ℕ, ◌*◌, ◌/◌, ◌%◌, ap, sym, subst, ◌∙◌, Option, Ok, Err}
use Rattle.std.specs.Map.{lookup}
use Rattle.std.specs.declared.vec.Vec.{Vec}
use Rattle.std.specs.declared.alloc.Global.{Global}
use Rattle.def_descriptor.specs.Gives.{branch_count}
use Rattle.def_descriptor_answer.specs.Lines.{place_refused_line}
use Rattle.def_descriptor_answer.specs.Update.{KnowsFrom}
use Rattle.ms_descriptor.specs.Bodies.{descriptor_at}
use Rattle.ms_outputs.specs.Keys.{expressions_of_body}
use Rattle.ms_outputs.specs.Starts.{AreStarts}
use Rattle.ms_descriptor_update.specs.Scaffolding.Steps.{PutsPlace}
use Rattle.ms_descriptor_update.proofs.Filling.{fills_first, fills_next, fills_wrong, fills_last}
use Rattle.ms_descriptor_update.proofs.Whole.{booked}
use Rattle.ms_descriptor_update.proofs.opening.fill.Goals as goal

pub loop-place-init : goal.loop-place-init
loop-place-init c = record {
  filled = fills_first (descriptor_at c.args.text.now c.args.descriptor) c.args.count _ _ (λ script. ap (lookup _) c.new-places.ensures.empty);
  started = c.in_ok-first.ensures;
}

pub loop-place-preserved : goal.loop-place-preserved
loop-place-preserved c =
    let d = descriptor_at c.args.text.now c.args.descriptor in
    let started = c.in_ok-started.started in
    record {
      filled =
          fills_next d c.args.count _ c.loop-place.place c.loop-place-test.true c.loop-place.places c.loop-place.invariant.filled _
          (subst (λ (z : Option (Vec ℕ Global)). PutsPlace d c.args.count c.loop-place.place c.loop-place.places c.put_place.new.places z) c.in_default-2.is
          c.in_ok-reason.ensures);
      started =
          subst (λ (z : ℕ). AreStarts z (expressions_of_body c.args.descriptor.body) started.starts.items) (sym c.in_ok-started.ensures.branch)
          c.in_ok-started.ensures.starts;
    }

pub returns-in-Some-2 : goal.returns-in-Some-2
returns-in-Some-2 c =
    let text = c.args.text.now in
    let count = c.args.count in
    let place = c.loop-place.place in
    let d = descriptor_at text c.args.descriptor in
    let all : c.in-Some.all ≡ branch_count d.body * count = c.in-Some.ensures.1 ∙ ap (λ (n : ℕ). n * count) (c.branch_count.ensures text) in
    let wrong =
    fills_wrong d count c.in-Some.all place c.loop-place-test.true c.loop-place.places c.loop-place.invariant.filled c.put_place.new.places c.in-Some-2.reason
    (subst (λ (z : Option (Vec ℕ Global)). PutsPlace d count place c.loop-place.places c.put_place.new.places z) c.in-Some-2.is c.in_ok-reason.ensures) in
    let line = place_refused_line (place / count) (place % count) wrong.0 in
    (line, subst (λ (n : ℕ). KnowsFrom d count n 0 (Err line)) all wrong.2, c.in_ok-nothing_at.ensures wrong.0 (c.deref-in-Some-2.ensures.value ∙ wrong.1))

pub invariant_of-result : goal.invariant_of-result
invariant_of-result c =
    let text = c.args.text.now in
    let count = c.args.count in
    let d = descriptor_at text c.args.descriptor in
    let all : c.in-Some.all ≡ branch_count d.body * count = c.in-Some.ensures.1 ∙ ap (λ (n : ℕ). n * count) (c.branch_count.ensures text) in
    let known = c.loop-place.invariant.filled.known in
    let knows = subst (λ (n : ℕ). KnowsFrom d count n 0 (Ok known)) all
    (fills_last d count c.in-Some.all c.loop-place.place c.loop-place.places c.loop-place-test.false c.loop-place.invariant.filled) in
    record { known = (known, ∣ knows ∣₁) }

pub returns : goal.returns
returns c =
    let text = c.args.text.now in
    let count = c.args.count in
    let d = descriptor_at text c.args.descriptor in
    let all : c.in-Some.all ≡ branch_count d.body * count = c.in-Some.ensures.1 ∙ ap (λ (n : ℕ). n * count) (c.branch_count.ensures text) in
    let known = c.loop-place.invariant.filled.known in
    let knows = subst (λ (n : ℕ). KnowsFrom d count n 0 (Ok known)) all
    (fills_last d count c.in-Some.all c.loop-place.place c.loop-place.places c.loop-place-test.false c.loop-place.invariant.filled) in
    booked text c.args.descriptor count c.loop-place.places known knows
    (record { within = c.requires.within; read = c.requires.read; some = c.requires.some; knows = knows; found = c.loop-place.invariant.filled.found })
    (search rules)
