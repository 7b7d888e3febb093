-- One step more, none, and one too many.
use Rattle.std.proofs.Common.{◌≡◌, ℕ, zero, suc, ◌+◌, ◌-◌, List, [], ◌∷◌, ◌++◌, rules, arith, sym, ap, ◌∙◌, Err}
use Rattle.def_descriptor.specs.declared.DescriptorFault.{DescriptorFault}
use Rattle.def_descriptor.specs.Steps.{read_steps}
use Rattle.ms_paths.specs.Places.{tokens_at}
use Rattle.ms_paths.specs.Paths.{step_at}
use Rattle.ms_paths.proofs.Reading.{handed}
use Rattle.ms_paths.proofs.Stepping.{before, steps_end, steps_beyond, steps_stop, steps_goes}
use Rattle.ms_paths.proofs.steps.read_steps.Goals as goal

pub returns-in_default : goal.returns-in_default
returns-in_default c =
    (c.loop.invariant.reads ∙ steps_end (255 - c.loop.counter) c.loop.steps.items (tokens_at c.args.text.now c.loop.end) c.in_default.ensures.mark, c.loop.invariant.place, c.loop.invariant.after)

pub returns-in_err-step : goal.returns-in_err-step
returns-in_err-step c =
    let one : 255 - c.loop.counter ≡ suc (255 - (c.loop.counter + 1)) = omega arith in
    handed _ _ _ _ _ _ c.from_residual.ensures.1 (λ n.
    c.loop.invariant.reads
    ∙ steps_stop c.args.text.now c.loop.end c.in-Some.next c.loop.steps.items c.in-Some.ensures.mark.0 c.in-Some.ensures.mark.1 (255 - c.loop.counter)
    (255 - (c.loop.counter + 1)) one c.in_err-step.field-0.0 (c.in_err-step.ensures.reads n))

pub loop-preserved : goal.loop-preserved
loop-preserved c =
    let one : 255 - c.loop.counter ≡ suc (255 - (c.loop.counter + 1)) = omega arith in
    let pushed : c.push.new.self.items ≡ c.loop.steps.items ++ c.numbered.result ∷ [] = search rules in
    record {
      place = c.in_ok-step.ensures.reads.1;
      after = omega (arith, c.loop.invariant.after, c.in-Some.ensures.after, c.in_ok-step.ensures.reads.2);
      reads =
          c.loop.invariant.reads
          ∙ (steps_goes c.args.text.now c.loop.end c.in-Some.next c.loop.steps.items c.in-Some.ensures.mark.0 c.in-Some.ensures.mark.1 (255 - c.loop.counter)
          (255 - (c.loop.counter + 1)) one (step_at c.in_ok-step.step) (tokens_at c.args.text.now c.in_ok-step.behind) c.in_ok-step.ensures.reads.0
          ∙ ap (λ (z : List ℕ). before z (read_steps (255 - (c.loop.counter + 1)) (tokens_at c.args.text.now c.in_ok-step.behind)))
          (sym (pushed ∙ ap (λ (z : ℕ). c.loop.steps.items ++ z ∷ []) c.numbered.ensures)));
    }

pub returns-in_default-behind_mark : goal.returns-in_default-behind_mark
returns-in_default-behind_mark c = (
  c.loop.invariant.reads ∙ steps_end (255 - c.loop.counter) c.loop.steps.items (tokens_at c.args.text.now c.loop.end) c.in_default-behind_mark.ensures.mark,
  c.loop.invariant.place,
  c.loop.invariant.after,
)

pub returns : goal.returns
returns c = λ n.
    let none : 255 - c.loop.counter ≡ zero = omega (arith, c.loop-test.false) in
    c.loop.invariant.reads
    ∙ (steps_beyond c.args.text.now c.loop.end c.in-Some-behind_mark.next c.loop.steps.items c.in-Some-behind_mark.ensures.mark.0
    c.in-Some-behind_mark.ensures.mark.1 (255 - c.loop.counter) none
    ∙ ap (λ (z : DescriptorFault). Err z) (c.step_over.ensures n))
