use Rattle.std.proofs.Common.{◌≡◌, ◌+◌, arith, ap, sym, ◌∙◌}
use Rattle.def_hash.specs.Ripemd.{right_step, right_line}
use Rattle.ms_hash.proofs.Blocks.{right_line_next}
use Rattle.ms_hash.proofs.rounds.right_eight.Goals as goal

pub steps-init : goal.steps-init
steps-init c = λ h held. held

pub steps-preserved : goal.steps-preserved
steps-preserved c = λ h held. c.right_step-next.ensures ∙ ap (right_step c.args.w.now c.steps.j) (c.steps.invariant h held) ∙ sym (right_line_next c.args.w.now h c.steps.j)

pub returns : goal.returns
returns c = λ h held.
    let done : c.steps.j ≡ c.args.from + 8 = omega arith in
    c.steps.invariant h held ∙ ap (right_line c.args.w.now h) done
