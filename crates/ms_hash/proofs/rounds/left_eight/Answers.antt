use Rattle.std.proofs.Common.{◌≡◌, ◌+◌, arith, ap, sym, ◌∙◌}
use Rattle.def_hash.specs.Ripemd.{left_step, left_line}
use Rattle.ms_hash.proofs.Blocks.{left_line_next}
use Rattle.ms_hash.proofs.rounds.left_eight.Goals as goal

pub steps-init : goal.steps-init
steps-init c = λ h held. held

pub steps-preserved : goal.steps-preserved
steps-preserved c = λ h held. c.left_step-next.ensures ∙ ap (left_step c.args.w.now c.steps.j) (c.steps.invariant h held) ∙ sym (left_line_next c.args.w.now h c.steps.j)

pub returns : goal.returns
returns c = λ h held.
    let done : c.steps.j ≡ c.args.from + 8 = omega arith in
    c.steps.invariant h held ∙ ap (left_line c.args.w.now h) done
