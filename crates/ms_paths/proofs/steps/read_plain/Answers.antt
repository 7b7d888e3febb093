-- A hardened step.
use Rattle.ms_paths.specs.Places.{tokens_at}
use Rattle.ms_paths.proofs.Places.{place_is}
use Rattle.ms_paths.proofs.Stepping.{plain_hard}
use Rattle.ms_paths.proofs.steps.read_plain.Goals as goal

pub returns-then-step : goal.returns-then-step
returns-then-step c = λ n.
    plain_hard (tokens_at c.args.text.now c.args.at) (tokens_at c.args.text.now c.in_ok-step.end) c.args.at c.in_ok-step.step.number c.in_ok-step.step.hardened
    c.in_ok-step.ensures.reads.0 (place_is c.args.text.now c.args.at) c.if-step.true
