-- A step that is one too many.
use Rattle.ms_paths.specs.Places.{tokens_at}
use Rattle.ms_paths.proofs.Places.{place_is}
use Rattle.ms_paths.proofs.Ways.{step_over_is}
use Rattle.ms_paths.proofs.steps.step_over.Goals as goal

pub returns-in-Ok : goal.returns-in-Ok
returns-in-Ok c = λ n. step_over_is (tokens_at c.args.text.now c.args.at) _ c.args.at _ c.in-Ok.ensures.reads.0 (place_is c.args.text.now c.args.at)
