-- What stands before the body is refused, or the body, or neither.
use Rattle.ms_paths.specs.Places.{tokens_at}
use Rattle.ms_descriptor.specs.Bodies.{head_at, found_at}
use Rattle.ms_descriptor.proofs.Surrounding.{said, no_head, no_body, all_parts}
use Rattle.ms_descriptor.proofs.parts.read_parts.Goals as goal

pub returns-in_err-head-clause-parts : goal.returns-in_err-head-clause-parts
returns-in_err-head-clause-parts c =
    said _ _ _ _ c.from_residual.ensures.1 (λ n. no_head c.args.text.now c.in_err-head.field-0.0 (c.in_err-head.ensures n))

pub returns-in_err-found-clause-parts : goal.returns-in_err-found-clause-parts
returns-in_err-found-clause-parts c =
    said _ _ _ _ c.from_residual-in_err-found.ensures.1 (λ n.
    no_body c.args.text.now (head_at c.in_ok-head.head) (tokens_at c.args.text.now c.in_ok-head.at) c.in_ok-head.ensures.0 c.in_err-found.field-0.0
    (c.in_err-found.ensures.body n))

pub returns-clause-parts : goal.returns-clause-parts
returns-clause-parts c =
    all_parts c.args.text.now (head_at c.in_ok-head.head) (tokens_at c.args.text.now c.in_ok-head.at) c.in_ok-head.ensures.0
    (found_at c.args.text.now c.in_ok-found.found) c.in_ok-found.ensures.body
