-- The end.
use Rattle.std.proofs.Common.{arith}
use Rattle.std.proofs.lemmas.Grind.{common_steps}
use Rattle.ms_paths.proofs.Places.{end_found}
use Rattle.ms_paths.proofs.tokens.token_at.Goals as goal

pub returns-then-at-text-clause-token : goal.returns-then-at-text-clause-token
returns-then-at-text-clause-token c = end_found c.args.text.now _ c.args.at (omega arith) (grind (arith, common_steps))
