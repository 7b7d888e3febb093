-- The examples, each computed.
use Rattle.def_lines.proofs.examples.answer_lines.Goals as goal
use Rattle.std.proofs.Common.{refl}
use Rattle.std.specs.Fmt.{digits}
use Rattle.def_lines.proofs.OnLiterals.{lines_on_literals}

pub returns : goal.returns
unfolding lines_on_literals digits
returns c = record {
  without_id = refl;
  with_ids = (refl, refl);
  no_memory = refl;
  refused = (refl, refl, refl, refl, refl, refl);
}
