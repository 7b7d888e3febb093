-- The examples, each computed.
use Rattle.def_lines.proofs.examples.questions.Goals as goal
use Rattle.std.proofs.Common.{refl}
use Rattle.def_lines.proofs.OnLiterals.{lines_on_literals}

pub returns : goal.returns
unfolding lines_on_literals
returns c = record {
  plain = refl;
  spaces = refl;
  escapes = (refl, refl, refl);
  other_members = refl;
  members_twice = (refl, refl);
  no_words = (refl, refl);
  ids = (refl, refl, refl, refl, refl);
  nested = (refl, refl);
}
