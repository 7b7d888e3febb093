-- The examples, each computed.
use Rattle.def_lines.proofs.examples.refusals.Goals as goal
use Rattle.std.proofs.Common.{refl}
use Rattle.def_lines.proofs.OnLiterals.{lines_on_literals}

pub returns : goal.returns
unfolding lines_on_literals
returns c = record {
  not_json = (refl, refl, refl, refl, refl, refl, refl, refl, refl, refl);
  no_object = (refl, refl, refl);
  other_ids = (refl, refl, refl, refl, refl, refl, refl, refl, refl);
  other_texts = (refl, refl, refl, refl, refl, refl);
  other_words = (refl, refl, refl, refl);
  other_sources = (refl, refl);
  in_order = (refl, refl, refl);
}
