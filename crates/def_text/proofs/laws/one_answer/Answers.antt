-- Each law is proved in a file of its own subject.
use Rattle.def_text.proofs.Complete.{one_tree}
use Rattle.def_text.proofs.OffsetCount.{count_text}
use Rattle.def_text.proofs.OneAnswer.{one_refusal, none_beside_tree, some_answer}
use Rattle.def_text.proofs.laws.one_answer.Goals as goal

pub returns : goal.returns
returns c = record {
  tree = λ ts x y os ps h k. one_tree h k;
  offsets = λ ts x os h. count_text h;
  refusal = one_refusal;
  apart = none_beside_tree;
  some = some_answer;
}
