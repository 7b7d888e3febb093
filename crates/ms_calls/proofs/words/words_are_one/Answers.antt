use Rattle.ms_calls.proofs.WordLemmas.{one_list}
use Rattle.ms_calls.proofs.words.words_are_one.Goals as goal

pub returns : goal.returns
returns c = one_list
