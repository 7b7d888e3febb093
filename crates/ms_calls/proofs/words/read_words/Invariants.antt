use Rattle.ms_calls.proofs.WordLemmas.{AreRead}
use Rattle.ms_calls.proofs.words.read_words.Given as goal

abbrev pub invariant-loop : goal.invariant-loop
invariant-loop l = AreRead l.count l.counter l.bytes l.words.items l.rest
