use Rattle.std.proofs.Common.{◌≡◌, ◌++◌, drop, map}
use Rattle.def_answer.specs.Answer.{bytes_of}
use Rattle.ms_replies.proofs.decoding.keys_of.Given as goal

abbrev pub invariant-loop-word : goal.invariant-loop-word
invariant-loop-word l = l.keys.items ++ map bytes_of (drop l.word-index l.words) ≡ map bytes_of l.words
