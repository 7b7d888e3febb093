use Rattle.std.proofs.Common.{◌≡◌, drop}
use Rattle.std.specs.List.{list_all}
use Rattle.ms_words.proofs.SpellingLemmas.{spells}
use Rattle.ms_words.proofs.words.are_keys.Given as goal

abbrev pub invariant-loop-word : goal.invariant-loop-word
invariant-loop-word l = list_all spells (drop l.word-index l.words) ≡ list_all spells l.words
