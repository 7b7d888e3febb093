use Rattle.std.proofs.Common.{◌≡◌, ◌++◌, take, map}
use Rattle.ms_input.specs.Settled.{word_for, good_for}
use Rattle.ms_input.proofs.finalize.judging.judged.Given as goal

abbrev pub invariant-pairs : goal.invariant-pairs
invariant-pairs l =
    (l.assets ≡ record l.fn.unsigned { pairs = l.fn.unsigned.pairs ++ good_for l.hash (take l.pair-index l.pairs) })
    × (l.words.items ≡ map (word_for l.hash) (take l.pair-index l.pairs))
