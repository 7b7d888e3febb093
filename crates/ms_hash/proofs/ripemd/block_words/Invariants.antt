use Rattle.std.proofs.Common.{◌≡◌, ◌*◌, length, take, drop}
use Rattle.def_hash.specs.Ripemd.{padded_message, block_words}
use Rattle.ms_hash.proofs.ripemd.block_words.Given as goal

-- the words read so far
abbrev pub invariant-words : goal.invariant-words
invariant-words l = (length l.words ≡ 16) × (take l.k l.words ≡ block_words (take 64 (drop (l.block * 64) (padded_message l.message))) l.k)
