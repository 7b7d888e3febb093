use Rattle.std.proofs.Common.{arith}
use Rattle.ms_hash.proofs.Tables.{left_word_below}
use Rattle.ms_hash.proofs.rounds.left_step.Goals as goal

pub offset_bounds-w-j : goal.offset_bounds-w-j
offset_bounds-w-j c = omega (arith, left_word_below c.args.j c.requires)

pub bounds-w-j : goal.bounds-w-j
bounds-w-j c = left_word_below c.args.j c.requires
