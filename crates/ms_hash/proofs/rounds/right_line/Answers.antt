use Rattle.std.proofs.Common.{sym}
use Rattle.ms_hash.proofs.Blocks.{no_right_step}
use Rattle.ms_hash.proofs.rounds.right_line.Goals as goal

pub returns : goal.returns
returns c =
    let h = c.args.h in
    let first = c.right_round-v.ensures h (sym (no_right_step c.args.w.now h)) in
    let second = c.right_round-v-2.ensures h first in
    let third = c.right_round-v-3.ensures h second in
    let fourth = c.right_round-v-4.ensures h third in
    c.right_round.ensures h fourth
