use Rattle.std.proofs.Common.{sym}
use Rattle.ms_hash.proofs.Blocks.{no_left_step}
use Rattle.ms_hash.proofs.rounds.left_line.Goals as goal

pub returns : goal.returns
returns c =
    let h = c.args.h in
    let first = c.left_round-v.ensures h (sym (no_left_step c.args.w.now h)) in
    let second = c.left_round-v-2.ensures h first in
    let third = c.left_round-v-3.ensures h second in
    let fourth = c.left_round-v-4.ensures h third in
    c.left_round.ensures h fourth
