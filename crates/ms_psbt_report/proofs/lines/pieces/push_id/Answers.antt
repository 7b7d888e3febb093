use Rattle.std.proofs.Common.{◌<◌, ◌≤◌, length, reverse, arith, sym}
use Rattle.std.proofs.lemmas.List.{get_or-reverse, length-reverse}
use Rattle.ms_psbt_report.proofs.Digits.{one_more_byte, no_more_bytes}
use Rattle.ms_psbt_report.proofs.lines.pieces.push_id.Goals as goal

pub loop-i-preserved : goal.loop-i-preserved
loop-i-preserved c =
    let id = c.args.id.now in
    let below : c.loop-i.i < length id = omega arith in
    let within : c.loop-i.i < length (reverse id) = omega (arith, length-reverse id) in
    one_more_byte _ _ _ (reverse id) c.loop-i.i _ within (sym (get_or-reverse id c.loop-i.i 0 below)) c.in_ok-push_byte.ensures c.loop-i.invariant

pub returns : goal.returns
returns c =
    let id = c.args.id.now in
    let past : length (reverse id) ≤ c.loop-i.i = omega (arith, length-reverse id) in
    no_more_bytes _ _ (reverse id) c.loop-i.i past c.loop-i.invariant
