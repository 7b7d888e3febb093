use Rattle.std.proofs.Common.{◌<◌, ◌≤◌, length, arith, refl}
use Rattle.ms_psbt_report.proofs.Digits.{one_more_byte, no_more_bytes}
use Rattle.ms_psbt_report.proofs.lines.pieces.push_digits.Goals as goal

pub loop-byte-preserved : goal.loop-byte-preserved
loop-byte-preserved c =
    let below : c.loop-byte.byte-index < length c.args.bytes.now = omega arith in
    one_more_byte _ _ _ c.args.bytes.now c.loop-byte.byte-index _ below refl c.in_ok-push_byte.ensures c.loop-byte.invariant

pub returns : goal.returns
returns c =
    let past : length c.args.bytes.now ≤ c.loop-byte.byte-index = omega arith in
    no_more_bytes _ _ c.args.bytes.now c.loop-byte.byte-index past c.loop-byte.invariant
