use Rattle.std.proofs.Common.{◌≡◌, ◌++◌, drop, reverse}
use Rattle.hex.specs.Hex.{encode_lower}
use Rattle.ms_psbt_report.proofs.lines.pieces.push_id.Given as goal

-- the digits so far and those of the bytes that are left
abbrev pub invariant-loop-i : goal.invariant-loop-i
invariant-loop-i l = l.report.items ++ encode_lower (drop l.i (reverse l.id)) ≡ l.initial.report.items ++ encode_lower (reverse l.id)
