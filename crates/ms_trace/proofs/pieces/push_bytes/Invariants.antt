use Rattle.std.proofs.Common.{◌≡◌, ◌++◌, drop}
use Rattle.std.specs.String.{string_bytes}
use Rattle.hex.specs.Hex.{encode_lower}
use Rattle.ms_trace.proofs.pieces.push_bytes.Given as goal

-- the digits so far and those of the bytes that are left
abbrev pub invariant-loop-byte : goal.invariant-loop-byte
invariant-loop-byte l =
    string_bytes l.report ++ encode_lower (drop l.byte-index l.bytes) ≡ string_bytes l.initial.report ++ encode_lower l.bytes
