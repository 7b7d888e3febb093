use Rattle.std.proofs.Common.{[]}
use Rattle.ms_sighash.proofs.shared.SharedHashes.front_hasher.Goals as goal

pub returns : goal.returns
returns c =
    let version = c.update.ensures [] c.new-hasher.ensures in
    let prevouts = c.update-2.ensures _ version in
    let sequences = c.update-3.ensures _ prevouts in
    rw (c.version_bytes.ensures, c.prevouts_for.ensures, c.sequences_for.ensures) at sequences
