use Rattle.std.proofs.Common.{w64, rules}
use Rattle.std.proofs.lemmas.Int.{to_z-of_z}
use mir.Val.{SFits}
use Rattle.ms_mixing.proofs.Entries.{packed}
use Rattle.ms_mixing.proofs.keys.entry_of.Goals as goal

pub returns : goal.returns
returns c =
    let first : SFits w64 c.from_be_bytes.result = search rules in
    let second : SFits w64 c.from_be_bytes-2.result = search rules in
    let third : SFits w64 c.from_be_bytes-3.result = search rules in
    let fourth : SFits w64 c.from_be_bytes-4.result = search rules in
    rw (to_z-of_z w64 c.from_be_bytes.result first, to_z-of_z w64 c.from_be_bytes-2.result second, to_z-of_z w64 c.from_be_bytes-3.result third, to_z-of_z w64 c.from_be_bytes-4.result fourth)
    (rw c.as_bytes-bytes.ensures.bytes
    (packed c.args.node c.args.key.now c.as_chunks.result.0.now _ _ _ _ (rw c.as_bytes-bytes.ensures.bytes at c.as_bytes-bytes.ensures.key)
    (rw c.as_bytes-bytes.ensures.bytes at c.as_chunks.ensures.front)
    c.from_be_bytes.ensures c.from_be_bytes-2.ensures c.from_be_bytes-3.ensures c.from_be_bytes-4.ensures))
