use Rattle.std.proofs.Common.{refl, ◌∙◌, ap}
use Rattle.def_hash.specs.Hash.{sha256, hash256}
use Rattle.ms_sighash.specs.Shared.{front_from}
use Rattle.ms_sighash.proofs.Signed.{joined_same}
use Rattle.ms_sighash.proofs.shared.SharedHashes.hash_text.Goals as goal

pub returns : goal.returns
unfolding hash256
returns c =
    let outpoint = c.update.ensures _ c.front_hasher-hasher.ensures in
    let size = c.update-2.ensures _ outpoint in
    let script = c.update-3.ensures _ size in
    let amount = c.update-4.ensures _ script in
    let sequence = c.update-5.ensures _ amount in
    let outputs = c.update-6.ensures _ sequence in
    let lock_time = c.update-7.ensures _ outputs in
    let type = c.update-8.ensures _ lock_time in
    let same =
    joined_same (front_from c.args.hash_type c.args.self.now) c.args.script.now
    c.outpoint_in.ensures (c.as_slice.ensures ∙ c.compact_size.ensures.spelling) c.to_le_bytes.ensures
    c.sequence_in.ensures refl c.lock_time_bytes.ensures c.to_le_bytes-2.ensures
    in
    c.sha256.ensures ∙ ap sha256 (c.finalize.ensures _ type) ∙ ap hash256 same
