use Rattle.std.proofs.Common.{◌∙◌, ap}
use Rattle.ms_sighash.proofs.Signed.{shared_from, shared_is}
use Rattle.ms_sighash.proofs.shared.SharedHashes.new.Goals as goal

pub returns : goal.returns
returns c transaction parts =
    let start = shared_from c.args.version c.args.inputs.now c.args.outputs.now c.args.lock_time in
    ap (λ l. record start { prevouts = l; sequences = c.hash_of_pieces-2.result; outputs = c.hash256.result }) c.hash_of_pieces.ensures
    ∙ ap (λ l. record start { sequences = l; outputs = c.hash256.result }) c.hash_of_pieces-2.ensures
    ∙ ap (λ l. record start { outputs = l }) c.hash256.ensures
    ∙ shared_is transaction c.args.version c.args.inputs.now c.args.outputs.now c.args.lock_time parts
