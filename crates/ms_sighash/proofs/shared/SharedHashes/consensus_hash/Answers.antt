use Rattle.std.proofs.Common.{◌∙◌, ap}
use Rattle.def_hash.specs.Hash.{hash256}
use Rattle.ms_sighash.specs.Shared.{shared_of, hash_of_output, text_by, outputs_with, byte_hash}
use Rattle.ms_sighash.proofs.Signed.{byte_hash_is}
use Rattle.ms_sighash.proofs.shared.SharedHashes.consensus_hash.Goals as goal

pub returns-clause-parts : goal.returns-clause-parts
returns-clause-parts c =
    c.hash_text.ensures
    ∙ ap (λ n. hash256 (text_by c.type_by-hash_type.result n c.args.self.now c.args.input.now c.outputs_with-outputs.result c.args.script.now c.args.amount)) c.from.ensures
    ∙ ap (λ o. hash256 (text_by c.type_by-hash_type.result c.args.byte c.args.self.now c.args.input.now o c.args.script.now c.args.amount)) c.outputs_with-outputs.ensures
    ∙ ap (λ t. hash256 (text_by t c.args.byte c.args.self.now c.args.input.now (outputs_with t.outputs c.args.self.now c.args.single) c.args.script.now c.args.amount)) c.type_by-hash_type.ensures

pub returns-clause-consensus : goal.returns-clause-consensus
returns-clause-consensus c spend output shared signed single amount =
    returns-clause-parts c
    ∙ ap (λ s. byte_hash c.args.byte s c.args.input.now c.args.single c.args.script.now c.args.amount) shared
    ∙ ap (λ h. byte_hash c.args.byte (shared_of spend.transaction) c.args.input.now h c.args.script.now c.args.amount) single
    ∙ ap (byte_hash c.args.byte (shared_of spend.transaction) c.args.input.now (hash_of_output output) c.args.script.now) amount
    ∙ byte_hash_is c.args.byte spend c.args.input.now output c.args.script.now signed
