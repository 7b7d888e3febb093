use Rattle.std.proofs.Common.{◌∙◌, ap}
use Rattle.def_hash.specs.Hash.{hash256}
use Rattle.def_spend.specs.HashTypes.{number_of}
use Rattle.ms_sighash.specs.Shared.{text_by, text_from}
use Rattle.ms_sighash.proofs.Signed.{text_is}
use Rattle.ms_sighash.proofs.shared.SharedHashes.signature_hash.Goals as goal

pub returns : goal.returns
returns c transaction number signed shared h =
    let type = c.args.hash_type in
    c.hash_text.ensures
    ∙ ap (λ n. hash256 (text_by type n c.args.self.now c.args.input.now c.outputs_for-outputs.result c.args.script.now c.args.amount)) c.number_of.ensures
    ∙ ap (λ o. hash256 (text_by type (number_of type) c.args.self.now c.args.input.now o c.args.script.now c.args.amount)) c.outputs_for-outputs.ensures
    ∙ ap (λ s. hash256 (text_from type s c.args.input.now c.args.output c.args.script.now c.args.amount)) shared
    ∙ ap hash256 (text_is type transaction number signed c.args.input.now c.args.output c.args.script.now c.args.amount h)
