use Rattle.std.proofs.Common.{◌+◌, ◌%◌, arith}
use Rattle.std.proofs.lemmas.List.{take-replicate}
use Rattle.ms_generator.proofs.GeneratorLemmas.{sig_added, child_added}
use Rattle.ms_generator.proofs.generator.add_child.Goals as goal

pub added-requires : goal.added-requires
added-requires c =
    sig_added c.args.assets.now c.args.i _ _ c.add_sig.result c.requires.number c.requires.earlier c.key_of.ensures
    (take-replicate (70 + c.args.i % 4) 73 c.args.i (omega arith)) c.add_sig.ensures.answer

pub returns : goal.returns
returns c =
    child_added c.args.i c.args.assets.now c.add_sig.new.self c.add_preimage.new.self _ _ _ c.add_sig.result c.add_preimage.result c.added-2.result
    c.requires.earlier c.key_of.ensures (take-replicate (70 + c.args.i % 4) 73 c.args.i (omega arith)) c.preimage_of.ensures
    c.add_sig.ensures.ok c.in_ok-added.ensures c.add_preimage.ensures.ok c.added-2.ensures
