-- One piece more.
use Rattle.std.proofs.Common.{◌++◌, ap, sym, subst, ◌∙◌}
use Rattle.def_script.specs.Bytes.{Bytes}
use Rattle.ms_descriptor.specs.Miniscripts.{IsWithin}
use Rattle.ms_descriptor.proofs.Sampling.{pushed}
use Rattle.ms_descriptor.proofs.sample.push_pieces.Goals as goal

pub text_of-requires : goal.text_of-requires
text_of-requires c =
    subst (IsWithin c.args.text.now) (sym c.piece-item.is) (c.requires c.loop-piece.piece-index c.piece-item.result c.loop-piece-test.true)

pub loop-piece-preserved : goal.loop-piece-preserved
loop-piece-preserved c =
    pushed c.args.text.now c.args.pieces.now c.loop-piece.piece-index c.piece-item.result c.loop-piece-test.true c.piece-item.is c.loop-piece.sample.items
    c.extend_from_slice.new.self.items _
    (c.in_ok-extend_from_slice.ensures.items ∙ ap (λ (z : Bytes). c.loop-piece.sample.items ++ z) c.text_of.ensures) c.loop-piece.invariant
