use Rattle.ms_tree.specs.Shape.{shape}
use Rattle.ms_descriptor_replies.proofs.Judged.{type_is, malleability_is}
use Rattle.ms_descriptor_replies.proofs.measures.Measures.of.Goals as goal

pub returns : goal.returns
returns c =
    let sane = c.args.sane.now in
    record {
      ty = type_is (shape sane.valid.tree) sane.valid.ty sane.valid.typed;
      malleability_of = malleability_is (shape sane.valid.tree) sane.malleability_of sane.malleability_typed;
      limits = sane.valid.limited;
    }
