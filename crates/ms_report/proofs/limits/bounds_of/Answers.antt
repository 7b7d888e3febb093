use Rattle.ms_tree.specs.Shape.{shape}
use Rattle.ms_report.proofs.ToldBounds.{told_by_policy, told_by_consensus}
use Rattle.ms_report.proofs.limits.bounds_of.Goals as goal

pub returns-in-Policy-clause-bounds : goal.returns-in-Policy-clause-bounds
returns-in-Policy-clause-bounds c =
    let valid = c.args.valid.now in told_by_policy valid.rules (shape valid.tree) valid.limits c.in-Policy.is valid.limited

pub returns-in-Consensus-clause-bounds : goal.returns-in-Consensus-clause-bounds
returns-in-Consensus-clause-bounds c =
    let valid = c.args.valid.now in
    told_by_consensus valid.rules (shape valid.tree) valid.ty valid.limits c.height.result c.in-Consensus.is valid.typed valid.limited c.height.ensures.height
