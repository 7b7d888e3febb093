use Rattle.ms_plan.proofs.Few.{marked_few}
use Rattle.ms_plan.proofs.asking.with_marks.Goals as goal

pub with_signatures-requires : goal.with_signatures-requires
with_signatures-requires c =
    rw (c.in_ok-signatures.ensures, c.in_ok-pairs.ensures) (marked_few c.args.marks c.args.assets.now c.args.table.now c.are_assets.ensures c.requires)
