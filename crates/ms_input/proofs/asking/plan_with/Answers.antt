use Rattle.std.proofs.Common.{◌≡◌, sym, subst, rules}
use Rattle.def_plan.specs.Lengths.{AreLengths}
use Rattle.def_spend.specs.Asking.{lengths_of}
use Rattle.ms_tree.specs.Shape.{shape}
use Rattle.ms_input.proofs.Tables.{are_lengths}
use Rattle.ms_input.proofs.asking.plan_with.Goals as goal

pub new-estimate-requires-clause-lengths : goal.new-estimate-requires-clause-lengths
new-estimate-requires-clause-lengths c =
    let same : c.as_slice-lengths.result.now ≡ lengths_of (shape c.args.tree.now) c.args.assets.now = search rules in
    subst AreLengths (sym same) (are_lengths (shape c.args.tree.now) c.args.assets.now c.requires.in_range.writable c.requires.sane c.are_assets.ensures.held)
