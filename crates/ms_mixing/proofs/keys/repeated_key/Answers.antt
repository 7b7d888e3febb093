use Rattle.std.proofs.Common.{[], ◌∙◌, ap, arith}
use Rattle.ms_tree.specs.Shape.{shape}
use Rattle.ms_tree.proofs.Parts.{nodes-le-measure}
use Rattle.ms_mixing.specs.Scaffolding.Repeats.{repeats_first}
use Rattle.ms_mixing.proofs.Repeated.{first_is, repeated_below}
use Rattle.ms_mixing.proofs.keys.repeated_key.Goals as goal

pub copy_keys-requires-clause-nodes : goal.copy_keys-requires-clause-nodes
copy_keys-requires-clause-nodes c = omega (arith, c.requires.in_range.measure, nodes-le-measure (shape c.args.tree.now))

pub returns : goal.returns
returns c =
    let first = c.first_repeated.ensures ∙ ap (repeats_first []) c.copy_keys.ensures.copied ∙ first_is (shape c.args.tree.now) c.requires.in_range.writable in
    record { first = first; node = repeated_below (shape c.args.tree.now) c.first_repeated.result first }
