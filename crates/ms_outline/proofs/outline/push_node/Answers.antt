use Rattle.std.proofs.Common.{◌++◌, ◌∙◌, ap}
use Rattle.std.specs.Prelude.{codes}
use Rattle.std.specs.String.{string_bytes}
use Rattle.def_types.specs.Correctness.{correctness_of}
use Rattle.def_types.specs.Malleable.{malleability_of}
use Rattle.ms_tree.specs.Shape.{shape}
use Rattle.ms_outline.proofs.Standing.{on_ok, if_written, told_is}
use Rattle.ms_outline.proofs.Writing.{node_written}
use Rattle.ms_outline.proofs.outline.push_node.Goals as goal

pub returns : goal.returns
returns c =
    let ty = correctness_of (shape c.args.tree.now) in
    let properties = malleability_of (shape c.args.tree.now) in
    on_ok c.push_str-5.result _ _
    (node_written (string_bytes c.args.report.now) (codes "node ") (codes " ") (codes "\n") _ _ _ _ _ _ _ _ _ _ _ _ _
    c.in_ok-push_str.ensures.bytes c.in_ok-push_number.ensures c.in_ok-push_str-2.ensures.bytes c.in_ok-push_number-2.ensures c.in_ok-push_str-3.ensures.bytes
    (c.in_ok-push_type_at.ensures _ _ c.requires.types.0 c.requires.types.1 ∙ ap (λ b. string_bytes c.push_str-3.new.self ++ b) (told_is ty properties))
    c.in_ok-push_str-4.ensures.bytes c.in_ok-push_head.ensures)
    (if_written c.push_str-5.result _ _ _ c.push_str-5.ensures.bytes)
