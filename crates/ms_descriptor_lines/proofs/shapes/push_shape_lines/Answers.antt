use Rattle.std.proofs.lemmas.Result.{on_ok_weaker}
use Rattle.def_descriptor_answer.specs.Lines.{kind_line, keys_line, ranged_line, branches_line}
use Rattle.ms_descriptor.specs.Bodies.{body_at}
use Rattle.ms_descriptor_lines.proofs.Joined.{four_texts}
use Rattle.ms_descriptor_lines.proofs.shapes.push_shape_lines.Goals as goal

pub returns : goal.returns
returns c text =
    let body = body_at text c.args.body.now in
    on_ok_weaker c.push_branches_line.result
    (λ e.
    four_texts c.args.report.now.items (kind_line c.args.under body) (keys_line body) (ranged_line body) (branches_line body) _ _ _ _
    (c.in_ok-push_kind_line.ensures text) (c.in_ok-push_keys_line.ensures text) (c.in_ok-push_ranged_line.ensures text) e)
    (c.push_branches_line.ensures text)
