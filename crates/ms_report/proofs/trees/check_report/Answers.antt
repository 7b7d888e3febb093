use Rattle.std.proofs.Common.{◌∙◌}
use Rattle.ms_tree.specs.Shape.{shape}
use Rattle.ms_report.proofs.ToldBounds.{told_bounds}
use Rattle.ms_report.proofs.TreeLines.{sane_lines}
use Rattle.ms_report.proofs.trees.check_report.Goals as goal

pub returns : goal.returns
returns c =
    let sane = c.args.sane.now in
    sane_lines sane.valid.rules (shape sane.valid.tree) sane.valid.ty sane.malleability_of _ _ _ _ _ _ _ _ _ sane.valid.typed sane.malleability_typed
    (c.deref.ensures ∙ c.in_ok-print_text.ensures.printed) (c.deref-2.ensures ∙ c.in_ok-type_letters.ensures)
    (c.as_slice-2.ensures ∙ c.in_ok-script.ensures)
    (c.deref-3.ensures ∙ c.in_ok-bounds_line.ensures ∙ told_bounds sane.valid.rules (shape sane.valid.tree) _ c.bounds_of-bounds.ensures.bounds)
    c.new-report.ensures.bytes c.in_ok-push_line.ensures c.in_ok-push_line-2.ensures c.in_ok-push_output.ensures c.in_ok-push_str.ensures.bytes
