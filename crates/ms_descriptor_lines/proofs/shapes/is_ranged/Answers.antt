use Rattle.std.proofs.Common.{ap, sym, ◌∙◌, List}
use Rattle.std.specs.List.{list_any}
use Rattle.def_descriptor.specs.Expression.{Expression}
use Rattle.def_descriptor.specs.Gives.{goes_by_index}
use Rattle.ms_outputs.proofs.Finding.{expressions_are}
use Rattle.ms_descriptor_lines.proofs.shapes.is_ranged.Goals as goal

pub returns : goal.returns
returns c text =
    c.has_ranged_key.ensures
    ∙ ap (λ (z : List Expression). list_any (λ expression. goes_by_index expression.named) z) (sym (expressions_are text c.args.body.now))
