use Rattle.std.proofs.Common.{ap, sym, ◌∙◌, List}
use Rattle.std.specs.Prelude.{unwrap_or}
use Rattle.def_descriptor.specs.Expression.{Expression}
use Rattle.def_descriptor.specs.ReadKey.{Seen, NOTHING_SEEN}
use Rattle.def_descriptor.specs.Gives.{seen_in}
use Rattle.ms_outputs.proofs.Finding.{expressions_are}
use Rattle.ms_descriptor_lines.proofs.shapes.branch_count.Goals as goal

pub returns : goal.returns
returns c text =
    c.unwrap_or.ensures
    ∙ (ap (λ (z : Seen). unwrap_or z.length 1) c.seen_of.ensures
    ∙ ap (λ (z : List Expression). unwrap_or (seen_in NOTHING_SEEN z).length 1) (sym (expressions_are text c.args.body.now)))
