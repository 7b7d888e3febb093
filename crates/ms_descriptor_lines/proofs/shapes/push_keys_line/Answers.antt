use Rattle.std.proofs.Common.{◌++◌, ap, sym, ◌∙◌, List, ℕ, length, codes}
use Rattle.std.specs.Prelude.{decimal}
use Rattle.std.proofs.lemmas.Result.{on_ok_weaker}
use Rattle.def_answer.specs.Lines.{line}
use Rattle.def_descriptor.specs.Expression.{Expression}
use Rattle.ms_outputs.proofs.Finding.{expressions_are}
use Rattle.ms_descriptor_lines.proofs.shapes.push_keys_line.Goals as goal

pub returns : goal.returns
returns c text =
    on_ok_weaker c.push_number_line.result
    (λ e. e
    ∙ (ap (λ (z : ℕ). c.args.report.now.items ++ line (codes "keys " ++ decimal z)) c.key_count.ensures
    ∙ ap (λ (z : List Expression). c.args.report.now.items ++ line (codes "keys " ++ decimal (length z))) (sym (expressions_are text c.args.body.now))))
    c.push_number_line.ensures
