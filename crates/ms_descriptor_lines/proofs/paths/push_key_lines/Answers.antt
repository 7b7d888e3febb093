use Rattle.std.proofs.Common.{◌++◌, [], ap, sym, ◌∙◌, append-nil}
use Rattle.def_descriptor_answer.specs.Lines.{key_lines}
use Rattle.ms_descriptor.specs.declared.parts.Body.{Body}
use Rattle.ms_outputs.specs.Keys.{expressions_of_body}
use Rattle.ms_descriptor_lines.proofs.paths.push_key_lines.Goals as goal

pub returns-in_ok-push_first-in-Single : goal.returns-in_ok-push_first-in-Single
returns-in_ok-push_first-in-Single c =
    sym (append-nil c.push_first.new.report.items)
    ∙ (c.in_ok-push_first-in-Single.ensures []
    ∙ ap (λ (z : Body). c.args.report.now.items ++ key_lines c.args.branch c.args.index (expressions_of_body z) c.args.keys.now) (sym c.in-Single.is))
