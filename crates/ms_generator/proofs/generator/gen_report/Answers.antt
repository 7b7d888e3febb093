use Rattle.std.proofs.Common.{◌≡◌, ◌∙◌, ap, subst}
use Rattle.def_answer.specs.Lines.{limits_line}
use Rattle.def_answer.specs.Gen.{cheapest_line}
use Rattle.ms_tree.specs.Shape.{shape}
use Rattle.ms_generator.specs.Chosen.{cheapest_items}
use Rattle.ms_generator.proofs.GeneratorLemmas.{gen_lines}
use Rattle.ms_generator.proofs.generator.gen_report.Goals as goal

pub returns : goal.returns
returns c =
    gen_lines c.args.n (shape c.args.sane.now.valid.tree) c.args.assets.now _ _ _ _ _ _ _ c.requires.tree c.requires.assets
    c.in_ok-report.ensures
    (c.deref.ensures ∙ c.in_ok-limits_line.ensures ∙ ap limits_line c.args.sane.now.valid.limited)
    (c.deref-2.ensures ∙ c.in_ok-strict_line.ensures.line)
    (subst (λ t. c.deref-3.result.now ≡ cheapest_line (cheapest_items (shape t) c.args.assets.now)) c.strict_line.ensures.same.tree (c.deref-3.ensures ∙ c.in_ok-cheapest_line.ensures.line))
    c.in_ok-push_str.ensures.bytes c.in_ok-push_str-2.ensures.bytes c.in_ok-push_str-3.ensures.bytes
