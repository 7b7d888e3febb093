use Rattle.std.proofs.Common.{◌++◌, [], ap, ◌∙◌, codes}
use Rattle.std.specs.Prelude.{unwrap_or}
use Rattle.std.proofs.lemmas.Result.{on_ok_weaker}
use Rattle.def_script.specs.Bytes.{Bytes}
use Rattle.def_answer.specs.Lines.{line}
use Rattle.def_address.specs.DescriptorSum.{descriptor_sum}
use Rattle.ms_descriptor_lines.proofs.Joined.{four_and_end}
use Rattle.ms_descriptor_lines.proofs.shapes.push_descriptor_line.Goals as goal

pub returns : goal.returns
returns c =
    let before = c.args.report.now.items in
    let own = c.front-own.result.now in
    on_ok_weaker c.push_text-3.result
    (λ e.
    four_and_end before (codes "descriptor ") own (codes "#") (unwrap_or (descriptor_sum own) []) _ _ _ _ _
    c.in_ok-push_text.ensures c.in_ok-extend_from_slice.ensures.items c.in_ok-push_text-2.ensures c.in_ok-push_sum.ensures e
    ∙ ap (λ (z : Bytes). before ++ line (codes "descriptor " ++ (z ++ (codes "#" ++ unwrap_or (descriptor_sum z) [])))) c.front-own.ensures)
    c.push_text-3.ensures
