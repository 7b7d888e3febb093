use Rattle.std.proofs.Common.{◌++◌, ap, ◌∙◌, codes}
use Rattle.std.specs.Prelude.{decimal}
use Rattle.def_script.specs.Bytes.{Bytes}
use Rattle.ms_descriptor_replies.proofs.Joined.{six_texts}
use Rattle.ms_descriptor_replies.proofs.reasons.push_refused_line.Goals as goal

pub returns : goal.returns
returns c why is =
    let before = c.args.report.now.items in
    six_texts before (codes "refused branch ") (decimal c.args.branch) (codes " index ") (decimal c.args.index) (codes " ") c.args.reason.now _ _ _ _ _ _
    c.in_ok-push_text.ensures c.in_ok-push_number.ensures c.in_ok-push_text-2.ensures c.in_ok-push_number-2.ensures c.in_ok-push_text-3.ensures
    c.in_ok-extend_from_slice.ensures.items
    ∙ ap (λ (z : Bytes). before ++ (codes "refused branch " ++ (decimal c.args.branch ++ (codes " index " ++ (decimal c.args.index ++ (codes " " ++ z)))))) is
