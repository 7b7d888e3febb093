-- One `)`, two, and fewer.
use Rattle.def_descriptor.specs.Parts.{read_sum, read_tail}
use Rattle.ms_paths.specs.Places.{tokens_at}
use Rattle.ms_descriptor.proofs.Surrounding.{says_along, tail_open, tail_alone, tail_second, tail_both}
use Rattle.ms_descriptor.proofs.tail.read_tail.Goals as goal

pub returns-in_default : goal.returns-in_default
returns-in_default c = λ n. tail_open c.args.text.now c.args.under c.args.at c.in_default.ensures.mark

pub returns-then-not-under : goal.returns-then-not-under
returns-then-not-under c =
    says_along (read_tail c.args.text.now c.args.under (tokens_at c.args.text.now c.args.at)) (read_sum c.args.text.now (tokens_at c.args.text.now c.in-Some.end)) _ _
    (tail_alone c.args.text.now c.args.at c.in-Some.end c.in-Some.ensures.mark.0 c.in-Some.ensures.mark.1 c.args.under c.if-not-under.true) c.read_sum.ensures

pub returns-in_default-behind_mark : goal.returns-in_default-behind_mark
returns-in_default-behind_mark c = λ n.
    tail_second c.args.text.now c.args.at c.in-Some.end c.in-Some.ensures.mark.0 c.in-Some.ensures.mark.1 c.args.under c.if-not-under.false
    c.in_default-behind_mark.ensures.mark

pub returns : goal.returns
returns c =
    says_along (read_tail c.args.text.now c.args.under (tokens_at c.args.text.now c.args.at))
    (read_sum c.args.text.now (tokens_at c.args.text.now c.in-Some-behind_mark.last)) _ _
    (tail_both c.args.text.now c.args.at c.in-Some.end c.in-Some.ensures.mark.0 c.in-Some.ensures.mark.1 c.args.under c.in-Some-behind_mark.last c.if-not-under.false
    c.in-Some-behind_mark.ensures.mark.0 c.in-Some-behind_mark.ensures.mark.1) c.read_sum-2.ensures
