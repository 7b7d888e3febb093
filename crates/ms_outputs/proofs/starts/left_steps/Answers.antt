-- One step more, and the end.
use Rattle.std.proofs.Common.{◌+◌, List, ◌++◌, map, drop, ap, ◌∙◌, sym, arith, append-nil}
use Rattle.std.proofs.lemmas.List.{drop_all}
use Rattle.ms_paths.specs.declared.steps.Way.{Way}
use Rattle.ms_outputs.specs.declared.starts.Left.{Left}
use Rattle.ms_outputs.specs.Starts.{left_number}
use Rattle.ms_outputs.proofs.Finding.{numbers_of}
use Rattle.ms_outputs.proofs.Starting.{left_more}
use Rattle.ms_outputs.proofs.starts.left_steps.Goals as goal

pub loop-way-preserved : goal.loop-way-preserved
loop-way-preserved c i =
    ap (λ (z : List Left). map (left_number i) z ++ numbers_of c.args.branch i (drop (c.loop-way.way-index + 1) c.args.ways.now)) c.in_ok-push.ensures.items
    ∙ (left_more c.args.branch i c.args.ways.now c.loop-way.way-index c.way-item.result c.loop-way-test.true c.way-item.is c.loop-way.left.items c.left_of.result
    (c.left_of.ensures i)
    ∙ c.loop-way.invariant i)

pub returns : goal.returns
returns c i =
    sym (append-nil (map (left_number i) c.loop-way.left.items))
    ∙ (ap (λ (z : List Way). map (left_number i) c.loop-way.left.items ++ numbers_of c.args.branch i z)
    (sym (drop_all c.loop-way.way-index c.args.ways.now (omega arith)))
    ∙ c.loop-way.invariant i)
