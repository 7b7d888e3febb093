use Rattle.std.proofs.Common.{◌≡◌, ◌∙◌, ◌++◌, replicate, sym, ap, arith}
use Rattle.def_satisfaction.specs.Rows.{EMPTY}
use Rattle.ms_chosen.proofs.Pushed.{reverse-replicate}
use Rattle.ms_chosen.proofs.satisfy.push_empty.Goals as goal

pub returns : goal.returns
returns c =
    let all : c.loop.counter ≡ c.args.count = omega (arith, c.loop-test.false, c.loop.auto.counter-end) in
    c.loop.invariant ∙
    ap (λ n. c.args.stack.now ++ replicate n EMPTY) all ∙
    sym (ap (λ s. c.args.stack.now ++ s) (reverse-replicate c.args.count EMPTY))
