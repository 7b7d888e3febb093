use Rattle.std.proofs.Common.{arith}
use Rattle.ms_audit.proofs.Lefts.{below_step}
use Rattle.ms_audit.proofs.spend.Spend.top.Goals as goal

pub returns : goal.returns
returns g c =
    rw c.item.ensures (below_step c.args.self.now.stack.now c.args.left (omega (arith, c.if-left-eq0.false)) c.requires)
