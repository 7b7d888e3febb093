use Rattle.std.proofs.Common.{arith}
use Rattle.ms_oracle.proofs.check.SigCheckSignatureChecker.ask.Goals as goal

pub returns : goal.returns
returns g c =
    let sound = rw (← c.self.view_is) at c.requires in
    rw (← c.self.view_is)
    ((sound c.args.key c.args.sig (λ i. omega (arith, c.type_inv.key i)) (λ i. omega (arith, c.type_inv.sig i))).1 c.call.result c.call.ensures)
