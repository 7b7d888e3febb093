use Rattle.std.proofs.Common.{◌<◌, length, sym, ap, ◌∙◌, arith}
use Rattle.ms_psbt.specs.Pairs.{pairs_in}
use Rattle.ms_psbt.proofs.Pairing.{next_pair, no_more}
use Rattle.ms_psbt.proofs.map.PairsIterator.next.Goals as goal

pub returns-in_err-pair-clause-steps : goal.returns-in_err-pair-clause-steps
returns-in_err-pair-clause-steps c =
    let none = sym c.self.view_is ∙ no_more c.self.inside.rest.now c.in_err-pair.ensures in rw c.from_residual.ensures (none, none)

pub invariant_of-self : goal.invariant_of-self
invariant_of-self c = (next_pair c.self.inside.rest.now c.in_ok-pair.pair c.in_ok-pair.rest.now c.self.invariant c.in_ok-pair.ensures).1

pub returns-clause-steps : goal.returns-clause-steps
returns-clause-steps c = sym c.self.view_is ∙ (next_pair c.self.inside.rest.now c.in_ok-pair.pair c.in_ok-pair.rest.now c.self.invariant c.in_ok-pair.ensures).0

pub returns-clause-goes : goal.returns-clause-goes
returns-clause-goes c =
    let step = sym c.self.view_is ∙ (next_pair c.self.inside.rest.now c.in_ok-pair.pair c.in_ok-pair.rest.now c.self.invariant c.in_ok-pair.ensures).0 in
    let fewer : length (pairs_in c.in_ok-pair.rest.now) < length c.args.self.now = omega (arith, ap length step) in
    record { on = λ f. (tt, tt, fewer); keeps = tt; rests = λ f. tt }
