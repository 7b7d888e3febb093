use Rattle.std.proofs.Common.{Some, None, arith}
use Rattle.ms_height.proofs.Tallies.{counts_one}
use Rattle.ms_height.proofs.tally.Tally.add.Goals as goal

pub returns-in-Some-Some : goal.returns-in-Some-Some
returns-in-Some-Some c = λ n cs below at told.
    counts_one c.args.self.now _ n cs c.args.child.now (Some c.in-Some-Some.sat) (Some c.in-Some-Some.dsat) below at c.in-Some-Some.is-0 c.in-Some-Some.is-1
    (omega arith) (omega arith) (omega arith) (omega (arith, c.max-self.ensures, c.max.ensures)) told

pub returns-in-Some-None : goal.returns-in-Some-None
returns-in-Some-None c = λ n cs below at told.
    counts_one c.args.self.now _ n cs c.args.child.now (Some c.in-Some-None.sat) None below at c.in-Some-None.is-0 c.in-Some-None.is-1 (omega arith)
    (omega arith) (omega arith) (omega (arith, c.max-self-in-Some-None.ensures)) told

pub returns-in-None-Some : goal.returns-in-None-Some
returns-in-None-Some c = λ n cs below at told.
    counts_one c.args.self.now _ n cs c.args.child.now None (Some c.in-None-Some.dsat) below at c.in-None-Some.is-0 c.in-None-Some.is-1 (omega arith)
    (omega arith) (omega arith) (omega (arith, c.max-self-in-None-Some.ensures)) told

pub returns-in-None-None : goal.returns-in-None-None
returns-in-None-None c = λ n cs below at told.
    counts_one c.args.self.now _ n cs c.args.child.now None None below at c.in-None-None.is-0 c.in-None-None.is-1 (omega arith) (omega arith) (omega arith) (omega arith) told
