use Rattle.std.proofs.Common.{ap, arith}
use Rattle.std.specs.Option.{option_map}
use Rattle.ms_choice.proofs.Tallies.{none_greatest, none_lightest, base_told, least_told}
use Rattle.ms_choice.proofs.tally.Tally.none_of.Goals as goal

pub returns-in-Some-clause-greatest : goal.returns-in-Some-clause-greatest
returns-in-Some-clause-greatest c = λ n cs slots told.
    base_told n cs c.args.self.now slots told c.in-Some.ensures.some.0 (omega (arith, c.in-Some.ensures.some.1))

pub returns-in-Some-clause-least : goal.returns-in-Some-clause-least
returns-in-Some-clause-least c = λ n cs slots told.
    least_told n cs c.args.self.now slots told c.in-Some.ensures.some.0 (omega (arith, c.in-Some.ensures.some.1))

pub returns-in-None-clause-greatest : goal.returns-in-None-clause-greatest
returns-in-None-clause-greatest c = λ n cs slots told. none_greatest n cs c.args.self.now slots told 0 (c.wanted.ensures.none c.in-None.is)

pub returns-in-None-clause-least : goal.returns-in-None-clause-least
returns-in-None-clause-least c = λ n cs slots told.
    ap (option_map (λ pick. pick.0)) (none_lightest n cs c.args.self.now slots told 0 (c.wanted.ensures.none c.in-None.is))
