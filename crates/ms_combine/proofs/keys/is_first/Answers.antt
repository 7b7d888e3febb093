use Rattle.std.proofs.Common.{sym, ap, arith}
use Rattle.std.proofs.lemmas.Bool.{ltb-false}
use Rattle.ms_combine.specs.declared.keys.Marked.{Marked}
use Rattle.ms_combine.proofs.Firsts.{inside, first_is}
use Rattle.ms_combine.proofs.keys.is_first.Goals as goal

-- what stands at the first place of the key or later
pub returns-in-Some : goal.returns-in-Some
returns-in-Some c =
    let there = c.in-Some.ensures.lookup.3 in
    first_is c.args.bytes.now c.args.order.now c.requires.order c.args.place c.requires.stands c.count_before.result c.count_before.ensures c.in-Some.first.now.place
    (λ d. ap (λ (m : Marked). m.place) (sym (there.1 d)))

-- the place itself stands there
pub returns-in-None : goal.returns-in-None
returns-in-None c = λ k d less same.
    let past = ltb-false _ _ (sym c.in-None.ensures.lookup.0) in
    let within = inside c.args.bytes.now c.args.order.now c.requires.order c.args.place c.requires.stands c.count_before.result c.count_before.ensures d in
    absurd (omega (arith, past, within))
