use Rattle.ms_choice.proofs.Tallies.{sums, told_free, told_forced, told_out, told_stuck}
use Rattle.ms_choice.proofs.tally.Tally.add.Goals as goal

pub returns-in-Some-Some-clause-told : goal.returns-in-Some-Some-clause-told
returns-in-Some-Some-clause-told c = λ n cs told.
    let a = c.in-Some-Some in
    told_free n cs c.args.self.now c.args.slots.now told c.args.child.now a.sat a.dsat c.plus-self.result c.slot_of.result a.is-0 a.is-1 c.requires.room
    (sums _ _ _ c.plus-self.ensures.first c.plus-self.ensures.second c.plus-self.ensures.third n) (c.slot_of.ensures.differences n) c.slot_of.ensures.place

pub returns-in-Some-None-clause-told : goal.returns-in-Some-None-clause-told
returns-in-Some-None-clause-told c = λ n cs told.
    let a = c.in-Some-None in
    told_forced n cs c.args.self.now c.args.slots.now told c.args.child.now a.sat c.plus-self-in-Some-None.result a.is-0 a.is-1
    (sums _ _ _ c.plus-self-in-Some-None.ensures.first c.plus-self-in-Some-None.ensures.second c.plus-self-in-Some-None.ensures.third n)

pub returns-in-None-Some-clause-told : goal.returns-in-None-Some-clause-told
returns-in-None-Some-clause-told c = λ n cs told.
    let a = c.in-None-Some in
    told_out n cs c.args.self.now c.args.slots.now told c.args.child.now a.dsat c.plus-self-in-None-Some.result a.is-0 a.is-1
    (sums _ _ _ c.plus-self-in-None-Some.ensures.first c.plus-self-in-None-Some.ensures.second c.plus-self-in-None-Some.ensures.third n)

pub returns-in-None-None-clause-told : goal.returns-in-None-None-clause-told
returns-in-None-None-clause-told c = λ n cs told.
    told_stuck n cs c.args.self.now c.args.slots.now told c.args.child.now c.in-None-None.is-0 c.in-None-None.is-1
