use Rattle.std.proofs.Common.{◌≤◌, length, inl, inr, ⊎_elim, arith}
use Rattle.std.proofs.lemmas.Bool.{cases_lt}
use Rattle.ms_psbt.specs.Scaffolding.Repeats.{places_of}
use Rattle.ms_psbt.proofs.Repeating.{least_none, least_end}
use Rattle.ms_psbt.proofs.repeats.least_repeat.Goals as goal

pub loop-i-init : goal.loop-i-init
loop-i-init c = (least_none c.args.keys c.args.bytes.now (places_of c.args.order.now), λ h. absurd (omega arith))

pub loop-i-preserved : goal.loop-i-preserved
loop-i-preserved c = (c.least_with-least.ensures c.loop-i.invariant.0, λ h. omega (arith, c.loop-i-test.true))

pub returns : goal.returns
returns c =
    let n = length c.args.order.now in
    let upper = c.loop-i.invariant.1 in
    let low : 1 ≤ c.loop-i.i = c.loop-i.auto.i in
    let past : n ≤ c.loop-i.i = c.loop-i-test.false in
    least_end c.args.keys c.args.bytes.now (places_of c.args.order.now) c.loop-i.i n c.loop-i.least past (λ some. omega arith)
    (⊎_elim (λ more. let high = upper more in inl (omega arith)) (λ one. ⊎_elim (λ some. inl (omega arith)) (λ none. inr (omega arith, omega arith)) (cases_lt 0 n)) (cases_lt 1 c.loop-i.i))
    c.loop-i.invariant.0
