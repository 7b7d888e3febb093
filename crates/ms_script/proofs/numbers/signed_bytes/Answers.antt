use Rattle.std.proofs.Common.{length-set, arith, ◌∙◌}
use Rattle.ms_script.proofs.NumberLemmas.{last-written, more-written}
use Rattle.ms_script.proofs.numbers.signed_bytes.Goals as goal

pub returns-then-left-lt128 : goal.returns-then-left-lt128
returns-then-left-lt128 c =
    rw c.last_byte.ensures
    (last-written c.loop-len.bytes c.loop-len.len c.loop-len.left c.args.magnitude c.args.negative c.loop-len-test.true c.loop-len.invariant.five c.if-left-lt128.true c.loop-len.invariant.same)

pub loop-len-preserved : goal.loop-len-preserved
loop-len-preserved c = record {
  within = omega arith;
  five = length-set c.loop-len.bytes c.loop-len.len _ ∙ c.loop-len.invariant.five;
  same = more-written c.loop-len.bytes c.loop-len.len c.loop-len.left c.args.magnitude c.args.negative c.loop-len-test.true c.loop-len.invariant.five c.if-left-lt128.false c.loop-len.invariant.same;
}
