-- The bits of a word, one after the other.
use Rattle.std.proofs.Common.{◌≡◌, ℕ, suc, ◌+◌, ◌-◌, ◌*◌, ◌/◌, ◌^◌, ◌<◌, subst, arith, bit_and}
use Rattle.def_curve.specs.Point.{Point}
use Rattle.ms_point.specs.Standing.{StandsFor, point_at}
use Rattle.ms_point.proofs.Bits.{renamed, next_bits, last_bits}
use Rattle.ms_point.proofs.multiples.next_word.Goals as goal

pub loop-i-preserved : goal.loop-i-preserved
loop-i-preserved c = record {
  reduced = c.next-a.ensures.reduced;
  so_far = λ bits k h.
      let i : ℕ = c.loop-i.i in
      let w : ℕ = c.args.word in
      let P : Point = point_at c.args.point in
      let count : suc (bits + i) ≡ bits + (i + 1) = omega arith in
      let below : i < 64 = omega arith in
      subst (λ (Q : Point). StandsFor c.next-a.result Q)
      (renamed (suc (bits + i)) (bits + (i + 1)) (2 * (k * 2 ^ i + w / 2 ^ (64 - i)) + bit_and (w / 2 ^ (63 - i)) 1) (k * 2 ^ (i + 1) + w / 2 ^ (64 - (i + 1))) P
      count (next_bits w k i below))
      (c.next-a.ensures.multiple (bits + i) (k * 2 ^ i + w / 2 ^ (64 - i)) (c.loop-i.invariant.so_far bits k h));
}

pub returns-clause-multiple : goal.returns-clause-multiple
returns-clause-multiple c bits k h =
    let i : ℕ = c.loop-i.i in
    let w : ℕ = c.args.word in
    let all : i ≡ 64 = omega arith in
    let count : bits + i ≡ bits + 64 = omega arith in
    subst (λ (Q : Point). StandsFor c.loop-i.a Q)
    (renamed (bits + i) (bits + 64) (k * 2 ^ i + w / 2 ^ (64 - i)) (k * 2 ^ 64 + w) (point_at c.args.point) count (last_bits w k i all))
    (c.loop-i.invariant.so_far bits k h)
