-- The four words, the highest first, from infinity on.
use Rattle.std.proofs.Common.{◌≡◌, ℕ, ◌+◌, ◌*◌, ◌^◌, refl, sym, subst, arith}
use Rattle.def_curve.specs.Point.{Point, multiple}
use Rattle.ms_field.specs.Limbs.{value}
use Rattle.ms_point.specs.Standing.{StandFor, StandsFor, point_at}
use Rattle.ms_point.proofs.Bits.{multiple_none, renamed}
use Rattle.ms_point.proofs.multiples.times.Goals as goal

pub returns-clause-multiple : goal.returns-clause-multiple
returns-clause-multiple c =
    let P : Point = point_at c.args.point in
    let a : ℕ = c.args.k.fourth in
    let b : ℕ = a * 2 ^ 64 + c.args.k.third in
    let d : ℕ = b * 2 ^ 64 + c.args.k.second in
    let e : ℕ = d * 2 ^ 64 + c.args.k.first in
    let none : 0 * 2 ^ 64 + a ≡ a = omega arith in
    let all : e ≡ value c.args.k = omega arith in
    let nothing : StandFor 1 1 0 (multiple 0 0 P) = subst (λ (Q : Point). StandFor 1 1 0 Q) (sym (multiple_none 0 P)) refl in
    let first : StandsFor c.next_word-a.result (multiple 64 a P) =
    subst (λ (Q : Point). StandsFor c.next_word-a.result Q) (renamed 64 64 (0 * 2 ^ 64 + a) a P refl none) (c.next_word-a.ensures.multiple 0 0 nothing) in
    let second : StandsFor c.next_word-b.result (multiple 128 b P) = c.next_word-b.ensures.multiple 64 a first in
    let third : StandsFor c.next_word-c.result (multiple 192 d P) = c.next_word-c.ensures.multiple 128 b second in
    subst (λ (Q : Point). StandsFor c.next_word.result Q) (renamed 256 256 e (value c.args.k) P refl all) (c.next_word.ensures.multiple 192 d third)
