-- What is missing, or all that there is.
use Rattle.std.proofs.Common.{◌≢◌, ◌≡◌, length, sym, ◌∙◌, ap, arith}
use Rattle.def_script.specs.Bytes.{Bytes}
use Rattle.def_curve.specs.Point.{Point}
use Rattle.def_curve.specs.Key.{number_of}
use Rattle.def_curve.specs.Judgement.{judged}
use Rattle.ms_point.specs.Standing.{point_at}
use Rattle.ms_judge.proofs.Cases.{bad_without_numbers, bad_of_another_length, bad_without_point, judged_with}
use Rattle.ms_judge.proofs.judge.judge.Goals as goal

pub returns-in_default : goal.returns-in_default
returns-in_default c = sym (bad_without_numbers c.args.key.now c.args.hash.now c.args.signature.now c.in_default.ensures)

pub returns-then-hash-ne32 : goal.returns-then-hash-ne32
returns-then-hash-ne32 c =
    let apart : length c.args.hash.now ≢ 32 = λ e. omega (arith, e) in
    sym (bad_of_another_length c.args.key.now c.args.hash.now c.args.signature.now apart)

pub returns-in-None : goal.returns-in-None
returns-in-None c = sym (bad_without_point c.args.key.now c.args.hash.now c.args.signature.now (sym c.in-None.ensures.point))

pub returns-in-Some-point_of : goal.returns-in-Some-point_of
returns-in-Some-point_of c =
    let P : Point = point_at c.in-Some-point_of.point in
    let r : Bytes = c.in-Some.r.now in
    let s : Bytes = c.in-Some.s.now in
    let whole : length c.args.hash.now ≡ 32 = omega arith in
    c.judged_bytes.ensures ∙ ap (λ z. judged P z (number_of r) (number_of s)) c.number_of.ensures
    ∙ sym (judged_with c.args.key.now c.args.hash.now c.args.signature.now r s P (sym c.in-Some-point_of.ensures.point) c.in-Some.ensures whole)
