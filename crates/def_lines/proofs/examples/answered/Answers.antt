-- The example that is, computed; and of those that aren't, what they tell.
use Rattle.def_lines.proofs.examples.answered.Goals as goal
use Rattle.std.proofs.Common.{inl, Some, refl, arith}
use Rattle.std.specs.Prelude.{codes, None}
use Rattle.std.specs.Fmt.{digits}
use Rattle.def_script.specs.Bytes.{Bytes}
use Rattle.def_lines.specs.Question.{whole}
use Rattle.def_lines.specs.Examples.{TellsThree, OthersThanTheirs, OthersThanRefusals, asks_three}
use Rattle.def_lines.proofs.Told.{told_back}
use Rattle.def_lines.proofs.Answered.{other, not_three, not_refused, two_one, none_one, one_none, letters}
use Rattle.def_lines.proofs.OnLiterals.{lines_on_literals}

abbrev x : Bytes
x = codes "x\n"

tells : TellsThree
unfolding lines_on_literals digits
tells = record {
  id = Some (whole 1);
  status = 3;
  report = x;
  replies = inl (refl, (refl, refl));
  written = refl;
  back = told_back (Some (whole 1)) 3 x refl (omega arith) refl;
}

theirs : OthersThanTheirs
unfolding lines_on_literals digits
theirs = (
  other asks_three _ (Some (whole 2)) 3 x (told_back (Some (whole 2)) 3 x refl (omega arith) refl)
      (not_three (Some (whole 2)) 3 x (λ own is told. two_one own) (λ e. omega (arith, e))),
  other asks_three _ None 3 x (told_back None 3 x tt (omega arith) refl)
      (not_three None 3 x (λ own is told. none_one own) (λ e. omega (arith, e))),
  other asks_three _ (Some (whole 1)) 4 x (told_back (Some (whole 1)) 4 x refl (omega arith) refl)
      (not_three (Some (whole 1)) 4 x (λ own is told. omega (arith, is)) (λ e. omega (arith, e))),
  other asks_three _ (Some (whole 1)) 3 (codes "y\n") (told_back (Some (whole 1)) 3 (codes "y\n") refl (omega arith) refl)
      (not_three (Some (whole 1)) 3 (codes "y\n") (λ own is told. letters 0 (codes "y\n") x (λ e. omega (arith, e)) told) (λ e. omega (arith, e))),
)

abbrev line_refused : Bytes
line_refused = codes "refused line Shape line\n"

abbrev json_refused : Bytes
json_refused = codes "refused line NotJson\n"

refusals : OthersThanRefusals
unfolding lines_on_literals digits
refusals = (
  other (codes "[]") _ (Some (whole 1)) 12 line_refused (told_back (Some (whole 1)) 12 line_refused refl (omega arith) refl)
      (not_refused (Some (whole 1)) 12 line_refused (λ own is told. one_none own) (λ e. omega (arith, e))),
  other (codes "[]") _ None 3 line_refused (told_back None 3 line_refused tt (omega arith) refl)
      (not_refused None 3 line_refused (λ own is told. omega (arith, is)) (λ e. omega (arith, e))),
  other (codes "[]") _ None 12 json_refused (told_back None 12 json_refused tt (omega arith) refl)
      (not_refused None 12 json_refused (λ own is told. letters 13 json_refused _ (λ e. omega (arith, e)) told) (λ e. omega (arith, e))),
)

pub returns : goal.returns
returns c = record { told = tells; others = theirs; refused = refusals }
