use Rattle.std.proofs.Common.{◌≡◌, ◌<◌, length, option_map, ap, ◌∙◌, arith}
use Rattle.std.proofs.lemmas.Grind.{common_steps}
use Rattle.ms_combine.specs.Scaffolding.Left.{lines_in}
use Rattle.ms_combine.proofs.Lining.{left_is, none_left, text_before, none_before, room_left}
use Rattle.ms_combine.proofs.lines.next_text.Goals as goal

pub returns-then-not-is_empty-clause-texts : goal.returns-then-not-is_empty-clause-texts
returns-then-not-is_empty-clause-texts c =
    let some : 0 < length c.in_ok-text.text.items = grind (arith, common_steps) in
    c.loop-left.invariant.0 ∙ left_is c.loop-left.left c.in-Some.rest.now (ap (option_map (λ r. r.now)) c.in-Some.is)
    ∙ text_before c.loop-left.left.number c.in-Some.rest.now c.first_line.result.0.now c.in_ok-text.text.items (lines_in (option_map (λ r. r.now) c.first_line.result.1))
    c.first_line.ensures.line c.in_ok-text.ensures some

pub loop-left-preserved : goal.loop-left-preserved
loop-left-preserved c =
    let none : length c.in_ok-text.text.items ≡ 0 = grind (arith, common_steps) in (
      c.loop-left.invariant.0 ∙ left_is c.loop-left.left c.in-Some.rest.now (ap (option_map (λ r. r.now)) c.in-Some.is)
          ∙ none_before c.loop-left.left.number c.in-Some.rest.now c.first_line.result.0.now c.in_ok-text.text.items (lines_in (option_map (λ r. r.now) c.first_line.result.1))
          c.first_line.ensures.line c.in_ok-text.ensures none,
      room_left (λ r. r.now) c.loop-left.left c.in-Some.rest.now c.first_line.result.1 c.loop-left.invariant.1 (ap (option_map (λ r. r.now)) c.in-Some.is) c.first_line.ensures.shorter,
    )

pub returns-clause-texts : goal.returns-clause-texts
returns-clause-texts c = c.loop-left.invariant.0 ∙ none_left c.loop-left.left (ap (option_map (λ r. r.now)) c.in_default.is)
