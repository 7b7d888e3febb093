-- The answers to lines, one after the other.
use Rattle.std.proofs.Common.{◌≡◌, List, [], ◌∷◌, ◌++◌, append_assoc, append-nil, refl, sym, ◌∙◌, ap, subst}
use Rattle.def_script.specs.Bytes.{Bytes}
use Rattle.def_lines.specs.Lines.{lines, LF}
use Rattle.def_lines.specs.Answers.{AnswersOf, AnswersEach, AnswersLine}
use Rattle.def_lines.specs.Laws.{Alone}
use Rattle.def_lines.proofs.Cuts.{lines_alone}

-- the answers to two lists of lines
pub each_after : (IsAnswer : AnswersOf) (ls ms : List Bytes) (first rest : Bytes)
    → AnswersEach IsAnswer ls first → AnswersEach IsAnswer ms rest → AnswersEach IsAnswer (ls ++ ms) (first ++ rest)
unfolding AnswersEach
each_after IsAnswer [] ms first rest none after = subst (λ f. AnswersEach IsAnswer ms (f ++ rest)) (sym none) after
each_after IsAnswer (line ∷ ls) ms first rest (a, rests, one, more, e) after =
    (a, rests ++ rest, one, each_after IsAnswer ls ms rests rest more after, ap (λ f. f ++ rest) e ∙ append_assoc a rests rest)

pub each_parts : (IsAnswer : AnswersOf) (ls ms : List Bytes) (answers : Bytes) → AnswersEach IsAnswer (ls ++ ms) answers
    → (first rest : Bytes) × AnswersEach IsAnswer ls first × AnswersEach IsAnswer ms rest × (answers ≡ first ++ rest)
unfolding AnswersEach
each_parts IsAnswer [] ms answers all = ([], answers, refl, all, refl)
each_parts IsAnswer (line ∷ ls) ms answers (a, rests, one, more, e) =
    let parts = each_parts IsAnswer ls ms rests more in
    (a ++ parts.0, parts.1, (a, parts.0, one, parts.2, refl), parts.3, e ∙ ap (λ r. a ++ r) parts.4 ∙ sym (append_assoc a parts.0 parts.1))

pub one_answer : (IsAnswer : AnswersOf) (line answer : Bytes) → AnswersLine IsAnswer line answer → AnswersEach IsAnswer (line ∷ []) answer
unfolding AnswersEach
one_answer IsAnswer line answer one = (answer, [], one, refl, sym (append-nil answer))

pub answered_alone : (IsAnswer : AnswersOf) → Alone IsAnswer
answered_alone IsAnswer one two answers = (
  λ all. each_parts IsAnswer (lines (one ++ LF ∷ [])) (lines two) answers
      (subst (λ ls. AnswersEach IsAnswer ls answers) (lines_alone one two) all),
  λ (first, rest, before, after, e).
      subst (AnswersEach IsAnswer (lines (one ++ LF ∷ two))) (sym e)
      (subst (λ ls. AnswersEach IsAnswer ls (first ++ rest)) (sym (lines_alone one two))
      (each_after IsAnswer (lines (one ++ LF ∷ [])) (lines two) first rest before after)),
)
