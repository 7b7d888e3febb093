-- What a call wrote whose source and sink lie in memory.
use Rattle.std.proofs.Common.{◌≡◌, ℕ, List, [], ◌++◌, Some, sym, ap, subst, ◌∙◌}
use Rattle.std.specs.Prelude.{Option}
use Rattle.def_script.specs.Bytes.{Bytes}
use Rattle.ms_io.specs.Endings.{AnswersWith, WritesAnswerOf}
use Rattle.ms_io.specs.Sides.{call}

-- a report that was written to an empty sink is that of the answer to what the source held
pub answer_written : {S : Type 0} (IsAnswer : AnswersWith S) (words : List Bytes) (held source sunk report : Bytes) (s : S) (left : Option Bytes) (b n k m : ℕ)
    → held ≡ source → sunk ≡ []
    → WritesAnswerOf IsAnswer (call words (record { old = Some held; new = left; before = b; now = n }) (record { old = Some sunk; new = Some report; before = k; now = m }) s)
    → IsAnswer words source s report
answer_written IsAnswer words held source sunk report s left b n k m same none w =
    subst (λ r. IsAnswer words source s r) (sym (w.2 ∙ ap (λ l. l ++ w.0) none)) (subst (λ h. IsAnswer words h s w.0) (sym w.1.1 ∙ same) w.1.2)
