-- The answer to words that lie in a buffer.
use Rattle.std.proofs.Common.{◌≡◌, ◌⊎◌, ◌∙◌, ℕ, List, [], ◌∷◌, length, inl, inr, ap, subst, arith}
use Rattle.std.specs.Prelude.{codes}
use Rattle.def_script.specs.Bytes.{Bytes}
use Rattle.def_answer.specs.declared.status.Status.{Status}
use Rattle.def_answer.specs.declared.status.Status.TheVariants as status
use Rattle.ms_answer_laws.specs.Laws.{IsAnswered}
use Rattle.def_answer.specs.Status.{code_of}
use Rattle.ms_answer_laws.proofs.Early.{answers_have_status}
use Rattle.ms_answer_laws.proofs.Unique.{one_answer}
use Rattle.msat_lines.specs.Frame.{OtherAnswer, WholeAnswer}
use Rattle.ms_calls.specs.Buffers.{written_over}
use Rattle.ms_calls.specs.Lines.{HoldsOfLines}
use Rattle.ms_calls.specs.Words.{AreWords, HoldsOfAnswer}
use Rattle.ms_calls.proofs.BufferLemmas.{HaveOneAnswer, holds_of_answer, other_code}
use Rattle.ms_calls.proofs.WordLemmas.{one_list}

one_other : HaveOneAnswer OtherAnswer
one_other words source s t p q utf8 a b = one_answer words source s t p q utf8 a.answer b.answer

-- what holds of the answer to words that bytes are holds of each answer to words that they are
pub holds_of_others : (count : ℕ) (bytes source : Bytes) (words : List Bytes) (s : Status) (p : Bytes) (code : ℕ) (IsSo : Status → Bytes → Type 0)
    → AreWords count bytes words → WholeAnswer words source s p → IsSo s p → HoldsOfAnswer OtherAnswer count bytes source code IsSo
holds_of_others count bytes source words s p code IsSo are (inl other) so others t q are_too another given =
    holds_of_answer OtherAnswer one_other count bytes source words s p code IsSo are other so others t q are_too another given
holds_of_others count bytes source words s p code IsSo are (inr lines) so others t q are_too another given =
    absurd (another.others (one_list count bytes others words are_too are ∙ lines.asks))

-- the answers to lines
pub holds_of_lines : (count : ℕ) (bytes source : Bytes) (words : List Bytes) (s : Status) (p : Bytes) (code : ℕ) (old new : Bytes) (needed : ℕ)
    → AreWords count bytes words → WholeAnswer words source s p → code ≡ code_of s → new ≡ written_over old p → needed ≡ length p
    → HoldsOfLines count bytes source code old new needed
holds_of_lines count bytes source words s p code old new needed are (inl other) told written counted are_lines given =
    absurd (other.others (one_list count bytes words (codes "lines" ∷ []) are are_lines))
holds_of_lines count bytes source words s p code old new needed are (inr lines) told written counted are_lines given = record {
  answers = p;
  are = lines.answers;
  done = told ∙ ap code_of lines.done;
  written = written;
  whole = counted;
}

no_stop : (s : Status) → IsAnswered s → (code_of s ≡ 11) ⊎ (code_of s ≡ 7) → ⊥
no_stop status.Done a e = other_code 0 (omega arith) (omega arith) e
no_stop status.Usage a e = other_code 1 (omega arith) (omega arith) e
no_stop status.TextRefused a e = other_code 2 (omega arith) (omega arith) e
no_stop status.FileRefused a e = other_code 3 (omega arith) (omega arith) e
no_stop status.NoSatisfaction a e = other_code 4 (omega arith) (omega arith) e
no_stop status.ReadFault a e = absurd a
no_stop status.WriteFault a e = absurd a
no_stop status.Memory a e = absurd a
no_stop status.ScriptRefused a e = other_code 8 (omega arith) (omega arith) e
no_stop status.NotAccepted a e = other_code 9 (omega arith) (omega arith) e
no_stop status.NoReading a e = other_code 10 (omega arith) (omega arith) e

-- the code of an answer is another one than those without
pub answer_is_no_stop : (words : List Bytes) (source : Bytes) (s : Status) (p : Bytes) (code : ℕ) → WholeAnswer words source s p → code ≡ code_of s → (code ≡ 11) ⊎ (code ≡ 7) → ⊥
answer_is_no_stop words source s p code (inl other) is stop =
    no_stop s (answers_have_status words source s p other.answer) (subst (λ (n : ℕ). (n ≡ 11) ⊎ (n ≡ 7)) is stop)
answer_is_no_stop words source s p code (inr lines) is stop =
    other_code 0 (omega arith) (omega arith) (subst (λ (n : ℕ). (n ≡ 11) ⊎ (n ≡ 7)) (is ∙ ap code_of lines.done) stop)
