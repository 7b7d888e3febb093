-- The answer of a call over a PSBT, whose source and sink lie in memory.
use Rattle.std.proofs.Common.{◌≡◌, ◌⊎◌, ℕ, List, subst, arith}
use Rattle.def_script.specs.Bytes.{Bytes}
use Rattle.def_psbt_answer.specs.declared.status.Status.{Status}
use Rattle.def_psbt_answer.specs.declared.status.Status.TheVariants as status
use Rattle.def_psbt_answer.specs.Answer.{Answer}
use Rattle.def_psbt_answer.specs.Status.{code_of}
use Rattle.ms_psbt_answer_laws.proofs.Statuses.{IsAnswered, answers_have_status}
use Rattle.ms_psbt_answer_laws.proofs.Unique.{one_answer}
use Rattle.ms_calls.specs.Words.{AreWords, HoldsOfAnswer}
use Rattle.ms_calls.proofs.BufferLemmas.{holds_of_answer, other_code}

-- what holds of the answer to words that bytes are holds of each answer to words that they are
pub holds_of_answers : (count : ℕ) (bytes source : Bytes) (words : List Bytes) (s : Status) (p : Bytes) (code : ℕ) (IsSo : Status → Bytes → Type 0)
    → AreWords count bytes words → Answer words source s p → IsSo s p → HoldsOfAnswer Answer count bytes source code IsSo
holds_of_answers = holds_of_answer Answer (λ words source s t p q utf8. one_answer words source s t p q)

no_stop : (s : Status) → IsAnswered s → (code_of s ≡ 11) ⊎ (code_of s ≡ 7) → ⊥
no_stop status.Done a e = other_code 0 (omega arith) (omega arith) e
no_stop status.Usage a e = other_code 1 (omega arith) (omega arith) e
no_stop status.Refused a e = other_code 3 (omega arith) (omega arith) e
no_stop status.Open a e = other_code 4 (omega arith) (omega arith) e
no_stop status.ReadFault a e = absurd a
no_stop status.WriteFault a e = absurd a
no_stop status.Memory a e = absurd a

-- the code of an answer is another one than those without
pub answer_is_no_stop : (words : List Bytes) (source : Bytes) (s : Status) (p : Bytes) (code : ℕ) → Answer words source s p → code ≡ code_of s → (code ≡ 11) ⊎ (code ≡ 7) → ⊥
answer_is_no_stop words source s p code answer is stop =
    no_stop s (answers_have_status words source s p answer) (subst (λ (n : ℕ). (n ≡ 11) ⊎ (n ≡ 7)) is stop)
