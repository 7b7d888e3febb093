-- What holds of the answer to words that lie in a buffer, of any program.
use Rattle.std.proofs.Common.{◌≡◌, ◌≢◌, ◌⊎◌, ℕ, List, inl, inr, subst}
use Rattle.std.specs.Prelude.{All, IsUtf8}
use Rattle.def_script.specs.Bytes.{Bytes}
use Rattle.ms_io.specs.Endings.{AnswersWith}
use Rattle.ms_calls.specs.Words.{AreWords, HoldsOfAnswer}
use Rattle.ms_calls.proofs.WordLemmas.{one_list}

-- words and a source have one answer
abbrev pub HaveOneAnswer : {S : Type 0} → AnswersWith S → Type 0
HaveOneAnswer {S} IsAnswer =
    (words : List Bytes) (source : Bytes) (s t : S) (p q : Bytes) → All IsUtf8 words → IsAnswer words source s p → IsAnswer words source t q
    → (s ≡ t) × (p ≡ q)

-- what holds of the answer to words that bytes are holds of each answer to words that they are
pub holds_of_answer : {S : Type 0} (IsAnswer : AnswersWith S) → HaveOneAnswer IsAnswer → (count : ℕ) (bytes source : Bytes) (words : List Bytes) (s : S) (p : Bytes)
    (code : ℕ) (IsSo : S → Bytes → Type 0) → AreWords count bytes words → IsAnswer words source s p → IsSo s p → HoldsOfAnswer IsAnswer count bytes source code IsSo
holds_of_answer IsAnswer one count bytes source words s p code IsSo are answer so others t q are_too other given =
    let same = one words source s t p q are.utf8 answer (subst (λ l. IsAnswer l source t q) (one_list count bytes others words are_too are) other) in
    subst (λ r. IsSo t r) same.1 (subst (λ u. IsSo u p) same.0 so)

-- a code that is neither of those without an answer
pub other_code : (n : ℕ) → n ≢ 11 → n ≢ 7 → (n ≡ 11) ⊎ (n ≡ 7) → ⊥
other_code n not_11 not_7 (inl e) = not_11 e
other_code n not_11 not_7 (inr e) = not_7 e
