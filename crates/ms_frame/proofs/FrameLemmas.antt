-- The answers to the lines of a source in memory, words that are one alone, and calls that wrote their report whole.
use Rattle.std.proofs.Common.{◌≡◌, ◌≢◌, ◌↔◌, ◌⊎◌, ◌∙◌, ◌++◌, Bool, ℕ, List, [], ◌∷◌, Some, inl, inr, sym, ap, subst}
use Rattle.std.specs.Prelude.{Option, IsTrue}
use Rattle.std.specs.Io.KnownBytes.{Keeps}
use Rattle.def_script.specs.Bytes.{Bytes}
use Rattle.def_lines.specs.Answers.{AnswersOf, AnswersLines}
use Rattle.ms_io.specs.Endings.{AnswersWith, WritesAnswerOf, WritesPrefixOf}
use Rattle.ms_io.specs.Sides.{CallWith, Rose}
use Rattle.ms_lines.specs.Streams.{AnswersAll}

-- what was written to the lines of a source are their answers
pub lines_written : (IsAnswer : AnswersOf) (held source sunk report : Bytes) (left : Option Bytes) (b n k m : ℕ) → held ≡ source → sunk ≡ []
    → AnswersAll IsAnswer (record { old = Some held; new = left; before = b; now = n }) (record { old = Some sunk; new = Some report; before = k; now = m })
    → AnswersLines IsAnswer source report
lines_written IsAnswer held source sunk report left b n k m same none all =
    subst (λ (r : Bytes). AnswersLines IsAnswer source r) (sym (all.written ∙ ap (λ l. l ++ all.answers) none))
    (subst (λ (b : Bytes). AnswersLines IsAnswer b all.answers) (sym all.told ∙ same) all.are)

-- a word is another one exactly where it alone is that one alone
pub alone_same : (word other : Bytes) (same : Bool) → IsTrue same ↔ (word ≡ other) → IsTrue same ↔ (word ∷ [] ≡ other ∷ [])
alone_same word other same e = (λ yes. ap (λ w. w ∷ []) (e.0 yes), λ lists. e.1 (cc lists))

-- a call wrote its report whole that ended with another status than those of its faults and of want of memory
pub whole_report : {S : Type 0} (IsAnswer : AnswersWith S) (read write memory : S) (Reads Takes : List Bytes → Type 0) (c : CallWith S)
    → c.status ≢ read → c.status ≢ write → c.status ≢ memory
    → WritesAnswerOf IsAnswer c ⊎ (WritesPrefixOf IsAnswer write c
    ⊎ (((c.status ≡ read) × Rose c.source.before c.source.now × Keeps c.sink.old c.sink.new × Reads c.words)
    ⊎ ((c.status ≡ memory) × Keeps c.sink.old c.sink.new × Takes c.words)))
    → WritesAnswerOf IsAnswer c
whole_report IsAnswer read write memory Reads Takes c not_read not_write not_memory (inl w) = w
whole_report IsAnswer read write memory Reads Takes c not_read not_write not_memory (inr (inl w)) = absurd (not_write w.0)
whole_report IsAnswer read write memory Reads Takes c not_read not_write not_memory (inr (inr (inl w))) = absurd (not_read w.0)
whole_report IsAnswer read write memory Reads Takes c not_read not_write not_memory (inr (inr (inr w))) = absurd (not_memory w.0)
