-- The answer of a call over a descriptor, whose source and sink lie in memory.
use Rattle.std.proofs.Common.{◌≡◌, ◌⊎◌, Bool, true, false, ℕ, List, [], ◌∷◌, Some, None, subst, arith, option_map, option_and_then}
use Rattle.std.specs.Prelude.{All, IsUtf8, Option, if◌then◌else◌, codes}
use Rattle.std.specs.Str.{bytes_eq}
use Rattle.std.proofs.lemmas.List.Elements.{All-head, All-tail}
use Rattle.def_script.specs.Bytes.{Bytes}
use Rattle.def_address.specs.declared.Network.{Network}
use Rattle.def_address.specs.declared.Network.TheVariants.{Test, Regtest}
use Rattle.def_descriptor_answer.specs.declared.status.Status.{Status}
use Rattle.def_descriptor_answer.specs.declared.status.Status.TheVariants as status
use Rattle.def_descriptor_answer.specs.Words.{Command, Span, derivation, branch_in, span_of, text_and_span, behind_branch, behind_network, derive_of, check_of, count_in, update, update_of, command_of}
use Rattle.def_descriptor_answer.specs.Answer.{Answer}
use Rattle.def_descriptor_answer.specs.Status.{code_of}
use Rattle.def_descriptor_answer.specs.Laws.{AskUtf8, OneAnswer, IsAnswered, AnswersHaveStatus}
use Rattle.ms_calls.specs.Words.{AreWords, HoldsOfAnswer}
use Rattle.ms_calls.proofs.BufferLemmas.{HaveOneAnswer, holds_of_answer, other_code}

-- ---- the text of what words of UTF-8 ask is UTF-8

first : (word : Bytes) (words : List Bytes) → All IsUtf8 (word ∷ words) → IsUtf8 word
first = All-head IsUtf8

others : (word : Bytes) (words : List Bytes) → All IsUtf8 (word ∷ words) → All IsUtf8 words
others = All-tail IsUtf8

either : (b : Bool) (one other : Option Command) → AskUtf8 one → AskUtf8 other → AskUtf8 (if b then one else other)
either true one other h k = h
either false one other h k = k

at_span : (network : Option Network) (branch : ℕ) (text : Bytes) (span : Option Span) → IsUtf8 text → AskUtf8 (option_map (derivation network branch text) span)
at_span network branch text None h = tt
at_span network branch text (Some span) h = h

text_utf8 : (network : Option Network) (branch : ℕ) (words : List Bytes) → All IsUtf8 words → AskUtf8 (text_and_span network branch words)
text_utf8 network branch [] h = tt
text_utf8 network branch (text ∷ words) h = at_span network branch text (span_of words) (first text words h)

by_branch : (network : Option Network) (branch : Option ℕ) (words : List Bytes) → All IsUtf8 words
    → AskUtf8 (option_and_then (λ n. text_and_span network n words) branch)
by_branch network None words h = tt
by_branch network (Some branch) words h = text_utf8 network branch words h

branch_utf8 : (network : Option Network) (words : List Bytes) → All IsUtf8 words → AskUtf8 (behind_branch network words)
branch_utf8 network [] h = tt
branch_utf8 network (branch ∷ words) h = by_branch network (branch_in branch) words (others branch words h)

network_utf8 : (network : Option Network) (words : List Bytes) → All IsUtf8 words → AskUtf8 (behind_network network words)
network_utf8 network [] h = tt
network_utf8 network (word ∷ words) h =
    either (bytes_eq word (codes "--branch")) (behind_branch network words) (text_and_span network 0 (word ∷ words)) (branch_utf8 network words (others word words h))
    (text_utf8 network 0 (word ∷ words) h)

derive_utf8 : (words : List Bytes) → All IsUtf8 words → AskUtf8 (derive_of words)
derive_utf8 [] h = tt
derive_utf8 (word ∷ words) h =
    let other = behind_network None (word ∷ words) in
    let regtest = behind_network (Some Regtest) words in
    either (bytes_eq word (codes "--testnet")) (behind_network (Some Test) words) (if bytes_eq word (codes "--regtest") then regtest else other)
    (network_utf8 (Some Test) words (others word words h))
    (either (bytes_eq word (codes "--regtest")) regtest other (network_utf8 (Some Regtest) words (others word words h)) (network_utf8 None (word ∷ words) h))

check_utf8 : (words : List Bytes) → All IsUtf8 words → AskUtf8 (check_of words)
check_utf8 [] h = tt
check_utf8 (text ∷ []) h = first text [] h
check_utf8 (text ∷ other ∷ words) h = tt

at_count : (text : Bytes) (count : Option ℕ) → IsUtf8 text → AskUtf8 (option_map (update text) count)
at_count text None h = tt
at_count text (Some count) h = h

update_utf8 : (words : List Bytes) → All IsUtf8 words → AskUtf8 (update_of words)
update_utf8 [] h = tt
update_utf8 (text ∷ []) h = tt
update_utf8 (text ∷ count ∷ []) h = at_count text (count_in count) (first text (count ∷ []) h)
update_utf8 (text ∷ count ∷ other ∷ words) h = tt

ask_utf8 : (words : List Bytes) → All IsUtf8 words → AskUtf8 (command_of words)
ask_utf8 [] h = tt
ask_utf8 (name ∷ words) h =
    let updated : Option Command = if bytes_eq name (codes "update") then update_of words else None in
    let derived : Option Command = if bytes_eq name (codes "derive") then derive_of words else updated in
    either (bytes_eq name (codes "check")) (check_of words) derived (check_utf8 words (others name words h))
    (either (bytes_eq name (codes "derive")) (derive_of words) updated (derive_utf8 words (others name words h))
    (either (bytes_eq name (codes "update")) (update_of words) None (update_utf8 words (others name words h)) tt))

-- ---- the answer

one_of_words : OneAnswer → HaveOneAnswer Answer
one_of_words law words source s t p q utf8 a b = law words source s t p q (ask_utf8 words utf8) a b

-- what holds of the answer to words that bytes are holds of each answer to words that they are
pub holds_of_descriptors : OneAnswer → (count : ℕ) (bytes source : Bytes) (words : List Bytes) (s : Status) (p : Bytes) (code : ℕ) (IsSo : Status → Bytes → Type 0)
    → AreWords count bytes words → Answer words source s p → IsSo s p → HoldsOfAnswer Answer count bytes source code IsSo
holds_of_descriptors law = holds_of_answer Answer (one_of_words law)

no_stop : (s : Status) → IsAnswered s → (code_of s ≡ 11) ⊎ (code_of s ≡ 7) → ⊥
no_stop status.Done a e = other_code 0 (omega arith) (omega arith) e
no_stop status.Usage a e = other_code 1 (omega arith) (omega arith) e
no_stop status.Refused a e = other_code 2 (omega arith) (omega arith) e
no_stop status.PsbtRefused a e = other_code 3 (omega arith) (omega arith) e
no_stop status.Unfit a e = other_code 4 (omega arith) (omega arith) e
no_stop status.NoInput a e = other_code 4 (omega arith) (omega arith) e
no_stop status.ReadFault a e = absurd a
no_stop status.WriteFault a e = absurd a
no_stop status.Memory a e = absurd a

-- the code of an answer is another one than those without
pub answer_is_no_stop : AnswersHaveStatus → (words : List Bytes) (source : Bytes) (s : Status) (p : Bytes) (code : ℕ) → Answer words source s p → code ≡ code_of s
    → (code ≡ 11) ⊎ (code ≡ 7) → ⊥
answer_is_no_stop law words source s p code answer is stop =
    no_stop s (law words source s p answer) (subst (λ (n : ℕ). (n ≡ 11) ⊎ (n ≡ 7)) is stop)
