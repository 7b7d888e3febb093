-- From the reply and what was written of it to how the call ends.
use Rattle.std.proofs.Common.{◌≡◌, ◌⊎◌, ◌<◌, ◌≤◌, Bool, true, false, nat_lt, Some, None, Ok, Err, inl, inr, refl, sym, ◌∙◌, ap, subst, arith, List, [], length}
use Rattle.std.proofs.lemmas.Bool.{ltb-true, ltb-false}
use Rattle.std.specs.Prelude.{Option, Result}
use Rattle.std.specs.Io.KnownBytes.{IsAtEnd}
use Rattle.def_script.specs.Bytes.{Bytes}
use Rattle.ms_io.specs.Endings.{Writes, HasAnswerOf}
use Rattle.ms_io.specs.Sides.{Rose, Side}
use Rattle.ms_io.specs.Reads.{AreTold, IsUnread}
use Rattle.def_psbt.specs.Source.{MAX_SOURCE_SIZE}
use Rattle.def_descriptor_answer.specs.declared.status.Status.{Status}
use Rattle.def_descriptor_answer.specs.declared.status.Status.TheVariants as status
use Rattle.def_descriptor_answer.specs.Words.{Command, command_of}
use Rattle.def_descriptor_answer.specs.Reply.{Reply, reply}
use Rattle.def_descriptor_answer.specs.Answer.{RepliesToWords, Answer}
use Rattle.def_descriptor_answer.specs.Laws.{AskUtf8, IsUpdate, OneAnswer, OthersAnswerAlike, IsAnswered, AnswersHaveStatus}
use Rattle.ms_descriptor_replies.specs.declared.reply.Reply.{Reply as Made}
use Rattle.descriptor_cli.specs.declared.answer.Stop.{Stop}
use Rattle.descriptor_cli.specs.declared.answer.Stop.TheVariants as stop
use Rattle.descriptor_cli.specs.Ends.{Call, AsksUpdate, Ends, IsFault, EndsAsUsage, EndsAsAnswered, TellsShortSource, IsReadFor}
use Rattle.descriptor_cli.specs.Scaffolding.Steps.{IsOfSource, AnswersWords, EndsWords, WritesResult}

-- ---- the answer

-- bytes that the source may hold
some_told : (old : Option Bytes) → (bytes : Bytes) × AreTold old bytes
some_told None = ([], tt)
some_told (Some told) = (told, refl)

has_answer : (words : List Bytes) (source : Side) (answer : Status) (report : Bytes) → AnswersWords words source (reply answer report)
    → HasAnswerOf Answer words source answer report
has_answer words source answer report (inl (unread, other, all)) = let told = some_told source.old in (told.0, told.1, record { replies = all told.0 })
has_answer words source answer report (inr (asks, h)) = (h.bytes, h.held.told, record { replies = h.replies })

-- ---- how the call ends

written : (call : Call) (answer : Status) (report : Bytes) → AnswersWords call.words call.source (reply answer report)
    → Writes status.WriteFault answer report call.sink call.status → Ends call
written call answer report a (inl w) =
    inl (report, subst (λ s. HasAnswerOf Answer call.words call.source s report) (sym w.0) (has_answer call.words call.source answer report a), w.1)
written call answer report a (inr w) = inr (inl (w.0, w.2, (answer, report, has_answer call.words call.source answer report a, w.1)))

pub ends : (call : Call) (made : Result Made Stop) → EndsWords call.words call.source made → WritesResult made call.sink call.status → Ends call
ends call (Ok made) a w = written call made.status (made.report.items) a w
ends call (Err stop.Usage) a w = written call _ _ a w
ends call (Err stop.TooLong) a w = written call _ _ a w
ends call (Err stop.ReadFault) a w = inr (inr (inl (w.0, a.0, w.1, a.1)))
ends call (Err stop.Memory) a w = inr (inr (inr (w.0, w.1, a)))

-- ---- a fault comes only where a count of faults rose

is_answered : AnswersHaveStatus → (words : List Bytes) (source : Side) (answer : Status) (report : Bytes) → HasAnswerOf Answer words source answer report → IsAnswered answer
is_answered law words source answer report h = law words h.0 answer report h.2

pub write_fault_rose : AnswersHaveStatus → (call : Call) → Ends call → call.status ≡ status.WriteFault → Rose call.sink.before call.sink.now
write_fault_rose law call (inl (report, a, w)) is = absurd (subst IsAnswered is (is_answered law call.words call.source call.status report a))
write_fault_rose law call (inr (inl w)) is = w.1
write_fault_rose law call (inr (inr (inl r))) is = absurd (cc (sym r.0 ∙ is))
write_fault_rose law call (inr (inr (inr m))) is = absurd (cc (sym m.0 ∙ is))

pub read_fault_rose : AnswersHaveStatus → (call : Call) → Ends call → call.status ≡ status.ReadFault → Rose call.source.before call.source.now
read_fault_rose law call (inl (report, a, w)) is = absurd (subst IsAnswered is (is_answered law call.words call.source call.status report a))
read_fault_rose law call (inr (inl w)) is = absurd (cc (sym w.0 ∙ is))
read_fault_rose law call (inr (inr (inl r))) is = r.1
read_fault_rose law call (inr (inr (inr m))) is = absurd (cc (sym m.0 ∙ is))

-- ---- which status comes

told_bytes : (old : Option Bytes) (bytes held : Bytes) → old ≡ Some bytes → AreTold old held → held ≡ bytes
told_bytes old bytes held is told = sym (subst (λ (o : Option Bytes). AreTold o held) is told)

-- the answer to what the source held is that to these bytes, where none counts or it tells them
told_answer : OthersAnswerAlike → (words : List Bytes) (source : Side) (bytes : Bytes) (s : Status) (report : Bytes)
    → (AsksUpdate words → ⊥) ⊎ (source.old ≡ Some bytes) → HasAnswerOf Answer words source s report → Answer words bytes s report
told_answer alike words source bytes s report (inl other) h = alike words h.0 bytes s report other h.2
told_answer alike words source bytes s report (inr told) h = subst (λ b. Answer words b s report) (told_bytes source.old bytes h.0 told h.1) h.2

as_fault : (call : Call) (s : Status) → call.status ≡ s → IsFault s call.source call.sink → IsFault call.status call.source call.sink
as_fault call s is h = subst (λ t. IsFault t call.source call.sink) (sym is) h

pub ends_as_answered : OneAnswer → OthersAnswerAlike → (call : Call) → AskUtf8 (command_of call.words) → Ends call → EndsAsAnswered call
ends_as_answered law alike call utf8 (inl (report, a, w)) bytes s p told k =
    inl (law call.words bytes call.status s report p utf8 (told_answer alike call.words call.source bytes call.status report told a) k).0
ends_as_answered law alike call utf8 (inr (inl w)) bytes s p told k = inr (as_fault call status.WriteFault w.0 w.1)
ends_as_answered law alike call utf8 (inr (inr (inl r))) bytes s p told k = inr (as_fault call status.ReadFault r.0 r.1)
ends_as_answered law alike call utf8 (inr (inr (inr m))) bytes s p told k = inr (as_fault call status.Memory m.0 tt)

usage_status : (words : List Bytes) (bytes : Bytes) (r : Reply) → command_of words ≡ None → RepliesToWords (command_of words) bytes r → r.status ≡ status.Usage
usage_status words bytes r none h = ap (λ (x : Reply). x.status) (subst (λ (z : Option Command). RepliesToWords z bytes r) none h)

no_update : (words : List Bytes) → command_of words ≡ None → AsksUpdate words → ⊥
no_update words none asks = subst IsUpdate none asks

pub ends_as_usage : (call : Call) → Ends call → EndsAsUsage call
ends_as_usage call (inl (report, a, w)) none = inl (usage_status call.words a.0 (reply call.status report) none a.2.replies)
ends_as_usage call (inr (inl w)) none = inr (w.0, w.1)
ends_as_usage call (inr (inr (inl r))) none = absurd (no_update call.words none r.3)
ends_as_usage call (inr (inr (inr m))) none = absurd (m.2 none)

-- ---- what is read

at_end : (source : Side) (s : Status) → IsAtEnd source.new → IsReadFor s source
at_end source status.Done end = end
at_end source status.Usage end = tt
at_end source status.Refused end = tt
at_end source status.PsbtRefused end = λ short. end
at_end source status.Unfit end = tt
at_end source status.NoInput end = end
at_end source status.ReadFault end = tt
at_end source status.WriteFault end = tt
at_end source status.Memory end = tt

short_told : (old : Option Bytes) (bytes : Bytes) → AreTold old bytes → MAX_SOURCE_SIZE < length bytes → ¬ TellsShortSource old
short_told None bytes told over short = short
short_told (Some known) bytes told over short =
    let few : length bytes ≤ MAX_SOURCE_SIZE = subst (λ (b : Bytes). length b ≤ MAX_SOURCE_SIZE) told short in omega (arith, few, over)

-- another reply than those to a source reads nothing
not_read : (s : Status) (source : Side) → (IsOfSource s → ⊥) → IsReadFor s source
not_read status.Done source other = absurd (other tt)
not_read status.Usage source other = tt
not_read status.Refused source other = tt
not_read status.PsbtRefused source other = absurd (other tt)
not_read status.Unfit source other = tt
not_read status.NoInput source other = absurd (other tt)
not_read status.ReadFault source other = tt
not_read status.WriteFault source other = tt
not_read status.Memory source other = tt

-- the source was read to its end, and a longer one is refused
read_for : (source : Side) (r : Reply) (bytes : Bytes) → AreTold source.old bytes → (length bytes ≤ MAX_SOURCE_SIZE → IsAtEnd source.new)
    → (MAX_SOURCE_SIZE < length bytes → r.status ≡ status.PsbtRefused) → IsReadFor r.status source
read_for source r bytes told end long = go (nat_lt MAX_SOURCE_SIZE (length bytes)) refl
  where
    go : (b : Bool) → nat_lt MAX_SOURCE_SIZE (length bytes) ≡ b → IsReadFor r.status source
    go true e =
        let over = ltb-true MAX_SOURCE_SIZE (length bytes) e in
        subst (λ (z : Status). IsReadFor z source) (sym (long over)) (λ short. absurd (short_told source.old bytes told over short))
    go false e = at_end source r.status (end (ltb-false MAX_SOURCE_SIZE (length bytes) e))

read_answer : (words : List Bytes) (source : Side) (r : Reply) → AsksUpdate words → AnswersWords words source r → IsReadFor r.status source
read_answer words source r asks (inl (unread, other, all)) = not_read r.status source (other asks)
read_answer words source r asks (inr (reads, h)) = read_for source r h.bytes h.held.told h.held.end h.long

read_written : (call : Call) (answer : Status) (report : Bytes) → AsksUpdate call.words
    → AnswersWords call.words call.source (reply answer report) → Writes status.WriteFault answer report call.sink call.status → IsReadFor call.status call.source
read_written call answer report asks a (inl w) =
    subst (λ s. IsReadFor s call.source) (sym w.0) (read_answer call.words call.source (reply answer report) asks a)
read_written call answer report asks a (inr w) = subst (λ s. IsReadFor s call.source) (sym w.0) tt

pub was_read : (call : Call) (made : Result Made Stop) → EndsWords call.words call.source made → WritesResult made call.sink call.status
    → AsksUpdate call.words → IsReadFor call.status call.source
was_read call (Ok made) a w asks = read_written call made.status (made.report.items) asks a w
was_read call (Err stop.Usage) a w asks = read_written call _ _ asks a w
was_read call (Err stop.TooLong) a w asks = read_written call _ _ asks a w
was_read call (Err stop.ReadFault) a w asks = subst (λ s. IsReadFor s call.source) (sym w.0) tt
was_read call (Err stop.Memory) a w asks = subst (λ s. IsReadFor s call.source) (sym w.0) tt

-- ---- a descriptor that is refused

unread_by : (words : List Bytes) (source : Side) (r : Reply) → AnswersWords words source r → r.status ≡ status.Refused → IsUnread source
unread_by words source r (inl (unread, other, all)) is = unread
unread_by words source r (inr (reads, h)) is = absurd (subst IsOfSource is h.of_source)

unread_written : (call : Call) (answer : Status) (report : Bytes) → AnswersWords call.words call.source (reply answer report)
    → Writes status.WriteFault answer report call.sink call.status → call.status ≡ status.Refused → IsUnread call.source
unread_written call answer report a (inl w) is = unread_by call.words call.source (reply answer report) a (sym w.0 ∙ is)
unread_written call answer report a (inr w) is = absurd (cc (sym w.0 ∙ is))

pub not_read_for_refused : (call : Call) (made : Result Made Stop) → EndsWords call.words call.source made → WritesResult made call.sink call.status
    → call.status ≡ status.Refused → IsUnread call.source
not_read_for_refused call (Ok made) a w is = unread_written call made.status (made.report.items) a w is
not_read_for_refused call (Err stop.Usage) a w is = unread_written call _ _ a w is
not_read_for_refused call (Err stop.TooLong) a w is = unread_written call _ _ a w is
not_read_for_refused call (Err stop.ReadFault) a w is = absurd (cc (sym w.0 ∙ is))
not_read_for_refused call (Err stop.Memory) a w is = absurd (cc (sym w.0 ∙ is))
