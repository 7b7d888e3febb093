-- From the reply and what was written of it to how the call ends.
use Rattle.std.proofs.Common.{◌≡◌, ◌≢◌, ◌⊎◌, ◌<◌, ◌≤◌, Bool, true, false, nat_lt, Some, None, Ok, Err, inl, inr, refl, sym, ◌∙◌, ap, subst, arith, List, [], length}
use Rattle.std.proofs.lemmas.Bool.{ltb-true, ltb-false}
use Rattle.std.specs.Prelude.{Option, Result}
use Rattle.std.specs.Io.KnownBytes.{IsAtEnd}
use Rattle.def_script.specs.Bytes.{Bytes}
use Rattle.ms_io.specs.Endings.{Writes}
use Rattle.ms_io.specs.Sides.{Rose, Side}
use Rattle.ms_io.specs.Reads.{AreTold, Held}
use Rattle.def_combine.specs.declared.CombineRefusal.TheVariants as unjoined
use Rattle.def_combine.specs.Combine.{parts_of, combined_of}
use Rattle.def_psbt.specs.declared.Refusal.TheVariants.{TooLong}
use Rattle.def_psbt.specs.Source.{MAX_SOURCE_SIZE, psbt_bytes, psbt_of}
use Rattle.def_psbt_answer.specs.declared.status.Status.{Status}
use Rattle.def_psbt_answer.specs.declared.status.Status.TheVariants as status
use Rattle.def_psbt_answer.specs.declared.words.Command.TheVariants as command
use Rattle.def_psbt_answer.specs.declared.words.Request.{Request}
use Rattle.def_psbt_answer.specs.declared.words.Request.TheVariants as request
use Rattle.def_psbt_answer.specs.Words.{request_of}
use Rattle.def_psbt_answer.specs.Reply.{Reply, reply, refusal_reply, form_of, combine_reply}
use Rattle.def_psbt_answer.specs.Answer.{RepliesToSource, RepliesToRequest, RepliesToWords, Answer}
use Rattle.ms_psbt_answer_laws.proofs.Statuses.{IsAnswered, answers_have_status}
use Rattle.ms_psbt_answer_laws.proofs.Unique.{one_answer}
use Rattle.ms_psbt_report.specs.declared.replies.reply.Reply.{Reply as Made}
use Rattle.psbt_cli.specs.declared.answer.Stop.{Stop}
use Rattle.psbt_cli.specs.declared.answer.Stop.TheVariants as stop
use Rattle.psbt_cli.specs.Ends.{Call, HasAnswer, Ends, IsFault, EndsAsUsage, EndsAsAnswered, TellsShortSource, IsReadFor}
use Rattle.psbt_cli.specs.Scaffolding.Steps.{AnswersRequest, AnswersWords, EndsRequest, EndsWords, WritesResult}

-- ---- the steps

-- a source that is too long is refused so
pub too_long : (bytes : Bytes) → MAX_SOURCE_SIZE < length bytes → psbt_of bytes ≡ Err TooLong
unfolding psbt_of psbt_bytes
too_long bytes over = go (nat_lt MAX_SOURCE_SIZE (length bytes)) refl
  where
    go : (b : Bool) → nat_lt MAX_SOURCE_SIZE (length bytes) ≡ b → psbt_of bytes ≡ Err TooLong
    go true e = rw e refl
    go false e = absurd (omega (arith, ltb-false MAX_SOURCE_SIZE (length bytes) e))

lines_too_long : (bytes : Bytes) → MAX_SOURCE_SIZE < length bytes → combined_of bytes ≡ Err unjoined.TooLong
unfolding combined_of parts_of
lines_too_long bytes over = go (nat_lt MAX_SOURCE_SIZE (length bytes)) refl
  where
    go : (b : Bool) → nat_lt MAX_SOURCE_SIZE (length bytes) ≡ b → combined_of bytes ≡ Err unjoined.TooLong
    go true e = rw e refl
    go false e = absurd (omega (arith, ltb-false MAX_SOURCE_SIZE (length bytes) e))

replied_too_long : (request : Request) (bytes : Bytes) → MAX_SOURCE_SIZE < length bytes → RepliesToRequest request bytes (refusal_reply TooLong)
replied_too_long (request.One command) bytes over =
    subst (λ o. RepliesToSource command (form_of bytes) o (refusal_reply TooLong)) (sym (too_long bytes over)) refl
replied_too_long request.Combine bytes over = sym (ap combine_reply (lines_too_long bytes over))

-- and not otherwise
only_too_long : (request : Request) (bytes : Bytes) (r : Reply) → MAX_SOURCE_SIZE < length bytes → RepliesToRequest request bytes r → r ≡ refusal_reply TooLong
only_too_long (request.One command) bytes r over h = subst (λ o. RepliesToSource command (form_of bytes) o r) (too_long bytes over) h
only_too_long request.Combine bytes r over h = h ∙ ap combine_reply (lines_too_long bytes over)

pub refused_too_long : (request : Request) (source : Side) → (bytes : Bytes) × Held MAX_SOURCE_SIZE source bytes × (MAX_SOURCE_SIZE < length bytes)
    → AnswersRequest request source (refusal_reply TooLong)
refused_too_long request source (bytes, held, over) = record {
  bytes = bytes;
  held = held;
  replies = replied_too_long request bytes over;
}

named : (words : List Bytes) (request : Request) → request_of words ≡ Some request → request_of words ≢ None
named words request is none = cc

-- the reply to words that ask something
pub words_ended : (words : List Bytes) (request : Request) (source : Side) (result : Result Made Stop) → request_of words ≡ Some request
    → EndsRequest request source result → EndsWords words source result
words_ended words request source (Ok made) is h = inr (request, is, h)
words_ended words request source (Err stop.Usage) is h = absurd h
words_ended words request source (Err stop.TooLong) is h = inr (request, is, h)
words_ended words request source (Err stop.ReadFault) is h = (h, named words request is)
words_ended words request source (Err stop.Memory) is h = named words request is

-- ---- the answer

-- bytes that the source may have held
some_told : (old : Option Bytes) → (bytes : Bytes) × AreTold old bytes
some_told None = ([], tt)
some_told (Some told) = (told, refl)

to_words : (words : List Bytes) (o : Option Request) (bytes : Bytes) (r : Reply) → request_of words ≡ o → RepliesToWords o bytes r
    → RepliesToWords (request_of words) bytes r
to_words words o bytes r is h = subst (λ (c : Option Request). RepliesToWords c bytes r) (sym is) h

has_answer : (words : List Bytes) (source : Side) (answer : Status) (report : Bytes) → AnswersWords words source (reply answer report)
    → HasAnswer words source answer report
has_answer words source answer report (inl usage) =
    let told = some_told source.old in
    (told.0, told.1, record { replies = to_words words None told.0 (reply answer report) usage.0 usage.1 })
has_answer words source answer report (inr (request, is, h)) =
    (h.bytes, h.held.told, record { replies = to_words words (Some request) h.bytes (reply answer report) is h.replies })

-- ---- how the call ends

written : (call : Call) (answer : Status) (report : Bytes) → AnswersWords call.words call.source (reply answer report)
    → Writes status.WriteFault answer report call.sink call.status → Ends call
written call answer report a (inl w) =
    inl (report, subst (λ s. HasAnswer call.words call.source s report) (sym w.0) (has_answer call.words call.source answer report a), w.1)
written call answer report a (inr w) =
    inr (inl (w.0, w.2, (answer, report, has_answer call.words call.source answer report a, w.1)))

pub ends : (call : Call) (made : Result Made Stop) → EndsWords call.words call.source made → WritesResult made call.sink call.status → Ends call
ends call (Ok made) a w = written call made.status (made.report.items) a w
ends call (Err stop.Usage) a w = written call _ _ a w
ends call (Err stop.TooLong) a w = written call _ _ a w
ends call (Err stop.ReadFault) a w = inr (inr (inl (w.0, a.0, w.1, a.1)))
ends call (Err stop.Memory) a w = inr (inr (inr (w.0, w.1, a)))

-- ---- answers are none of the faults

is_answered : (words : List Bytes) (source : Side) (answer : Status) (report : Bytes) → HasAnswer words source answer report → IsAnswered answer
is_answered words source answer report h = answers_have_status words h.0 answer report h.2

-- a fault comes only where a count of faults rose
pub write_fault_rose : (call : Call) → Ends call → call.status ≡ status.WriteFault → Rose call.sink.before call.sink.now
write_fault_rose call (inl (report, a, w)) is = absurd (subst IsAnswered is (is_answered call.words call.source call.status report a))
write_fault_rose call (inr (inl w)) is = w.1
write_fault_rose call (inr (inr (inl r))) is = absurd (cc (sym r.0 ∙ is))
write_fault_rose call (inr (inr (inr m))) is = absurd (cc (sym m.0 ∙ is))

pub read_fault_rose : (call : Call) → Ends call → call.status ≡ status.ReadFault → Rose call.source.before call.source.now
read_fault_rose call (inl (report, a, w)) is = absurd (subst IsAnswered is (is_answered call.words call.source call.status report a))
read_fault_rose call (inr (inl w)) is = absurd (cc (sym w.0 ∙ is))
read_fault_rose call (inr (inr (inl r))) is = r.1
read_fault_rose call (inr (inr (inr m))) is = absurd (cc (sym m.0 ∙ is))

-- ---- which status comes

told_bytes : (old : Option Bytes) (bytes held : Bytes) → old ≡ Some bytes → AreTold old held → held ≡ bytes
told_bytes old bytes held is told = sym (subst (λ (o : Option Bytes). AreTold o held) is told)

usage_answer : (words : List Bytes) (held bytes : Bytes) (r : Reply) → request_of words ≡ None → RepliesToWords (request_of words) held r
    → RepliesToWords (request_of words) bytes r
usage_answer words held bytes r none h =
    to_words words None bytes r none (subst (λ (c : Option Request). RepliesToWords c held r) none h)

-- the answer to what the source held is that to these bytes, where it isn't read or tells them
pub told_answer : (words : List Bytes) (source : Side) (bytes : Bytes) (s : Status) (report : Bytes) → (request_of words ≡ None) ⊎ (source.old ≡ Some bytes)
    → HasAnswer words source s report → Answer words bytes s report
told_answer words source bytes s report (inl none) h = record { replies = usage_answer words h.0 bytes (reply s report) none h.2.replies }
told_answer words source bytes s report (inr told) h = subst (λ b. Answer words b s report) (told_bytes source.old bytes h.0 told h.1) h.2

pub as_fault : (call : Call) (s : Status) → call.status ≡ s → IsFault s call.source call.sink → IsFault call.status call.source call.sink
as_fault call s is h = subst (λ t. IsFault t call.source call.sink) (sym is) h

pub ends_as_answered : (call : Call) → Ends call → EndsAsAnswered call
ends_as_answered call (inl (report, a, w)) bytes s p told k =
    inl (one_answer call.words bytes call.status s report p (told_answer call.words call.source bytes call.status report told a) k).0
ends_as_answered call (inr (inl w)) bytes s p told k = inr (as_fault call status.WriteFault w.0 w.1)
ends_as_answered call (inr (inr (inl r))) bytes s p told k = inr (as_fault call status.ReadFault r.0 r.1)
ends_as_answered call (inr (inr (inr m))) bytes s p told k = inr (as_fault call status.Memory m.0 tt)

usage_status : (words : List Bytes) (bytes : Bytes) (r : Reply) → request_of words ≡ None → RepliesToWords (request_of words) bytes r → r.status ≡ status.Usage
usage_status words bytes r none h = ap (λ (x : Reply). x.status) (subst (λ (c : Option Request). RepliesToWords c bytes r) none h)

pub ends_as_usage : (call : Call) → Ends call → EndsAsUsage call
ends_as_usage call (inl (report, a, w)) none = inl (usage_status call.words a.0 (reply call.status report) none a.2.replies)
ends_as_usage call (inr (inl w)) none = inr (w.0, w.1)
ends_as_usage call (inr (inr (inl r))) none = absurd (r.3 none)
ends_as_usage call (inr (inr (inr m))) none = absurd (m.2 none)

-- ---- what is read

at_end : (source : Side) (s : Status) → IsAtEnd source.new → IsReadFor s source
at_end source status.Done end = end
at_end source status.Usage end = tt
at_end source status.Refused end = λ short. end
at_end source status.Open end = end
at_end source status.ReadFault end = tt
at_end source status.WriteFault end = tt
at_end source status.Memory end = tt

short_told : (old : Option Bytes) (bytes : Bytes) → AreTold old bytes → MAX_SOURCE_SIZE < length bytes → ¬ TellsShortSource old
short_told None bytes told over short = short
short_told (Some known) bytes told over short =
    let few : length bytes ≤ MAX_SOURCE_SIZE = subst (λ (b : Bytes). length b ≤ MAX_SOURCE_SIZE) told short in omega (arith, few, over)

-- the source was read to its end, and a longer one is refused
read_for : (request : Request) (source : Side) (r : Reply) → AnswersRequest request source r → IsReadFor r.status source
read_for request source r h = go (nat_lt MAX_SOURCE_SIZE (length h.bytes)) refl
  where
    go : (b : Bool) → nat_lt MAX_SOURCE_SIZE (length h.bytes) ≡ b → IsReadFor r.status source
    go true e =
        let over = ltb-true MAX_SOURCE_SIZE (length h.bytes) e in
        let is : r ≡ refusal_reply TooLong = only_too_long request h.bytes r over h.replies in
        subst (λ (x : Reply). IsReadFor x.status source) (sym is) (λ short. absurd (short_told source.old h.bytes h.held.told over short))
    go false e = at_end source r.status (h.held.end (ltb-false MAX_SOURCE_SIZE (length h.bytes) e))

read_answer : (words : List Bytes) (source : Side) (r : Reply) → request_of words ≢ None → AnswersWords words source r → IsReadFor r.status source
read_answer words source r names (inl usage) = absurd (names usage.0)
read_answer words source r names (inr (request, is, h)) = read_for request source r h

read_written : (call : Call) (answer : Status) (report : Bytes) → request_of call.words ≢ None
    → AnswersWords call.words call.source (reply answer report) → Writes status.WriteFault answer report call.sink call.status → IsReadFor call.status call.source
read_written call answer report names a (inl w) =
    subst (λ s. IsReadFor s call.source) (sym w.0) (read_answer call.words call.source (reply answer report) names a)
read_written call answer report names a (inr w) = subst (λ s. IsReadFor s call.source) (sym w.0) tt

pub was_read : (call : Call) (made : Result Made Stop) → EndsWords call.words call.source made → WritesResult made call.sink call.status
    → request_of call.words ≢ None → IsReadFor call.status call.source
was_read call (Ok made) a w names = read_written call made.status (made.report.items) names a w
was_read call (Err stop.Usage) a w names = read_written call _ _ names a w
was_read call (Err stop.TooLong) a w names = read_written call _ _ names a w
was_read call (Err stop.ReadFault) a w names = subst (λ s. IsReadFor s call.source) (sym w.0) tt
was_read call (Err stop.Memory) a w names = subst (λ s. IsReadFor s call.source) (sym w.0) tt
