-- From the answer and what was written of it to how the call ends.
use Rattle.std.proofs.Common.{◌≡◌, ◌⊎◌, ◌<◌, ◌≤◌, Bool, true, false, nat_lt, Some, None, Ok, Err, inl, inr, refl, sym, ◌∙◌, ap, subst, arith, List, [], length}
use Rattle.std.proofs.lemmas.Bool.{ltb-true, ltb-false}
use Rattle.std.specs.Prelude.{Option, Result}
use Rattle.std.specs.Str.{IsUtf8}
use Rattle.std.specs.String.{string_bytes}
use Rattle.std.specs.Io.KnownBytes.{IsAtEnd}
use Rattle.def_script.specs.Bytes.{Bytes}
use Rattle.ms_io.specs.Endings.{Writes}
use Rattle.ms_io.specs.Sides.{Rose, Side}
use Rattle.def_answer.specs.declared.status.Status.{Status}
use Rattle.def_answer.specs.declared.status.Status.TheVariants as status
use Rattle.def_answer.specs.Answer.{Replies, RepliesToWords, Answer}
use Rattle.ms_answer_laws.specs.Laws.{IsAnswered}
use Rattle.def_answer.specs.Reply.{Reply, reply}
use Rattle.def_answer.specs.Lines.{MOST_FILE}
use Rattle.def_answer.specs.Sources.{NeedsSource, ReadsSource, IsOfSource}
use Rattle.def_answer.specs.Words.{Command, script, asm, outline, check, satisfy, run, gen, policy, plan, audit, trace, trace_text, decode, HasNoForm}
use Rattle.ms_answer_laws.proofs.Answered.{OnText}
use Rattle.ms_answer_laws.proofs.Early.{answers_have_status}
use Rattle.ms_answer_laws.proofs.Sources.{answer_without_source, status_without_source, long_file}
use Rattle.ms_answer_laws.proofs.Unique.{one_form, one_reply}
use Rattle.ms_report.specs.declared.answer.Answer.{Answer as Made}
use Rattle.msat_cli.specs.declared.answer.Stop.{Stop}
use Rattle.msat_cli.specs.declared.answer.Stop.TheVariants as stop
use Rattle.ms_io.specs.Reads.{AreTold, Held}
use Rattle.ms_words.specs.Commands.{HasUtf8, HaveUtf8}
use Rattle.msat_cli.specs.Scaffolding.Steps.{AnswersWords, Ended, WritesResult}
use Rattle.msat_cli.specs.Ends.{HasAnswer, Ends, TakesMemory, EndsAsUsage, EndsAsAnswered, TellsShortFile, IsReadFor}
use Rattle.msat_cli.specs.Calls.{Call, IsFault}

-- ---- the answer

-- bytes that the source may have held
some_told : (old : Option Bytes) → (bytes : Bytes) × AreTold old bytes
some_told None = ([], tt)
some_told (Some told) = (told, refl)

has_answer : (words : List Bytes) (source : Side) (answer : Status) (report : Bytes) → AnswersWords words source (reply answer report)
    → HasAnswer words source answer report
has_answer words source answer report (inl usage) =
    let told = some_told source.old in (told.0, told.1, record { replies = inr (usage.none, usage.replies) })
has_answer words source answer report (inr (command, form, inl early)) =
    let told = some_told source.old in (told.0, told.1, record { replies = inl (command, form, early.replies told.0) })
has_answer words source answer report (inr (command, form, inr late)) =
    (late.bytes, late.held.told, record { replies = inl (command, form, late.replies) })

-- ---- how the call ends

-- what a call knows of its answer, and of what was written of it
abbrev pub AnswerOf : Call → Result Made Stop → Type 0
AnswerOf call answer =
    Ended (AnswersWords call.words call.source) (ReadsSource call.words × Rose call.source.before call.source.now) (TakesMemory call.words) answer

abbrev pub WrittenOf : Call → Result Made Stop → Type 0
WrittenOf call answer = WritesResult answer call.sink call.status

written : (call : Call) (answer : Status) (report : Bytes) → AnswersWords call.words call.source (reply answer report)
    → Writes status.WriteFault answer report call.sink call.status → Ends call
written call answer report a (inl w) =
    inl (report, subst (λ s. HasAnswer call.words call.source s report) (sym w.0) (has_answer call.words call.source answer report a), w.1)
written call answer report a (inr w) =
    inr (inl (w.0, w.2, (answer, report, has_answer call.words call.source answer report a, w.1)))

pub ends : (call : Call) (answer : Result Made Stop) → AnswerOf call answer → WrittenOf call answer → Ends call
ends call (Ok made) a w = written call made.status (string_bytes made.report) a w
ends call (Err stop.Usage) a w = written call _ _ a w
ends call (Err stop.TextTooLong) a w = written call _ _ a w
ends call (Err stop.FileTooLong) a w = written call _ _ a w
ends call (Err stop.ReadFault) a w = inr (inr (inl (w.0, a.1, w.1, a.0)))
ends call (Err stop.Memory) a w = inr (inr (inr (w.0, w.1, a)))

-- ---- answers are none of the faults

is_answered : (words : List Bytes) (source : Side) (answer : Status) (report : Bytes) → HasAnswer words source answer report → IsAnswered answer
is_answered words source answer report h = answers_have_status words h.0 answer report h.2

-- a fault comes only where a count of faults rose
pub fault_rose : (call : Call) → Ends call → call.status ≡ status.WriteFault → Rose call.sink.before call.sink.now
fault_rose call (inl (report, a, w)) is = absurd (subst IsAnswered is (is_answered call.words call.source call.status report a))
fault_rose call (inr (inl w)) is = w.1
fault_rose call (inr (inr (inl r))) is = absurd (cc (sym r.0 ∙ is))
fault_rose call (inr (inr (inr m))) is = absurd (cc (sym m.0 ∙ is))

pub read_fault_rose : (call : Call) → Ends call → call.status ≡ status.ReadFault → Rose call.source.before call.source.now
read_fault_rose call (inl (report, a, w)) is = absurd (subst IsAnswered is (is_answered call.words call.source call.status report a))
read_fault_rose call (inr (inl w)) is = absurd (cc (sym w.0 ∙ is))
read_fault_rose call (inr (inr (inl r))) is = r.1
read_fault_rose call (inr (inr (inr m))) is = absurd (cc (sym m.0 ∙ is))

-- no status tells of a source that isn't read
pub tells_nothing : (call : Call) → Ends call → ¬ ReadsSource call.words → ¬ IsOfSource call.status
tells_nothing call (inl (report, a, w)) never = status_without_source call.words a.0 call.status report never a.2
tells_nothing call (inr (inl w)) never = subst (λ s. ¬ IsOfSource s) (sym w.0) (λ s. s)
tells_nothing call (inr (inr (inl r))) never = absurd (never r.3)
tells_nothing call (inr (inr (inr m))) never = subst (λ s. ¬ IsOfSource s) (sym m.0) (λ s. s)

-- ---- the answer is the one

on_text : (command : Command) → HasUtf8 command → OnText IsUtf8 command
on_text (script rules text) utf8 = utf8
on_text (asm rules text) utf8 = utf8
on_text (outline rules text) utf8 = utf8
on_text (check rules text) utf8 = utf8
on_text (satisfy choice rules text) utf8 = utf8
on_text run utf8 = tt
on_text (gen n) utf8 = tt
on_text (policy text) utf8 = utf8
on_text (plan text) utf8 = utf8
on_text (audit text) utf8 = utf8
on_text trace utf8 = tt
on_text (trace_text text) utf8 = utf8
on_text (decode digits keys) utf8 = tt

pub one_to_words : (words : List Bytes) (bytes : Bytes) (a b : Reply) → HaveUtf8 words → RepliesToWords words bytes a → RepliesToWords words bytes b → a ≡ b
one_to_words words bytes a b utf8 (inl h) (inl k) =
    let same = one_form words k.0 h.0 k.1 h.1 in
    one_reply h.0 bytes a b (on_text h.0 (utf8 h.0 h.1)) h.2 (subst (λ c. Replies c bytes b) same k.2)
one_to_words words bytes a b utf8 (inl h) (inr k) = absurd (k.0 h.0 h.1)
one_to_words words bytes a b utf8 (inr h) (inl k) = absurd (h.0 k.0 k.1)
one_to_words words bytes a b utf8 (inr h) (inr k) = h.1 ∙ sym k.1

same_status : (words : List Bytes) (bytes : Bytes) (s t : Status) (p q : Bytes) → HaveUtf8 words → Answer words bytes s p → Answer words bytes t q → s ≡ t
same_status words bytes s t p q utf8 h k =
    ap (λ (r : Reply). r.status) (one_to_words words bytes (reply s p) (reply t q) utf8 h.replies k.replies)

told_bytes : (old : Option Bytes) (bytes held : Bytes) → old ≡ Some bytes → AreTold old held → held ≡ bytes
told_bytes old bytes held is told = sym (subst (λ (o : Option Bytes). AreTold o held) is told)

-- the answer to what the source held is that to these bytes, where it isn't read or tells them
pub told_answer : (words : List Bytes) (source : Side) (bytes : Bytes) (s : Status) (report : Bytes) → (¬ ReadsSource words) ⊎ (source.old ≡ Some bytes)
    → HasAnswer words source s report → Answer words bytes s report
told_answer words source bytes s report (inl never) h = answer_without_source words h.0 bytes s report never h.2
told_answer words source bytes s report (inr told) h =
    subst (λ b. Answer words b s report) (told_bytes source.old bytes h.0 told h.1) h.2

-- ---- which status comes

memory_fault : (call : Call) → call.status ≡ status.Memory → IsFault call.status call.source call.sink
memory_fault call is = subst (λ s. IsFault s call.source call.sink) (sym is) tt

write_fault : (call : Call) → call.status ≡ status.WriteFault → Rose call.sink.before call.sink.now → IsFault call.status call.source call.sink
write_fault call is rose = subst (λ s. IsFault s call.source call.sink) (sym is) rose

read_fault : (call : Call) → call.status ≡ status.ReadFault → Rose call.source.before call.source.now → IsFault call.status call.source call.sink
read_fault call is rose = subst (λ s. IsFault s call.source call.sink) (sym is) rose

pub ends_as_answered : (call : Call) → HaveUtf8 call.words → Ends call → EndsAsAnswered call
ends_as_answered call utf8 (inl (report, a, w)) bytes s p told k =
    inl (same_status call.words bytes call.status s report p utf8 (told_answer call.words call.source bytes call.status report told a) k)
ends_as_answered call utf8 (inr (inl w)) bytes s p told k = inr (write_fault call w.0 w.1)
ends_as_answered call utf8 (inr (inr (inl r))) bytes s p told k = inr (read_fault call r.0 r.1)
ends_as_answered call utf8 (inr (inr (inr m))) bytes s p told k = inr (memory_fault call m.0)

usage_status : (words : List Bytes) (bytes : Bytes) (r : Reply) → HasNoForm words → RepliesToWords words bytes r → r.status ≡ status.Usage
usage_status words bytes r none (inl h) = absurd (none h.0 h.1)
usage_status words bytes r none (inr h) = ap (λ (r : Reply). r.status) h.1

pub ends_as_usage : (call : Call) → Ends call → EndsAsUsage call
ends_as_usage call (inl (report, a, w)) none = inl (usage_status call.words a.0 (reply call.status report) none a.2.replies)
ends_as_usage call (inr (inl w)) none = inr (w.0, w.1)
ends_as_usage call (inr (inr (inl r))) none = absurd (none r.3.0 r.3.1)
ends_as_usage call (inr (inr (inr m))) none = absurd (none m.2.0 m.2.1)

-- ---- what is read

-- the source was read to its end for a file that isn't too long, and a longer one is refused
read_for : (s : Status) (source : Side) (bytes : Bytes) → Held MOST_FILE source bytes → (MOST_FILE < length bytes → s ≡ status.FileRefused)
    → IsReadFor s source
read_for s source bytes held long = go (nat_lt MOST_FILE (length bytes)) refl
  where
    short_told : (old : Option Bytes) → AreTold old bytes → MOST_FILE < length bytes → ¬ TellsShortFile old
    short_told None told over short = short
    short_told (Some known) told over short = let few : length bytes ≤ MOST_FILE = subst (λ (b : Bytes). length b ≤ MOST_FILE) told short in omega (arith, few, over)

    at_end : (t : Status) → IsAtEnd source.new → IsReadFor t source
    at_end status.Done end = end
    at_end status.Usage end = tt
    at_end status.TextRefused end = tt
    at_end status.FileRefused end = λ short. end
    at_end status.NoSatisfaction end = end
    at_end status.ReadFault end = tt
    at_end status.WriteFault end = tt
    at_end status.Memory end = tt
    at_end status.ScriptRefused end = end
    at_end status.NotAccepted end = end
    at_end status.NoReading end = tt

    go : (b : Bool) → nat_lt MOST_FILE (length bytes) ≡ b → IsReadFor s source
    go true e =
        let over = ltb-true MOST_FILE (length bytes) e in
        subst (λ t. IsReadFor t source) (sym (long over)) (λ short. absurd (short_told source.old held.told over short))
    go false e = at_end s (held.end (ltb-false MOST_FILE (length bytes) e))

read_answer : (words : List Bytes) (source : Side) (r : Reply) → HaveUtf8 words → ReadsSource words → AnswersWords words source r → IsReadFor r.status source
read_answer words source r utf8 reads (inl usage) = absurd (usage.none reads.0 reads.1)
read_answer words source r utf8 reads (inr (command, form, inl early)) =
    absurd (early.needless (subst NeedsSource (one_form words reads.0 command reads.1 form) reads.2))
read_answer words source r utf8 reads (inr (command, form, inr late)) =
    read_for r.status source late.bytes late.held
    (λ over. long_file command late.bytes r (on_text command (utf8 command form)) late.needed over late.replies)

read_written : (call : Call) (answer : Status) (report : Bytes) → HaveUtf8 call.words → ReadsSource call.words
    → AnswersWords call.words call.source (reply answer report) → Writes status.WriteFault answer report call.sink call.status → IsReadFor call.status call.source
read_written call answer report utf8 reads a (inl w) =
    subst (λ s. IsReadFor s call.source) (sym w.0) (read_answer call.words call.source (reply answer report) utf8 reads a)
read_written call answer report utf8 reads a (inr w) = subst (λ s. IsReadFor s call.source) (sym w.0) tt

pub was_read : (call : Call) (answer : Result Made Stop) → HaveUtf8 call.words → AnswerOf call answer → WrittenOf call answer → ReadsSource call.words
    → IsReadFor call.status call.source
was_read call (Ok made) utf8 a w reads = read_written call made.status (string_bytes made.report) utf8 reads a w
was_read call (Err stop.Usage) utf8 a w reads = read_written call _ _ utf8 reads a w
was_read call (Err stop.TextTooLong) utf8 a w reads = read_written call _ _ utf8 reads a w
was_read call (Err stop.FileTooLong) utf8 a w reads = read_written call _ _ utf8 reads a w
was_read call (Err stop.ReadFault) utf8 a w reads = subst (λ s. IsReadFor s call.source) (sym w.0) tt
was_read call (Err stop.Memory) utf8 a w reads = subst (λ s. IsReadFor s call.source) (sym w.0) tt

-- ---- without faults

-- no fault came
pub unless_fault : (wanted result : Status) (source sink : Side) → ¬ Rose source.before source.now → ¬ Rose sink.before sink.now
    → (result ≡ wanted) ⊎ IsFault result source sink → (result ≡ wanted) ⊎ (result ≡ status.Memory)
unless_fault wanted result source sink no_read no_write (inl is) = inl is
unless_fault wanted result source sink no_read no_write (inr fault) = inr (go result fault)
  where
    go : (s : Status) → IsFault s source sink → s ≡ status.Memory
    go status.Done fault = absurd fault
    go status.Usage fault = absurd fault
    go status.TextRefused fault = absurd fault
    go status.FileRefused fault = absurd fault
    go status.NoSatisfaction fault = absurd fault
    go status.ReadFault fault = absurd (no_read fault)
    go status.WriteFault fault = absurd (no_write fault)
    go status.Memory fault = refl
    go status.ScriptRefused fault = absurd fault
    go status.NotAccepted fault = absurd fault
    go status.NoReading fault = absurd fault
