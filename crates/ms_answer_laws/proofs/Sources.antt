-- What needs the source, and what comes without it.
use Rattle.std.proofs.Common.{◌≡◌, inl, inr, ℕ, ◌<◌, Bool, true, false, List, length, Option, Some, None, All, refl, sym, ap, subst, ◌∙◌, arith}
use Rattle.std.specs.Prelude.{is_none}
use Rattle.std.specs.Char.{is_ascii}
use Rattle.std.specs.List.{list_all}
use Rattle.std.specs.Str.{IsUtf8}
use Rattle.def_script.specs.Bytes.{Bytes}
use Rattle.def_tree.specs.Tree.{Tree}
use Rattle.def_text.proofs.Completion.{ascii_is_utf8}
use Rattle.def_sane.specs.declared.Unfit.{Unfit}
use Rattle.def_sane.specs.Unfit.{first_unfit, first_unfit_valid, first_unfit_under, first_unfit_valid_under}
use Rattle.def_audit.specs.declared.Step.{Step}
use Rattle.def_answer.specs.Satisfy.{chosen_by, reason_by}
use Rattle.def_answer.specs.declared.status.Status.{Status}
use Rattle.def_answer.specs.declared.status.Status.TheVariants as status
use Rattle.def_answer.specs.Words.{Command, script, asm, outline, check, satisfy, run, gen, policy, plan, audit, trace, trace_text, decode}
use Rattle.def_answer.specs.Reading.{Reading, read, refused, HasReading}
use Rattle.def_answer.specs.Reply.{Reply, reply, unless_unfit, text_reply, satisfy_reply, plan_reply, audit_reply, text_trace_reply}
use Rattle.def_answer.specs.Lines.{MOST_FILE}
use Rattle.def_answer.specs.Answer.{script_reply, asm_reply, tree_reply, no_reason, check_reply, policy_reply, gen_reply, RepliesToText, AreSteps, HasSteps, offsets_of, RepliesToAudit, RepliesToTrace, Replies, RepliesToWords}
use Rattle.def_answer.specs.Sources.{Passes, NeedsSource, ReadsSource, IsOfSource, IsToFile}
use Rattle.ms_answer_laws.specs.Laws.{AnswerWithoutSource, StatusWithoutSource, StatusWithSource}
use Rattle.ms_answer_laws.proofs.Decided.{none_tells}
use Rattle.ms_answer_laws.proofs.Answered.{OnText, reading_of, has_reading}
use Rattle.ms_answer_laws.proofs.Early.{OfStatus, satisfy_status, run_status, plan_status, audit_status, trace_status, text_trace_status, text_status, audited_status, placed_status, tree_status, long_asset_file, long_run_file, long_plan_file, long_audit_file, long_trace_file, long_text_trace_file}
use Rattle.ms_answer_laws.proofs.Forms.{command_of, form_found}
use Rattle.ms_answer_laws.proofs.Unique.{one_form, one_reading, text_of_form}

-- ---- a text that doesn't pass is refused, whatever comes after it

same_refusal : (reason : Option Unfit) (offsets : List ℕ) (f g : Reply) → ¬ (reason ≡ None) →
    unless_unfit reason offsets f ≡ unless_unfit reason offsets g
same_refusal reason offsets f g some = grind arith

same_without : (text : Bytes) (reason : Tree → Option Unfit) (f g : Tree → Reply) (r : Reading) → ¬ Passes reason text →
    HasReading text r → text_reply reason f r ≡ text_reply reason g r
same_without text reason f g (read tree offsets) never has =
    same_refusal (reason tree) offsets (f tree) (g tree) (λ none. never (tree, offsets, has, none))
same_without text reason f g (refused fault) never has = refl

text_without : (text : Bytes) (reason : Tree → Option Unfit) (f g : Tree → Reply) (r : Reply) → ¬ Passes reason text →
    RepliesToText text reason f r → RepliesToText text reason g r
text_without text reason f g r never h = (h.0, h.1, h.2 ∙ same_without text reason f g h.0 never h.1)

-- no steps are asked of a text that doesn't pass
steps_without : (text other : Bytes) (r : Reading) (steps : List Step) → ¬ Passes first_unfit_valid text → HasReading text r → HasSteps r other steps
steps_without text other (read tree offsets) steps never has = λ valid. absurd (never (tree, offsets, has, valid))
steps_without text other (refused fault) steps never has = tt

audit_without : (text source other : Bytes) (r : Reply) → ¬ Passes first_unfit_valid text → RepliesToAudit text source r → RepliesToAudit text other r
audit_without text source other r never (reading, steps, has, are, e) = (
  reading,
  steps,
  has,
  steps_without text other reading steps never has,
  e ∙ same_without text first_unfit_valid (audit_reply (offsets_of reading) steps source) (audit_reply (offsets_of reading) steps other) reading never has,
)

trace_without : (text source other : Bytes) (r : Reply) → ¬ Passes first_unfit_valid text → RepliesToTrace text source r → RepliesToTrace text other r
trace_without text source other r never (reading, has, e) = (
  reading,
  has,
  e ∙ same_without text first_unfit_valid (text_trace_reply (offsets_of reading) source) (text_trace_reply (offsets_of reading) other) reading never has,
)

-- ---- replies without the source

reply_without : (c : Command) (source other : Bytes) (r : Reply) → ¬ NeedsSource c → Replies c source r → Replies c other r
reply_without (satisfy choice rules text) source other r never h =
    text_without text (reason_by choice rules) (satisfy_reply rules (chosen_by choice) source) (satisfy_reply rules (chosen_by choice) other) r never h
reply_without run source other r never h = absurd (never tt)
reply_without (plan text) source other r never h = text_without text first_unfit (plan_reply source) (plan_reply other) r never h
reply_without (audit text) source other r never h = audit_without text source other r never h
reply_without trace source other r never h = absurd (never tt)
reply_without (trace_text text) source other r never h = trace_without text source other r never h
reply_without c source other r never h = h

-- no status that tells of the source
abbrev IsOther : Status → Type 0
IsOther s = ¬ IsOfSource s

other_status : (c : Command) (source : Bytes) (r : Reply) → ¬ NeedsSource c → Replies c source r → OfStatus IsOther r
unfolding gen_reply
other_status (script rules text) source r never h =
    text_status IsOther text (first_unfit_valid_under rules) script_reply r (λ s. s) (λ passes s. s) h
other_status (asm rules text) source r never h =
    placed_status IsOther text (first_unfit_valid_under rules) asm_reply r (λ s. s) (λ passes offsets s. s) h
other_status (outline rules text) source r never h =
    placed_status IsOther text no_reason (tree_reply rules) r (λ s. s) (λ passes offsets. tree_status IsOther rules offsets passes.0 (λ s. s) (λ s. s)) h
other_status (check rules text) source r never h =
    text_status IsOther text (first_unfit_under rules) (check_reply rules) r (λ s. s) (λ passes s. s) h
other_status (satisfy choice rules text) source r never h =
    text_status IsOther text (reason_by choice rules) (satisfy_reply rules (chosen_by choice) source) r (λ s. s) (λ passes. absurd (never passes)) h
other_status run source r never h = absurd (never tt)
other_status (gen n) source r never h = subst (OfStatus IsOther) (sym h) (λ s. s)
other_status (policy text) source r never h = text_status IsOther text first_unfit policy_reply r (λ s. s) (λ passes s. s) h
other_status (plan text) source r never h =
    text_status IsOther text first_unfit (plan_reply source) r (λ s. s) (λ passes. absurd (never passes)) h
other_status (audit text) source r never h =
    audited_status IsOther text source r (λ s. s) (λ passes offsets steps. absurd (never passes)) h
other_status trace source r never h = absurd (never tt)
other_status (trace_text text) source r never h =
    placed_status IsOther text first_unfit_valid (λ offsets. text_trace_reply offsets source) r (λ s. s) (λ passes offsets. absurd (never passes)) h
other_status (decode digits keys) source r never (inl h) = subst (OfStatus IsOther) (sym h.2) (λ s. s)
other_status (decode digits keys) source r never (inr h) = subst (OfStatus IsOther) (sym h.1) (λ s. s)

words_without : (words : List Bytes) (source other : Bytes) (r : Reply) → ¬ ReadsSource words →
    RepliesToWords words source r → RepliesToWords words other r
words_without words source other r never (inl h) =
    inl (h.0, h.1, reply_without h.0 source other r (λ needs. never (h.0, h.1, needs)) h.2)
words_without words source other r never (inr h) = inr h

pub answer_without_source : AnswerWithoutSource
answer_without_source words source other s p never h =
    record { replies = words_without words source other (reply s p) never h.replies }

words_status : (words : List Bytes) (source : Bytes) (r : Reply) → ¬ ReadsSource words → RepliesToWords words source r →
    OfStatus IsOther r
words_status words source r never (inl h) = other_status h.0 source r (λ needs. never (h.0, h.1, needs)) h.2
words_status words source r never (inr h) = subst (OfStatus IsOther) (sym h.1) (λ s. s)

pub status_without_source : StatusWithoutSource
status_without_source words source s p never h = words_status words source (reply s p) never h.replies

-- ---- replies to what the source holds

-- the reply to a text that passes is what comes after it
pub passed_text : (text : Bytes) (reason : Tree → Option Unfit) (next : Tree → Reply) (r : Reply) → IsUtf8 text →
    (passes : Passes reason text) → RepliesToText text reason next r → r ≡ next passes.0
passed_text text reason next r utf8 passes h =
    let same = one_reading text h.0 (read passes.0 passes.1) utf8 h.1 passes.2 in
    h.2 ∙ ap (text_reply reason next) same ∙ ap (λ o. unless_unfit o passes.1 (next passes.0)) passes.3

pub passed_audit : (text source : Bytes) (r : Reply) → IsUtf8 text → (passes : Passes first_unfit_valid text) → RepliesToAudit text source r
    → (steps : List Step) × AreSteps passes.0 source steps × (r ≡ audit_reply passes.1 steps source passes.0)
passed_audit text source r utf8 passes (reading, steps, has, are, e) =
    let same = one_reading text reading (read passes.0 passes.1) utf8 has passes.2 in (
      steps,
      subst (λ t. HasSteps t source steps) same are passes.3,
      e ∙ ap (λ t. text_reply first_unfit_valid (audit_reply (offsets_of t) steps source) t) same
          ∙ ap (λ o. unless_unfit o passes.1 (audit_reply passes.1 steps source passes.0)) passes.3,
    )

pub passed_trace : (text source : Bytes) (r : Reply) → IsUtf8 text → (passes : Passes first_unfit_valid text) → RepliesToTrace text source r
    → r ≡ text_trace_reply passes.1 source passes.0
passed_trace text source r utf8 passes (reading, has, e) =
    let same = one_reading text reading (read passes.0 passes.1) utf8 has passes.2 in
    e ∙ ap (λ t. text_reply first_unfit_valid (text_trace_reply (offsets_of t) source) t) same
    ∙ ap (λ o. unless_unfit o passes.1 (text_trace_reply passes.1 source passes.0)) passes.3

file_status : (c : Command) (source : Bytes) (r : Reply) → OnText IsUtf8 c → NeedsSource c → Replies c source r →
    OfStatus IsToFile r
file_status (satisfy choice rules text) source r utf8 needs h =
    subst (OfStatus IsToFile) (sym (passed_text text (reason_by choice rules) (satisfy_reply rules (chosen_by choice) source) r utf8 needs h))
    (satisfy_status IsToFile rules (chosen_by choice) source needs.0 tt tt tt)
file_status run source r utf8 needs h = subst (OfStatus IsToFile) (sym h) (run_status IsToFile source tt tt tt)
file_status (plan text) source r utf8 needs h =
    subst (OfStatus IsToFile) (sym (passed_text text first_unfit (plan_reply source) r utf8 needs h))
    (plan_status IsToFile source needs.0 tt tt tt)
file_status (audit text) source r utf8 needs h =
    let found = passed_audit text source r utf8 needs h in
    subst (OfStatus IsToFile) (sym found.2) (audit_status IsToFile needs.1 found.0 source needs.0 tt tt tt)
file_status trace source r utf8 needs h = subst (OfStatus IsToFile) (sym h) (trace_status IsToFile source tt tt tt)
file_status (trace_text text) source r utf8 needs h =
    subst (OfStatus IsToFile) (sym (passed_trace text source r utf8 needs h)) (text_trace_status IsToFile needs.1 source needs.0 tt tt tt tt)
file_status c source r utf8 needs h = absurd needs

-- a file that is too long is refused, whatever it says
pub long_file : (c : Command) (source : Bytes) (r : Reply) → OnText IsUtf8 c → NeedsSource c → MOST_FILE < length source →
    Replies c source r → r.status ≡ status.FileRefused
long_file (satisfy choice rules text) source r utf8 needs long h =
    ap (λ (r : Reply). r.status)
    (passed_text text (reason_by choice rules) (satisfy_reply rules (chosen_by choice) source) r utf8 needs h ∙ long_asset_file rules (chosen_by choice) source needs.0 long)
long_file run source r utf8 needs long h = ap (λ (r : Reply). r.status) (h ∙ long_run_file source long)
long_file (plan text) source r utf8 needs long h =
    ap (λ (r : Reply). r.status) (passed_text text first_unfit (plan_reply source) r utf8 needs h ∙ long_plan_file source needs.0 long)
long_file (audit text) source r utf8 needs long h =
    let found = passed_audit text source r utf8 needs h in
    ap (λ (r : Reply). r.status) (found.2 ∙ long_audit_file needs.1 found.0 source needs.0 long)
long_file trace source r utf8 needs long h = ap (λ (r : Reply). r.status) (h ∙ long_trace_file source long)
long_file (trace_text text) source r utf8 needs long h =
    ap (λ (r : Reply). r.status) (passed_trace text source r utf8 needs h ∙ long_text_trace_file needs.1 source needs.0 long)
long_file c source r utf8 needs long h = absurd needs

file_words : (words : List Bytes) (source : Bytes) (r : Reply) → All IsUtf8 words → ReadsSource words →
    RepliesToWords words source r → OfStatus IsToFile r
file_words words source r utf8 reads (inl h) =
    let needs = subst NeedsSource (one_form words reads.0 h.0 reads.1 h.1) reads.2 in
    file_status h.0 source r (text_of_form words h.0 utf8 h.1) needs h.2
file_words words source r utf8 reads (inr h) = absurd (h.0 reads.0 reads.1)

pub status_with_source : StatusWithSource
status_with_source words source s p utf8 reads h = file_words words source (reply s p) utf8 reads h.replies

-- ---- words that are written out

-- the tree is read, and there is no reason against it
abbrev pub passed : (reason : Tree → Option Unfit) → Reading → Bool
passed reason (read tree offsets) = is_none (reason tree)
passed reason (refused fault) = false

passes_by : (text : Bytes) (reason : Tree → Option Unfit) (r : Reading) → HasReading text r → passed reason r ≡ true → Passes reason text
passes_by text reason (read tree offsets) has e = (tree, offsets, has, (none_tells (reason tree)).0 e)
passes_by text reason (refused fault) has e = cc e

pub passes : (text : Bytes) (reason : Tree → Option Unfit) → list_all is_ascii text ≡ true → passed reason (reading_of text) ≡ true →
    Passes reason text
passes text reason ascii e = passes_by text reason (reading_of text) (has_reading text (ascii_is_utf8 text ascii)) e

pub fails : (text : Bytes) (reason : Tree → Option Unfit) → list_all is_ascii text ≡ true → passed reason (reading_of text) ≡ false →
    ¬ Passes reason text
fails text reason ascii e p =
    let utf8 = ascii_is_utf8 text ascii in
    let same = one_reading text (read p.0 p.1) (reading_of text) utf8 p.2 (has_reading text utf8) in
    cc (sym ((none_tells (reason p.0)).1 p.3) ∙ ap (passed reason) same ∙ e)

-- the words have this command and no other
pub reads_by : (words : List Bytes) (c : Command) → command_of words ≡ Some c → ¬ NeedsSource c → ¬ ReadsSource words
reads_by words c found never h =
    let same : h.0 ≡ c = cc (sym (form_found words h.0 h.1) ∙ found) in never (subst NeedsSource same h.2)

pub none_reads : (words : List Bytes) → command_of words ≡ None → ¬ ReadsSource words
none_reads words none h = cc (sym none ∙ form_found words h.0 h.1)
