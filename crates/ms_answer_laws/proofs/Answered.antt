-- The answer, computed: a text is read by the machine that reads tokens one after the other.
use Rattle.std.proofs.Common.{◌≡◌, ◌≤◌, inl, inr, Bool, true, nat_lt, if◌then◌else◌, List, [], Option, Some, None, All, map, length, refl, subst, arith}
use Rattle.std.specs.Prelude.{⊤}
use Rattle.std.specs.Char.{is_ascii}
use Rattle.std.specs.List.{list_all}
use Rattle.std.specs.Str.{IsUtf8}
use Rattle.std.proofs.lemmas.Bool.{ltb-true, ltb-false, cond_both}
use Rattle.def_script.specs.Bytes.{Bytes}
use Rattle.def_text.specs.declared.TextFault.TheVariants.{TooLong, Syntax, TooDeep}
use Rattle.def_tree.specs.Tree.{Key, Tree}
use Rattle.def_tree.specs.Range.{IsKey}
use Rattle.def_text.specs.Token.{tokens}
use Rattle.def_text.specs.Refusal.{MOST_BYTES}
use Rattle.def_text.specs.Scaffolding.Reader.{START, Outcome, tree_outcome, syntax_outcome, deep_outcome, outcome}
use Rattle.def_text.proofs.Completion.{ascii_is_utf8}
use Rattle.def_text.proofs.Report.{Reports, report}
use Rattle.def_text.proofs.SpelledWritable.{spelled_writable}
use Rattle.def_audit.specs.declared.Step.{Step}
use Rattle.def_sane.specs.Unfit.{first_unfit, first_unfit_valid, first_unfit_under, first_unfit_valid_under}
use Rattle.def_answer.specs.Satisfy.{chosen_by, reason_by}
use Rattle.def_answer.specs.declared.status.Status.{Status}
use Rattle.def_answer.specs.Words.{Command, script, asm, outline, check, satisfy, run, gen, policy, plan, audit, trace, trace_text, decode, IsCommand}
use Rattle.def_answer.specs.Reading.{Reading, read, refused, HasReading}
use Rattle.def_answer.specs.Reply.{Reply, reply, usage_reply, text_reply, satisfy_reply, run_reply, plan_reply, audit_reply, trace_reply, text_trace_reply}
use Rattle.ms_answer_laws.proofs.Decided.{decided, decided_is, decided_not}
use Rattle.ms_answer_laws.proofs.Forms.{command_of, is_form, none_has_form}
use Rattle.ms_answer_laws.proofs.SpelledKeys.{are_keys}
use Rattle.def_answer.specs.Answer.{script_reply, asm_reply, tree_reply, no_reason, check_reply, policy_reply, bytes_of, decode_reply, no_reading_reply, gen_reply, RepliesToScript, HasSteps, offsets_of, Replies, RepliesToWords, Answer}
use Rattle.ms_answer_laws.specs.Laws.{walked}
use Rattle.ms_answer_laws.proofs.AuditSteps.{walked_are_steps}

-- ---- texts

abbrev pub reading_by : Outcome → Reading
reading_by (tree_outcome tree offsets) = read tree offsets
reading_by (syntax_outcome at) = refused (Syntax at)
reading_by (deep_outcome at) = refused (TooDeep at)

abbrev pub reading_of : (text : Bytes) → Reading
reading_of text = if nat_lt MOST_BYTES (length text) then refused TooLong else reading_by (outcome START (tokens text))

-- a text that isn't too long
short_reading : (text : Bytes) (o : Outcome) → length text ≤ MOST_BYTES → Reports text o → HasReading text (reading_by o)
short_reading text (tree_outcome tree offsets) short reports = record { short = short; spelled = reports.0; none_deep = reports.1 }
short_reading text (syntax_outcome at) short reports = (short, reports)
short_reading text (deep_outcome at) short reports = (short, reports)

pub has_reading : (text : Bytes) → IsUtf8 text → HasReading text (reading_of text)
has_reading text utf8 =
    cond_both (nat_lt MOST_BYTES (length text)) _ _ (HasReading text) (ltb-true MOST_BYTES (length text))
    (λ e. short_reading text (outcome START (tokens text)) (ltb-false MOST_BYTES (length text) e) (report text utf8))

-- ---- commands

-- what holds of the text of a command
abbrev pub OnText : (Bytes → Type 0) → Command → Type 0
OnText P (script rules text) = P text
OnText P (asm rules text) = P text
OnText P (outline rules text) = P text
OnText P (check rules text) = P text
OnText P (satisfy choice rules text) = P text
OnText P (policy text) = P text
OnText P (plan text) = P text
OnText P (audit text) = P text
OnText P (trace_text text) = P text
OnText P command = ⊤

-- the reply to a Script
abbrev pub decided_reply : Option Tree → Reply
decided_reply None = no_reading_reply
decided_reply (Some tree) = decode_reply tree

replies_to_script : (keys : List Key) (bytes : Bytes) → All IsKey keys → RepliesToScript keys bytes (decided_reply (decided keys bytes))
replies_to_script keys bytes all = go (decided keys bytes) refl
  where
    go : (o : Option Tree) → decided keys bytes ≡ o → RepliesToScript keys bytes (decided_reply o)
    go None e = inr (λ tree. decided_not keys bytes tree all e, refl)
    go (Some tree) e = inl (tree, decided_is keys bytes tree all e, refl)

-- the steps of an audit
abbrev pub steps_of : Reading → (source : Bytes) → List Step
steps_of (read tree offsets) source = walked tree source
steps_of (refused fault) source = []

has_steps : (text source : Bytes) (r : Reading) → HasReading text r → HasSteps r source (steps_of r source)
has_steps text source (read tree offsets) has = walked_are_steps tree source (spelled_writable has.spelled)
has_steps text source (refused fault) has = tt

abbrev pub reply_to : (source : Bytes) → Command → Reply
reply_to source (script rules text) = text_reply (first_unfit_valid_under rules) script_reply (reading_of text)
reply_to source (asm rules text) = text_reply (first_unfit_valid_under rules) (asm_reply (offsets_of (reading_of text))) (reading_of text)
reply_to source (outline rules text) = text_reply no_reason (tree_reply rules (offsets_of (reading_of text))) (reading_of text)
reply_to source (check rules text) = text_reply (first_unfit_under rules) (check_reply rules) (reading_of text)
reply_to source (satisfy choice rules text) = text_reply (reason_by choice rules) (satisfy_reply rules (chosen_by choice) source) (reading_of text)
reply_to source run = run_reply source
reply_to source (gen n) = gen_reply n
reply_to source (policy text) = text_reply first_unfit policy_reply (reading_of text)
reply_to source (plan text) = text_reply first_unfit (plan_reply source) (reading_of text)
reply_to source (audit text) =
    text_reply first_unfit_valid (audit_reply (offsets_of (reading_of text)) (steps_of (reading_of text) source) source) (reading_of text)
reply_to source trace = trace_reply source
reply_to source (trace_text text) =
    text_reply first_unfit_valid (text_trace_reply (offsets_of (reading_of text)) source) (reading_of text)
reply_to source (decode digits keys) = decided_reply (decided (map bytes_of keys) (bytes_of digits))

replies_to : (command : Command) (source : Bytes) → IsCommand command → OnText IsUtf8 command → Replies command source (reply_to source command)
replies_to (script rules text) source is utf8 = (reading_of text, has_reading text utf8, refl)
replies_to (asm rules text) source is utf8 = (reading_of text, has_reading text utf8, refl)
replies_to (outline rules text) source is utf8 = (reading_of text, has_reading text utf8, refl)
replies_to (check rules text) source is utf8 = (reading_of text, has_reading text utf8, refl)
replies_to (satisfy choice rules text) source is utf8 = (reading_of text, has_reading text utf8, refl)
replies_to run source is utf8 = refl
replies_to (gen n) source is utf8 = refl
replies_to (policy text) source is utf8 = (reading_of text, has_reading text utf8, refl)
replies_to (plan text) source is utf8 = (reading_of text, has_reading text utf8, refl)
replies_to (audit text) source is utf8 =
    let has = has_reading text utf8 in
    (reading_of text, steps_of (reading_of text) source, has, has_steps text source (reading_of text) has, refl)
replies_to trace source is utf8 = refl
replies_to (trace_text text) source is utf8 = (reading_of text, has_reading text utf8, refl)
replies_to (decode digits keys) source is utf8 = replies_to_script (map bytes_of keys) (bytes_of digits) (are_keys keys is.1)

abbrev pub reply_to_words : (source : Bytes) → Option Command → Reply
reply_to_words source None = usage_reply
reply_to_words source (Some command) = reply_to source command

abbrev pub OnWords : (Bytes → Type 0) → Option Command → Type 0
OnWords P None = ⊤
OnWords P (Some command) = OnText P command

pub replies_to_words : (words : List Bytes) (source : Bytes) → OnWords IsUtf8 (command_of words) →
    RepliesToWords words source (reply_to_words source (command_of words))
replies_to_words words source utf8 = go (command_of words) refl utf8
  where
    go : (o : Option Command) → command_of words ≡ o → OnWords IsUtf8 o → RepliesToWords words source (reply_to_words source o)
    go None e utf8 = inr (none_has_form words e, refl)
    go (Some command) e utf8 = let form = is_form words command e in inl (command, form, replies_to command source form.in_range utf8)

-- ---- answers that are written out

abbrev pub is_ascii_text : Command → Bool
is_ascii_text (script rules text) = list_all is_ascii text
is_ascii_text (asm rules text) = list_all is_ascii text
is_ascii_text (outline rules text) = list_all is_ascii text
is_ascii_text (check rules text) = list_all is_ascii text
is_ascii_text (satisfy choice rules text) = list_all is_ascii text
is_ascii_text (policy text) = list_all is_ascii text
is_ascii_text (plan text) = list_all is_ascii text
is_ascii_text (audit text) = list_all is_ascii text
is_ascii_text (trace_text text) = list_all is_ascii text
is_ascii_text command = true

abbrev pub are_ascii_words : Option Command → Bool
are_ascii_words None = true
are_ascii_words (Some command) = is_ascii_text command

ascii_text : (command : Command) → is_ascii_text command ≡ true → OnText IsUtf8 command
ascii_text command ascii = grind (arith, ascii_is_utf8)

ascii_words : (o : Option Command) → are_ascii_words o ≡ true → OnWords IsUtf8 o
ascii_words o ascii = grind (arith, ascii_text)

pub answered : {words : List Bytes} {source : Bytes} {status : Status} {report : Bytes} → are_ascii_words (command_of words) ≡ true
    → reply_to_words source (command_of words) ≡ reply status report → Answer words source status report
answered {words} {source} {status} {report} ascii same =
    record { replies = subst (RepliesToWords words source) same (replies_to_words words source (ascii_words (command_of words) ascii)) }
