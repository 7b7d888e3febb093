-- Words that are texts have exactly one answer.
use Rattle.std.proofs.Common.{◌≡◌, ◌⊎◌, inl, inr, ℕ, List, [], Option, Some, None, All, map, refl, sym, ap, subst, ◌∙◌, arith}
use Rattle.std.specs.Str.{IsUtf8}
use Rattle.def_script.specs.Bytes.{Bytes}
use Rattle.def_tree.specs.Tree.{Key, Tree}
use Rattle.def_text.proofs.Complete.{one_tree}
use Rattle.def_text.proofs.OneAnswer.{one_refusal, none_beside_tree}
use Rattle.ms_decode_laws.proofs.Decoding.{one_is_decoded}
use Rattle.def_sane.specs.declared.Rules.TheVariants.{Policy, Consensus}
use Rattle.def_sane.specs.declared.Unfit.{Unfit}
use Rattle.def_sane.specs.Unfit.{first_unfit, first_unfit_valid, first_unfit_under, first_unfit_valid_under}
use Rattle.def_audit.specs.declared.Step.{Step}
use Rattle.def_choice.specs.declared.choice.Choice.TheVariants.{Strict, Cheapest}
use Rattle.def_answer.specs.Satisfy.{chosen_by, reason_by}
use Rattle.def_answer.specs.Words.{Command, script, asm, outline, check, satisfy, run, gen, policy, plan, audit, trace, trace_text, decode, words_of, IsForm, HasNoForm}
use Rattle.def_answer.specs.Reading.{Reading, read, refused, HasReading}
use Rattle.def_answer.specs.Reply.{Reply, reply, unless_unfit, text_reply, satisfy_reply, plan_reply, audit_reply, text_trace_reply}
use Rattle.def_answer.specs.Answer.{script_reply, asm_reply, tree_reply, no_reason, check_reply, policy_reply, decode_reply, bytes_of, RepliesToScript, RepliesToText, HasSteps, offsets_of, RepliesWithPlaces, RepliesToAudit, Replies, RepliesToWords}
use Rattle.ms_answer_laws.specs.Laws.{OneForm, FormOrNone, OneAnswer, SomeAnswer}
use Rattle.ms_answer_laws.proofs.Forms.{command_of, is_form, form_found, none_has_form}
use Rattle.ms_answer_laws.proofs.AuditSteps.{one_audit}
use Rattle.ms_answer_laws.proofs.Answered.{OnText, OnWords, reply_to_words, replies_to_words}

-- ---- forms

pub one_form : OneForm
one_form words c d f g = cc (sym (form_found words c f) ∙ form_found words d g)

pub form_or_none : FormOrNone
form_or_none words = go (command_of words) refl
  where
    go : (o : Option Command) → command_of words ≡ o → ((c : Command) × IsForm words c) ⊎ HasNoForm words
    go None e = inr (none_has_form words e)
    go (Some c) e = inl (c, is_form words c e)

-- the text of a command is one of its words
text_of_words : (P : Bytes → Type 0) (c : Command) → All P (words_of c) → OnText P c
text_of_words P (script Policy text) h = h 1 [] (omega arith)
text_of_words P (script Consensus text) h = h 2 [] (omega arith)
text_of_words P (asm Policy text) h = h 1 [] (omega arith)
text_of_words P (asm Consensus text) h = h 2 [] (omega arith)
text_of_words P (outline Policy text) h = h 1 [] (omega arith)
text_of_words P (outline Consensus text) h = h 2 [] (omega arith)
text_of_words P (check Policy text) h = h 1 [] (omega arith)
text_of_words P (check Consensus text) h = h 2 [] (omega arith)
text_of_words P (satisfy Strict Policy text) h = h 1 [] (omega arith)
text_of_words P (satisfy Strict Consensus text) h = h 2 [] (omega arith)
text_of_words P (satisfy Cheapest Policy text) h = h 2 [] (omega arith)
text_of_words P (satisfy Cheapest Consensus text) h = h 3 [] (omega arith)
text_of_words P (policy text) h = h 1 [] (omega arith)
text_of_words P (plan text) h = h 1 [] (omega arith)
text_of_words P (audit text) h = h 1 [] (omega arith)
text_of_words P (trace_text text) h = h 1 [] (omega arith)
text_of_words P c h = tt

pub text_of_form : (words : List Bytes) (c : Command) → All IsUtf8 words → IsForm words c → OnText IsUtf8 c
text_of_form words c h form = text_of_words IsUtf8 c (subst (All IsUtf8) form.same h)

-- ---- readings

pub one_reading : (text : Bytes) (a b : Reading) → IsUtf8 text → HasReading text a → HasReading text b → a ≡ b
one_reading text (read x os) (read y ps) utf8 h k =
    let same = one_tree h.spelled k.spelled in
    ap (λ t. read t os) same.0 ∙ ap (λ qs. read y qs) same.1
one_reading text (read x os) (refused e) utf8 h k = absurd (none_beside_tree text x os e utf8 h k)
one_reading text (refused d) (read y ps) utf8 h k = absurd (none_beside_tree text y ps d utf8 k h)
one_reading text (refused d) (refused e) utf8 h k = ap refused (one_refusal text d e h k)

one_text_reply : (text : Bytes) (reason : Tree → Option Unfit) (next : Tree → Reply) (a b : Reply) → IsUtf8 text
    → RepliesToText text reason next a → RepliesToText text reason next b → a ≡ b
one_text_reply text reason next a b utf8 h k = h.2 ∙ ap (text_reply reason next) (one_reading text h.0 k.0 utf8 h.1 k.1) ∙ sym k.2

-- what a Script is decoded to is one tree, and then it can be read
one_script_reply : (keys : List Key) (bytes : Bytes) (a b : Reply) → RepliesToScript keys bytes a → RepliesToScript keys bytes b → a ≡ b
one_script_reply keys bytes a b (inl h) (inl k) = h.2 ∙ ap decode_reply (one_is_decoded keys bytes h.0 k.0 h.1 k.1) ∙ sym k.2
one_script_reply keys bytes a b (inl h) (inr k) = absurd (k.0 h.0 h.1.reading)
one_script_reply keys bytes a b (inr h) (inl k) = absurd (h.0 k.0 k.1.reading)
one_script_reply keys bytes a b (inr h) (inr k) = h.1 ∙ sym k.1

-- the steps of an audit are the only ones
one_audit_reading : (source : Bytes) (read : Reading) (p q : List Step) → HasSteps read source p → HasSteps read source q
    → text_reply first_unfit_valid (audit_reply (offsets_of read) p source) read ≡ text_reply first_unfit_valid (audit_reply (offsets_of read) q source) read
one_audit_reading source (read tree offsets) p q h k = go (first_unfit_valid tree) refl
  where
    go : (o : Option Unfit) → first_unfit_valid tree ≡ o
        → unless_unfit o offsets (audit_reply offsets p source tree) ≡ unless_unfit o offsets (audit_reply offsets q source tree)
    go None valid = one_audit offsets tree source p q valid (h valid) (k valid)
    go (Some unfit) e = refl
one_audit_reading source (refused fault) p q h k = refl

one_audit_reply : (text source : Bytes) (a b : Reply) → IsUtf8 text → RepliesToAudit text source a → RepliesToAudit text source b → a ≡ b
one_audit_reply text source a b utf8 (r, p, has, h, e) (s, q, has_s, k, f) =
    let same = one_reading text s r utf8 has_s has in
    e ∙ one_audit_reading source r p q h (subst (λ t. HasSteps t source q) same k)
    ∙ ap (λ t. text_reply first_unfit_valid (audit_reply (offsets_of t) q source) t) (sym same) ∙ sym f

one_placed_reply : (text : Bytes) (reason : Tree → Option Unfit) (next : List ℕ → Tree → Reply) (a b : Reply) → IsUtf8 text
    → RepliesWithPlaces text reason next a → RepliesWithPlaces text reason next b → a ≡ b
one_placed_reply text reason next a b utf8 (r, has, e) (s, has_s, f) =
    e ∙ ap (λ t. text_reply reason (next (offsets_of t)) t) (one_reading text r s utf8 has has_s) ∙ sym f

pub one_reply : (c : Command) (source : Bytes) (a b : Reply) → OnText IsUtf8 c → Replies c source a → Replies c source b → a ≡ b
one_reply (script rules text) source a b utf8 h k = one_text_reply text (first_unfit_valid_under rules) script_reply a b utf8 h k
one_reply (asm rules text) source a b utf8 h k = one_placed_reply text (first_unfit_valid_under rules) asm_reply a b utf8 h k
one_reply (outline rules text) source a b utf8 h k = one_placed_reply text no_reason (tree_reply rules) a b utf8 h k
one_reply (check rules text) source a b utf8 h k = one_text_reply text (first_unfit_under rules) (check_reply rules) a b utf8 h k
one_reply (satisfy choice rules text) source a b utf8 h k = one_text_reply text (reason_by choice rules) (satisfy_reply rules (chosen_by choice) source) a b utf8 h k
one_reply run source a b utf8 h k = h ∙ sym k
one_reply (gen n) source a b utf8 h k = h ∙ sym k
one_reply (policy text) source a b utf8 h k = one_text_reply text first_unfit policy_reply a b utf8 h k
one_reply (plan text) source a b utf8 h k = one_text_reply text first_unfit (plan_reply source) a b utf8 h k
one_reply (audit text) source a b utf8 h k = one_audit_reply text source a b utf8 h k
one_reply trace source a b utf8 h k = h ∙ sym k
one_reply (trace_text text) source a b utf8 h k = one_placed_reply text first_unfit_valid (λ offsets. text_trace_reply offsets source) a b utf8 h k
one_reply (decode digits keys) source a b utf8 h k = one_script_reply (map bytes_of keys) (bytes_of digits) a b h k

-- ---- answers

one_to_words : (words : List Bytes) (source : Bytes) (a b : Reply) → All IsUtf8 words → RepliesToWords words source a →
    RepliesToWords words source b → a ≡ b
one_to_words words source a b utf8 (inl h) (inl k) =
    let same = one_form words k.0 h.0 k.1 h.1 in
    one_reply h.0 source a b (text_of_form words h.0 utf8 h.1) h.2 (subst (λ c. Replies c source b) same k.2)
one_to_words words source a b utf8 (inl h) (inr k) = absurd (k.0 h.0 h.1)
one_to_words words source a b utf8 (inr h) (inl k) = absurd (h.0 k.0 k.1)
one_to_words words source a b utf8 (inr h) (inr k) = h.1 ∙ sym k.1

pub one_answer : OneAnswer
one_answer words source s t p q utf8 h k =
    let same = one_to_words words source (reply s p) (reply t q) utf8 h.replies k.replies in
    (ap (λ (r : Reply). r.status) same, ap (λ (r : Reply). r.report) same)

words_text : (words : List Bytes) → All IsUtf8 words → OnWords IsUtf8 (command_of words)
words_text words utf8 = go (command_of words) refl
  where
    go : (o : Option Command) → command_of words ≡ o → OnWords IsUtf8 o
    go None e = tt
    go (Some c) e = text_of_form words c utf8 (is_form words c e)

pub some_answer : SomeAnswer
some_answer words source utf8 =
    let r = reply_to_words source (command_of words) in
    (r.status, r.report, record { replies = replies_to_words words source (words_text words utf8) })
