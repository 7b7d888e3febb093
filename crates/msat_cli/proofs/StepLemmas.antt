-- From the steps of an answer to the answer.
use Rattle.std.proofs.Common.{◌≡◌, ◌≢◌, ◌≤◌, ℕ, List, [], Ok, Err, Some, None, length, inl, inr, refl, sym, ap, subst, ◌∙◌}
use Rattle.std.specs.Prelude.{⊤, Option, Result}
use Rattle.std.specs.Str.{IsUtf8}
use Rattle.def_script.specs.Bytes.{Bytes}
use Rattle.def_tree.specs.Tree.{Tree}
use Rattle.def_text.specs.Refusal.{MOST_BYTES, TextReads, TextRefusal}
use Rattle.def_text.specs.declared.TextFault.{TextFault}
use Rattle.def_text.specs.declared.TextFault.TheVariants.{TooLong, Syntax, TooDeep, Memory}
use Rattle.def_text.proofs.Complete.{one_tree}
use Rattle.def_text.proofs.OneAnswer.{none_beside_tree}
use Rattle.def_text.proofs.SpelledWritable.{spelled_writable}
use Rattle.def_sane.specs.declared.Unfit.{Unfit}
use Rattle.def_sane.specs.Unfit.{first_unfit, first_unfit_valid}
use Rattle.ms_io.specs.Sides.{Rose, Side}
use Rattle.def_answer.specs.Answer.{Replies}
use Rattle.def_answer.specs.Reading.{read, refused}
use Rattle.def_answer.specs.Reply.{Reply, unless_unfit}
use Rattle.ms_answer_laws.specs.Laws.{walked}
use Rattle.def_answer.specs.Satisfy.{reason_by}
use Rattle.def_answer.specs.Words.{Command, IsForm}
use Rattle.ms_answer_laws.proofs.AuditSteps.{walked_are_steps}
use Rattle.ms_answer_laws.proofs.Unique.{one_form}
use Rattle.ms_report.specs.declared.answer.Answer.{Answer}
use Rattle.msat_cli.specs.declared.answer.Stop.{Stop}
use Rattle.msat_cli.specs.declared.answer.Stop.TheVariants as stop
use Rattle.ms_words.specs.declared.words.TextCommand.{TextCommand}
use Rattle.ms_words.specs.declared.words.TextCommand.TheVariants as kind
use Rattle.ms_words.specs.declared.words.Command.{Command as Asked}
use Rattle.def_answer.specs.Sources.{Passes, NeedsSource, ReadsSource}
use Rattle.ms_io.specs.Reads.{IsUnread}
use Rattle.msat_cli.specs.Ends.{HasShortText, TakesMemory}
use Rattle.ms_words.specs.Commands.{seen, HasUtf8, HaveUtf8, command_of}
use Rattle.msat_cli.specs.Scaffolding.Steps.{reason_of, reply_of, ReadsFor, Answers, AnswersWords, AnswersTree, IsRefusal, IsRefusalOfTree, Ended}

-- a step ends as another one does
pub ended : (P Q : Reply → Type 0) (A B C D : Type 0) → ((r : Reply) → P r → Q r) → (A → C) → (B → D)
    → (result : Result Answer Stop) → Ended P A B result → Ended Q C D result
ended P Q A B C D answers fails wants (Ok answer) h = answers _ h
ended P Q A B C D answers fails wants (Err stop.Usage) h = answers _ h
ended P Q A B C D answers fails wants (Err stop.TextTooLong) h = answers _ h
ended P Q A B C D answers fails wants (Err stop.FileTooLong) h = answers _ h
ended P Q A B C D answers fails wants (Err stop.ReadFault) h = fails h
ended P Q A B C D answers fails wants (Err stop.Memory) h = wants h

-- ---- trees

replies_read : (kind : TextCommand) (text bytes : Bytes) (tree : Tree) (offsets : List ℕ) (r : Reply) → TextReads text tree offsets
    → r ≡ unless_unfit (reason_of kind tree) offsets (reply_of kind bytes offsets tree) → Replies (command_of kind text) bytes r
replies_read (kind.Script rules) text bytes tree offsets r reads e = (read tree offsets, reads, e)
replies_read (kind.Asm rules) text bytes tree offsets r reads e = (read tree offsets, reads, e)
replies_read (kind.Tree rules) text bytes tree offsets r reads e = (read tree offsets, reads, e)
replies_read (kind.Check rules) text bytes tree offsets r reads e = (read tree offsets, reads, e)
replies_read (kind.Satisfy choice rules) text bytes tree offsets r reads e = (read tree offsets, reads, e)
replies_read kind.Policy text bytes tree offsets r reads e = (read tree offsets, reads, e)
replies_read kind.Plan text bytes tree offsets r reads e = (read tree offsets, reads, e)
replies_read kind.Audit text bytes tree offsets r reads e =
    (read tree offsets, walked tree bytes, reads, walked_are_steps tree bytes (spelled_writable reads.spelled), e)
replies_read kind.Trace text bytes tree offsets r reads e = (read tree offsets, reads, e)

-- a file is read for a tree against which there is no reason
no_reason : (kind : TextCommand) (tree : Tree) → ReadsFor kind tree → reason_of kind tree ≡ None
no_reason (kind.Script rules) tree h = absurd h
no_reason (kind.Asm rules) tree h = absurd h
no_reason (kind.Tree rules) tree h = absurd h
no_reason (kind.Check rules) tree h = absurd h
no_reason (kind.Satisfy choice rules) tree h = h
no_reason kind.Policy tree h = absurd h
no_reason kind.Plan tree h = h
no_reason kind.Audit tree h = h
no_reason kind.Trace tree h = h

pub for_source : (kind : TextCommand) (text : Bytes) (tree : Tree) (offsets : List ℕ) → TextReads text tree offsets → ReadsFor kind tree
    → NeedsSource (command_of kind text)
for_source (kind.Script rules) text tree offsets reads h = absurd h
for_source (kind.Asm rules) text tree offsets reads h = absurd h
for_source (kind.Tree rules) text tree offsets reads h = absurd h
for_source (kind.Check rules) text tree offsets reads h = absurd h
for_source (kind.Satisfy choice rules) text tree offsets reads h = (tree, offsets, reads, h)
for_source kind.Policy text tree offsets reads h = absurd h
for_source kind.Plan text tree offsets reads h = (tree, offsets, reads, h)
for_source kind.Audit text tree offsets reads h = (tree, offsets, reads, h)
for_source kind.Trace text tree offsets reads h = (tree, offsets, reads, h)

-- the tree of the text is the one
same_reason : (reason : Tree → Option Unfit) (text : Bytes) (tree : Tree) (offsets : List ℕ) → TextReads text tree offsets → Passes reason text
    → reason tree ≡ None
same_reason reason text tree offsets reads h = subst (λ t. reason t ≡ None) (one_tree h.2.spelled reads.spelled).0 h.3

pub source_for : (kind : TextCommand) (text : Bytes) (tree : Tree) (offsets : List ℕ) → TextReads text tree offsets
    → NeedsSource (command_of kind text) → ReadsFor kind tree
source_for (kind.Script rules) text tree offsets reads h = absurd h
source_for (kind.Asm rules) text tree offsets reads h = absurd h
source_for (kind.Tree rules) text tree offsets reads h = absurd h
source_for (kind.Check rules) text tree offsets reads h = absurd h
source_for (kind.Satisfy choice rules) text tree offsets reads h = same_reason (reason_by choice rules) text tree offsets reads h
source_for kind.Policy text tree offsets reads h = absurd h
source_for kind.Plan text tree offsets reads h = same_reason first_unfit text tree offsets reads h
source_for kind.Audit text tree offsets reads h = same_reason first_unfit_valid text tree offsets reads h
source_for kind.Trace text tree offsets reads h = same_reason first_unfit_valid text tree offsets reads h

tree_answers : (kind : TextCommand) (text : Bytes) (tree : Tree) (offsets : List ℕ) (source : Side) → TextReads text tree offsets
    → (r : Reply) → AnswersTree kind tree offsets source r → Answers (command_of kind text) source r
tree_answers kind text tree offsets source reads r (inl once) = inl (record {
  needless = λ h. once.needless (source_for kind text tree offsets reads h);
  unread = once.unread;
  replies = λ bytes. replies_read kind text bytes tree offsets r reads (once.replies bytes);
})
tree_answers kind text tree offsets source reads r (inr late) =
    let none = no_reason kind tree late.0 in
    inr (record {
      needed = for_source kind text tree offsets reads late.0;
      bytes = late.1.bytes;
      held = late.1.held;
      replies = replies_read kind text late.1.bytes tree offsets r reads
          (late.1.replies ∙ ap (λ o. unless_unfit o offsets (reply_of kind late.1.bytes offsets tree)) (sym none));
    })

short_text : (kind : TextCommand) (text : Bytes) → length text ≤ MOST_BYTES → HasShortText (command_of kind text)
short_text (kind.Script rules) text short = short
short_text (kind.Asm rules) text short = short
short_text (kind.Tree rules) text short = short
short_text (kind.Check rules) text short = short
short_text (kind.Satisfy choice rules) text short = short
short_text kind.Policy text short = short
short_text kind.Plan text short = short
short_text kind.Audit text short = short
short_text kind.Trace text short = short

pub tree_ended : (kind : TextCommand) (text : Bytes) (tree : Tree) (offsets : List ℕ) (source : Side) (result : Result Answer Stop)
    → TextReads text tree offsets
    → Ended (AnswersTree kind tree offsets source) (ReadsFor kind tree × Rose source.before source.now) ⊤ result
    → Ended (Answers (command_of kind text) source) (NeedsSource (command_of kind text) × Rose source.before source.now) (HasShortText (command_of kind text)) result
tree_ended kind text tree offsets source result reads h =
    ended _ _ _ _ _ _ (tree_answers kind text tree offsets source reads)
    (λ f. (for_source kind text tree offsets reads f.0, f.1)) (λ m. short_text kind text reads.short) result h

-- ---- texts that are refused

pub no_source : (kind : TextCommand) (text : Bytes) (fault : TextFault) → IsUtf8 text → TextRefusal text fault
    → ¬ NeedsSource (command_of kind text)
no_source (kind.Script rules) text fault utf8 refusal h = h
no_source (kind.Asm rules) text fault utf8 refusal h = h
no_source (kind.Tree rules) text fault utf8 refusal h = h
no_source (kind.Check rules) text fault utf8 refusal h = h
no_source (kind.Satisfy choice rules) text fault utf8 refusal h = absurd (none_beside_tree text h.0 h.1 fault utf8 h.2 refusal)
no_source kind.Policy text fault utf8 refusal h = h
no_source kind.Plan text fault utf8 refusal h = absurd (none_beside_tree text h.0 h.1 fault utf8 h.2 refusal)
no_source kind.Audit text fault utf8 refusal h = absurd (none_beside_tree text h.0 h.1 fault utf8 h.2 refusal)
no_source kind.Trace text fault utf8 refusal h = absurd (none_beside_tree text h.0 h.1 fault utf8 h.2 refusal)

replies_refused : (kind : TextCommand) (text bytes : Bytes) (fault : TextFault) (r : Reply) → TextRefusal text fault → IsRefusal fault r
    → Replies (command_of kind text) bytes r
replies_refused (kind.Script rules) text bytes fault r refusal is = (refused fault, refusal, is.1)
replies_refused (kind.Asm rules) text bytes fault r refusal is = (refused fault, refusal, is.1)
replies_refused (kind.Tree rules) text bytes fault r refusal is = (refused fault, refusal, is.1)
replies_refused (kind.Check rules) text bytes fault r refusal is = (refused fault, refusal, is.1)
replies_refused (kind.Satisfy choice rules) text bytes fault r refusal is = (refused fault, refusal, is.1)
replies_refused kind.Policy text bytes fault r refusal is = (refused fault, refusal, is.1)
replies_refused kind.Plan text bytes fault r refusal is = (refused fault, refusal, is.1)
replies_refused kind.Audit text bytes fault r refusal is = (refused fault, [], refusal, tt, is.1)
replies_refused kind.Trace text bytes fault r refusal is = (refused fault, refusal, is.1)

-- a text that isn't refused as too long isn't
short_fault : (text : Bytes) (fault : TextFault) → fault ≢ TooLong → (fault ≢ Memory → TextRefusal text fault) → (fault ≡ Memory → length text ≤ MOST_BYTES)
    → length text ≤ MOST_BYTES
short_fault text TooLong other refusal memory = absurd (other refl)
short_fault text (Syntax at) other refusal memory = (refusal (λ e. cc)).0
short_fault text (TooDeep at) other refusal memory = (refusal (λ e. cc)).0
short_fault text Memory other refusal memory = memory refl

pub refused_ended : (kind : TextCommand) (text : Bytes) (fault : TextFault) (source : Side) (F : Type 0) (result : Result Answer Stop)
    → IsUtf8 text → (fault ≢ Memory → TextRefusal text fault) → (fault ≡ Memory → length text ≤ MOST_BYTES) → IsUnread source
    → Ended (IsRefusal fault) ⊥ (fault ≢ TooLong) result
    → Ended (Answers (command_of kind text) source) F (HasShortText (command_of kind text)) result
refused_ended kind text fault source F result utf8 refusal memory unread h =
    ended (IsRefusal fault) (Answers (command_of kind text) source) ⊥ (fault ≢ TooLong) F (HasShortText (command_of kind text))
    (λ r is. inl (record {
      needless = no_source kind text fault utf8 (refusal is.0);
      unread = unread;
      replies = λ bytes. replies_refused kind text bytes fault r (refusal is.0) is;
    }))
    (λ f. absurd f) (λ other. short_text kind text (short_fault text fault other refusal memory)) result h

-- ---- trees that don't pass, and what is answered at once

-- a tree with a reason against it is refused, and nothing is read for it
pub refused_tree : (kind : TextCommand) (tree : Tree) (offsets : List ℕ) (source : Side) (F : Type 0) (result : Result Answer Stop) → IsUnread source
    → Ended (IsRefusalOfTree (reason_of kind) tree offsets) ⊥ ⊤ result → Ended (AnswersTree kind tree offsets source) F ⊤ result
refused_tree kind tree offsets source F result unread h =
    ended (IsRefusalOfTree (reason_of kind) tree offsets) (AnswersTree kind tree offsets source) ⊥ ⊤ F ⊤
    (λ r is. inl (record {
      needless = λ reads. let none : None ≡ Some is.0 = sym (no_reason kind tree reads) ∙ is.1 in cc;
      unread = unread;
      replies = λ bytes. is.2 ∙ ap (λ o. unless_unfit o offsets (reply_of kind bytes offsets tree)) (sym is.1);
    }))
    (λ f. absurd f) (λ m. m) result h

pub refused_at_once : (first_reason : Tree → Option Unfit) (next : Tree → Reply) (tree : Tree) (offsets : List ℕ) (result : Result Answer Stop)
    → Ended (IsRefusalOfTree first_reason tree offsets) ⊥ ⊤ result
    → Ended (λ r. r ≡ unless_unfit (first_reason tree) offsets (next tree)) ⊥ ⊤ result
refused_at_once first_reason next tree offsets result h =
    ended (IsRefusalOfTree first_reason tree offsets) (λ r. r ≡ unless_unfit (first_reason tree) offsets (next tree)) ⊥ ⊤ ⊥ ⊤
    (λ r is. is.2 ∙ ap (λ o. unless_unfit o offsets (next tree)) (sym is.1)) (λ f. f) (λ m. m) result h

-- nothing is read for these commands
pub at_once : (kind : TextCommand) (next : Tree → Reply) (tree : Tree) (offsets : List ℕ) (source : Side) (F : Type 0) (result : Result Answer Stop)
    → IsUnread source → ¬ ReadsFor kind tree → ((bytes : Bytes) → next tree ≡ reply_of kind bytes offsets tree)
    → Ended (λ r. r ≡ unless_unfit (reason_of kind tree) offsets (next tree)) ⊥ ⊤ result → Ended (AnswersTree kind tree offsets source) F ⊤ result
at_once kind next tree offsets source F result unread never same h =
    ended (λ r. r ≡ unless_unfit (reason_of kind tree) offsets (next tree)) (AnswersTree kind tree offsets source) ⊥ ⊤ F ⊤
    (λ r is. inl (record { needless = never; unread = unread; replies = λ bytes. is ∙ ap (unless_unfit (reason_of kind tree) offsets) (same bytes) }))
    (λ f. absurd f) (λ m. m) result h

-- ---- words

-- words ask for one command
pub have_utf8 : (words : List Bytes) (a : Asked) → IsForm words (seen a) → HasUtf8 (seen a) → HaveUtf8 words
have_utf8 words a form utf8 command other = subst HasUtf8 (one_form words (seen a) command form other) utf8

pub words_ended : (words : List Bytes) (command : Command) (source : Side) (result : Result Answer Stop) → IsForm words command
    → Ended (Answers command source) (NeedsSource command × Rose source.before source.now) (HasShortText command) result
    → Ended (AnswersWords words source) (ReadsSource words × Rose source.before source.now) (TakesMemory words) result
words_ended words command source result form h =
    ended (Answers command source) (AnswersWords words source) (NeedsSource command × Rose source.before source.now) (HasShortText command)
    (ReadsSource words × Rose source.before source.now) (TakesMemory words)
    (λ r a. inr (command, form, a)) (λ f. ((command, form, f.0), f.1)) (λ short. (command, form, short)) result h

-- a command that needs no source leaves it
pub words_unread : (words : List Bytes) (command : Command) (U : Type 0) → IsForm words command → (¬ NeedsSource command → U) → ¬ ReadsSource words → U
words_unread words command U form unread never = unread (λ needs. never (command, form, needs))
