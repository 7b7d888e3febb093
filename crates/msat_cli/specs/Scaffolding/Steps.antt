-- The steps on the way to an answer: the reasons against a tree, and what a step answers.
use Rattle.std.specs.Prelude.{◌≡◌, ◌≢◌, ℕ, ◌<◌, length, List, ⊤, Option, Some, None, Result, Ok, Err, ◌⊎◌}
use Rattle.std.specs.String.{string_bytes}
use Rattle.def_script.specs.Bytes.{Bytes}
use Rattle.def_tree.specs.Tree.{Tree}
use Rattle.def_text.specs.declared.TextFault.{TextFault}
use Rattle.def_text.specs.declared.TextFault.TheVariants as text_fault
use Rattle.def_sane.specs.declared.Unfit.{Unfit}
use Rattle.def_sane.specs.Unfit.{first_unfit, first_unfit_valid, first_unfit_under, first_unfit_valid_under}
use Rattle.ms_io.specs.Sides.{Rose, Side}
use Rattle.ms_io.specs.Endings.{Writes, WritesNothing}
use Rattle.def_answer.specs.declared.status.Status.{Status}
use Rattle.def_answer.specs.declared.status.Status.TheVariants as status
use Rattle.def_answer.specs.Answer.{script_reply, asm_reply, tree_reply, no_reason, check_reply, policy_reply, Replies}
use Rattle.ms_answer_laws.specs.Laws.{walked}
use Rattle.def_answer.specs.Lines.{text_line, unfit_line, MOST_FILE}
use Rattle.def_answer.specs.Files.{file_too_long_line}
use Rattle.def_answer.specs.Reply.{usage_line, Reply, reply, usage_reply, unless_unfit, satisfy_reply, plan_reply, audit_reply, text_trace_reply}
use Rattle.def_answer.specs.Sources.{NeedsSource, ReadsSource}
use Rattle.def_answer.specs.Words.{Command, IsForm, HasNoForm}
use Rattle.ms_report.specs.declared.answer.Answer.{Answer}
use Rattle.msat_cli.specs.declared.answer.Stop.{Stop}
use Rattle.msat_cli.specs.declared.answer.Stop.TheVariants as stop
use Rattle.ms_words.specs.declared.words.TextCommand.{TextCommand}
use Rattle.ms_words.specs.declared.words.TextCommand.TheVariants as kind
use Rattle.def_answer.specs.Satisfy.{chosen_by, reason_by}
use Rattle.ms_io.specs.Reads.{IsUnread, Held}
use Rattle.msat_cli.specs.Ends.{HasShortText, TakesMemory}

-- ---- what is done with a tree

-- the reasons against a tree that are tested
abbrev pub reason_of : TextCommand → Tree → Option Unfit
reason_of (kind.Script rules) = first_unfit_valid_under rules
reason_of (kind.Asm rules) = first_unfit_valid_under rules
reason_of (kind.Tree rules) = no_reason
reason_of (kind.Check rules) = first_unfit_under rules
reason_of (kind.Satisfy choice rules) = reason_by choice rules
reason_of kind.Policy = first_unfit
reason_of kind.Plan = first_unfit
reason_of kind.Audit = first_unfit_valid
reason_of kind.Trace = first_unfit_valid

-- what is replied where there is none
abbrev pub reply_of : TextCommand → (source : Bytes) → (offsets : List ℕ) → Tree → Reply
reply_of (kind.Script rules) source offsets = script_reply
reply_of (kind.Asm rules) source offsets = asm_reply offsets
reply_of (kind.Tree rules) source offsets = tree_reply rules offsets
reply_of (kind.Check rules) source offsets = check_reply rules
reply_of (kind.Satisfy choice rules) source offsets = satisfy_reply rules (chosen_by choice) source
reply_of kind.Policy source offsets = policy_reply
reply_of kind.Plan source offsets = plan_reply source
reply_of kind.Audit source offsets = λ tree. audit_reply offsets (walked tree source) source tree
reply_of kind.Trace source offsets = text_trace_reply offsets source

-- a file is read for it
abbrev pub ReadsFor : TextCommand → Tree → Type 0
ReadsFor (kind.Script rules) tree = ⊥
ReadsFor (kind.Asm rules) tree = ⊥
ReadsFor (kind.Tree rules) tree = ⊥
ReadsFor (kind.Check rules) tree = ⊥
ReadsFor (kind.Satisfy choice rules) tree = reason_by choice rules tree ≡ None
ReadsFor kind.Policy tree = ⊥
ReadsFor kind.Plan tree = first_unfit tree ≡ None
ReadsFor kind.Audit tree = first_unfit_valid tree ≡ None
ReadsFor kind.Trace tree = first_unfit_valid tree ≡ None

-- the reply to a tree with these offsets, with every source: nothing was read
pub record AnswersAtOnce (kind : TextCommand) (tree : Tree) (offsets : List ℕ) (source : Side) (r : Reply) : Type 0 where
  pub needless : ¬ ReadsFor kind tree
  pub unread : IsUnread source
  pub replies : (bytes : Bytes) → r ≡ unless_unfit (reason_of kind tree) offsets (reply_of kind bytes offsets tree)

-- the reply to what the source held
pub record AnswersFile (next : Bytes → Reply) (source : Side) (r : Reply) : Type 0 where
  pub bytes : Bytes
  pub held : Held MOST_FILE source bytes
  pub replies : r ≡ next bytes

-- the reply to a tree
abbrev pub AnswersTree : TextCommand → Tree → (offsets : List ℕ) → (source : Side) → Reply → Type 0
AnswersTree kind tree offsets source r =
    AnswersAtOnce kind tree offsets source r ⊎ (ReadsFor kind tree × AnswersFile (λ bytes. reply_of kind bytes offsets tree) source r)

-- the reply to a text that is refused
abbrev pub IsRefusal : TextFault → Reply → Type 0
IsRefusal fault r = (fault ≢ text_fault.Memory) × (r ≡ reply status.TextRefused (text_line fault))

-- why the file isn't read whole
abbrev pub StopsReading : (source : Side) → Stop → Type 0
StopsReading source stop.Usage = ⊥
StopsReading source stop.TextTooLong = ⊥
StopsReading source stop.FileTooLong = (bytes : Bytes) × Held MOST_FILE source bytes × (MOST_FILE < length bytes)
StopsReading source stop.ReadFault = Rose source.before source.now
StopsReading source stop.Memory = ⊤

-- ---- answers

-- the reply to the command, with every source: nothing was read
pub record RepliesUnread (command : Command) (source : Side) (r : Reply) : Type 0 where
  pub needless : ¬ NeedsSource command
  pub unread : IsUnread source
  pub replies : (bytes : Bytes) → Replies command bytes r

-- the reply to the command, with what the source held
pub record RepliesToFile (command : Command) (source : Side) (r : Reply) : Type 0 where
  pub needed : NeedsSource command
  pub bytes : Bytes
  pub held : Held MOST_FILE source bytes
  pub replies : Replies command bytes r

-- the reply to the command
abbrev pub Answers : Command → (source : Side) → Reply → Type 0
Answers command source r = RepliesUnread command source r ⊎ RepliesToFile command source r

-- the reply to words without a form
pub record RepliesUsage (words : List Bytes) (r : Reply) : Type 0 where
  pub none : HasNoForm words
  pub replies : r ≡ usage_reply

-- the reply to the words
abbrev pub AnswersWords : (words : List Bytes) → (source : Side) → Reply → Type 0
AnswersWords words source r =
    RepliesUsage words r ⊎ ((command : Command) × IsForm words command × Answers command source r)

-- ---- how a step ends

-- with a reply that is an answer, with a fault of the source, or for want of memory
abbrev pub Ended : (IsAnswer : Reply → Type 0) → (Fails Wants : Type 0) → Result Answer Stop → Type 0
Ended IsAnswer Fails Wants (Ok answer) = IsAnswer (reply answer.status (string_bytes answer.report))
Ended IsAnswer Fails Wants (Err stop.Usage) = IsAnswer usage_reply
Ended IsAnswer Fails Wants (Err stop.TextTooLong) = IsAnswer (reply status.TextRefused (text_line text_fault.TooLong))
Ended IsAnswer Fails Wants (Err stop.FileTooLong) = IsAnswer (reply status.FileRefused file_too_long_line)
Ended IsAnswer Fails Wants (Err stop.ReadFault) = Fails
Ended IsAnswer Fails Wants (Err stop.Memory) = Wants

-- with the reply to the words, or with a fault of the source where they read it
abbrev pub EndsWords : (words : List Bytes) → (source : Side) → Result Answer Stop → Type 0
EndsWords words source = Ended (AnswersWords words source) (ReadsSource words × Rose source.before source.now) (TakesMemory words)

-- with the reply to what the source held, or with a fault of the source
abbrev pub EndsFile : (next : Bytes → Reply) → (source : Side) → Result Answer Stop → Type 0
EndsFile next source = Ended (AnswersFile next source) (Rose source.before source.now) ⊤

-- with the first reason against a tree, or with what comes next, where the source isn't read
abbrev pub EndsAtOnce : (first_reason : Tree → Option Unfit) → (next : Tree → Reply) → Tree → (offsets : List ℕ) → Result Answer Stop → Type 0
EndsAtOnce first_reason next tree offsets = Ended (λ r. r ≡ unless_unfit (first_reason tree) offsets (next tree)) ⊥ ⊤

-- with the first reason against a tree, of which there is one
abbrev pub IsRefusalOfTree : (first_reason : Tree → Option Unfit) → Tree → (offsets : List ℕ) → Reply → Type 0
IsRefusalOfTree first_reason tree offsets r =
    (unfit : Unfit) × (first_reason tree ≡ Some unfit) × (r ≡ reply status.TextRefused (unfit_line offsets unfit))

abbrev pub RefusesTree : (first_reason : Tree → Option Unfit) → Tree → (offsets : List ℕ) → Result Answer Stop → Type 0
RefusesTree first_reason tree offsets = Ended (IsRefusalOfTree first_reason tree offsets) ⊥ ⊤

-- with the reply to a tree, or with a fault of the source where a file is read for it
abbrev pub EndsTree : TextCommand → Tree → (offsets : List ℕ) → (source : Side) → Result Answer Stop → Type 0
EndsTree kind tree offsets source = Ended (AnswersTree kind tree offsets source) (ReadsFor kind tree × Rose source.before source.now) ⊤

-- with the reply to a command, with a fault of the source where it needs one, or for want of memory where its text isn't too long
abbrev pub EndsCommand : Command → (source : Side) → Result Answer Stop → Type 0
EndsCommand command source = Ended (Answers command source) (NeedsSource command × Rose source.before source.now) (HasShortText command)

-- a report that takes memory alone, of what was done
abbrev pub AsDone : {A E : Type 0} → (bytes : A → Bytes) → Result A E → Result Answer Stop → Type 0
AsDone bytes (Ok text) result =
    (answer : Answer) × (result ≡ Ok answer) × (reply answer.status (string_bytes answer.report) ≡ reply status.Done (bytes text))
AsDone bytes (Err e) result = result ≡ Err stop.Memory

-- an answer that takes memory alone
abbrev pub AsMade : {E : Type 0} → Result Answer E → Result Answer Stop → Type 0
AsMade (Ok answer) result = result ≡ Ok answer
AsMade (Err e) result = result ≡ Err stop.Memory

-- ---- how a report is written

-- what is written of an answer, and with which status
abbrev pub WritesResult : Result Answer Stop → (sink : Side) → Status → Type 0
WritesResult (Ok answer) = Writes status.WriteFault answer.status (string_bytes answer.report)
WritesResult (Err stop.Usage) = Writes status.WriteFault status.Usage usage_line
WritesResult (Err stop.TextTooLong) = Writes status.WriteFault status.TextRefused (text_line text_fault.TooLong)
WritesResult (Err stop.FileTooLong) = Writes status.WriteFault status.FileRefused file_too_long_line
WritesResult (Err stop.ReadFault) = WritesNothing status.ReadFault
WritesResult (Err stop.Memory) = WritesNothing status.Memory
