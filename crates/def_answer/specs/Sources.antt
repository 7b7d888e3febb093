-- Which words need the source: those of a form that reads it, and whose text, where they have one, passed.
use Rattle.std.specs.Prelude.{◌≡◌, ℕ, ⊤, List, Option, None}
use Rattle.def_script.specs.Bytes.{Bytes}
use Rattle.def_tree.specs.Tree.{Tree}
use Rattle.def_text.specs.Refusal.{TextReads}
use Rattle.def_sane.specs.declared.Unfit.{Unfit}
use Rattle.def_sane.specs.Unfit.{first_unfit, first_unfit_valid}
use Rattle.def_answer.specs.declared.status.Status.{Status}
use Rattle.def_answer.specs.declared.status.Status.TheVariants as status
use Rattle.def_answer.specs.Satisfy.{reason_by}
use Rattle.def_answer.specs.Words.{Command, script, asm, outline, check, satisfy, run, gen, policy, plan, audit, trace, trace_text, decode, IsForm}

-- the text is read as a tree, and there is no reason against it
abbrev pub Passes : (first_reason : Tree → Option Unfit) → (text : Bytes) → Type 0
Passes first_reason text =
    (tree : Tree) × (offsets : List ℕ) × TextReads text tree offsets × (first_reason tree ≡ None)

-- the command wants a file, and its text, where it has one, passes
abbrev pub NeedsSource : Command → Type 0
NeedsSource (script rules text) = ⊥
NeedsSource (asm rules text) = ⊥
NeedsSource (outline rules text) = ⊥
NeedsSource (check rules text) = ⊥
NeedsSource (satisfy choice rules text) = Passes (reason_by choice rules) text
NeedsSource run = ⊤
NeedsSource (gen n) = ⊥
NeedsSource (policy text) = ⊥
NeedsSource (plan text) = Passes first_unfit text
NeedsSource (audit text) = Passes first_unfit_valid text
NeedsSource trace = ⊤
NeedsSource (trace_text text) = Passes first_unfit_valid text
NeedsSource (decode digits keys) = ⊥

-- the words are those of such a command
abbrev pub ReadsSource : (words : List Bytes) → Type 0
ReadsSource words = (command : Command) × IsForm words command × NeedsSource command

-- the statuses that tell of the source
abbrev pub IsOfSource : Status → Type 0
IsOfSource status.Done = ⊥
IsOfSource status.Usage = ⊥
IsOfSource status.TextRefused = ⊥
IsOfSource status.FileRefused = ⊤
IsOfSource status.NoSatisfaction = ⊤
IsOfSource status.ReadFault = ⊤
IsOfSource status.WriteFault = ⊥
IsOfSource status.Memory = ⊥
IsOfSource status.ScriptRefused = ⊤
IsOfSource status.NotAccepted = ⊤
IsOfSource status.NoReading = ⊥

-- the statuses of answers to what the source holds
abbrev pub IsToFile : Status → Type 0
IsToFile status.Done = ⊤
IsToFile status.Usage = ⊥
IsToFile status.TextRefused = ⊥
IsToFile status.FileRefused = ⊤
IsToFile status.NoSatisfaction = ⊤
IsToFile status.ReadFault = ⊥
IsToFile status.WriteFault = ⊥
IsToFile status.Memory = ⊥
IsToFile status.ScriptRefused = ⊤
IsToFile status.NotAccepted = ⊤
IsToFile status.NoReading = ⊥
