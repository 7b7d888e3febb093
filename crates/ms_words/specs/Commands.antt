-- What the words ask for.
use Rattle.std.specs.Prelude.{⊤, List, IsUtf8, Option, MatchOption}
use Rattle.def_script.specs.Bytes.{Bytes}
use Rattle.def_answer.specs.Words.{Command, script, asm, outline, check, satisfy, run, gen, policy, plan, audit, trace, trace_text, decode, IsForm, HasNoForm}
use Rattle.ms_words.specs.declared.words.TextCommand.{TextCommand}
use Rattle.ms_words.specs.declared.words.TextCommand.TheVariants as kind
use Rattle.ms_words.specs.declared.words.Command.{Command as Asked}
use Rattle.ms_words.specs.declared.words.Command.TheVariants as asked

-- the command with its TEXT
abbrev pub command_of : TextCommand → (text : Bytes) → Command
command_of (kind.Script rules) = script rules
command_of (kind.Asm rules) = asm rules
command_of (kind.Tree rules) = outline rules
command_of (kind.Check rules) = check rules
command_of (kind.Satisfy choice rules) = satisfy choice rules
command_of kind.Policy = policy
command_of kind.Plan = plan
command_of kind.Audit = audit
command_of kind.Trace = trace_text

abbrev pub seen : Asked → Command
seen (asked.Text kind text) = command_of kind text.now
seen asked.Run = run
seen asked.Trace = trace
seen (asked.Gen n) = gen n
seen (asked.Decode digits keys) = decode digits.now keys.now

-- its TEXT, where it has one, is UTF-8
abbrev pub HasUtf8 : Command → Type 0
HasUtf8 (script rules text) = IsUtf8 text
HasUtf8 (asm rules text) = IsUtf8 text
HasUtf8 (outline rules text) = IsUtf8 text
HasUtf8 (check rules text) = IsUtf8 text
HasUtf8 (satisfy choice rules text) = IsUtf8 text
HasUtf8 run = ⊤
HasUtf8 (gen n) = ⊤
HasUtf8 (policy text) = IsUtf8 text
HasUtf8 (plan text) = IsUtf8 text
HasUtf8 (audit text) = IsUtf8 text
HasUtf8 trace = ⊤
HasUtf8 (trace_text text) = IsUtf8 text
HasUtf8 (decode digits keys) = ⊤

-- so is that of words with a form
abbrev pub HaveUtf8 : (words : List Bytes) → Type 0
HaveUtf8 words = (command : Command) → IsForm words command → HasUtf8 command

-- the command whose words these are, or none where they have no form
abbrev pub FindsForm : (words : List Bytes) → Option Asked → Type 0
FindsForm words found = MatchOption found (HasNoForm words) (λ command. IsForm words (seen command))
