-- From the trace of a run, and the line of what it came to, to the reply.
use Rattle.std.proofs.Common.{◌≡◌, ℕ, List, [], ◌++◌, Ok, Err, sym, ◌∙◌, ap, subst}
use Rattle.std.specs.Prelude.{Result}
use Rattle.def_script.specs.Bytes.{Bytes}
use Rattle.def_machine.specs.Machine.{Given}
use Rattle.def_machine.specs.Run.{Outcome, accepted, refused, run}
use Rattle.def_files.specs.RunFile.{RunFile}
use Rattle.def_trace.specs.Trace.{trace}
use Rattle.def_trace.specs.Written.{written}
use Rattle.def_answer.specs.declared.status.Status.{Status}
use Rattle.def_answer.specs.Reply.{reply, given_by, outcome_status, traced_reply}
use Rattle.def_answer.specs.Trace.{last_line, trace_report}
use Rattle.ms_interp.specs.Answering.{Answers}
use Rattle.ms_interp.specs.declared.report.RunReport.{RunReport}
use Rattle.ms_interp.specs.declared.report.RunStop.{RunStop}
use Rattle.ms_interp.specs.declared.report.RunStop.TheVariants.{Refused, Memory}
use Rattle.ms_trace.specs.Tracing.{Adds}
use Rattle.ms_replies.specs.Runs.{TellsLast}

-- of a run that came to this outcome, with these lines before the last one
told : (places : List ℕ) (file : RunFile) (o : Outcome) (s : Status) (lines report : Bytes) → run (given_by file) file.script file.stack ≡ o
    → lines ≡ written places (trace (given_by file) file.script file.stack) → s ≡ outcome_status o → report ≡ lines ++ last_line o
    → reply s report ≡ traced_reply places file
unfolding trace_report
told places file o s lines report ran are is e =
    ap (λ t. reply t report) is ∙ ap (reply (outcome_status o)) (e ∙ ap (λ l. l ++ last_line o) are)
    ∙ sym (ap (λ p. reply (outcome_status p) (written places (trace (given_by file) file.script file.stack) ++ last_line p)) ran)

-- the lines that were added to an empty report
added : (places : List ℕ) (file : RunFile) (given : Given) (before lines : Bytes) → given ≡ given_by file → before ≡ []
    → lines ≡ before ++ written places (trace given file.script file.stack)
    → lines ≡ written places (trace (given_by file) file.script file.stack)
added places file given before lines same none e =
    e ∙ ap (λ b. b ++ written places (trace given file.script file.stack)) none
    ∙ ap (λ g. written places (trace g file.script file.stack)) same

of_run : (places : List ℕ) (file : RunFile) (given : Given) (r : Result RunReport RunStop) (s : Status) (before lines report : Bytes)
    → given ≡ given_by file → before ≡ [] → Answers r (run given file.script file.stack)
    → Adds r before lines (written places (trace given file.script file.stack)) → TellsLast r lines report s
    → reply s report ≡ traced_reply places file
of_run places file given (Ok ran) s before lines report same none answers adds tells =
    told places file (accepted ran.ops ran.peak ran.checks) s lines report
    (subst (λ g. run g file.script file.stack ≡ accepted ran.ops ran.peak ran.checks) same answers)
    (added places file given before lines same none adds) tells.0 tells.1
of_run places file given (Err (Refused fault place)) s before lines report same none answers adds tells =
    told places file (refused fault place) s lines report
    (subst (λ g. run g file.script file.stack ≡ refused fault place) same answers)
    (added places file given before lines same none adds) tells.0 tells.1
of_run places file given (Err Memory) s before lines report same none answers adds tells = absurd tells

-- so it is of the bytes of the file's script
pub traced : (places : List ℕ) (file : RunFile) (given : Given) (script : Bytes) (r : Result RunReport RunStop) (s : Status) (before lines report : Bytes)
    → given ≡ given_by file → script ≡ file.script → before ≡ [] → Answers r (run given script file.stack)
    → Adds r before lines (written places (trace given script file.stack)) → TellsLast r lines report s
    → reply s report ≡ traced_reply places file
traced places file given script r s before lines report same is none answers adds tells =
    of_run places file given r s before lines report same none (subst (λ b. Answers r (run given b file.stack)) is answers)
    (subst (λ b. Adds r before lines (written places (trace given b file.stack))) is adds) tells
