-- What a call for a trace shows.
use Rattle.std.proofs.Common.{◌≡◌, ◌≢◌, ℕ, ◌≤◌, ◌++◌, append-nil, nat_lt, if◌then◌else◌, Bool, true, false, inl, inr, List, [], ◌∷◌, Ok, Err, Some, length, codes, refl, sym, ap, subst, ◌∙◌}
use Rattle.std.specs.Prelude.{Result, flat_map}
use Rattle.std.specs.Io.KnownBytes.{Appends}
use Rattle.std.specs.Str.{bytes_eq}
use Rattle.std.proofs.lemmas.Bool.{le-ltb}
use Rattle.std.proofs.lemmas.Slice.Eq.{bytes_eq-Decides}
use Rattle.def_script.specs.Bytes.{Bytes}
use Rattle.def_machine.specs.Run.{Outcome, accepted, refused, run}
use Rattle.def_tree.specs.Tree.{Tree}
use Rattle.def_emit.specs.Emit.{script_of}
use Rattle.def_files.specs.declared.AssetFault.{AssetFault}
use Rattle.def_files.specs.RunFile.{RunFile, run_of}
use Rattle.def_trace.specs.Written.{written}
use Rattle.def_trace.specs.Writers.{places_of}
use Rattle.def_trace.proofs.Outcomes.{checks_told}
use Rattle.def_answer.specs.Answer.{Replies, RepliesToWords, Answer}
use Rattle.def_answer.specs.Lines.{MOST_FILE}
use Rattle.def_answer.specs.Files.{file_line, file_too_long_line}
use Rattle.def_answer.specs.Audit.{wrong_script_line}
use Rattle.def_answer.specs.Run.{accepted_line, script_refused_line, check_line, run_report}
use Rattle.def_answer.specs.Trace.{last_line, trace_report}
use Rattle.def_answer.specs.Reading.{read}
use Rattle.def_answer.specs.Reply.{Reply, reply, unless_unfit, with_file, file_reply, given_by, outcome_reply, run_reply, outcome_status, traced_reply, trace_reply, text_traced_reply, text_trace_reply}
use Rattle.def_answer.specs.Words.{Command, IsForm}
use Rattle.def_answer.specs.Words as words
use Rattle.def_answer.specs.declared.status.Status.{Status}
use Rattle.def_answer.specs.declared.status.Status.TheVariants as status
use Rattle.ms_answer_laws.proofs.Unique.{one_form}
use Rattle.ms_words.specs.Commands.{HaveUtf8}
use Rattle.msat_cli.specs.Ends.{Ends}
use Rattle.msat_cli.specs.Calls.{Call, EndsAs}
use Rattle.msat_cli.specs.Traces.{TellsFile, AsksTextTrace, outcome_of, lines_of, PrintsAccepted, PrintsRefused, Traced, ShowsTrace, EndsAsRun, ShowsRun, ShowsNodes}
use Rattle.msat_cli.proofs.EndLemmas.{told_answer, ends_as_answered, one_to_words}
use Rattle.msat_cli.proofs.SatisfactionLemmas.{second_of_two}

-- ---- the one answer over what the source tells

record IsAnsweredBy (call : Call) (bytes : Bytes) (r : Reply) : Type 0 where
  told : call.source.old ≡ Some bytes
  answer : Answer call.words bytes r.status r.report

answered_by : (call : Call) (bytes : Bytes) (r : Reply) (command : Command) → call.source.old ≡ Some bytes → IsForm call.words command
    → Replies command bytes r → IsAnsweredBy call bytes r
answered_by call bytes r command told form replies = record { told = told; answer = record { replies = inl (command, form, replies) } }

ends_by : (call : Call) (bytes : Bytes) (r : Reply) → HaveUtf8 call.words → Ends call → IsAnsweredBy call bytes r → EndsAs r.status call
ends_by call bytes r utf8 e by = ends_as_answered call utf8 e bytes r.status r.report (inr by.told) by.answer

-- what was written where no fault came
written_by : (call : Call) (bytes : Bytes) (r : Reply) (s : Status) → HaveUtf8 call.words → Ends call → IsAnsweredBy call bytes r
    → s ≢ status.WriteFault → s ≢ status.ReadFault → s ≢ status.Memory → call.status ≡ s
    → (r.status ≡ s) × Appends call.sink.old call.sink.new r.report
written_by call bytes r s utf8 (inl (report, a, w)) by no_write no_read no_memory is =
    let told = told_answer call.words call.source bytes call.status report (inr by.told) a in
    let same : reply call.status report ≡ r = one_to_words call.words bytes (reply call.status report) r utf8 told.replies by.answer.replies in
    (ap (λ (x : Reply). x.status) (sym same) ∙ is, subst (Appends call.sink.old call.sink.new) (ap (λ (x : Reply). x.report) same) w)
written_by call bytes r s utf8 (inr (inl w)) by no_write no_read no_memory is = absurd (no_write (sym is ∙ w.0))
written_by call bytes r s utf8 (inr (inr (inl f))) by no_write no_read no_memory is = absurd (no_read (sym is ∙ f.0))
written_by call bytes r s utf8 (inr (inr (inr m))) by no_write no_read no_memory is = absurd (no_memory (sym is ∙ m.0))

-- the reply to a short file that is read
read_reply : (next : RunFile → Reply) (source : Bytes) (file : RunFile) → length source ≤ MOST_FILE → run_of source ≡ Ok file
    → file_reply file_line run_of next source ≡ next file
read_reply next source file short given =
    second_of_two (nat_lt MOST_FILE (length source)) _ _ (le-ltb MOST_FILE (length source) short) ∙ ap (with_file file_line next) given

-- ---- a trace

prints_accepted : (call : Call) (places : List ℕ) (file : RunFile) (o : Outcome) → outcome_of file ≡ o → outcome_status o ≡ status.Done
    → Appends call.sink.old call.sink.new (written places (lines_of file) ++ last_line o) → PrintsAccepted call.sink places file
prints_accepted call places file (accepted ops peak checks) is done w =
    record { ops = ops; peak = peak; checks = checks; runs = is; written = w }
prints_accepted call places file (refused fault place) is done w = absurd (cc done)

prints_refused : (call : Call) (places : List ℕ) (file : RunFile) (o : Outcome) → outcome_of file ≡ o → outcome_status o ≡ status.ScriptRefused
    → Appends call.sink.old call.sink.new (written places (lines_of file) ++ last_line o) → PrintsRefused call.sink places file
prints_refused call places file (accepted ops peak checks) is refusal w = absurd (cc refusal)
prints_refused call places file (refused fault place) is refusal w = record { fault = fault; place = place; runs = is; written = w }

traced : (call : Call) (bytes : Bytes) (places : List ℕ) (file : RunFile) → HaveUtf8 call.words → Ends call
    → IsAnsweredBy call bytes (traced_reply places file) → Traced call places file
unfolding trace_report
traced call bytes places file utf8 e by =
    let ends = ends_by call bytes (traced_reply places file) utf8 e by in
    record {
      where_accepted = λ ops peak checks is. subst (λ o. EndsAs (outcome_status o) call) is ends;
      where_refused = λ fault place is. subst (λ o. EndsAs (outcome_status o) call) is ends;
      done = λ done.
          let w = written_by call bytes (traced_reply places file) status.Done utf8 e by (λ h. cc h) (λ h. cc h) (λ h. cc h) done in
          prints_accepted call places file (outcome_of file) refl w.0 w.1;
      script_refused = λ refusal.
          let w = written_by call bytes (traced_reply places file) status.ScriptRefused utf8 e by (λ h. cc h) (λ h. cc h) (λ h. cc h) refusal in
          prints_refused call places file (outcome_of file) refl w.0 w.1;
    }

trace_answered : (call : Call) (file : RunFile) → IsForm call.words words.trace → (tells : TellsFile call.source file)
    → IsAnsweredBy call tells.bytes (traced_reply [] file)
trace_answered call file form tells =
    answered_by call tells.bytes (traced_reply [] file) words.trace tells.told form
    (sym (read_reply (traced_reply []) tells.bytes file tells.short tells.given))

pub shows_trace : (call : Call) → HaveUtf8 call.words → Ends call → ShowsTrace call
shows_trace call utf8 e file form tells = traced call tells.bytes [] file utf8 e (trace_answered call file form tells)

-- ---- beside the answer of `run`

one_status : (o : Outcome) → outcome_status o ≡ (outcome_reply o).status
one_status (accepted ops peak checks) = refl
one_status (refused fault place) = refl

like_run : (long : Bool) (r : Result RunFile AssetFault)
    → (if long then reply status.FileRefused file_too_long_line else with_file file_line (traced_reply []) r).status
    ≡ (if long then reply status.FileRefused file_too_long_line
    else with_file file_line (λ file. outcome_reply (run (given_by file) file.script file.stack)) r).status
like_run true r = refl
like_run false (Ok file) = one_status (run (given_by file) file.script file.stack)
like_run false (Err fault) = refl

abbrev RUN : List Bytes
RUN = codes "run" ∷ []

run_form : IsForm RUN words.run
run_form = record { same = refl; in_range = tt }

run_answered : (bytes report : Bytes) (s : Status) → Answer RUN bytes s report → reply s report ≡ run_reply bytes
run_answered bytes report s a = go a.replies
  where
    go : RepliesToWords RUN bytes (reply s report) → reply s report ≡ run_reply bytes
    go (inl h) = subst (λ c. Replies c bytes (reply s report)) (one_form RUN h.0 words.run h.1 run_form) h.2
    go (inr h) = absurd (h.0 words.run run_form)

ends_as_run : (call : Call) (bytes report : Bytes) (s : Status) → HaveUtf8 call.words → Ends call → IsForm call.words words.trace
    → call.source.old ≡ Some bytes → Answer RUN bytes s report → EndsAs s call
ends_as_run call bytes report s utf8 e form told a =
    let same : (trace_reply bytes).status ≡ s
    = like_run (nat_lt MOST_FILE (length bytes)) (run_of bytes) ∙ sym (ap (λ (x : Reply). x.status) (run_answered bytes report s a)) in
    subst (λ t. EndsAs t call) same
    (ends_by call bytes (trace_reply bytes) utf8 e (answered_by call bytes (trace_reply bytes) words.trace told form refl))

run_reached : (bytes : Bytes) (file : RunFile) → length bytes ≤ MOST_FILE → run_of bytes ≡ Ok file
    → Answer RUN bytes (outcome_reply (outcome_of file)).status (outcome_reply (outcome_of file)).report
run_reached bytes file short given = record {
  replies = inl (
    words.run,
    run_form,
    sym (read_reply (λ f. outcome_reply (run (given_by f) f.script f.stack)) bytes file short given),
  );
}

last_told : (call : Call) (file : RunFile) (bytes : Bytes) (o : Outcome) → outcome_of file ≡ o → call.status ≡ outcome_status o
    → Answer RUN bytes (outcome_reply o).status (outcome_reply o).report
    → Appends call.sink.old call.sink.new (written [] (lines_of file) ++ last_line o) → EndsAsRun call file bytes
unfolding run_report
last_told call file bytes (accepted ops peak checks) is same a w = record {
  last = accepted_line ops peak;
  checks = checks;
  answer = subst (λ s. Answer RUN bytes s (accepted_line ops peak ++ flat_map check_line checks)) (sym same) a;
  written = w;
  told = λ done. sym (checks_told (given_by file) file.script file.stack ops peak checks is);
  untold = λ refusal. let other : status.ScriptRefused ≡ status.Done = sym refusal ∙ same in absurd (cc other);
}
last_told call file bytes (refused fault place) is same a w = record {
  last = script_refused_line fault place;
  checks = [];
  answer = subst (λ s. Answer RUN bytes s (script_refused_line fault place ++ flat_map check_line [])) (sym same)
      (subst (λ r. Answer RUN bytes status.ScriptRefused r) (sym (append-nil (script_refused_line fault place))) a);
  written = w;
  told = λ done. let other : status.Done ≡ status.ScriptRefused = sym done ∙ same in absurd (cc other);
  untold = λ refusal. refl;
}

last_of_run : (call : Call) (file : RunFile) (s : Status) → HaveUtf8 call.words → Ends call → IsForm call.words words.trace
    → (tells : TellsFile call.source file) → s ≢ status.WriteFault → s ≢ status.ReadFault → s ≢ status.Memory → call.status ≡ s
    → EndsAsRun call file tells.bytes
unfolding trace_report
last_of_run call file s utf8 e form tells no_write no_read no_memory is =
    let w = written_by call tells.bytes (traced_reply [] file) s utf8 e (trace_answered call file form tells) no_write no_read no_memory is in
    last_told call file tells.bytes (outcome_of file) refl (is ∙ sym w.0) (run_reached tells.bytes file tells.short tells.given) w.1

pub shows_run : (call : Call) → HaveUtf8 call.words → Ends call → ShowsRun call
shows_run call utf8 e = record {
  ends = λ bytes s report form told a. ends_as_run call bytes report s utf8 e form told a;
  last = λ file form tells ended. elim ended [
    | inl done ↦ last_of_run call file status.Done utf8 e form tells (λ h. cc h) (λ h. cc h) (λ h. cc h) done
    | inr refusal ↦ last_of_run call file status.ScriptRefused utf8 e form tells (λ h. cc h) (λ h. cc h) (λ h. cc h) refusal
  ];
}

-- ---- for a text

script_tells : (tree : Tree) (offsets : List ℕ) (file : RunFile) (b : Bool) → bytes_eq file.script (script_of tree) ≡ b
    → text_traced_reply offsets tree file
    ≡ (if b then traced_reply (places_of offsets tree) file else reply status.NotAccepted wrong_script_line)
script_tells tree offsets file b e =
    ap (λ c. if c then traced_reply (places_of offsets tree) file else reply status.NotAccepted wrong_script_line) e

text_answered : (call : Call) (tree : Tree) (offsets : List ℕ) (file : RunFile) (r : Reply) → AsksTextTrace call tree offsets
    → (tells : TellsFile call.source file) → text_traced_reply offsets tree file ≡ r → IsAnsweredBy call tells.bytes r
text_answered call tree offsets file r asks tells is =
    answered_by call tells.bytes r (words.trace_text asks.text) tells.told asks.form (
      read tree offsets,
      asks.reads,
      sym is ∙ sym (read_reply (text_traced_reply offsets tree) tells.bytes file tells.short tells.given)
          ∙ sym (ap (λ o. unless_unfit o offsets (text_trace_reply offsets tells.bytes tree)) asks.valid),
    )

other_answered : (call : Call) (tree : Tree) (offsets : List ℕ) (file : RunFile) → AsksTextTrace call tree offsets
    → (tells : TellsFile call.source file) → file.script ≢ script_of tree
    → IsAnsweredBy call tells.bytes (reply status.NotAccepted wrong_script_line)
other_answered call tree offsets file asks tells other = go (bytes_eq file.script (script_of tree)) refl
  where
    go : (b : Bool) → bytes_eq file.script (script_of tree) ≡ b → IsAnsweredBy call tells.bytes (reply status.NotAccepted wrong_script_line)
    go true is = absurd (other ((bytes_eq-Decides file.script (script_of tree)).0 is))
    go false is = text_answered call tree offsets file (reply status.NotAccepted wrong_script_line) asks tells (script_tells tree offsets file false is)

same_answered : (call : Call) (tree : Tree) (offsets : List ℕ) (file : RunFile) → AsksTextTrace call tree offsets
    → (tells : TellsFile call.source file) → file.script ≡ script_of tree → IsAnsweredBy call tells.bytes (traced_reply (places_of offsets tree) file)
same_answered call tree offsets file asks tells same =
    text_answered call tree offsets file (traced_reply (places_of offsets tree) file) asks tells
    (script_tells tree offsets file true ((bytes_eq-Decides file.script (script_of tree)).1 same))

never_other : (o : Outcome) → outcome_status o ≢ status.NotAccepted
never_other (accepted ops peak checks) is = cc is
never_other (refused fault place) is = cc is

other_told : (call : Call) (tree : Tree) (offsets : List ℕ) (file : RunFile) → HaveUtf8 call.words → Ends call → AsksTextTrace call tree offsets
    → TellsFile call.source file → call.status ≡ status.NotAccepted
    → (file.script ≢ script_of tree) × Appends call.sink.old call.sink.new wrong_script_line
other_told call tree offsets file utf8 e asks tells not = go (bytes_eq file.script (script_of tree)) refl
  where
    go : (b : Bool) → bytes_eq file.script (script_of tree) ≡ b
        → (file.script ≢ script_of tree) × Appends call.sink.old call.sink.new wrong_script_line
    go true is =
        let same = (bytes_eq-Decides file.script (script_of tree)).0 is in
        let by = same_answered call tree offsets file asks tells same in
        let w = written_by call tells.bytes (traced_reply (places_of offsets tree) file) status.NotAccepted utf8 e by (λ h. cc h) (λ h. cc h) (λ h. cc h) not in
        absurd (never_other (outcome_of file) w.0)
    go false is =
        let other : file.script ≢ script_of tree = λ same. cc (sym is ∙ (bytes_eq-Decides file.script (script_of tree)).1 same) in
        let by = other_answered call tree offsets file asks tells other in
        (other, (written_by call tells.bytes (reply status.NotAccepted wrong_script_line) status.NotAccepted utf8 e by (λ h. cc h) (λ h. cc h) (λ h. cc h) not).1)

pub shows_nodes : (call : Call) → HaveUtf8 call.words → Ends call → ShowsNodes call
shows_nodes call utf8 e tree offsets file asks tells = record {
  traced = λ same. traced call tells.bytes (places_of offsets tree) file utf8 e (same_answered call tree offsets file asks tells same);
  where_other = λ other.
      ends_by call tells.bytes (reply status.NotAccepted wrong_script_line) utf8 e (other_answered call tree offsets file asks tells other);
  other = other_told call tree offsets file utf8 e asks tells;
}
