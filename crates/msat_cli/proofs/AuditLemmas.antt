-- What a call for an audit shows.
use Rattle.std.proofs.Common.{◌≡◌, ◌≢◌, ◌⊎◌, ℕ, ◌≤◌, nat_lt, if◌then◌else◌, Bool, true, false, inl, inr, List, Ok, length, refl, sym, ap, subst, ◌∙◌}
use Rattle.std.specs.Io.KnownBytes.{Appends}
use Rattle.std.specs.Str.{bytes_eq}
use Rattle.std.proofs.lemmas.Bool.{le-ltb}
use Rattle.std.proofs.lemmas.Slice.Eq.{bytes_eq-Decides}
use Rattle.def_script.specs.Bytes.{Bytes}
use Rattle.def_machine.specs.Run.{Outcome, accepted, refused, run}
use Rattle.def_tree.specs.Tree.{Tree}
use Rattle.def_emit.specs.Emit.{script_of}
use Rattle.def_text.proofs.SpelledWritable.{spelled_writable}
use Rattle.def_sane.specs.declared.Rules.TheVariants.{Policy}
use Rattle.def_sane.specs.Unfit.{IsValid}
use Rattle.def_sane.proofs.Meanings.{valid_under_consensus}
use Rattle.def_files.specs.RunFile.{RunFile, run_of}
use Rattle.def_audit.specs.declared.Step.{Step}
use Rattle.def_answer.specs.Answer.{AreSteps, Replies, RepliesToWords, Answer}
use Rattle.ms_answer_laws.specs.Laws.{walked}
use Rattle.def_answer.specs.Lines.{MOST_FILE}
use Rattle.def_answer.specs.Files.{file_line}
use Rattle.def_answer.specs.Audit.{wrong_script_line, not_accepted_line, audit_report}
use Rattle.def_answer.specs.Reading.{read}
use Rattle.def_answer.specs.Reply.{Reply, reply, unless_unfit, with_file, given_by, audited_reply, witness_reply, audit_reply}
use Rattle.def_answer.specs.Words.{IsForm}
use Rattle.def_answer.specs.Words as words
use Rattle.def_answer.specs.declared.status.Status.{Status}
use Rattle.def_answer.specs.declared.status.Status.TheVariants as status
use Rattle.ms_answer_laws.proofs.AuditSteps.{walked_are_steps}
use Rattle.ms_answer_laws.proofs.Early.{not_accepted_is_of_witness}
use Rattle.ms_answer_laws.proofs.Sources.{passed_audit}
use Rattle.ms_answer_laws.proofs.Unique.{one_form}
use Rattle.ms_audit_laws.proofs.WalkTrees.{trail_is_unique}
use Rattle.ms_words.specs.Commands.{HaveUtf8}
use Rattle.msat_cli.specs.Ends.{HasAnswer, Ends}
use Rattle.msat_cli.specs.Calls.{Call, EndsAs}
use Rattle.msat_cli.specs.Audits.{AsksAudit, RunsTo, PrintsSteps, PrintsWrongScript, PrintsFault, ShowsAudit}
use Rattle.msat_cli.proofs.EndLemmas.{told_answer, ends_as_answered}
use Rattle.msat_cli.proofs.SatisfactionLemmas.{second_of_two}

-- ---- the reply, by the script and the run

script_tells : (tree : Tree) (offsets : List ℕ) (steps : List Step) (file : RunFile) (b : Bool) → bytes_eq file.script (script_of tree) ≡ b
    → witness_reply offsets steps tree file
    ≡ (if b then audited_reply offsets steps (run (given_by file) file.script file.stack) else reply status.NotAccepted wrong_script_line)
script_tells tree offsets steps file b e =
    ap (λ c. if c then audited_reply offsets steps (run (given_by file) file.script file.stack) else reply status.NotAccepted wrong_script_line) e

run_reply : (tree : Tree) (offsets : List ℕ) (steps : List Step) (file : RunFile) (o : Outcome) → RunsTo tree file o
    → witness_reply offsets steps tree file ≡ audited_reply offsets steps o
run_reply tree offsets steps file o runs =
    script_tells tree offsets steps file true ((bytes_eq-Decides file.script (script_of tree)).1 runs.script)
    ∙ ap (λ s. audited_reply offsets steps (run (given_by file) s file.stack)) runs.script
    ∙ ap (audited_reply offsets steps) runs.run

other_reply : (tree : Tree) (offsets : List ℕ) (steps : List Step) (file : RunFile) → file.script ≢ script_of tree
    → witness_reply offsets steps tree file ≡ reply status.NotAccepted wrong_script_line
other_reply tree offsets steps file other = go (bytes_eq file.script (script_of tree)) refl
  where
    go : (b : Bool) → bytes_eq file.script (script_of tree) ≡ b → witness_reply offsets steps tree file ≡ reply status.NotAccepted wrong_script_line
    go true e = absurd (other ((bytes_eq-Decides file.script (script_of tree)).0 e))
    go false e = script_tells tree offsets steps file false e

-- the reply to a short file that is read
read_reply : (source : Bytes) (tree : Tree) (offsets : List ℕ) (steps : List Step) (file : RunFile) → length source ≤ MOST_FILE → run_of source ≡ Ok file
    → audit_reply offsets steps source tree ≡ witness_reply offsets steps tree file
read_reply source tree offsets steps file short given =
    second_of_two (nat_lt MOST_FILE (length source)) _ _ (le-ltb MOST_FILE (length source) short)
    ∙ ap (with_file file_line (witness_reply offsets steps tree)) given

-- ---- how the call ends

asked_ends : (call : Call) (tree : Tree) (offsets : List ℕ) (file : RunFile) (r : Reply) → HaveUtf8 call.words → Ends call
    → (asked : AsksAudit call tree offsets file) → witness_reply offsets (walked tree asked.bytes) tree file ≡ r → EndsAs r.status call
asked_ends call tree offsets file r utf8 e asked is =
    let steps = walked tree asked.bytes in
    let same = sym is ∙ sym (read_reply asked.bytes tree offsets steps file asked.short asked.given)
    ∙ sym (ap (λ o. unless_unfit o offsets (audit_reply offsets steps asked.bytes tree)) asked.valid) in
    let replies : Replies (words.audit asked.text) asked.bytes r
    = (read tree offsets, steps, asked.reads, walked_are_steps tree asked.bytes (spelled_writable asked.reads.spelled), same) in
    ends_as_answered call utf8 e asked.bytes r.status r.report (inr asked.told) (record { replies = inl (words.audit asked.text, asked.form, replies) })

-- ---- what is written

-- the reply that was written, with the steps of the audit
abbrev WrittenReply : (call : Call) → Tree → (offsets : List ℕ) → RunFile → (source report : Bytes) → Type 0
WrittenReply call tree offsets file source report =
    (steps : List Step) × AreSteps tree source steps × (reply call.status report ≡ witness_reply offsets steps tree file)

written_reply : (call : Call) (tree : Tree) (offsets : List ℕ) (file : RunFile) (report : Bytes) → HaveUtf8 call.words
    → HasAnswer call.words call.source call.status report → (asked : AsksAudit call tree offsets file)
    → WrittenReply call tree offsets file asked.bytes report
written_reply call tree offsets file report utf8 a asked =
    go (told_answer call.words call.source asked.bytes call.status report (inr asked.told) a).replies
  where
    go : RepliesToWords call.words asked.bytes (reply call.status report) → WrittenReply call tree offsets file asked.bytes report
    go (inl h) =
        let same = one_form call.words h.0 (words.audit asked.text) h.1 asked.form in
        let found = passed_audit asked.text asked.bytes (reply call.status report) (utf8 _ asked.form) (tree, offsets, asked.reads, asked.valid)
        (subst (λ c. Replies c asked.bytes (reply call.status report)) same h.2) in
        (found.0, found.1, found.2 ∙ read_reply asked.bytes tree offsets found.0 file asked.short asked.given)
    go (inr h) = absurd (h.0 (words.audit asked.text) asked.form)

same_status : (a b : Reply) → a ≡ b → a.status ≡ b.status
same_status a b e = ap (λ (r : Reply). r.status) e

same_report : (call : Call) (report wanted : Bytes) (s : Status) → reply call.status report ≡ reply s wanted → Appends call.sink.old call.sink.new report
    → Appends call.sink.old call.sink.new wanted
same_report call report wanted s e w = subst (Appends call.sink.old call.sink.new) (ap (λ (r : Reply). r.report) e) w

-- what a written reply shows
abbrev Shown : (call : Call) → Tree → (offsets : List ℕ) → RunFile → Type 0
Shown call tree offsets file =
    (call.status ≡ status.Done → PrintsSteps call.sink tree offsets file)
    × (call.status ≡ status.NotAccepted → PrintsWrongScript call.sink tree file ⊎ PrintsFault call.sink tree file)

shown_run : (call : Call) (tree : Tree) (offsets : List ℕ) (file : RunFile) (report : Bytes) (source : Bytes) (steps : List Step) (o : Outcome)
    → IsValid tree → run_of source ≡ Ok file → AreSteps tree source steps → RunsTo tree file o → reply call.status report ≡ audited_reply offsets steps o
    → Appends call.sink.old call.sink.new report → Shown call tree offsets file
unfolding audit_report
shown_run call tree offsets file report source steps (accepted ops peak checks) valid given are runs e w = (
  λ done. record {
    ops = ops;
    peak = peak;
    checks = checks;
    runs = runs;
    steps = steps;
    derives = are file ops peak checks given runs.run;
    unique = λ others derives.
        trail_is_unique tree (given_by file) others steps file.stack (valid_under_consensus Policy tree valid) derives
        (are file ops peak checks given runs.run);
    written = same_report call report (audit_report offsets steps ops peak) status.Done e w;
  },
  λ not. let done : call.status ≡ status.Done = same_status _ _ e in absurd (cc (sym not ∙ done)),
)
shown_run call tree offsets file report source steps (refused fault place) valid given are runs e w = (
  λ done. let not : call.status ≡ status.NotAccepted = same_status _ _ e in absurd (cc (sym done ∙ not)),
  λ not. inr (record {
    fault = fault;
    place = place;
    runs = runs;
    written = same_report call report (not_accepted_line fault place) status.NotAccepted e w;
  }),
)

shown_reply : (call : Call) (tree : Tree) (offsets : List ℕ) (file : RunFile) (report source : Bytes) → IsValid tree → run_of source ≡ Ok file
    → WrittenReply call tree offsets file source report → Appends call.sink.old call.sink.new report → Shown call tree offsets file
shown_reply call tree offsets file report source valid given (steps, are, e) w = go (bytes_eq file.script (script_of tree)) refl
  where
    go : (b : Bool) → bytes_eq file.script (script_of tree) ≡ b → Shown call tree offsets file
    go true is =
        let same = (bytes_eq-Decides file.script (script_of tree)).0 is in
        let o = run (given_by file) (script_of tree) file.stack in
        let runs : RunsTo tree file o = record { script = same; run = refl } in
        shown_run call tree offsets file report source steps o valid given are runs (e ∙ run_reply tree offsets steps file o runs) w
    go false is =
        let other : file.script ≢ script_of tree = λ same. cc (sym is ∙ (bytes_eq-Decides file.script (script_of tree)).1 same) in
        let wrong = e ∙ other_reply tree offsets steps file other in (
          λ done. let not : call.status ≡ status.NotAccepted = same_status _ _ wrong in absurd (cc (sym done ∙ not)),
          λ not. inl (record { other = other; written = same_report call report wrong_script_line status.NotAccepted wrong w }),
        )

shown : (call : Call) (tree : Tree) (offsets : List ℕ) (file : RunFile) → HaveUtf8 call.words → Ends call → AsksAudit call tree offsets file
    → Shown call tree offsets file
shown call tree offsets file utf8 (inl (report, a, w)) asked =
    shown_reply call tree offsets file report asked.bytes asked.valid asked.given (written_reply call tree offsets file report utf8 a asked) w
shown call tree offsets file utf8 (inr (inl w)) asked = (λ done. absurd (cc (sym w.0 ∙ done)), λ not. absurd (cc (sym w.0 ∙ not)))
shown call tree offsets file utf8 (inr (inr (inl r))) asked = (λ done. absurd (cc (sym r.0 ∙ done)), λ not. absurd (cc (sym r.0 ∙ not)))
shown call tree offsets file utf8 (inr (inr (inr m))) asked = (λ done. absurd (cc (sym m.0 ∙ done)), λ not. absurd (cc (sym m.0 ∙ not)))

-- ---- who is asked

not_accepted_asked : (call : Call) → Ends call → call.status ≡ status.NotAccepted
    → (text : Bytes) × (IsForm call.words (words.audit text) ⊎ IsForm call.words (words.trace_text text))
not_accepted_asked call (inl (report, a, w)) is =
    not_accepted_is_of_witness call.words a.0 report (subst (λ s. Answer call.words a.0 s report) is a.2)
not_accepted_asked call (inr (inl w)) is = absurd (cc (sym w.0 ∙ is))
not_accepted_asked call (inr (inr (inl r))) is = absurd (cc (sym r.0 ∙ is))
not_accepted_asked call (inr (inr (inr m))) is = absurd (cc (sym m.0 ∙ is))

pub shows_audit : (call : Call) → HaveUtf8 call.words → Ends call → ShowsAudit call
shows_audit call utf8 e = record {
  audits = λ tree offsets file asked.
      let show = shown call tree offsets file utf8 e asked in
      let steps = walked tree asked.bytes in
      record {
        where_accepted = λ ops peak checks runs.
            asked_ends call tree offsets file _ utf8 e asked (run_reply tree offsets steps file (accepted ops peak checks) runs);
        where_refused = λ fault place runs.
            asked_ends call tree offsets file _ utf8 e asked (run_reply tree offsets steps file (refused fault place) runs);
        where_other = λ other. asked_ends call tree offsets file _ utf8 e asked (other_reply tree offsets steps file other);
        done = show.0;
        not_accepted = show.1;
      };
  asked = not_accepted_asked call e;
}
