-- What a call for a plan shows.
use Rattle.std.proofs.Common.{◌≡◌, ◌≤◌, nat_lt, inl, inr, Ok, None, Some, length, refl, sym, ap, subst, ◌∙◌}
use Rattle.std.specs.Prelude.{Option}
use Rattle.std.specs.Io.KnownBytes.{Appends}
use Rattle.std.proofs.lemmas.Bool.{le-ltb}
use Rattle.def_script.specs.Bytes.{Bytes}
use Rattle.def_tree.specs.Tree.{Tree}
use Rattle.def_text.proofs.SpelledInRange.{spelled_in_range}
use Rattle.def_sane.specs.Unfit.{first_unfit}
use Rattle.def_plan.specs.Plan.{Plan, plan_of}
use Rattle.def_plan.specs.PlanFile.{PlanFile, plan_file_of}
use Rattle.def_plan.specs.Laws.{IsInput}
use Rattle.def_plan.proofs.FileGiven.{plan_file_gives_plan}
use Rattle.ms_plan_laws.proofs.Plans.{none_holds, lengths_decide, suffices_always, weighs_at_most_always, least_always, listed_always, none_in_vain_ever, in_order_always}
use Rattle.def_answer.specs.Answer.{Replies, RepliesToWords, Answer}
use Rattle.def_answer.specs.Plan.{plan_file_line, plan_report}
use Rattle.def_answer.specs.Reading.{read}
use Rattle.def_answer.specs.Reply.{Reply, reply, unless_unfit, with_file, planned_reply, plan_reply}
use Rattle.def_answer.specs.Lines.{MOST_FILE}
use Rattle.def_answer.specs.Words as words
use Rattle.def_answer.specs.declared.status.Status.{Status}
use Rattle.def_answer.specs.declared.status.Status.TheVariants as status
use Rattle.ms_answer_laws.proofs.Sources.{passed_text}
use Rattle.ms_answer_laws.proofs.Unique.{one_form}
use Rattle.ms_words.specs.Commands.{HaveUtf8}
use Rattle.msat_cli.specs.Ends.{HasAnswer, Ends}
use Rattle.msat_cli.specs.Calls.{Call, EndsAs}
use Rattle.msat_cli.specs.Plans.{AsksPlan, PrintsPlan, ShowsPlan}
use Rattle.msat_cli.proofs.EndLemmas.{told_answer, ends_as_answered}
use Rattle.msat_cli.proofs.SatisfactionLemmas.{second_of_two}

-- the plan by a file
abbrev plan_by : Tree → PlanFile → Option Plan
plan_by tree file = plan_of tree file.assets file.table

input : (call : Call) (tree : Tree) (file : PlanFile) → HaveUtf8 call.words → AsksPlan call tree file → IsInput tree file.assets file.table
input call tree file utf8 asked =
    let usable = plan_file_gives_plan asked.bytes file asked.given in
    record {
      writable = (spelled_in_range asked.text tree asked.offsets (utf8 _ asked.form) asked.reads).writable;
      sane = asked.sane;
      held = usable.held.held;
      lengths = usable.lengths;
    }

-- the reply to a short file that is read
read_reply : (source : Bytes) (tree : Tree) (file : PlanFile) → length source ≤ MOST_FILE → plan_file_of source ≡ Ok file
    → plan_reply source tree ≡ planned_reply (plan_by tree file)
read_reply source tree file short given =
    second_of_two (nat_lt MOST_FILE (length source)) _ _ (le-ltb MOST_FILE (length source) short)
    ∙ ap (with_file plan_file_line (λ (f : PlanFile). planned_reply (plan_of tree f.assets f.table))) given

-- so it is the one reply to a text that passes
one_reply : (call : Call) (tree : Tree) (file : PlanFile) (r : Reply) (asked : AsksPlan call tree file) → HaveUtf8 call.words
    → Replies (words.plan asked.text) asked.bytes r → r ≡ planned_reply (plan_by tree file)
one_reply call tree file r asked utf8 h =
    passed_text asked.text first_unfit (plan_reply asked.bytes) r (utf8 _ asked.form) (tree, asked.offsets, asked.reads, asked.sane) h
    ∙ read_reply asked.bytes tree file asked.short asked.given

one_answer : (call : Call) (tree : Tree) (file : PlanFile) (s : Status) (report : Bytes) (asked : AsksPlan call tree file)
    → HaveUtf8 call.words → Answer call.words asked.bytes s report → reply s report ≡ planned_reply (plan_by tree file)
one_answer call tree file s report asked utf8 a = go a.replies
  where
    go : RepliesToWords call.words asked.bytes (reply s report) → reply s report ≡ planned_reply (plan_by tree file)
    go (inl h) =
        let same = one_form call.words h.0 (words.plan asked.text) h.1 asked.form in
        one_reply call tree file (reply s report) asked utf8 (subst (λ c. Replies c asked.bytes (reply s report)) same h.2)
    go (inr h) = absurd (h.0 (words.plan asked.text) asked.form)

-- and it is a reply
asked_reply : (call : Call) (tree : Tree) (file : PlanFile) (r : Reply) (asked : AsksPlan call tree file)
    → r ≡ planned_reply (plan_by tree file) → Replies (words.plan asked.text) asked.bytes r
asked_reply call tree file r asked is = (
  read tree asked.offsets,
  asked.reads,
  is ∙ sym (read_reply asked.bytes tree file asked.short asked.given)
      ∙ sym (ap (λ o. unless_unfit o asked.offsets (plan_reply asked.bytes tree)) asked.sane),
)

-- so the call ends as the plan tells
asked_ends : (call : Call) (tree : Tree) (file : PlanFile) (o : Option Plan) → HaveUtf8 call.words → Ends call
    → AsksPlan call tree file → plan_by tree file ≡ o → EndsAs (planned_reply o).status call
asked_ends call tree file o utf8 e asked is =
    let r = planned_reply o in
    let replies = asked_reply call tree file r asked (ap planned_reply (sym is)) in
    ends_as_answered call utf8 e asked.bytes r.status r.report (inr asked.told)
    (record { replies = inl (words.plan asked.text, asked.form, replies) })

-- what was written of it
written_reply : (call : Call) (tree : Tree) (file : PlanFile) (report : Bytes) → HaveUtf8 call.words
    → HasAnswer call.words call.source call.status report → AsksPlan call tree file
    → reply call.status report ≡ planned_reply (plan_by tree file)
written_reply call tree file report utf8 a asked =
    one_answer call tree file call.status report asked utf8
    (told_answer call.words call.source asked.bytes call.status report (inr asked.told) a)

-- ---- a plan is shown, or there is none

prints : (call : Call) (tree : Tree) (file : PlanFile) (found : Plan) (report : Bytes) → IsInput tree file.assets file.table
    → plan_by tree file ≡ Some found → report ≡ plan_report found → Appends call.sink.old call.sink.new report → PrintsPlan call.sink tree file
unfolding plan_report
prints call tree file found report given is same written = record {
  found = found;
  planned = is;
  suffices = suffices_always tree file.assets file.table found given is;
  weight = weighs_at_most_always tree file.assets file.table found given is;
  least = least_always tree file.assets file.table found given is;
  listed = listed_always tree file.assets file.table found given is;
  none_in_vain = none_in_vain_ever tree file.assets file.table found given is;
  in_order = in_order_always tree file.assets file.table found given is;
  written = subst (Appends call.sink.old call.sink.new) same written;
}

plan_written : (call : Call) (tree : Tree) (file : PlanFile) (report : Bytes) (o : Option Plan) → IsInput tree file.assets file.table
    → plan_by tree file ≡ o → reply call.status report ≡ planned_reply o → Appends call.sink.old call.sink.new report
    → call.status ≡ status.Done → PrintsPlan call.sink tree file
plan_written call tree file report None given is e w done =
    let nothing : call.status ≡ status.NoSatisfaction = ap (λ (r : Reply). r.status) e in absurd (cc (sym done ∙ nothing))
plan_written call tree file report (Some found) given is e w done =
    prints call tree file found report given is (ap (λ (r : Reply). r.report) e) w

shown_plan : (call : Call) (tree : Tree) (file : PlanFile) → HaveUtf8 call.words → Ends call → AsksPlan call tree file
    → call.status ≡ status.Done → PrintsPlan call.sink tree file
shown_plan call tree file utf8 (inl (report, a, w)) asked done =
    plan_written call tree file report (plan_by tree file) (input call tree file utf8 asked) refl (written_reply call tree file report utf8 a asked) w done
shown_plan call tree file utf8 (inr (inl w)) asked done = absurd (cc (sym w.0 ∙ done))
shown_plan call tree file utf8 (inr (inr (inl r))) asked done = absurd (cc (sym r.0 ∙ done))
shown_plan call tree file utf8 (inr (inr (inr m))) asked done = absurd (cc (sym m.0 ∙ done))

none_written : (call : Call) (report : Bytes) (o : Option Plan)
    → reply call.status report ≡ planned_reply o → call.status ≡ status.NoSatisfaction → o ≡ None
none_written call report None e is = refl
none_written call report (Some found) e is =
    let done : call.status ≡ status.Done = ap (λ (r : Reply). r.status) e in absurd (cc (sym is ∙ done))

none_planned : (call : Call) (tree : Tree) (file : PlanFile) → HaveUtf8 call.words → Ends call → AsksPlan call tree file
    → call.status ≡ status.NoSatisfaction → plan_by tree file ≡ None
none_planned call tree file utf8 (inl (report, a, w)) asked is =
    none_written call report (plan_by tree file) (written_reply call tree file report utf8 a asked) is
none_planned call tree file utf8 (inr (inl w)) asked is = absurd (cc (sym w.0 ∙ is))
none_planned call tree file utf8 (inr (inr (inl r))) asked is = absurd (cc (sym r.0 ∙ is))
none_planned call tree file utf8 (inr (inr (inr m))) asked is = absurd (cc (sym m.0 ∙ is))

pub shows_plan : (call : Call) → HaveUtf8 call.words → Ends call → ShowsPlan call
shows_plan call utf8 e tree file asked =
    let given = input call tree file utf8 asked in
    record {
      where_some = λ found is. asked_ends call tree file (Some found) utf8 e asked is;
      where_none = λ is. asked_ends call tree file None utf8 e asked is;
      exact = none_holds tree file.assets file.table given;
      lengths = lengths_decide tree file.assets file.table given;
      done = shown_plan call tree file utf8 e asked;
      none = none_planned call tree file utf8 e asked;
    }
