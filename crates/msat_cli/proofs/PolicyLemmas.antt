-- What a call for a policy shows.
use Rattle.std.proofs.Common.{◌≡◌, [], inl, inr, sym, ap, subst, ◌∙◌}
use Rattle.std.specs.Io.KnownBytes.{Appends}
use Rattle.def_script.specs.Bytes.{Bytes}
use Rattle.def_tree.specs.Tree.{Tree}
use Rattle.def_tree.specs.Range.{IsWritable}
use Rattle.def_text.proofs.SpelledInRange.{spelled_in_range}
use Rattle.def_sane.specs.Unfit.{IsSane}
use Rattle.def_policy.specs.Plain.{plain}
use Rattle.def_policy.proofs.Forms.{simple_is_simple}
use Rattle.ms_policy_laws.proofs.NeedsKey.{sane_wants_key}
use Rattle.ms_policy_laws.proofs.Satisfied.{policy_of_sane}
use Rattle.def_answer.specs.Answer.{policy_reply, Answer}
use Rattle.def_policy.specs.LeastKeys.{least_keys}
use Rattle.def_answer.specs.Reading.{read}
use Rattle.def_answer.specs.Reply.{Reply, reply, unless_unfit}
use Rattle.def_answer.specs.Policy.{policy_of, policy_report}
use Rattle.def_answer.specs.Words.{policy}
use Rattle.def_answer.specs.declared.status.Status.TheVariants as status
use Rattle.def_policy.proofs.LeastKeys.{least_keys_are_least}
use Rattle.ms_answer_laws.proofs.Unique.{one_form}
use Rattle.def_answer.specs.Sources.{ReadsSource, NeedsSource}
use Rattle.ms_words.specs.Commands.{HaveUtf8}
use Rattle.msat_cli.specs.Ends.{Ends}
use Rattle.msat_cli.specs.Calls.{Call}
use Rattle.msat_cli.specs.Policies.{AsksPolicy, PrintsPolicy, ShowsPolicy}
use Rattle.msat_cli.proofs.EndLemmas.{told_answer, ends_as_answered, one_to_words}

-- the words don't read the source
unread : (call : Call) (tree : Tree) → AsksPolicy call tree → ¬ ReadsSource call.words
unread call tree asked reads = subst NeedsSource (one_form call.words reads.0 (policy asked.text) reads.1 asked.form) reads.2

-- and have this answer
answer : (call : Call) (tree : Tree) (asked : AsksPolicy call tree) → Answer call.words [] status.Done (policy_report tree)
answer call tree asked = record {
  replies = inl (
    policy asked.text,
    asked.form,
    (
      read tree asked.offsets,
      asked.reads,
      sym (ap (λ o. unless_unfit o asked.offsets (policy_reply tree)) asked.sane),
    ),
  );
}

prints : (call : Call) (tree : Tree) (report : Bytes) → IsWritable tree → IsSane tree → report ≡ policy_report tree → Appends call.sink.old call.sink.new report → PrintsPolicy call.sink tree
unfolding policy_report
prints call tree report writes sane is written = record {
  least = least_keys (policy_of tree);
  is_least = least_keys_are_least (policy_of tree);
  satisfiable = policy_of_sane tree writes sane;
  form = simple_is_simple (plain tree);
  signed = sane_wants_key tree writes sane;
  written = subst (Appends call.sink.old call.sink.new) is written;
}

pub shows_policy : (call : Call) → HaveUtf8 call.words → Ends call → ShowsPolicy call
shows_policy call utf8 e tree asked =
    (ends_as_answered call utf8 e [] status.Done (policy_report tree) (inl (unread call tree asked)) (answer call tree asked), go e)
  where
    go : Ends call → call.status ≡ status.Done → PrintsPolicy call.sink tree
    go (inl (report, h, w)) is =
        let told = told_answer call.words call.source [] call.status report (inl (unread call tree asked)) h in
        let same = one_to_words call.words [] (reply call.status report) (reply status.Done (policy_report tree)) utf8 told.replies (answer call tree asked).replies in
        let writes = (spelled_in_range asked.text tree asked.offsets (utf8 _ asked.form) asked.reads).writable in
        prints call tree report writes asked.sane (ap (λ (r : Reply). r.report) same) w
    go (inr (inl w)) is = absurd (cc (sym w.0 ∙ is))
    go (inr (inr (inl r))) is = absurd (cc (sym r.0 ∙ is))
    go (inr (inr (inr m))) is = absurd (cc (sym m.0 ∙ is))
