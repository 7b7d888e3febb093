-- What a call for the instructions of a text shows.
use Rattle.std.proofs.Common.{◌≡◌, ℕ, List, [], inl, inr, sym, ap, subst, ◌∙◌}
use Rattle.std.specs.Io.KnownBytes.{Appends}
use Rattle.def_script.specs.Bytes.{Bytes}
use Rattle.def_tree.specs.Tree.{Tree}
use Rattle.def_tree.specs.Range.{IsWritable}
use Rattle.def_text.proofs.SpelledWritable.{spelled_writable}
use Rattle.def_sane.specs.declared.Rules.{Rules}
use Rattle.def_trace.proofs.Writing.{writers_of_script}
use Rattle.def_answer.specs.Answer.{asm_reply, Answer}
use Rattle.def_answer.specs.Asm.{asm_report}
use Rattle.def_answer.specs.Reading.{read}
use Rattle.def_answer.specs.Reply.{Reply, reply, unless_unfit}
use Rattle.def_answer.specs.Sources.{ReadsSource, NeedsSource}
use Rattle.def_answer.specs.Words.{asm}
use Rattle.def_answer.specs.declared.status.Status.TheVariants as status
use Rattle.ms_answer_laws.proofs.Standing.{instructions_stand}
use Rattle.ms_answer_laws.proofs.Unique.{one_form}
use Rattle.ms_words.specs.Commands.{HaveUtf8}
use Rattle.msat_cli.specs.Ends.{Ends}
use Rattle.msat_cli.specs.Calls.{Call}
use Rattle.msat_cli.specs.Listings.{AsksListing, PrintsListing, ShowsListing}
use Rattle.msat_cli.proofs.EndLemmas.{told_answer, ends_as_answered, one_to_words}

module _ (rules : Rules) (call : Call) (tree : Tree) (offsets : List ℕ) (asked : AsksListing rules call tree offsets) where
  -- the words don't read the source
  unread : ¬ ReadsSource call.words
  unread reads = subst NeedsSource (one_form call.words reads.0 (asm rules asked.text) reads.1 asked.form) reads.2

  -- and have this answer
  answer : Answer call.words [] status.Done (asm_report offsets tree)
  answer = record {
    replies = inl (
      asm rules asked.text,
      asked.form,
      (read tree offsets, asked.reads, sym (ap (λ o. unless_unfit o offsets (asm_reply offsets tree)) asked.valid)),
    );
  }

  prints : (report : Bytes) → IsWritable tree → report ≡ asm_report offsets tree → Appends call.sink.old call.sink.new report
      → PrintsListing call.sink tree offsets
  unfolding asm_report
  prints report writes is written = record {
    stand = instructions_stand tree writes;
    writers = writers_of_script 0 tree;
    written = subst (Appends call.sink.old call.sink.new) is written;
  }

  done : HaveUtf8 call.words → Ends call → call.status ≡ status.Done → PrintsListing call.sink tree offsets
  done utf8 (inl (report, h, w)) is =
      let told = told_answer call.words call.source [] call.status report (inl unread) h in
      let same = one_to_words call.words [] (reply call.status report) (reply status.Done (asm_report offsets tree)) utf8 told.replies answer.replies in
      prints report (spelled_writable asked.reads.spelled) (ap (λ (r : Reply). r.report) same) w
  done utf8 (inr (inl w)) is = absurd (cc (sym w.0 ∙ is))
  done utf8 (inr (inr (inl r))) is = absurd (cc (sym r.0 ∙ is))
  done utf8 (inr (inr (inr m))) is = absurd (cc (sym m.0 ∙ is))

pub shows_listing : (call : Call) → HaveUtf8 call.words → Ends call → ShowsListing call
shows_listing call utf8 e rules tree offsets asked = (
  ends_as_answered call utf8 e [] status.Done (asm_report offsets tree) (inl (unread rules call tree offsets asked)) (answer rules call tree offsets asked),
  done rules call tree offsets asked utf8 e,
)
