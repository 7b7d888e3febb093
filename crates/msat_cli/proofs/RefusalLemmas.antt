-- Texts of `satisfy` that are refused.
use Rattle.std.proofs.Common.{◌≡◌, inl, inr, ℕ, List, [], None, Some, refl, sym, ap, subst, ◌∙◌}
use Rattle.std.specs.Io.KnownBytes.{Appends}
use Rattle.def_script.specs.Bytes.{Bytes}
use Rattle.def_tree.specs.Tree.{Tree}
use Rattle.def_text.specs.declared.TextFault.{TextFault}
use Rattle.def_text.specs.Refusal.{TextReads, TextRefusal}
use Rattle.def_sane.specs.declared.Rules.{Rules}
use Rattle.def_sane.specs.declared.Unfit.{Unfit}
use Rattle.def_choice.specs.declared.choice.Choice.{Choice}
use Rattle.def_answer.specs.Satisfy.{chosen_by, reason_by}
use Rattle.def_answer.specs.Answer.{Replies, Answer}
use Rattle.def_answer.specs.Lines.{text_line, unfit_line}
use Rattle.def_answer.specs.Reading.{read, refused}
use Rattle.def_answer.specs.Reply.{Reply, reply, unless_unfit, satisfy_reply}
use Rattle.def_answer.specs.Sources.{NeedsSource, ReadsSource}
use Rattle.def_answer.specs.Words.{satisfy, IsForm}
use Rattle.def_answer.specs.declared.status.Status.TheVariants as status
use Rattle.ms_answer_laws.proofs.Unique.{one_form}
use Rattle.ms_words.specs.declared.words.TextCommand.TheVariants as kind
use Rattle.ms_words.specs.Commands.{HaveUtf8}
use Rattle.msat_cli.specs.Ends.{Ends}
use Rattle.msat_cli.specs.Calls.{Call}
use Rattle.msat_cli.specs.Satisfactions.{RefusesText, RefusesOtherTexts}
use Rattle.msat_cli.proofs.EndLemmas.{told_answer, ends_as_answered, one_to_words}
use Rattle.msat_cli.proofs.StepLemmas.{no_source, source_for}
use Rattle.msat_cli.proofs.SatisfactionLemmas.{is_form}

-- words that don't read the source, and have this refusal as their answer
refuses : (call : Call) (refusal : Bytes) → HaveUtf8 call.words → Ends call → ¬ ReadsSource call.words
    → Answer call.words [] status.TextRefused refusal → RefusesText call refusal
refuses call refusal utf8 e never a = record {
  ends = ends_as_answered call utf8 e [] status.TextRefused refusal (inl never) a;
  written = go e;
}
  where
    go : Ends call → call.status ≡ status.TextRefused → Appends call.sink.old call.sink.new refusal
    go (inl (report, h, w)) is =
        let told = told_answer call.words call.source [] call.status report (inl never) h in
        let same = one_to_words call.words [] (reply call.status report) (reply status.TextRefused refusal) utf8 told.replies a.replies in
        subst (Appends call.sink.old call.sink.new) (ap (λ (r : Reply). r.report) same) w
    go (inr (inl w)) is = absurd (cc (sym w.0 ∙ is))
    go (inr (inr (inl r))) is = absurd (cc (sym r.0 ∙ is))
    go (inr (inr (inr m))) is = absurd (cc (sym m.0 ∙ is))

-- the words of a command that doesn't need the source don't read it
not_read : (choice : Choice) (rules : Rules) (text : Bytes) (words : List Bytes) → IsForm words (satisfy choice rules text)
    → ¬ NeedsSource (satisfy choice rules text) → ¬ ReadsSource words
not_read choice rules text words form never reads =
    never (subst NeedsSource (one_form words reads.0 (satisfy choice rules text) reads.1 form) reads.2)

replies_fault : (choice : Choice) (rules : Rules) (text : Bytes) (fault : TextFault) → TextRefusal text fault
    → Replies (satisfy choice rules text) [] (reply status.TextRefused (text_line fault))
replies_fault choice rules text fault refusal = (refused fault, refusal, refl)

replies_unfit : (choice : Choice) (rules : Rules) (text : Bytes) (tree : Tree) (offsets : List ℕ) (unfit : Unfit) → TextReads text tree offsets
    → reason_by choice rules tree ≡ Some unfit → Replies (satisfy choice rules text) [] (reply status.TextRefused (unfit_line offsets unfit))
replies_unfit choice rules text tree offsets unfit reads is =
    (read tree offsets, reads, sym (ap (λ o. unless_unfit o offsets (satisfy_reply rules (chosen_by choice) [] tree)) is))

pub refuses_other_texts : (call : Call) → HaveUtf8 call.words → Ends call → RefusesOtherTexts call
refuses_other_texts call utf8 e choice rules text words =
    let form = is_form choice rules text call.words words in (
      λ fault refusal.
          refuses call (text_line fault) utf8 e
          (not_read choice rules text call.words form (no_source (kind.Satisfy choice rules) text fault (utf8 (satisfy choice rules text) form) refusal))
          (record { replies = inl (satisfy choice rules text, form, replies_fault choice rules text fault refusal) }),
      λ tree offsets unfit reads is.
          refuses call (unfit_line offsets unfit) utf8 e
          (not_read choice rules text call.words form
          (λ needs. let none : reason_by choice rules tree ≡ None = source_for (kind.Satisfy choice rules) text tree offsets reads needs in cc (sym none ∙ is)))
          (record { replies = inl (satisfy choice rules text, form, replies_unfit choice rules text tree offsets unfit reads is) }),
    )
