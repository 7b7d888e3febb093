-- What a call for the tree of a text shows.
use Rattle.std.proofs.Common.{◌≡◌, ◌≢◌, ℕ, List, [], Some, None, inl, inr, refl, sym, ap, subst, ◌∙◌}
use Rattle.std.specs.Prelude.{Option}
use Rattle.std.specs.Io.KnownBytes.{Appends}
use Rattle.def_tree.specs.Tree.{Tree}
use Rattle.def_sane.specs.declared.Rules.{Rules}
use Rattle.def_sane.specs.declared.Unfit.{Unfit}
use Rattle.def_sane.specs.Unfit.{first_unfit_under}
use Rattle.def_answer.specs.Answer.{outlined_reply, tree_reply, Answer}
use Rattle.def_answer.specs.Outline.{outline_report, unfit_report}
use Rattle.def_answer.specs.Reading.{read}
use Rattle.def_answer.specs.Reply.{Reply, reply}
use Rattle.def_answer.specs.Sources.{ReadsSource, NeedsSource}
use Rattle.def_answer.specs.Words.{outline}
use Rattle.def_answer.specs.declared.status.Status.{Status}
use Rattle.def_answer.specs.declared.status.Status.TheVariants as status
use Rattle.ms_answer_laws.proofs.Unique.{one_form}
use Rattle.ms_words.specs.Commands.{HaveUtf8}
use Rattle.msat_cli.specs.Ends.{Ends}
use Rattle.msat_cli.specs.Calls.{Call, EndsAs}
use Rattle.msat_cli.specs.Outlines.{AsksTree, Outlined, ShowsTree}
use Rattle.msat_cli.proofs.EndLemmas.{told_answer, ends_as_answered, one_to_words}

module _ (rules : Rules) (call : Call) (tree : Tree) (offsets : List ℕ) (asked : AsksTree rules call tree offsets) where
  -- the words don't read the source
  unread : ¬ ReadsSource call.words
  unread reads = subst NeedsSource (one_form call.words reads.0 (outline rules asked.text) reads.1 asked.form) reads.2

  -- and have the reply to the tree as their answer
  answer : (r : Reply) → tree_reply rules offsets tree ≡ r → Answer call.words [] r.status r.report
  answer r is = record { replies = inl (outline rules asked.text, asked.form, (read tree offsets, asked.reads, sym is)) }

  ends : (r : Reply) → tree_reply rules offsets tree ≡ r → HaveUtf8 call.words → Ends call → EndsAs r.status call
  ends r is utf8 e = ends_as_answered call utf8 e [] r.status r.report (inl unread) (answer r is)

  -- what was written where no fault came
  written : (r : Reply) (s : Status) → tree_reply rules offsets tree ≡ r → HaveUtf8 call.words → Ends call → s ≢ status.WriteFault → s ≢ status.ReadFault
      → s ≢ status.Memory → call.status ≡ s → (r.status ≡ s) × Appends call.sink.old call.sink.new r.report
  written r s is utf8 (inl (report, h, w)) no_write no_read no_memory ended =
      let told = told_answer call.words call.source [] call.status report (inl unread) h in
      let same : reply call.status report ≡ r = one_to_words call.words [] (reply call.status report) r utf8 told.replies (answer r is).replies in
      (ap (λ (x : Reply). x.status) (sym same) ∙ ended, subst (Appends call.sink.old call.sink.new) (ap (λ (x : Reply). x.report) same) w)
  written r s is utf8 (inr (inl w)) no_write no_read no_memory ended = absurd (no_write (sym ended ∙ w.0))
  written r s is utf8 (inr (inr (inl f))) no_write no_read no_memory ended = absurd (no_read (sym ended ∙ f.0))
  written r s is utf8 (inr (inr (inr m))) no_write no_read no_memory ended = absurd (no_memory (sym ended ∙ m.0))

  outlined : (o : Option Unfit) → first_unfit_under rules tree ≡ o → HaveUtf8 call.words → Ends call → Outlined rules call tree offsets
  unfolding outline_report unfit_report
  outlined None is utf8 e =
      let r : tree_reply rules offsets tree ≡ outlined_reply offsets tree None = ap (outlined_reply offsets tree) is in
      record {
        where_sane = λ sane. ends (outlined_reply offsets tree None) r utf8 e;
        where_unfit = λ unfit some. let other : None ≡ Some unfit = sym is ∙ some in cc;
        done = λ done. (is, (written (outlined_reply offsets tree None) status.Done r utf8 e (λ h. cc h) (λ h. cc h) (λ h. cc h) done).1);
        refused = λ refusal.
            let w = written (outlined_reply offsets tree None) status.TextRefused r utf8 e (λ h. cc h) (λ h. cc h) (λ h. cc h) refusal in absurd (cc w.0);
      }
  outlined (Some unfit) is utf8 e =
      let r : tree_reply rules offsets tree ≡ outlined_reply offsets tree (Some unfit) = ap (outlined_reply offsets tree) is in
      record {
        where_sane = λ sane. let other : None ≡ Some unfit = sym sane ∙ is in cc;
        where_unfit = λ found some. ends (outlined_reply offsets tree (Some unfit)) r utf8 e;
        done = λ done.
            let w = written (outlined_reply offsets tree (Some unfit)) status.Done r utf8 e (λ h. cc h) (λ h. cc h) (λ h. cc h) done in absurd (cc w.0);
        refused = λ refusal. record {
          unfit = unfit;
          first = is;
          written = (written (outlined_reply offsets tree (Some unfit)) status.TextRefused r utf8 e (λ h. cc h) (λ h. cc h) (λ h. cc h) refusal).1;
        };
      }

pub shows_tree : (call : Call) → HaveUtf8 call.words → Ends call → ShowsTree call
shows_tree call utf8 e rules tree offsets asked = outlined rules call tree offsets asked (first_unfit_under rules tree) refl utf8 e
