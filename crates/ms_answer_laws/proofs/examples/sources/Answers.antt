-- Words that need the source, and words that don't, each computed.
use Rattle.std.proofs.Common.{refl, codes, ◌++◌, [], ◌∷◌}
use Rattle.def_sane.specs.declared.Rules.TheVariants.{Policy}
use Rattle.def_sane.specs.Unfit.{first_unfit, first_unfit_valid}
use Rattle.def_choice.specs.declared.choice.Choice.TheVariants.{Strict, Cheapest}
use Rattle.def_answer.specs.Samples.{A, pk}
use Rattle.def_answer.specs.Words.{script, asm, outline, check, satisfy, run, gen, policy, plan, audit, trace, trace_text, decode}
use Rattle.ms_answer_laws.proofs.Forms.{is_form}
use Rattle.ms_answer_laws.proofs.Sources.{passes, fails, reads_by, none_reads}
use Rattle.ms_answer_laws.proofs.Computing.{answers_on_literals}
use Rattle.ms_answer_laws.proofs.examples.sources.Goals as goal

pub returns : goal.returns
unfolding answers_on_literals
returns c = record {
  read = (
    (run, is_form _ run refl, tt),
    (satisfy Strict Policy (pk A), is_form _ (satisfy Strict Policy (pk A)) refl, passes (pk A) first_unfit refl refl),
    (satisfy Cheapest Policy (codes "1"), is_form _ (satisfy Cheapest Policy (codes "1")) refl, passes (codes "1") first_unfit_valid refl refl),
    (plan (pk A), is_form _ (plan (pk A)) refl, passes (pk A) first_unfit refl refl),
    (audit (codes "1"), is_form _ (audit (codes "1")) refl, passes (codes "1") first_unfit_valid refl refl),
    (trace, is_form _ trace refl, tt),
    (trace_text (codes "1"), is_form _ (trace_text (codes "1")) refl, passes (codes "1") first_unfit_valid refl refl),
  );
  do_not = (
    none_reads _ refl,
    reads_by _ (script Policy (pk A)) refl (λ h. h),
    reads_by _ (asm Policy (pk A)) refl (λ h. h),
    reads_by _ (outline Policy (pk A)) refl (λ h. h),
    reads_by _ (check Policy (pk A)) refl (λ h. h),
    reads_by _ (gen 4) refl (λ h. h),
    reads_by _ (policy (pk A)) refl (λ h. h),
    reads_by _ (decode (codes "51") (A ∷ [])) refl (λ h. h),
    reads_by _ (satisfy Strict Policy (codes "1")) refl (fails (codes "1") first_unfit refl refl),
    reads_by _ (satisfy Cheapest Policy (codes "v:" ++ pk A)) refl (fails (codes "v:" ++ pk A) first_unfit_valid refl refl),
    reads_by _ (satisfy Strict Policy (codes "--malleable")) refl (fails (codes "--malleable") first_unfit refl refl),
    reads_by _ (plan (codes "1")) refl (fails (codes "1") first_unfit refl refl),
    reads_by _ (audit (codes "v:" ++ pk A)) refl (fails (codes "v:" ++ pk A) first_unfit_valid refl refl),
    reads_by _ (trace_text (codes "v:" ++ pk A)) refl (fails (codes "v:" ++ pk A) first_unfit_valid refl refl),
    none_reads _ refl,
  );
}
