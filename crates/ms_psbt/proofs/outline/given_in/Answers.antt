use Rattle.std.proofs.Common.{sym, subst}
use Rattle.def_psbt.specs.Listed.{global_form}
use Rattle.ms_psbt.proofs.Outlining.{no_given, bad_given, given_there}
use Rattle.ms_psbt.specs.Scaffolding.Outlines.{IsOutline}
use Rattle.ms_psbt.specs.declared.outline.Outline.TheVariants as outline
use Rattle.ms_psbt.proofs.outline.given_in.Goals as goal

pub returns-in_default : goal.returns-in_default
returns-in_default c = λ map e. no_given map.0 (c.in_default.ensures global_form map e)

pub returns-in_default-transaction_counts : goal.returns-in_default-transaction_counts
returns-in_default-transaction_counts c = λ map e. bad_given map.0 c.in-Some.value.now (c.in-Some.ensures global_form map e) c.in_default-transaction_counts.ensures

pub returns : goal.returns
returns c = λ map e.
    let t = given_there map.0 c.in-Some.value.now c.in-Some-transaction_counts.inputs c.in-Some-transaction_counts.outputs (c.in-Some.ensures global_form map e) c.in-Some-transaction_counts.ensures in
    (t.0, t.1, subst (λ o. IsOutline (outline.Given c.in-Some.value) c.in-Some-transaction_counts.inputs c.in-Some-transaction_counts.outputs o) (sym t.3) (t.4, t.5, t.6))
