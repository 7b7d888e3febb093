use Rattle.std.proofs.Common.{sym, ◌∙◌}
use Rattle.def_psbt.specs.Listed.{global_form}
use Rattle.ms_psbt.proofs.Outlining.{no_version}
use Rattle.ms_psbt.proofs.outline.counted_in.Goals as goal

pub returns-then-has : goal.returns-then-has
returns-then-has c = λ map e. c.counts_in.ensures map e (sym (c.has.ensures global_form map e) ∙ c.if-has.true)

pub returns-else-has : goal.returns-else-has
returns-else-has c = λ map e. no_version map.0 (sym (c.has.ensures global_form map e) ∙ c.if-has.false)
