use Rattle.std.proofs.Common.{sym, ◌∙◌}
use Rattle.def_psbt.specs.Listed.{global_form}
use Rattle.ms_psbt.proofs.Locking.{version_is_long}
use Rattle.ms_psbt.proofs.Outlining.{version_two, version_zero}
use Rattle.ms_psbt.proofs.outline.version_in.Goals as goal

pub returns-then-number_or-eq2 : goal.returns-then-number_or-eq2
returns-then-number_or-eq2 c = λ map e.
    version_two map.0 (sym (c.number_or.ensures global_form map e (λ value there. version_is_long c.args.psbt.now 5 map value e there)) ∙ c.if-number_or-eq2.true)

pub returns-else-number_or-eq2 : goal.returns-else-number_or-eq2
returns-else-number_or-eq2 c = λ map e.
    version_zero map.0 (λ two. c.if-number_or-eq2.false (c.number_or.ensures global_form map e (λ value there. version_is_long c.args.psbt.now 5 map value e there) ∙ two))
