use Rattle.std.proofs.Common.{refl}
use Rattle.def_psbt.specs.Listed.{global_form}
use Rattle.def_psbt.specs.Reading.{counted}
use Rattle.ms_psbt.proofs.Outlining.{counted_there}
use Rattle.ms_psbt.proofs.outline.counts_in.Goals as goal

pub returns : goal.returns
returns c = λ map e there. (
  counted c.size_of.result c.size_of-2.result,
  counted_there map.0 _ _ c.size_of.result c.size_of-2.result there (c.in-Some.ensures global_form map e) (c.in-Some-value_in.ensures global_form map e) c.size_of.ensures c.size_of-2.ensures,
  (refl, refl),
)
