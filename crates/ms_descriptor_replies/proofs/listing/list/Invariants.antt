-- The lines so far go on as those of all.
use Rattle.ms_descriptor.specs.Bodies.{descriptor_at}
use Rattle.ms_descriptor_replies.specs.Asked.{derivation_at}
use Rattle.ms_descriptor_replies.proofs.Listed.{Goes}
use Rattle.ms_descriptor_replies.proofs.listing.list.Given as goal

abbrev pub invariant-loop-index : goal.invariant-loop-index
invariant-loop-index l = Goes (descriptor_at l.asked.text.now l.descriptor) (derivation_at l.asked) l.index-end l.index l.report.items
