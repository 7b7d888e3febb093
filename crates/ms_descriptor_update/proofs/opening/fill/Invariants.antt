-- So many places are in, and where the keys of the last one's branch start from is known.
use Rattle.ms_descriptor.specs.Bodies.{descriptor_at}
use Rattle.ms_outputs.specs.Keys.{expressions_of_body}
use Rattle.ms_outputs.specs.Starts.{AreStarts}
use Rattle.ms_descriptor_update.specs.Scaffolding.Steps.{IsFilled}
use Rattle.ms_descriptor_update.proofs.opening.fill.Given as goal

abbrev pub invariant-loop-place : goal.invariant-loop-place
invariant-loop-place l = record {
  filled : IsFilled (descriptor_at l.text l.descriptor) l.count l.all l.place l.places;
  started : AreStarts l.started.branch (expressions_of_body l.descriptor.body) l.started.starts.items;
}
