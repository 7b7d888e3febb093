use Rattle.std.proofs.Common.{◌∙◌, sym, ap}
use Rattle.ms_types.specs.Scaffolding.Children.{and}
use Rattle.ms_types.proofs.OneMore.{seen_snoc}
use Rattle.ms_types.proofs.correctness.CorrectnessTypeTypeSystem.and_child.Goals as goal

pub returns : goal.returns
returns c = λ types is. c.and.ensures ∙ ap (λ s. and s c.args.child) is ∙ sym (seen_snoc types c.args.child)
