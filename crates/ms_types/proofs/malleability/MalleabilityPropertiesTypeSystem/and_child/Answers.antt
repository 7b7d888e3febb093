use Rattle.std.proofs.Common.{◌∙◌, sym, ap, arith}
use Rattle.ms_types.specs.Scaffolding.Signed.{and}
use Rattle.ms_types.proofs.Signing.{few_unsigned, signed_snoc}
use Rattle.ms_types.proofs.malleability.MalleabilityPropertiesTypeSystem.and_child.Goals as goal

pub and-requires : goal.and-requires
and-requires c = omega (arith, few_unsigned c.requires.0, ap (λ s. s.unsigned) c.requires.1, c.requires.2)

pub returns : goal.returns
returns c = λ types is. c.and.ensures ∙ ap (λ s. and s c.args.child) is ∙ sym (signed_snoc types c.args.child)
