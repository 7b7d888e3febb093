use Rattle.ms_generator.proofs.GeneratorLemmas.{is_key}
use Rattle.ms_generator.proofs.generator.key_of.Goals as goal

pub unwrap-requires : goal.unwrap-requires
unwrap-requires c = c.from_bytes.ensures.found.1 (is_key c.args.i c.requires)
