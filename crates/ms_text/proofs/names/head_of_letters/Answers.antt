use Rattle.std.proofs.Common.{rules}
use Rattle.ms_text.proofs.NameLemmas.{run_of_letters}
use Rattle.ms_text.proofs.names.head_of_letters.Goals as goal

pub returns-else-is_empty : goal.returns-else-is_empty
returns-else-is_empty c = run_of_letters c.args.word.now c.requires (search rules)
