use Rattle.std.proofs.Common.{rules, arith}
use Rattle.std.proofs.lemmas.Grind.{common_steps}
use Rattle.ms_policy.proofs.print.+print.Goals as goal

pub print_parts-loop-part-preserved : goal.print_parts-loop-part-preserved
print_parts-loop-part-preserved t c = record { text = search rules; left = grind (arith, common_steps) }
