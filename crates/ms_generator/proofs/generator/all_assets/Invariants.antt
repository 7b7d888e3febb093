use Rattle.std.proofs.Common.{◌≡◌}
use Rattle.def_answer.specs.Generated.{generated_assets}
use Rattle.ms_generator.proofs.generator.all_assets.Given as goal

-- the assets so far
abbrev pub invariant-loop-i : goal.invariant-loop-i
invariant-loop-i l = l.assets ≡ generated_assets l.i
