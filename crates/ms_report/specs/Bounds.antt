-- What is told of the limits of a tree.
use Rattle.std.specs.Prelude.{ℕ, Option, Some, None}
use Rattle.def_script.specs.Bytes.{Bytes}
use Rattle.def_tree.specs.Tree.{Tree}
use Rattle.def_limits.specs.declared.Limits.{Limits}
use Rattle.def_sane.specs.declared.Rules.{Rules}
use Rattle.def_sane.specs.declared.Rules.TheVariants.{Policy, Consensus}
use Rattle.def_sane.specs.TheLimits.{the_limits}
use Rattle.def_answer.specs.TheHeight.{the_height}
use Rattle.def_answer.specs.Lines.{limits_line, limits_line_under}
use Rattle.ms_report.specs.declared.limits.Bounds.{Bounds}

-- the limits of a tree, and by the rules of consensus its height
abbrev pub bounds_of : Rules → Tree → Bounds
bounds_of Policy tree = record { limits = the_limits tree; height = None }
bounds_of Consensus tree = record { limits = the_limits tree; height = Some (the_height tree) }

-- the line of limits, which tells a height where there is one
abbrev pub line_with : Limits → (height : Option ℕ) → Bytes
line_with limits None = limits_line limits
line_with limits (Some height) = limits_line_under Consensus limits height

abbrev pub bounds_line : Bounds → Bytes
bounds_line bounds = line_with bounds.limits bounds.height
