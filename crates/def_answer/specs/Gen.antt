-- The report of `gen`.
use Rattle.std.specs.Prelude.{ℕ, List, ◌++◌, length, codes, decimal}
use Rattle.def_script.specs.Bytes.{Bytes}
use Rattle.def_script.specs.Witness.{weight}
use Rattle.def_machine.specs.Run.{Outcome}
use Rattle.def_sane.specs.TheLimits.{the_limits}
use Rattle.def_answer.specs.Generated.{threshold_of, generated_tree, generated_assets}
use Rattle.def_answer.specs.Lines.{line, limits_line}
use Rattle.def_answer.specs.Satisfy.{peak_of, outcome_with}

abbrev pub children_line : (children threshold : ℕ) → Bytes
children_line children threshold =
    line (codes "children " ++ decimal children ++ codes " threshold " ++ decimal threshold)

abbrev pub strict_line : (stack : List Bytes) → Outcome → Bytes
strict_line stack outcome =
    line (codes "strict items " ++ decimal (length stack) ++ codes " weight " ++ decimal (weight stack)
    ++ codes " peak " ++ decimal (peak_of outcome))

abbrev pub cheapest_line : (stack : List Bytes) → Bytes
cheapest_line stack =
    line (codes "cheapest items " ++ decimal (length stack) ++ codes " weight " ++ decimal (weight stack))

-- from the two satisfactions
unfoldable pub gen_report : (n : ℕ) → (strict cheapest : List Bytes) → Bytes
gen_report n strict cheapest =
    children_line n (threshold_of n)
    ++ limits_line (the_limits (generated_tree n))
    ++ strict_line strict (outcome_with (generated_tree n) (generated_assets n) strict)
    ++ cheapest_line cheapest
