-- The lines of a plan.
use Rattle.std.proofs.Common.{◌≡◌, ◌++◌, List, [], codes, decimal, refl}
use Rattle.std.specs.List.{flat_map}
use Rattle.def_script.specs.Bytes.{Bytes}
use Rattle.def_plan.specs.Plan.{Plan}
use Rattle.def_answer.specs.Lines.{line}
use Rattle.def_answer.specs.Plan.{ask_line, plan_report}

-- the lines of a plan, one after the other
pub plan_lines_of : (found : Plan) (keys : List Bytes) (number none first all : Bytes) → keys ≡ found.keys → number ≡ decimal found.weight → none ≡ []
    → first ≡ none ++ flat_map ask_line keys → all ≡ first ++ line (codes "weight at most " ++ number) → all ≡ plan_report found
unfolding plan_report
plan_lines_of found keys number none first all is_keys is_number e0 e1 e2 = rw (e2, e1, e0, is_keys, is_number) (refl {a = plan_report found})
