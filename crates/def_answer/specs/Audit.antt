-- The report of `audit`.
use Rattle.std.specs.Prelude.{ℕ, List, ◌++◌, codes, decimal, flat_map, if◌then◌else◌}
use Rattle.std.specs.List.{list_any}
use Rattle.def_script.specs.Bytes.{Bytes}
use Rattle.def_machine.specs.declared.ScriptFault.{ScriptFault}
use Rattle.def_audit.specs.declared.Step.{Step}
use Rattle.def_answer.specs.Lines.{line, offset_of}
use Rattle.def_answer.specs.Check.{letter}
use Rattle.def_answer.specs.Run.{script_fault_name, accepted_line}

-- of a stack that doesn't satisfy a text: the file has another script, or the interpreter refuses the run
abbrev pub wrong_script_line : Bytes
wrong_script_line = line (codes "not accepted WrongScript")

abbrev pub not_accepted_line : ScriptFault → (place : ℕ) → Bytes
not_accepted_line fault place =
    line (codes "not accepted " ++ script_fault_name fault ++ codes " at " ++ decimal place)

-- a node that takes part, at its offset: whether it is satisfied, and whether by a row that isn't canonical
abbrev pub step_line : (offsets : List ℕ) → Step → Bytes
step_line offsets step =
    line (codes "node " ++ offset_of offsets step.node ++ (if step.sat then codes " sat" else codes " dsat")
    ++ letter step.extra (codes " extra"))

-- whether each row is canonical
abbrev pub canonical_line : List Step → Bytes
canonical_line steps = line (codes "canonical " ++ (if list_any (λ step. step.extra) steps then codes "no" else codes "yes"))

unfoldable pub audit_report : (offsets : List ℕ) → List Step → (ops peak : ℕ) → Bytes
audit_report offsets steps ops peak =
    accepted_line ops peak ++ flat_map (step_line offsets) steps ++ canonical_line steps
