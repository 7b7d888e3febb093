-- The report of `trace`.
use Rattle.std.specs.Prelude.{ℕ, List, ◌++◌}
use Rattle.def_script.specs.Bytes.{Bytes}
use Rattle.def_machine.specs.Machine.{Given}
use Rattle.def_machine.specs.Run.{Outcome, accepted, refused, run}
use Rattle.def_trace.specs.Trace.{trace}
use Rattle.def_trace.specs.Written.{written}
use Rattle.def_answer.specs.Run.{accepted_line, script_refused_line}

-- what a run came to: the first line of the report of `run`
abbrev pub last_line : Outcome → Bytes
last_line (accepted ops peak checks) = accepted_line ops peak
last_line (refused fault place) = script_refused_line fault place

-- a line for each instruction that the run reached, with the place of the node that wrote it, as far as places are given;
-- behind them what the run came to
unfoldable pub trace_report : (places : List ℕ) → Given → (script : Bytes) → (stack : List Bytes) → Bytes
trace_report places given script stack = written places (trace given script stack) ++ last_line (run given script stack)
