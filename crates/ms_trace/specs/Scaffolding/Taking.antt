-- What taking an instruction of a run adds to a report.
use Rattle.std.specs.Prelude.{◌≡◌, ℕ, List, ◌++◌, drop, Result, Ok, Err}
use Rattle.def_script.specs.Bytes.{Bytes}
use Rattle.def_script.specs.Item.{Item}
use Rattle.def_machine.specs.Faults.{OrFault}
use Rattle.def_machine.specs.Machine.{Given, State, step}
use Rattle.def_trace.specs.Placed.{Placed}
use Rattle.def_trace.specs.Trace.{line_of}
use Rattle.def_trace.specs.Written.{line_text, line_end}
use Rattle.ms_interp.specs.declared.report.RunStop.{RunStop}
use Rattle.ms_interp.specs.declared.report.RunStop.TheVariants.{Refused, Memory}
use Rattle.ms_interp.specs.declared.stepped.SteppedRun.{SteppedRun}
use Rattle.ms_interp.specs.Stepping.{IsAt}
use Rattle.ms_trace.specs.declared.step_line.Spot.{Spot}

-- the line of an instruction, from the machine before it and from what its step gives
abbrev pub whole_line : (places : List ℕ) → Placed → State → OrFault State → Bytes
whole_line places p s next = line_text (line_of p s next) ++ line_end places

-- an instruction was taken: the run is at the state that its step gives, or it is refused with its fault, and its line
-- was added to the report
abbrev pub Takes : {X : Type 0} → Result X RunStop → (run : SteppedRun) → (place : ℕ) → (before after : Bytes) → (places : List ℕ)
    → Placed → State → OrFault State → Type 0
Takes (Ok x) run place before after places p s next =
    (t : State) × IsAt run t × (next ≡ Ok t) × (after ≡ before ++ whole_line places p s next)
Takes (Err (Refused fault at)) run place before after places p s next =
    (next ≡ Err fault) × (at ≡ place) × (after ≡ before ++ whole_line places p s next)
Takes (Err Memory) run place before after places p s next = Unit {0}

-- the same of an instruction at its spot, by the machine's step from where the run was
abbrev pub TakesFrom : {X : Type 0} → Result X RunStop → (old new : SteppedRun) → (before after : Bytes) → (places : List ℕ) → Given → Item → Spot → Type 0
TakesFrom result old new before after places given i spot =
    (s : State) (first : ℕ) → IsAt old s
    → Takes result new spot.place before after (drop spot.place places) (record { offset = spot.offset; first = first; item = i }) s (step given i s)
