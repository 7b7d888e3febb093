-- The line of an instruction, as the code writes it.
use Rattle.std.proofs.Common.{◌≡◌, ℕ, List, ◌++◌, Ok, Err, length, refl, sym, ◌∙◌, ap}
use Rattle.std.specs.Prelude.{Bool, codes}
use Rattle.std.proofs.lemmas.List.{append-nil}
use Rattle.def_script.specs.declared.InstrFault.{InstrFault}
use Rattle.def_script.specs.Bytes.{Bytes}
use Rattle.def_script.specs.Item.{Item}
use Rattle.def_script.specs.Item as item
use Rattle.def_machine.specs.declared.ScriptFault.{ScriptFault}
use Rattle.def_machine.specs.Faults.{OrFault}
use Rattle.def_machine.specs.Machine.{Given, State, is_live, step}
use Rattle.def_trace.specs.Placed.{Placed}
use Rattle.def_trace.specs.Trace.{Event, stopped, line_of}
use Rattle.def_trace.specs.Written.{line_text, line_end}
use Rattle.ms_script.specs.declared.reading.InstrRef.{InstrRef}
use Rattle.ms_script.specs.declared.reading.InstrRef.TheVariants.{Push, Small, Code}
use Rattle.ms_script.specs.Reads.{item_of}
use Rattle.ms_interp.specs.declared.report.RunStop.TheVariants.{Refused}
use Rattle.ms_interp.specs.declared.stepped.SteppedRun.{SteppedRun}
use Rattle.ms_interp.specs.Stepping.{IsAt, main_of, alt_of, checks_of, live_of, StepsAs}
use Rattle.ms_interp.specs.declared.machine.Machine.{Machine}
use Rattle.ms_interp.proofs.States.{live_at}
use Rattle.ms_trace.specs.declared.changes.Before.{Before}
use Rattle.ms_trace.specs.Scaffolding.Brief.{brief_event, brief_line, line_behind, before_of_run, head_text, unread_text}
use Rattle.ms_trace.specs.Scaffolding.Taking.{Takes}
use Rattle.ms_trace.proofs.Briefly.{before_of, event_is}

-- the first byte isn't told of an instruction that was read
same_text : (offset first : ℕ) (instr : InstrRef) (e : Event)
    → line_text (record { placed = record { offset = offset; first = first; item = item_of instr }; event = e })
    ≡ line_text (record { placed = record { offset = offset; first = 0; item = item_of instr }; event = e })
unfolding line_text
same_text offset first (Push bytes minimal) e = refl
same_text offset first (Small n) e = refl
same_text offset first (Code op) e = refl

-- what the run is before a step, and behind it
before_is : (run : SteppedRun) (s : State) → IsAt run s
    → before_of s ≡ record { live = live_of run; main = length (main_of run); checks = length (checks_of run) }
before_is run s at =
    ap (λ (live : Bool). record (before_of s) { live = live }) (sym (live_at run.machine s at))
    ∙ ap (λ (m : Machine). record { live = live_of run; main = length m.main; checks = length m.checks }) (sym at)

behind_is : (i : Item) (before : Before) (run : SteppedRun) (t : State) → IsAt run t
    → brief_event i before t.main t.alt (is_live t) t.checks ≡ brief_event i before (main_of run) (alt_of run) (live_of run) (checks_of run)
behind_is i before run t at =
    ap (λ (live : Bool). brief_event i before t.main t.alt live t.checks) (sym (live_at run.machine t at))
    ∙ ap (λ (m : Machine). brief_event i before m.main m.alt (live_of run) m.checks) (sym at)

-- a step that met no fault
pub taken : (given : Given) (instr : InstrRef) (offset first place : ℕ) (old new : SteppedRun) (before after : Bytes) (places : List ℕ) (s : State)
    → IsAt old s → StepsAs {X = Unit {0}} (Ok tt) new place (step given (item_of instr) s)
    → after ≡ before ++ (line_text (line_behind offset (item_of instr) (before_of_run old) new) ++ line_end places)
    → Takes {X = Unit {0}} (Ok tt) new place before after places (record { offset = offset; first = first; item = item_of instr }) s (step given (item_of instr) s)
taken given instr offset first place old new before after places s at steps added =
    let t = steps.0 in
    let i = item_of instr in
    let is : step given i s ≡ Ok t = steps.2 in
    let e = event_is given i s t is ∙ ap (λ (b : Before). brief_event i b t.main t.alt (is_live t) t.checks) (before_is old s at) ∙ behind_is i _ new t steps.1 in
    let p : Placed = record { offset = offset; first = first; item = i } in
    let same : line_text (line_of p s (step given i s)) ≡ line_text (brief_line offset i _ (main_of new) (alt_of new) (live_of new) (checks_of new)) =
    ap (λ (r : OrFault State). line_text (line_of p s r)) is
    ∙ ap (λ (event : Event). line_text (record { placed = p; event = event })) e ∙ same_text offset first instr _
    in
    (t, steps.1, is, added ∙ ap (λ (text : Bytes). before ++ (text ++ line_end places)) (sym same))

stop_text : (offset first : ℕ) (instr : InstrRef)
    → line_text (record { placed = record { offset = offset; first = first; item = item_of instr }; event = stopped }) ≡ head_text (codes "stop ") offset (item_of instr)
unfolding line_text
stop_text offset first (Push bytes minimal) = append-nil (head_text (codes "stop ") offset (item_of (Push bytes minimal)))
stop_text offset first (Small n) = append-nil (head_text (codes "stop ") offset (item_of (Small n)))
stop_text offset first (Code o) = append-nil (head_text (codes "stop ") offset (item_of (Code o)))

-- a step that met a fault
pub refused : (given : Given) (instr : InstrRef) (offset first place at_place : ℕ) (new : SteppedRun) (before after : Bytes) (places : List ℕ) (s : State)
    (e : ScriptFault) → StepsAs {X = Unit {0}} (Err (Refused e at_place)) new place (step given (item_of instr) s)
    → after ≡ before ++ (head_text (codes "stop ") offset (item_of instr) ++ line_end places)
    → Takes {X = Unit {0}} (Err (Refused e at_place)) new place before after places (record { offset = offset; first = first; item = item_of instr }) s
    (step given (item_of instr) s)
refused given instr offset first place at_place new before after places s e steps added =
    let p : Placed = record { offset = offset; first = first; item = item_of instr } in
    let same : line_text (line_of p s (step given (item_of instr) s)) ≡ head_text (codes "stop ") offset (item_of instr) =
    ap (λ (r : OrFault State). line_text (line_of p s r)) steps.0 ∙ stop_text offset first instr
    in
    (steps.0, steps.1, added ∙ ap (λ (text : Bytes). before ++ (text ++ line_end places)) (sym same))

-- an instruction that can't be read
pub unread_is : (offset first : ℕ) (e : InstrFault)
    → line_text (record { placed = record { offset = offset; first = first; item = item.fault e }; event = stopped }) ≡ unread_text offset first
unfolding line_text
unread_is offset first e = append-nil (unread_text offset first)
