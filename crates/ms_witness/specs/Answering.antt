-- What the calls answer.
use Rattle.std.specs.Prelude.{◌≡◌, Result, Ok, Err}
use Rattle.ms_interp.specs.declared.report.RunReport.{RunReport}
use Rattle.ms_interp.specs.declared.report.RunStop.{RunStop}
use Rattle.ms_interp.specs.declared.report.RunStop.TheVariants as run_stop
use Rattle.def_machine.specs.Run.{accepted, refused}
use Rattle.ms_witness.specs.declared.fault.WitnessFault.{WitnessFault}
use Rattle.ms_witness.specs.declared.fault.WitnessFault.TheVariants as fault
use Rattle.ms_witness.specs.declared.replaying.ReplayStop.{ReplayStop}
use Rattle.ms_witness.specs.declared.replaying.ReplayStop.TheVariants as stop
use Rattle.ms_witness.specs.Replaying.{Replayed, unread, wrong_program, ran}

-- the fault that a definition gives; only want of memory may come in its place
abbrev pub Faults : {A : Type 0} → WitnessFault → Result A WitnessFault → Type 0
Faults fault.Memory reading = Unit {0}
Faults why reading = reading ≡ Err why

-- what a definition gives, as contracts see what was read; only want of memory may come in its place
abbrev pub ReadsAs : {A B : Type 0} → (seen : B → A) → Result B WitnessFault → Result A WitnessFault → Type 0
ReadsAs seen (Ok part) reading = reading ≡ Ok (seen part)
ReadsAs seen (Err why) reading = Faults why reading

-- the same, where contracts see what was read as it is
abbrev pub Gives : {A : Type 0} → Result A WitnessFault → Result A WitnessFault → Type 0
Gives result reading = ReadsAs (λ part. part) result reading

-- the stop of a replay for each fault of a witness, and for each stop of a run
abbrev pub stop_of_fault : WitnessFault → ReplayStop
stop_of_fault fault.Memory = stop.Memory
stop_of_fault why = stop.Witness why

abbrev pub stop_of_run : RunStop → ReplayStop
stop_of_run (run_stop.Refused why place) = stop.Refused why place
stop_of_run run_stop.Memory = stop.Memory

-- a report is that of an accepted run, and a stop says what the replay came to; only want of memory
-- may come in their place
abbrev pub Replays : Result RunReport ReplayStop → Replayed → Type 0
Replays (Ok report) replayed = replayed ≡ ran (accepted report.ops report.peak report.checks)
Replays (Err (stop.Witness why)) replayed = replayed ≡ unread why
Replays (Err (stop.WrongProgram wanted found)) replayed = replayed ≡ wrong_program wanted found
Replays (Err (stop.Refused why place)) replayed = replayed ≡ ran (refused why place)
Replays (Err stop.Memory) replayed = Unit {0}
