-- A run, instruction after instruction.
use Rattle.std.proofs.Common.{◌≡◌, ℕ, ◌+◌, ◌<◌, ◌≤◌, nat_lt, nat_le, ◌&&◌, Bool, true, false, List, [], ◌∷◌, length, drop, reverse, Result, Ok, Err, arith, refl, sym, ◌∙◌, ap, subst}
use Rattle.std.specs.List.{list_all}
use Rattle.std.proofs.lemmas.List.{drop_all, reverse-append}
use Rattle.std.proofs.lemmas.List.Folds.{list_all-append}
use Rattle.std.proofs.lemmas.Bool.{lt-ltb, le-ltb}
use Rattle.def_script.specs.declared.InstrFault.{InstrFault}
use Rattle.def_script.specs.Bytes.{Bytes}
use Rattle.def_script.specs.Item.{Item}
use Rattle.def_script.specs.Item as item
use Rattle.def_script.specs.Items.{items, items_after}
use Rattle.def_machine.specs.declared.ScriptFault.{ScriptFault}
use Rattle.def_machine.specs.declared.ScriptFault.TheVariants as fault
use Rattle.def_machine.specs.Stacks.{Stack}
use Rattle.def_machine.specs.Machine.{Given, State, fault_of}
use Rattle.def_machine.specs.Run.{Outcome, refused, start, run}
use Rattle.ms_interp.specs.declared.machine.Machine.{Machine}
use Rattle.ms_interp.specs.declared.stop.Stop.{Stop}
use Rattle.ms_interp.specs.declared.stop.Stop.TheVariants as stop_kind
use Rattle.ms_interp.specs.declared.report.RunReport.{RunReport}
use Rattle.ms_interp.specs.declared.report.RunStop.{RunStop}
use Rattle.ms_interp.specs.declared.report.RunStop.TheVariants as stopped
use Rattle.ms_interp.specs.Scaffolding.Stops.{StopsAs, run_stop}
use Rattle.ms_interp.specs.Scaffolding.Starting.{Starts}
use Rattle.ms_interp.specs.Answering.{Answers}
use Rattle.ms_interp.specs.Scaffolding.Compact.{machine_of, carry_out, step, ended, steps}
use Rattle.ms_interp.proofs.Refines.{steps_is}

-- the instructions from a place on lead where all of them lead
pub record KeepsRun (given : Given) (script : Bytes) (first : Machine) (from place : ℕ) (m : Machine) : Type 0 where
  pub inside : from ≤ length script
  pub counted : place ≤ from
  pub deep : m.branches.depth ≤ place
  pub same : steps given (items (drop from script)) place m ≡ steps given (items script) 0 first

-- what the steps come to at the next item
step-done : (given : Given) (place : ℕ) (all rest : List Item) (read : Item) (m t : Machine) → all ≡ read ∷ rest → step given read m ≡ Ok t
    → steps given all place m ≡ steps given rest (place + 1) t
unfolding steps
step-done given place all rest read m t split done = rw (split, done) refl

step-refused : (given : Given) (place : ℕ) (all rest : List Item) (read : Item) (m : Machine) (e : ScriptFault) → all ≡ read ∷ rest → step given read m ≡ Err e
    → steps given all place m ≡ refused e place
unfolding steps
step-refused given place all rest read m e split why = rw (split, why) refl

step-unread : (given : Given) (place : ℕ) (all : List Item) (m : Machine) (unread : InstrFault) → all ≡ item.fault unread ∷ []
    → steps given all place m ≡ refused (fault_of unread) place
unfolding steps step carry_out
step-unread given place all m unread read = rw read refl

no_step : (given : Given) (place : ℕ) (m : Machine) (rest : Bytes) → rest ≡ [] → steps given (items rest) place m ≡ ended place m
unfolding steps items_after
no_step given place m rest none = rw none refl

-- one instruction more
pub goes_on : (given : Given) (script : Bytes) (first : Machine) (from place next : ℕ) (read : Item) (m t : Machine)
    → KeepsRun given script first from place m → from < next → next ≤ length script
    → items (drop from script) ≡ read ∷ items (drop next script) → step given read m ≡ Ok t → t.branches.depth ≤ m.branches.depth + 1
    → KeepsRun given script first next (place + 1) t
goes_on given script first from place next read m t keeps on within split done deep =
    let counted = keeps.counted in
    let depth = keeps.deep in
    record {
      inside = within;
      counted = omega arith;
      deep = omega arith;
      same = sym (step-done given place (items (drop from script)) (items (drop next script)) read m t split done) ∙ keeps.same;
    }

-- the end
pub finishes : (given : Given) (script : Bytes) (first : Machine) (from place : ℕ) (m : Machine) (result : Result RunReport RunStop)
    → KeepsRun given script first from place m → from ≡ length script → Answers result (ended place m) → Answers result (steps given (items script) 0 first)
finishes given script first from place m result keeps end answers =
    let past : length script ≤ from = omega arith in
    let P : Outcome → Type 0 = λ o. Answers result o in
    subst P (sym (no_step given place m (drop from script) (drop_all from script past)) ∙ keeps.same) answers

-- an instruction that can't be read
pub breaks : (given : Given) (script : Bytes) (first : Machine) (from place : ℕ) (m : Machine) (unread : InstrFault)
    → KeepsRun given script first from place m → items (drop from script) ≡ item.fault unread ∷ [] → steps given (items script) 0 first ≡ refused (fault_of unread) place
breaks given script first from place m unread keeps read = sym keeps.same ∙ step-unread given place (items (drop from script)) m unread read

-- an instruction that stops
pub stops : (given : Given) (script : Bytes) (first : Machine) (from place : ℕ) (rest : List Item) (read : Item) (m : Machine) (stop : Stop)
    → KeepsRun given script first from place m → items (drop from script) ≡ read ∷ rest → StopsAs stop (step given read m)
    → Answers (Err (run_stop stop place)) (steps given (items script) 0 first)
stops given script first from place rest read m stop_kind.Memory keeps split why = tt
stops given script first from place rest read m (stop_kind.Fault e) keeps split why =
    sym keeps.same ∙ step-refused given place (items (drop from script)) rest read m e split why

-- the order of the elements doesn't matter to a test of all of them
and_swap : (a b : Bool) → (b && (a && true)) ≡ (a && b)
and_swap true true = refl
and_swap true false = refl
and_swap false true = refl
and_swap false false = refl

list_all-reverse : {X : Type 0} (p : X → Bool) (xs : List X) → list_all p (reverse xs) ≡ list_all p xs
list_all-reverse p [] = refl
list_all-reverse p (x ∷ xs) =
    ap (list_all p) (reverse-append (x ∷ []) xs) ∙ list_all-append p (reverse xs) (x ∷ []) ∙ and_swap (p x) (list_all p (reverse xs))
    ∙ ap (λ b. p x && b) (list_all-reverse p xs)

abbrev fits : Bytes → Bool
fits x = nat_le (length x) 520

-- the state at the start
abbrev pub first_state : Stack → State
first_state main = record { main = main; alt = []; branches = []; ops = 0; peak = length main; checks = [] }

-- the tests at the start
pub start-fits : (script : Bytes) (stack : List Bytes) → length script ≤ 10000 → list_all fits stack ≡ true
    → start script (reverse stack) ≡ Ok (first_state (reverse stack))
unfolding start
start-fits script stack short all =
    let small : nat_lt 10000 (length script) ≡ false = le-ltb _ _ short in
    let every : list_all fits (reverse stack) ≡ true = list_all-reverse fits stack ∙ all in
    rw (small, every) refl

pub start-too_long : (script : Bytes) (stack : List Bytes) → 10000 < length script → start script (reverse stack) ≡ Err fault.ScriptSize
unfolding start
start-too_long script stack long = let large : nat_lt 10000 (length script) ≡ true = lt-ltb _ _ long in rw large refl

pub start-too_big : (script : Bytes) (stack : List Bytes) → length script ≤ 10000 → list_all fits stack ≡ false
    → start script (reverse stack) ≡ Err fault.ElementSize
unfolding start
start-too_big script stack short some =
    let small : nat_lt 10000 (length script) ≡ false = le-ltb _ _ short in
    let other : list_all fits (reverse stack) ≡ false = list_all-reverse fits stack ∙ some in
    rw (small, other) refl

-- a run that is started carries out all items
run-started : (given : Given) (script : Bytes) (stack : List Bytes) (s : State) → start script (reverse stack) ≡ Ok s
    → steps given (items script) 0 (machine_of s) ≡ run given script stack
unfolding run
run-started given script stack s begins = steps_is given (items script) 0 s ∙ sym (rw begins refl)

pub from_start : (given : Given) (script : Bytes) (stack : List Bytes) (m : Machine) (result : Result RunReport RunStop)
    → (s : State) × (m ≡ machine_of s) × (start script (reverse stack) ≡ Ok s) → Answers result (steps given (items script) 0 m)
    → Answers result (run given script stack)
from_start given script stack m result begun answers =
    let P : Outcome → Type 0 = λ o. Answers result o in
    subst P (ap (λ (n : Machine). steps given (items script) 0 n) begun.1 ∙ run-started given script stack begun.0 begun.2) answers

-- and one that isn't is refused
pub not_started : (given : Given) (script : Bytes) (stack : List Bytes) (stop : RunStop) → Starts (Err stop) (start script (reverse stack))
    → Answers (Err stop) (run given script stack)
unfolding run
not_started given script stack (stopped.Refused e place) begun = rw (begun.0, begun.1) refl
not_started given script stack stopped.Memory begun = tt
