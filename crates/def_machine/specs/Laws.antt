-- What the definitions imply.
use Rattle.std.specs.Prelude.{◌≡◌, ℕ, List, ◌++◌, map, reverse, All}
use Rattle.def_script.specs.Bytes.{Bytes}
use Rattle.def_script.specs.Instruction.{Instruction}
use Rattle.def_script.specs.Spell.{spell}
use Rattle.def_script.specs.Item.{Item}
use Rattle.def_script.specs.Laws.{item_of, CanSpell}
use Rattle.def_machine.specs.Machine.{Given, State}
use Rattle.def_machine.specs.Run.{Outcome, leads, start, steps, ended, run}

-- joined items are carried out one list after the other
abbrev pub JoinedSteps : Type 0
JoinedSteps = (given : Given) → (front back : List Item) → (place : ℕ) → (s : State) → (next : ℕ → State → Outcome)
    → steps given (front ++ back) place s next ≡ steps given front place s (λ p t. steps given back p t next)

-- the run of a spelled Script carries out its instructions
abbrev pub SpelledRun : Type 0
SpelledRun = (given : Given) → (script : List Instruction) → (stack : List Bytes) → All CanSpell script
    → run given (spell script) stack ≡ leads (start (spell script) (reverse stack)) 0 (λ s. steps given (map item_of script) 0 s ended)
