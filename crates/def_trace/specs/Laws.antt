-- What the definitions imply.
use Rattle.std.specs.Prelude.{◌≡◌, ℕ, ◌+◌, ◌<◌, ◌≤◌, ⊤, Bool, true, false, if◌then◌else◌, List, [], ◌∷◌, length, map, take, drop, All, Ok, Err}
use Rattle.def_script.specs.Bytes.{Bytes}
use Rattle.def_script.specs.Item.{Item}
use Rattle.def_script.specs.Item as item
use Rattle.def_script.specs.Items.{ItemReading, first_item, items}
use Rattle.def_machine.specs.Faults.{OrFault, ◌>>=◌}
use Rattle.def_machine.specs.declared.ScriptFault.{ScriptFault}
use Rattle.def_machine.specs.Machine.{Given, State, step}
use Rattle.def_machine.specs.Run.{accepted, refused, run}
use Rattle.def_machine.specs.Stacks.{Pairs}
use Rattle.def_tree.specs.Size.{nodes}
use Rattle.def_tree.specs.Tree.{Tree}
use Rattle.def_emit.specs.Emit.{emit}
use Rattle.def_trace.specs.Placed.{Placed, placed}
use Rattle.def_trace.specs.Seen.{seen, at_first}
use Rattle.def_trace.specs.Trace.{Event, Line, stepped, skipped, stopped, is_carried_out, lines, trace}
use Rattle.def_trace.specs.Reader.{read_lines}
use Rattle.def_trace.specs.Writers.{Attributed, attributed}

-- ---- places

-- the instructions are the items of the script
abbrev pub PlacedAreItems : Type 0
PlacedAreItems = (script : Bytes) → map (λ (p : Placed). p.item) (placed script) ≡ items script

-- an instruction is what was read where it stands, and the others begin where it ends; one that can't be read is the last
abbrev pub IsRead : Item → List Placed → ItemReading → (Follow : (taken : ℕ) → Type 0) → Type 0
IsRead i ps (Ok read) Follow = (i ≡ read.0) × Follow read.1
IsRead i ps (Err fault) Follow = (i ≡ item.fault fault) × (ps ≡ [])

-- the script, from a place on, is the spellings of these instructions, one after the other: at the offset of each its
-- first byte stands there, what is read from there is its item, and the next one follows what that takes
abbrev pub Adjoin : (script : Bytes) → (place : ℕ) → List Placed → Type 0
Adjoin script place [] = length script ≤ place
Adjoin script place (p ∷ ps) =
    (p.offset ≡ place) × ((rest : Bytes) × (drop place script ≡ p.first ∷ rest)
    × IsRead p.item ps (first_item p.first rest) (λ taken. Adjoin script (place + 1 + taken) ps))

abbrev pub PlacesAdjoin : Type 0
PlacesAdjoin = (script : Bytes) → Adjoin script 0 (placed script)

-- each instruction stands before all that come behind it
abbrev pub Grow : List Placed → Type 0
Grow [] = ⊤
Grow (p ∷ ps) = All (λ (later : Placed). p.offset < later.offset) ps × Grow ps

abbrev pub PlacesGrow : Type 0
PlacesGrow = (script : Bytes) → Grow (placed script)

-- ---- both stacks again

-- the machine behind instructions, where none of them meets a fault
abbrev pub after_items : Given → List Item → State → OrFault State
after_items given [] s = Ok s
after_items given (i ∷ is) s = step given i s >>= after_items given is

-- what a reader makes of the first lines is what is seen of the machine behind as many instructions
abbrev pub Rebuilt : Type 0
Rebuilt = (given : Given) (ps : List Placed) (s t : State) (n : ℕ) →
    after_items given (map (λ (p : Placed). p.item) (take n ps)) s ≡ Ok t →
    read_lines (seen s) (take n (lines given ps s)) ≡ seen t

-- an instruction that is passed over changes nothing that is seen
abbrev pub Passed : Type 0
Passed = (given : Given) (i : Item) (s t : State) → is_carried_out i s ≡ false → step given i s ≡ Ok t → seen t ≡ seen s

-- ---- what the run comes to

-- the good pairs that the trace of an accepted run tells are those of the run
abbrev pub ChecksTold : Type 0
ChecksTold = (given : Given) (script : Bytes) (stack : List Bytes) (ops peak : ℕ) (checks : Pairs) →
    run given script stack ≡ accepted ops peak checks → (read_lines (at_first stack) (trace given script stack)).checks ≡ checks

abbrev pub is_stopped : Event → Bool
is_stopped (stepped changes) = false
is_stopped skipped = false
is_stopped stopped = true

-- the number of the line that met a fault, counted from 0, or of all lines, where none did
abbrev pub stops_at : List Line → ℕ
stops_at [] = 0
stops_at (l ∷ ls) = if is_stopped l.event then 0 else 1 + stops_at ls

-- that number is the place of a refused run
abbrev pub PlaceTold : Type 0
PlaceTold = (given : Given) (script : Bytes) (stack : List Bytes) (fault : ScriptFault) (place : ℕ) →
    run given script stack ≡ refused fault place → stops_at (trace given script stack) ≡ place

-- ---- nodes

-- the instructions that have writers are those of the Script, so there are as many writers as instructions
abbrev pub WritersOfScript : Type 0
WritersOfScript = (first : ℕ) (tree : Tree) → map (λ (a : Attributed). a.instruction) (attributed first tree) ≡ emit tree

-- each writer is a node of the tree
abbrev pub WritersAreNodes : Type 0
WritersAreNodes = (tree : Tree) → All (λ (a : Attributed). a.writer < nodes tree) (attributed 0 tree)
