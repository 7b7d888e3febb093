-- Both stacks again: what a reader makes of lines, who knows no opcode.
use Rattle.std.specs.Prelude.{not, Bool, List, [], ◌∷◌, ◌++◌, drop}
use Rattle.def_script.specs.Item.{Item}
use Rattle.def_script.specs.Item as item
use Rattle.def_trace.specs.Seen.{Seen}
use Rattle.def_trace.specs.Changes.{Change, popped, pushed, alt_pushed, alt_popped, opened, turned, closed, checked}
use Rattle.def_trace.specs.Trace.{Line, Event, stepped, skipped, stopped}

abbrev pub turn_first : List Bool → List Bool
turn_first [] = []
turn_first (taken ∷ branches) = not taken ∷ branches

-- a change is carried out
abbrev pub changed : Seen → Change → Seen
changed v (popped count) = record v { main = drop count v.main }
changed v (pushed element) = record v { main = element ∷ v.main }
changed v (alt_pushed element) = record v { alt = element ∷ v.alt }
changed v alt_popped = record v { alt = drop 1 v.alt }
changed v (opened taken) = record v { branches = taken ∷ v.branches }
changed v turned = record v { branches = turn_first v.branches }
changed v closed = record v { branches = drop 1 v.branches }
changed v (checked pair) = record v { checks = v.checks ++ pair ∷ [] }

-- changes are carried out from left to right
abbrev pub changed_by : Seen → List Change → Seen
changed_by v [] = v
changed_by v (c ∷ cs) = changed_by (changed v c) cs

-- the push of an instruction that is one
abbrev pub own_push : Item → List Change
own_push (item.push bytes minimal) = pushed bytes ∷ []
own_push (item.code op) = []
own_push (item.fault fault) = []

-- of a line of an instruction that was carried out, its own push and then its changes; of other lines nothing
abbrev pub after_event : Seen → Item → Event → Seen
after_event v item (stepped changes) = changed_by v (own_push item ++ changes)
after_event v item skipped = v
after_event v item stopped = v

-- behind lines, from what was seen before them
abbrev pub read_lines : Seen → List Line → Seen
read_lines v [] = v
read_lines v (line ∷ lines) = read_lines (after_event v line.placed.item line.event) lines
