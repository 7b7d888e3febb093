-- Stacks to choose from. `None` is an option that has no stack. The top stands first.
use Rattle.std.specs.Prelude.{nat_lt, List, [], ◌∷◌, ◌++◌, if◌then◌else◌, Option, Some, None}
use Rattle.std.specs.Option.{option_map}
use Rattle.def_script.specs.Bytes.{Bytes}
use Rattle.def_machine.specs.Stacks.{Stack}
use Rattle.def_script.specs.Witness.{weight}

-- the stack of one item
abbrev pub item : Option Bytes → Option Stack
item = option_map (λ bytes. bytes ∷ [])

-- the stack of the left with that of the right on top of it
abbrev pub both : Option Stack → Option Stack → Option Stack
both None above = None
both (Some below) None = None
both (Some below) (Some above) = Some (above ++ below)

-- the former, unless the latter weighs less
abbrev pub lighter : Option Stack → Option Stack → Option Stack
lighter None latter = latter
lighter (Some former) None = Some former
lighter (Some former) (Some latter) = if nat_lt (weight latter) (weight former) then Some latter else Some former

-- the first of least weight
abbrev pub least : List (Option Stack) → Option Stack
least [] = None
least (option ∷ options) = lighter option (least options)
