-- What is pushed, and which option is taken.
use Rattle.std.specs.Prelude.{◌≡◌, ℕ, nat_le, Bool, true, false, ⊤, List, ◌++◌, reverse, Option, Some, None}
use Rattle.def_script.specs.Bytes.{Bytes}
use Rattle.def_machine.specs.Stacks.{Stack}

-- this stack, where there is one, is pushed onto another; the tops stand last
abbrev pub IsPushed : Option Stack → (before after : List Bytes) → Type 0
IsPushed None before after = ⊤
IsPushed (Some stack) before after = after ≡ before ++ reverse stack

-- the former of two options is taken: there is one, and the latter doesn't weigh less
abbrev pub is_former : (former latter : Option ℕ) → Bool
is_former None latter = false
is_former (Some former) None = true
is_former (Some former) (Some latter) = nat_le former latter
