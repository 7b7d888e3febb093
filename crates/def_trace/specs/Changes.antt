-- What a step changed. The machine before it and the machine behind it tell that, and the instruction tells how many
-- elements it puts on the main stack.
use Rattle.std.specs.Prelude.{ℕ, ◌+◌, ◌-◌, ◌==◌, Bool, List, [], ◌∷◌, ◌++◌, length, map, take, drop, reverse, if◌then◌else◌}
use Rattle.def_script.specs.declared.Op.{Op}
use Rattle.def_script.specs.declared.Op.TheVariants as op
use Rattle.def_script.specs.Bytes.{Bytes}
use Rattle.def_script.specs.Item.{Item}
use Rattle.def_script.specs.Item as item
use Rattle.def_machine.specs.Stacks.{Stack, Pairs}
use Rattle.def_trace.specs.Seen.{Seen}

pub data Change : Type 0 where
  -- so many elements left the top of the main stack
  popped : (count : ℕ) → Change
  -- an element was put on the main stack
  pushed : (element : Bytes) → Change
  -- an element was put on the alternative stack, or left it
  alt_pushed : (element : Bytes) → Change
  alt_popped : Change
  -- a branch was opened, which is taken or not
  opened : (taken : Bool) → Change
  -- the innermost open branch was turned round, or closed
  turned : Change
  closed : Change
  -- a signature was found good for a key
  checked : (pair : Bytes × Bytes) → Change

-- how many elements an opcode puts on the main stack, which had so many before it and has so many behind it
abbrev pub opcode_puts : Op → (before after : ℕ) → ℕ
opcode_puts op.Swap before after = 2
opcode_puts op.IfDup before after = after - before
opcode_puts op.If before after = 0
opcode_puts op.NotIf before after = 0
opcode_puts op.Else before after = 0
opcode_puts op.EndIf before after = 0
opcode_puts op.Verify before after = 0
opcode_puts op.ToAltStack before after = 0
opcode_puts op.EqualVerify before after = 0
opcode_puts op.CheckSigVerify before after = 0
opcode_puts op.CheckMultiSigVerify before after = 0
opcode_puts op.CheckLockTimeVerify before after = 0
opcode_puts op.CheckSequenceVerify before after = 0
opcode_puts other before after = 1

-- how many elements left the main stack, where so many were put on it
abbrev pub pops : (count : ℕ) → List Change
pops count = if count == 0 then [] else popped count ∷ []

-- on the main stack, which had so many elements before it: how many left it, and those that were put on it, the lowest
-- first
abbrev pub main_changes : (puts before : ℕ) → (after : Stack) → List Change
main_changes puts before after = pops (before + puts - length after) ++ map pushed (reverse (take puts after))

-- on the alternative stack
abbrev pub alt_changes : Op → (after : Stack) → List Change
alt_changes op.ToAltStack after = map alt_pushed (take 1 after)
alt_changes op.FromAltStack after = alt_popped ∷ []
alt_changes other after = []

-- of the innermost branch
abbrev pub branch_changes : Op → (after : List Bool) → List Change
branch_changes op.If after = map opened (take 1 after)
branch_changes op.NotIf after = map opened (take 1 after)
branch_changes op.Else after = turned ∷ []
branch_changes op.EndIf after = closed ∷ []
branch_changes other after = []

-- the pairs that were found good, of which there were so many before it
abbrev pub check_changes : (before : ℕ) → (after : Pairs) → List Change
check_changes before after = map checked (drop before after)

-- all changes of a step, in the order in which a line tells them. What a push puts on the main stack is its name
unfoldable pub changes : Item → (before after : Seen) → List Change
changes (item.push bytes minimal) before after = []
changes (item.code op) before after =
    main_changes (opcode_puts op (length before.main) (length after.main)) (length before.main) after.main
    ++ alt_changes op after.alt ++ branch_changes op after.branches ++ check_changes (length before.checks) after.checks
changes (item.fault fault) before after = []
