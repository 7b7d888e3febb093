-- The limits of a run (Bitcoin Core, script/script.h).
use Rattle.std.specs.Prelude.{ℕ}

-- the bytes of a script
abbrev pub MAX_SCRIPT_SIZE : ℕ
MAX_SCRIPT_SIZE = 10000

-- the opcodes that aren't pushes, with the keys of executed multisignatures
abbrev pub MAX_OPS_PER_SCRIPT : ℕ
MAX_OPS_PER_SCRIPT = 201

-- the bytes of an element, of which more can't be pushed
abbrev pub MAX_SCRIPT_ELEMENT_SIZE : ℕ
MAX_SCRIPT_ELEMENT_SIZE = 520

-- the elements on both stacks together
abbrev pub MAX_STACK_SIZE : ℕ
MAX_STACK_SIZE = 1000

-- the keys of a multisignature
abbrev pub MAX_PUBKEYS_PER_MULTISIG : ℕ
MAX_PUBKEYS_PER_MULTISIG = 20

-- the bytes of a number that is reckoned with, and of the operand of a timelock
abbrev pub MAX_NUMBER_SIZE : ℕ
MAX_NUMBER_SIZE = 4

abbrev pub MAX_LOCK_SIZE : ℕ
MAX_LOCK_SIZE = 5
