-- Keys, signatures and givens for the examples.
use Rattle.std.specs.Prelude.{ℕ, [], ◌∷◌, replicate}
use Rattle.def_hash.specs.Hex.{from_hex}
use Rattle.def_script.specs.Bytes.{Bytes}
use Rattle.def_machine.specs.declared.Locks.{Locks}
use Rattle.def_machine.specs.Stacks.{Pairs, member}
use Rattle.def_machine.specs.Machine.{Given}

abbrev pub key_a : Bytes
key_a = 0x02 ∷ replicate 32 0x01

-- the generator point
abbrev pub key_b : Bytes
key_b = from_hex "0279be667ef9dcbbac55a06295ce870b07029bfcdb2dce28d959f2815b16f81798"

abbrev pub key_c : Bytes
key_c = 0x03 ∷ replicate 32 0x03

abbrev pub sig_a : Bytes
sig_a = replicate 71 0xaa

abbrev pub sig_b : Bytes
sig_b = replicate 72 0xbb

abbrev pub sig_c : Bytes
sig_c = replicate 70 0xcc

-- a push of a key
abbrev pub push_key : Bytes → Bytes
push_key key = 0x21 ∷ key

-- version 2, a sequence number that neither ends the locktime nor asks for a delay, and no locktime
abbrev pub plain_locks : Locks
plain_locks = record { version = 2; sequence = 0xfffffffe; locktime = 0 }

abbrev pub with_table : Pairs → Given
with_table table = record { checker = member table; locks = plain_locks }

abbrev pub with_sequence : ℕ → Pairs → Given
with_sequence sequence table = record { checker = member table; locks = record plain_locks { sequence = sequence } }

-- no good signature
abbrev pub with_locks : Locks → Given
with_locks locks = record { checker = member []; locks = locks }

abbrev pub nothing : Given
nothing = with_locks plain_locks
