-- When a timelock holds.
use Rattle.std.specs.Prelude.{ℕ, ◌==◌, ◌&&◌, ◌||◌, not, nat_lt, nat_le, bit_and, Bool}
use Rattle.def_machine.specs.declared.Locks.{Locks}

-- a locktime from this number on is a time, and a smaller one a height
abbrev pub LOCKTIME_THRESHOLD : ℕ
LOCKTIME_THRESHOLD = 500000000

-- the sequence number that makes the locktime void
abbrev pub SEQUENCE_FINAL : ℕ
SEQUENCE_FINAL = 0xffffffff

-- an absolute timelock holds with operand n (BIP 65; Bitcoin Core: `CheckLockTime`): both are
-- heights or both are times, n is at most the locktime, and the locktime isn't void
unfoldable pub after_holds : ℕ → Locks → Bool
after_holds n locks =
    ((nat_lt n LOCKTIME_THRESHOLD && nat_lt locks.locktime LOCKTIME_THRESHOLD) || (nat_le LOCKTIME_THRESHOLD n && nat_le LOCKTIME_THRESHOLD locks.locktime))
    && nat_le n locks.locktime
    && not (locks.sequence == SEQUENCE_FINAL)

-- the bits of a relative timelock (BIP 68): it is void; it is a time, and not a number of blocks;
-- what is compared
abbrev pub SEQUENCE_LOCKTIME_DISABLE_FLAG : ℕ
SEQUENCE_LOCKTIME_DISABLE_FLAG = 0x80000000

abbrev pub SEQUENCE_LOCKTIME_TYPE_FLAG : ℕ
SEQUENCE_LOCKTIME_TYPE_FLAG = 0x00400000

abbrev pub SEQUENCE_LOCKTIME_MASK : ℕ
SEQUENCE_LOCKTIME_MASK = 0x0040ffff

-- a relative timelock holds with operand n (BIP 112; Bitcoin Core: `CheckSequence`): n is void; or
-- the version is at least 2, the sequence number isn't void, both are of one type, and n is at most
-- the sequence number under the mask
unfoldable pub older_holds : ℕ → Locks → Bool
older_holds n locks =
    not (bit_and n SEQUENCE_LOCKTIME_DISABLE_FLAG == 0)
    || (nat_le 2 locks.version
    && (bit_and locks.sequence SEQUENCE_LOCKTIME_DISABLE_FLAG == 0)
    && (bit_and n SEQUENCE_LOCKTIME_TYPE_FLAG == bit_and locks.sequence SEQUENCE_LOCKTIME_TYPE_FLAG)
    && nat_le (bit_and n SEQUENCE_LOCKTIME_MASK) (bit_and locks.sequence SEQUENCE_LOCKTIME_MASK))
