-- Runs that show when a timelock holds. Each that is refused fails one test alone.
use Rattle.std.specs.Prelude.{◌≡◌, []}
use Rattle.def_hash.specs.Hex.{from_hex}
use Rattle.def_machine.specs.declared.ScriptFault.TheVariants as fault
use Rattle.def_machine.specs.Run.{run, accepted, refused}
use Rattle.def_machine.specs.Samples.{plain_locks, nothing, with_locks}

-- the locktime -1
abbrev pub LockOfMinusOne : Type 0
LockOfMinusOne = run nothing (from_hex "4fb1") []
    ≡ refused fault.NegativeLock 1

-- the height 1, and the transaction's is 1
abbrev pub LockOfOne : Type 0
LockOfOne = run (with_locks (record plain_locks { locktime = 1 })) (from_hex "51b1") []
    ≡ accepted 1 1 []

-- the height 2, and the transaction's is 1
abbrev pub LockOfTwo : Type 0
LockOfTwo = run (with_locks (record plain_locks { locktime = 1 })) (from_hex "52b1") []
    ≡ refused fault.UnmetLock 1

-- the height 1, and the transaction's locktime is a time
abbrev pub LockOfHeightAtTime : Type 0
LockOfHeightAtTime = run (with_locks (record plain_locks { locktime = 500000000 })) (from_hex "51b1") []
    ≡ refused fault.UnmetLock 1

-- the time 500,000,000, and the transaction's is the same
abbrev pub LockOfTime : Type 0
LockOfTime = run (with_locks (record plain_locks { locktime = 500000000 })) (from_hex "040065cd1db1") []
    ≡ accepted 1 1 []

-- the height 1, and the transaction's is 1, with the final sequence number
abbrev pub LockWithFinalSequence : Type 0
LockWithFinalSequence = run (with_locks (record plain_locks { sequence = 0xffffffff; locktime = 1 })) (from_hex "51b1") []
    ≡ refused fault.UnmetLock 1

-- the relative lock -1
abbrev pub DelayOfMinusOne : Type 0
DelayOfMinusOne = run nothing (from_hex "4fb2") []
    ≡ refused fault.NegativeLock 1

-- a relative lock with bit 31 set asks for nothing
abbrev pub VoidDelay : Type 0
VoidDelay = run nothing (from_hex "050000008000b2") []
    ≡ accepted 1 1 []

-- 144 blocks, and the sequence number says 144
abbrev pub DelayOfBlocks : Type 0
DelayOfBlocks = run (with_locks (record plain_locks { sequence = 144 })) (from_hex "029000b2") []
    ≡ accepted 1 1 []

-- 144 blocks, and the sequence number says 143
abbrev pub DelayTooLong : Type 0
DelayTooLong = run (with_locks (record plain_locks { sequence = 143 })) (from_hex "029000b2") []
    ≡ refused fault.UnmetLock 1

-- 144 blocks, and the sequence number says 144 times 512 seconds
abbrev pub DelayOfBlocksAtTime : Type 0
DelayOfBlocksAtTime = run (with_locks (record plain_locks { sequence = 0x00400090 })) (from_hex "029000b2") []
    ≡ refused fault.UnmetLock 1

-- 144 times 512 seconds, and the sequence number says the same
abbrev pub DelayOfTime : Type 0
DelayOfTime = run (with_locks (record plain_locks { sequence = 0x00400090 })) (from_hex "03900040b2") []
    ≡ accepted 1 1 []

-- 144 blocks, and the sequence number has bit 31 set
abbrev pub DelayAtVoidSequence : Type 0
DelayAtVoidSequence = run (with_locks (record plain_locks { sequence = 0x80000090 })) (from_hex "029000b2") []
    ≡ refused fault.UnmetLock 1

-- 144 blocks, and the version is 1
abbrev pub DelayInVersionOne : Type 0
DelayInVersionOne = run (with_locks (record plain_locks { version = 1; sequence = 144 })) (from_hex "029000b2") []
    ≡ refused fault.UnmetLock 1

-- 144 blocks and bit 16, which isn't compared
abbrev pub DelayOutsideMask : Type 0
DelayOutsideMask = run (with_locks (record plain_locks { sequence = 144 })) (from_hex "03900001b2") []
    ≡ accepted 1 1 []
