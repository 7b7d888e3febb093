-- A sink and a source over memory that fail where they are told to.
use Rattle.std.specs.Prelude.{◌≡◌, ℕ, ◌-◌, ◌==◌, ◌&&◌, ◌||◌, min, nat_lt, Bool, true, false, List, length, take, drop, ◌++◌, if◌then◌else◌}
use Rattle.std.specs.List.{list_any}
use Rattle.ms_io.specs.Faults.{next_count}
use Rattle.ms_io.specs.Sides.{LAST_COUNT}

-- ---- numbers of calls

-- a call fails where its number is listed. The last value of the counter is the number of all calls from
-- there on, and none of them fails
abbrev pub call_fails : (fail_at : List ℕ) → (call : ℕ) → Bool
call_fails fail_at call = nat_lt call LAST_COUNT && list_any (λ n. n == call) fail_at

-- ---- the sink

-- what a sink over memory holds and how it will answer
pub record SinkMemory : Type 0 where
  -- the bytes that were written
  pub bytes : List ℕ
  -- for how many bytes it has room in all
  pub room : ℕ
  -- how many bytes it takes in one call at most
  pub chunk : ℕ
  -- the numbers, from 0, of the calls that fail
  pub fail_at : List ℕ
  -- how many calls there were, and how many of them failed, up to 2^64 - 1
  pub calls : ℕ
  pub failures : ℕ

-- the room that is left
abbrev pub room_left : SinkMemory → ℕ
room_left m = m.room - length m.bytes

-- the next call fails where its number tells, or the piece isn't empty and no room is left
abbrev pub put_fails : SinkMemory → List ℕ → Bool
put_fails m piece = call_fails m.fail_at m.calls || (nat_lt 0 (length piece) && (room_left m == 0))

-- how many bytes of a piece a call takes that doesn't fail
abbrev pub put_count : SinkMemory → List ℕ → ℕ
put_count m piece = min m.chunk (min (length piece) (room_left m))

-- the sink after a call of `put`
abbrev pub after_put : SinkMemory → List ℕ → SinkMemory
after_put m piece =
    if put_fails m piece then record m { calls = next_count m.calls; failures = next_count m.failures }
    else record m { bytes = m.bytes ++ take (put_count m piece) piece; calls = next_count m.calls }

-- a call of `put` that takes so many bytes of a piece, and one that fails
abbrev pub PutTakes : SinkMemory → (piece : List ℕ) → (count : ℕ) → SinkMemory → Type 0
PutTakes old piece count new = (put_fails old piece ≡ false) × (count ≡ put_count old piece) × (new ≡ after_put old piece)

abbrev pub PutFails : SinkMemory → (piece : List ℕ) → SinkMemory → Type 0
PutFails old piece new = (put_fails old piece ≡ true) × (new ≡ after_put old piece)

-- ---- the source

-- what a source over memory has left and how it will answer
pub record SourceMemory : Type 0 where
  -- the bytes that are left
  pub left : List ℕ
  -- how many bytes it gives in one call at most
  pub chunk : ℕ
  -- the numbers, from 0, of the calls that fail
  pub fail_at : List ℕ
  -- how many calls there were, and how many of them failed, up to 2^64 - 1
  pub calls : ℕ
  pub failures : ℕ

-- how many bytes a call gives that doesn't fail, into a buffer of this length
abbrev pub read_count : SourceMemory → (room : ℕ) → ℕ
read_count s room = min s.chunk (min room (length s.left))

-- the source after a call of `read`
abbrev pub after_read : SourceMemory → (room : ℕ) → SourceMemory
after_read s room =
    if call_fails s.fail_at s.calls then record s { calls = next_count s.calls; failures = next_count s.failures }
    else record s { left = drop (read_count s room) s.left; calls = next_count s.calls }

-- a call of `read` that gives these bytes into a buffer of this length, and one that fails
abbrev pub ReadGives : SourceMemory → (room : ℕ) → (bytes : List ℕ) → SourceMemory → Type 0
ReadGives old room bytes new = (call_fails old.fail_at old.calls ≡ false) × (bytes ≡ take (read_count old room) old.left) × (new ≡ after_read old room)

abbrev pub ReadFails : SourceMemory → (room : ℕ) → SourceMemory → Type 0
ReadFails old room new = (call_fails old.fail_at old.calls ≡ true) × (new ≡ after_read old room)
