-- Parts at the front of bytes, and the bytes behind them (Bitcoin Core, serialize.h).
use Rattle.std.specs.Prelude.{ℕ, zero, suc, nat_le, List, [], ◌∷◌, length, take, drop, if◌then◌else◌, Option, Some, None, Ok, Err}
use Rattle.std.specs.Int.{Width, byte_len, from_le_bytes}
use Rattle.def_script.specs.Bytes.{Bytes}
use Rattle.def_script.specs.Sizes.{SizeReading, read_size}

-- what is read next, where what was read before was whole
infixl 10 ◌>>=◌
abbrev pub ◌>>=◌ : {A B : Type 0} → Option A → (A → Option B) → Option B
(Some x) >>= f = f x
None >>= f = None

-- a part that is whole, and the bytes behind it
abbrev pub Part : Type 0 → Type 0
Part A = Option (A × Bytes)

-- so many bytes
unfoldable pub first_bytes : (count : ℕ) → Bytes → Part Bytes
first_bytes count bytes = if nat_le count (length bytes) then Some (take count bytes, drop count bytes) else None

-- a number of the given width, low byte first
unfoldable pub first_number : Width → Bytes → Part ℕ
first_number width bytes = do
  part ← first_bytes (byte_len width) bytes
  Some (from_le_bytes width part.0, part.1)

abbrev pub size_part : Bytes → SizeReading → Part ℕ
size_part bytes (Ok read) = Some (read.0, drop read.1 bytes)
size_part bytes (Err fault) = None

-- a CompactSize in its shortest spelling
unfoldable pub first_size : Bytes → Part ℕ
first_size bytes = size_part bytes (read_size bytes)

-- a string behind its size
unfoldable pub first_string : Bytes → Part Bytes
first_string bytes = do
  size ← first_size bytes
  first_bytes size.0 size.1

-- so many parts of a kind, one after the other
unfoldable pub first_many : {A : Type 0} → (Bytes → Part A) → (count : ℕ) → Bytes → Part (List A)
first_many first zero bytes = Some ([], bytes)
first_many first (suc count) bytes = do
  part ← first bytes
  parts ← first_many first count part.1
  Some (part.0 ∷ parts.0, parts.1)

-- their number, and then the parts
unfoldable pub first_list : {A : Type 0} → (Bytes → Part A) → Bytes → Part (List A)
first_list first bytes = do
  count ← first_size bytes
  first_many first count.0 count.1

-- a part that is all of the bytes
unfoldable pub whole : {A : Type 0} → Part A → Option A
whole None = None
whole (Some part) = if nat_le (length part.1) 0 then Some part.0 else None
