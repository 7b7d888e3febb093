-- The bytes behind parts of transactions. No public clause cites it, so it need not be believed.
use Rattle.std.specs.Prelude.{ℕ, zero, suc, ◌==◌, ◌&&◌, nat_lt, nat_le, Bool, false, length, slice_index, if◌then◌else◌, Option, Some, None}
use Rattle.def_script.specs.Bytes.{Bytes}
use Rattle.def_psbt.specs.Transaction.{Transaction}
use Rattle.def_psbt.specs.Part.{◌>>=◌, first_bytes, first_size, first_string}
use Rattle.ms_psbt.specs.declared.transaction.Kind.{Kind}
use Rattle.ms_psbt.specs.declared.transaction.Kind.TheVariants as kind
use Rattle.ms_psbt.specs.Seen.{rest_of}

-- the bytes behind an input: an outpoint, a string and a sequence
unfoldable pub input_skip : Bytes → Option Bytes
input_skip bytes = do
  id ← rest_of (first_bytes 32 bytes)
  index ← rest_of (first_bytes 4 id)
  script_sig ← rest_of (first_string index)
  rest_of (first_bytes 4 script_sig)

-- the bytes behind an output: an amount and a string
unfoldable pub output_skip : Bytes → Option Bytes
output_skip bytes = do
  amount ← rest_of (first_bytes 8 bytes)
  rest_of (first_string amount)

abbrev pub skip_of : Kind → Bytes → Option Bytes
skip_of kind.Input bytes = input_skip bytes
skip_of kind.Output bytes = output_skip bytes
skip_of kind.Item bytes = rest_of (first_string bytes)

-- the bytes behind so many parts
unfoldable pub skips : (Bytes → Option Bytes) → (count : ℕ) → Bytes → Option Bytes
skips skip zero bytes = Some bytes
skips skip (suc count) bytes = do
  rest ← skip bytes
  skips skip count rest

abbrev pub counted : ℕ → Option Bytes → Option (ℕ × Bytes)
counted count (Some rest) = Some (count, rest)
counted count None = None

-- the number of parts, and the bytes behind them
unfoldable pub list_skip : (Bytes → Option Bytes) → Bytes → Option (ℕ × Bytes)
list_skip skip bytes = do
  size ← first_size bytes
  counted size.0 (skips skip size.0 size.1)

-- the bytes behind a witness
abbrev pub witness_skip : Bytes → Option Bytes
witness_skip bytes = rest_of (list_skip (skip_of kind.Item) bytes)

-- the numbers of inputs and of outputs, and the bytes behind them
unfoldable pub sides_skip : Bytes → Option ((ℕ × ℕ) × Bytes)
sides_skip bytes = do
  inputs ← list_skip (skip_of kind.Input) bytes
  outputs ← list_skip (skip_of kind.Output) inputs.1
  Some ((inputs.0, outputs.0), outputs.1)

-- some numbers, where no bytes are left
abbrev pub all_read : ℕ × ℕ → (rest : Bytes) → Option (ℕ × ℕ)
all_read numbers rest = if nat_le (length rest) 0 then Some numbers else None

-- the numbers of inputs and of outputs of a transaction without witnesses
unfoldable pub counts_read : Bytes → Option (ℕ × ℕ)
counts_read bytes = do
  version ← rest_of (first_bytes 4 bytes)
  sides ← sides_skip version
  rest ← rest_of (first_bytes 4 sides.1)
  all_read sides.0 rest

-- nothing is left
abbrev pub is_all : Option Bytes → Bool
is_all (Some rest) = nat_le (length rest) 0
is_all None = false

-- the bytes behind a transaction in BIP 144's form
unfoldable pub witnessed_skip : Bytes → Option Bytes
witnessed_skip bytes = do
  version ← rest_of (first_bytes 4 bytes)
  marker ← first_bytes 2 version
  sides ← sides_skip marker.1
  witnesses ← skips witness_skip sides.0.0 sides.1
  lock_time ← rest_of (first_bytes 4 witnesses)
  if (slice_index marker.0 1 == 1) && nat_lt 0 sides.0.0 then Some lock_time else None

-- how many inputs and outputs a transaction has
abbrev pub counts_of : Transaction → ℕ × ℕ
counts_of transaction = (length transaction.inputs, length transaction.outputs)
