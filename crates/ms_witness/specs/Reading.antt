-- Reading the witness of a P2WSH input (BIP 141; Bitcoin Core: the serialization of `CScriptWitness`), from left to
-- right: the first fault decides.
use Rattle.std.specs.Prelude.{ℕ, zero, suc, ◌+◌, ◌-◌, ◌≤◌, nat_lt, ◌==◌, List, [], ◌∷◌, length, take, drop, All, if◌then◌else◌, Result, Ok, Err}
use Rattle.def_script.specs.declared.SizeFault.{SizeFault}
use Rattle.def_script.specs.declared.SizeFault.TheVariants as size
use Rattle.def_script.specs.Bytes.{Bytes}
use Rattle.def_script.specs.Limits.{MAX_SCRIPT_SIZE}
use Rattle.def_script.specs.Sizes.{SizeReading, read_size}
use Rattle.ms_witness.specs.declared.fault.WitnessFault.{WitnessFault}
use Rattle.ms_witness.specs.declared.fault.WitnessFault.TheVariants.{Truncated, NonMinimalSize, Empty, TooLong, Trailing}

-- the greatest number of items, and the greatest length of an item
abbrev pub MOST_WITNESS : ℕ
MOST_WITNESS = MAX_SCRIPT_SIZE

-- a witness within these limits: the stack, and the Script, which is one more item
pub record FitsWitness (stack : List Bytes) (script : Bytes) : Type 0 where
  pub few : length stack + 1 ≤ MOST_WITNESS
  pub items : All (λ (item : Bytes). length item ≤ MOST_WITNESS) stack
  pub last : length script ≤ MOST_WITNESS

-- what is read, where no fault is met before
infixl 10 ◌>>=◌
abbrev pub ◌>>=◌ : {A B : Type 0} → Result A WitnessFault → (A → Result B WitnessFault) → Result B WitnessFault
(Ok x) >>= f = f x
(Err fault) >>= f = Err fault

-- a part of the witness, and the bytes after it
abbrev pub Part : Type 0 → Type 0
Part A = Result (A × Bytes) WitnessFault

abbrev pub fault_of_size : SizeFault → WitnessFault
fault_of_size size.Truncated = Truncated
fault_of_size size.NotShortest = NonMinimalSize

abbrev pub size_of : Bytes → SizeReading → Part ℕ
size_of bytes (Ok read) = Ok (read.0, drop read.1 bytes)
size_of bytes (Err fault) = Err (fault_of_size fault)

-- the CompactSize that the bytes begin with
abbrev pub first_size : Bytes → Part ℕ
first_size bytes = size_of bytes (read_size bytes)

-- the number of items
unfoldable pub first_count : Bytes → Part ℕ
first_count bytes = do
  count ← first_size bytes
  if count.0 == 0 then Err Empty
      else if nat_lt MOST_WITNESS count.0 then Err TooLong
      else Ok count

-- an item after its length
unfoldable pub first_item : Bytes → Part Bytes
first_item bytes = do
  size ← first_size bytes
  if nat_lt MOST_WITNESS size.0 then Err TooLong
      else if nat_lt (length size.1) size.0 then Err Truncated
      else Ok (take size.0 size.1, drop size.0 size.1)

-- so many items, one after the other
unfoldable pub first_items : (count : ℕ) → Bytes → Part (List Bytes)
first_items zero bytes = Ok ([], bytes)
first_items (suc count) bytes = do
  item ← first_item bytes
  items ← first_items count item.1
  Ok (item.0 ∷ items.0, items.1)

-- the stack, bottom first, and the Script, which is the last item
unfoldable pub read_witness : Bytes → Result (List Bytes × Bytes) WitnessFault
read_witness bytes = do
  count ← first_count bytes
  stack ← first_items (count.0 - 1) count.1
  script ← first_item stack.1
  if length script.1 == 0 then Ok (stack.0, script.0) else Err Trailing
