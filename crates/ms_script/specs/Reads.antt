-- What is read of a Script, as contracts see it.
use Rattle.std.specs.Prelude.{◌≡◌, ℕ, ◌+◌, ◌<◌, ◌≤◌, ◌≤ℤ◌, ◌==◌, ◌&&◌, ◌||◌, nat_le, pos, negsuc, ◌⊎◌, Bool, true, false, [], ◌∷◌, length, drop, Option, Some, None, Result, Ok, Err}
use Rattle.def_script.specs.declared.InstrFault.{InstrFault}
use Rattle.def_script.specs.Bytes.{Bytes}
use Rattle.def_script.specs.Numbers.{number_bytes}
use Rattle.def_script.specs.Item.{Item}
use Rattle.def_script.specs.Item as item
use Rattle.def_script.specs.Items.{ItemReading, first_item, items}
use Rattle.ms_script.specs.declared.reading.InstrRef.{InstrRef}
use Rattle.ms_script.specs.declared.reading.InstrRef.TheVariants.{Push, Small, Code}
use Rattle.ms_script.specs.declared.reading.Reading.{Reading as Read}

-- an instruction as an item
abbrev pub item_of : InstrRef → Item
item_of (Push bytes minimal) = item.push bytes.now minimal
item_of (Small n) = item.push (number_bytes n) true
item_of (Code op) = item.code op

-- an item and where the one after begins; none at the end
abbrev pub NextItem : Type 0
NextItem = Result (Option (Item × ℕ)) InstrFault

abbrev pub placed : ℕ → ItemReading → NextItem
placed from (Ok r) = Ok (Some (r.0, from + 1 + r.1))
placed from (Err fault) = Err fault

-- the item that begins a rest of a Script, which begins at the given place
abbrev pub next_item : (from : ℕ) → Bytes → NextItem
next_item from [] = Ok None
next_item from (byte ∷ rest) = placed from (first_item byte rest)

-- what `next_instr` answers, as items
abbrev pub seen : Result (Option (InstrRef × ℕ)) InstrFault → NextItem
seen (Ok None) = Ok None
seen (Ok (Some next)) = Ok (Some (item_of next.0, next.1))
seen (Err fault) = Err fault

abbrev pub taken : Result Read InstrFault → ItemReading
taken (Ok r) = Ok (item_of r.instr, r.taken)
taken (Err fault) = Err fault

-- the items from a place on are the item that was read and the items from the next place on
abbrev pub IsItems : Bytes → (from : ℕ) → Result (Option (InstrRef × ℕ)) InstrFault → Type 0
IsItems script from (Ok None) = from ≡ length script
IsItems script from (Ok (Some next)) =
    (from < next.1) × (next.1 ≤ length script) × (items (drop from script) ≡ item_of next.0 ∷ items (drop next.1 script))
IsItems script from (Err fault) = items (drop from script) ≡ item.fault fault ∷ []

-- a byte that stands for the number -1 or 1 to 16
abbrev pub is_number_byte : ℕ → Bool
is_number_byte byte = byte == 0x4f || (nat_le 0x51 byte && nat_le byte 0x60)

-- such a byte begins a rest of a Script
abbrev pub begins_with_number : Bytes → Bool
begins_with_number [] = false
begins_with_number (byte ∷ rest) = is_number_byte byte

-- an instruction that is given as a small number
abbrev pub is_number : InstrRef → Bool
is_number (Push bytes minimal) = false
is_number (Small n) = true
is_number (Code op) = false

abbrev pub gives_number : Result (Option (InstrRef × ℕ)) InstrFault → Bool
gives_number (Ok None) = false
gives_number (Ok (Some next)) = is_number next.0
gives_number (Err fault) = false

abbrev pub takes_number : Result Read InstrFault → Bool
takes_number (Ok r) = is_number r.instr
takes_number (Err fault) = false

-- a small number is -1 or 1 to 16
abbrev pub IsSmallNumber : InstrRef → Type 0
IsSmallNumber (Push bytes minimal) = Unit {0}
IsSmallNumber (Small n) = (n ≡ negsuc 0) ⊎ ((pos 1 ≤ℤ n) × (n ≤ℤ pos 16))
IsSmallNumber (Code op) = Unit {0}

abbrev pub IsSmallNext : Result (Option (InstrRef × ℕ)) InstrFault → Type 0
IsSmallNext (Ok None) = Unit {0}
IsSmallNext (Ok (Some next)) = IsSmallNumber next.0
IsSmallNext (Err fault) = Unit {0}
