-- Examples of witnesses as bytes.
use Rattle.std.specs.Prelude.{◌≡◌, [], ◌∷◌, map, Ok, Err}
use Rattle.ms_witness.specs.declared.fault.WitnessFault.TheVariants.{Truncated, NonMinimalSize, Empty, TooLong, Trailing}
use Rattle.ms_witness.specs.Reading.{read_witness}

-- the Script 1 alone, and above an empty item and an item of two bytes
abbrev pub SmallWitnesses : Type 0
SmallWitnesses =
    map read_witness ((0x01 ∷ 0x01 ∷ 0x51 ∷ []) ∷ (0x03 ∷ 0x00 ∷ 0x02 ∷ 0xaa ∷ 0xbb ∷ 0x01 ∷ 0x51 ∷ []) ∷ [])
    ≡ Ok ([], 0x51 ∷ []) ∷ Ok ([] ∷ (0xaa ∷ 0xbb ∷ []) ∷ [], 0x51 ∷ []) ∷ []

-- no byte, no item, a count of 1 in three bytes, a count of 10,001, an item that ends too early, and a
-- byte too many
abbrev pub WitnessFaults : Type 0
WitnessFaults =
    map read_witness
    ([] ∷ (0x00 ∷ []) ∷ (0xfd ∷ 0x01 ∷ 0x00 ∷ []) ∷ (0xfd ∷ 0x11 ∷ 0x27 ∷ []) ∷ (0x01 ∷ 0x02 ∷ 0xaa ∷ []) ∷ (0x01 ∷ 0x01 ∷ 0x51 ∷ 0x00 ∷ []) ∷ [])
    ≡ Err Truncated ∷ Err Empty ∷ Err NonMinimalSize ∷ Err TooLong ∷ Err Truncated ∷ Err Trailing ∷ []

-- the first place decides: no item before a byte too many; a length of 10,001 before the item's end;
-- a size of two spellings, which is read before its value is tested
abbrev pub FirstFaults : Type 0
FirstFaults =
    map read_witness ((0x00 ∷ 0x51 ∷ []) ∷ (0x01 ∷ 0xfd ∷ 0x11 ∷ 0x27 ∷ []) ∷ (0xfd ∷ 0x00 ∷ 0x00 ∷ []) ∷ (0xfd ∷ 0x00 ∷ []) ∷ [])
    ≡ Err Empty ∷ Err TooLong ∷ Err NonMinimalSize ∷ Err Truncated ∷ []
