-- The witness of a stack and a Script that are byte strings is one too.
use Rattle.std.proofs.Common.{ℕ, ◌≡◌, Bool, true, false, List, [], ◌∷◌, ◌++◌, length, refl, arith, if◌then◌else◌}
use Rattle.std.specs.Prelude.{◌^◌, nat_lt}
use Rattle.std.specs.List.{flat_map}
use Rattle.std.specs.Int.{w16, w32, w64, to_le_bytes}
use Rattle.def_script.specs.Bytes.{Bytes, IsBytes}
use Rattle.def_script.specs.Sizes.{size_bytes}
use Rattle.def_script.specs.Witness.{sized, witness_text}
use Rattle.def_lines.proofs.Lists.{Every, every_joined}
use Rattle.ms_line_laws.proofs.Scripts.{lt_of, no_bytes, more_bytes, joined_bytes, low_first}

pub size_is_bytes : (size : ℕ) → IsBytes (size_bytes size)
unfolding size_bytes
size_is_bytes size = by (nat_lt size 0xfd) refl
  where
    four : (b : Bool) → IsBytes (if b then 0xfe ∷ to_le_bytes w32 size else 0xff ∷ to_le_bytes w64 size)
    four true = more_bytes 0xfe (to_le_bytes w32 size) (omega arith) (low_first 0 4 size)
    four false = more_bytes 0xff (to_le_bytes w64 size) (omega arith) (low_first 0 8 size)

    two : (b : Bool) → IsBytes (if b then 0xfd ∷ to_le_bytes w16 size else if nat_lt size (2 ^ 32) then 0xfe ∷ to_le_bytes w32 size else 0xff ∷ to_le_bytes w64 size)
    two true = more_bytes 0xfd (to_le_bytes w16 size) (omega arith) (low_first 0 2 size)
    two false = four (nat_lt size (2 ^ 32))

    by : (b : Bool) → nat_lt size 0xfd ≡ b
        → IsBytes (if b then size ∷ []
        else if nat_lt size (2 ^ 16) then 0xfd ∷ to_le_bytes w16 size
        else if nat_lt size (2 ^ 32) then 0xfe ∷ to_le_bytes w32 size else 0xff ∷ to_le_bytes w64 size)
    by true e = let low = lt_of size 0xfd e in more_bytes size [] (omega (arith, low)) no_bytes
    by false e = two (nat_lt size (2 ^ 16))

items_are_bytes : (items : List Bytes) → Every IsBytes items → IsBytes (flat_map sized items)
items_are_bytes [] h = no_bytes
items_are_bytes (item ∷ items) h =
    joined_bytes (sized item) (flat_map sized items) (joined_bytes (size_bytes (length item)) item (size_is_bytes (length item)) h.0) (items_are_bytes items h.1)

pub witness_is_bytes : (stack : List Bytes) (script : Bytes) → Every IsBytes stack → IsBytes script → IsBytes (witness_text stack script)
witness_is_bytes stack script h s =
    let items = stack ++ script ∷ [] in
    joined_bytes (size_bytes (length items)) (flat_map sized items) (size_is_bytes (length items))
    (items_are_bytes items (every_joined IsBytes stack (script ∷ []) h (s, tt)))
