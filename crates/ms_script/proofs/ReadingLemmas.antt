-- The items of a Script after the one that was read.
use Rattle.std.proofs.Common.{◌≡◌, ℕ, ◌+◌, ◌-◌, ◌<◌, [], ◌∷◌, length, get_or, take, drop, Ok, Err, arith, refl, ◌∙◌, ap, drop-cons, add-one}
use Rattle.std.proofs.lemmas.List.{take_all, length-drop, drop-drop}
use Rattle.def_script.specs.declared.InstrFault.{InstrFault}
use Rattle.def_script.specs.Bytes.{Bytes}
use Rattle.def_script.specs.Item.{Item}
use Rattle.def_script.specs.Item as item
use Rattle.def_script.specs.Items.{first_item, items_after, items}
use Rattle.def_script.proofs.Reading.{items_after-drop}

-- what the bytes after one are, as a range gives them
pub range_from : (bytes : Bytes) (n : ℕ) → take (length bytes - n) (drop n bytes) ≡ drop n bytes
range_from bytes n = take_all (length bytes - n) (drop n bytes) (omega (arith, length-drop n bytes))

-- the rest of a Script at a byte of it
rest-cons : (script : Bytes) (from : ℕ) → from < length script → drop from script ≡ get_or script from 0 ∷ drop (from + 1) script
rest-cons script from there = rw add-one (drop-cons script from 0 there)

pub items-read : (script : Bytes) (from taken : ℕ) (read : Item) → from < length script
    → first_item (get_or script from 0) (drop (from + 1) script) ≡ Ok (read, taken)
    → items (drop from script) ≡ read ∷ items (drop (from + 1 + taken) script)
unfolding items_after
items-read script from taken read there is =
    rw (rest-cons script from there, is)
    (ap (λ rest. read ∷ rest) (items_after-drop taken (drop (from + 1) script) ∙ ap items (drop-drop taken (from + 1) script)))

pub items-unread : (script : Bytes) (from : ℕ) (fault : InstrFault) → from < length script
    → first_item (get_or script from 0) (drop (from + 1) script) ≡ Err fault
    → items (drop from script) ≡ item.fault fault ∷ []
unfolding items_after
items-unread script from fault there is = rw (rest-cons script from there, is) refl
