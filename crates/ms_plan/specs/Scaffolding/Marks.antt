-- Signatures that are told from all other items of a stack: two satisfactions with other signatures of the same lengths
-- differ in them alone.
use Rattle.std.specs.Prelude.{ℕ, ◌+◌, ◌-◌, Bool, false, List, [], ◌∷◌, replicate, if◌then◌else◌, Option, Some, None}
use Rattle.std.specs.List.{list_any}
use Rattle.std.specs.Str.{bytes_eq}
use Rattle.def_script.specs.Bytes.{Bytes}
use Rattle.def_machine.specs.Stacks.{Pairs}
use Rattle.def_tree.specs.Tree.{Key}
use Rattle.def_assets.specs.Assets.{Assets, sig_of}
use Rattle.def_plan.specs.Lengths.{Lengths}
use Rattle.ms_plan.specs.declared.marks.Marks.{Marks}
use Rattle.ms_plan.specs.declared.marks.Marks.TheVariants as marks

-- the byte that marks an entry: its place, or 255 less its place
abbrev pub mark_of : Marks → (place : ℕ) → ℕ
mark_of marks.Rising place = place
mark_of marks.Falling place = 255 - place

-- for each entry its key with a signature of its length, all of whose bytes are its mark
abbrev pub marked : Marks → (first : ℕ) → Lengths → Pairs
marked marks first [] = []
marked marks first (entry ∷ table) = (entry.0, replicate entry.1 (mark_of marks first)) ∷ marked marks (first + 1) table

-- the items of a stack in whose places another one has other items
abbrev pub differing : (stack other : List Bytes) → List Bytes
differing [] other = []
differing (item ∷ stack) [] = []
differing (item ∷ stack) (second ∷ other) = if bytes_eq item second then differing stack other else item ∷ differing stack other

-- the signature of a key is among these
abbrev pub has_item : List Bytes → Option Bytes → Bool
has_item items None = false
has_item items (Some sig) = list_any (λ item. bytes_eq item sig) items

abbrev pub signs : Assets → (signatures : List Bytes) → Key → Bool
signs assets signatures key = has_item signatures (sig_of assets key)
