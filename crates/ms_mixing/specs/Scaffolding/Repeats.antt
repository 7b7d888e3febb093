-- Repeated keys, as they stand side by side in working room: each key with the number of its node, in two slots.
use Rattle.std.specs.Prelude.{ℕ, ◌+◌, Bool, ◌&&◌, nat_eq, List, [], ◌∷◌, ◌++◌, map, get_or, take, drop, slice_index, ℤ, pos, Option, Some, None, if◌then◌else◌}
use Rattle.std.specs.List.{list_any}
use Rattle.std.specs.Int.{w64, cast_signed, cast_unsigned, from_be_bytes}
use Rattle.def_tree.specs.Tree.{Tree, Trees, Key, just_0, just_1, pk_k, pk_h, older, after, hash, and_or, two, thresh, multi, wrap, none, more}
use Rattle.def_tree.specs.Size.{nodes}
use Rattle.ms_choice.specs.declared.slot.Slot.{Slot}

-- these keys of the node of this number
abbrev pub held_by : (node : ℕ) → List Key → List (ℕ × Key)
held_by node = map (λ key. (node, key))

-- the keys of a tree and of some trees with the numbers of their nodes, which are numbered from `node` on
abbrev mutual
  pub held : (node : ℕ) → Tree → List (ℕ × Key)
  held node just_0 = []
  held node just_1 = []
  held node (pk_k key) = held_by node (key ∷ [])
  held node (pk_h key) = held_by node (key ∷ [])
  held node (older m) = []
  held node (after m) = []
  held node (hash kind value) = []
  held node (and_or x y z) = held node x ++ held (node + nodes x) y ++ held (node + nodes x + nodes y) z
  held node (two kind x y) = held node x ++ held (node + nodes x) y
  held node (thresh k xs) = held_in node xs
  held node (multi k own) = held_by node own
  held node (wrap wrapper x) = held node x

  pub held_in : (node : ℕ) → Trees → List (ℕ × Key)
  held_in node none = []
  held_in node (more x xs) = held node x ++ held_in (node + nodes x) xs

-- eight bytes of a key as a number
abbrev pub word : List ℕ → ℤ
word bytes = cast_signed w64 (from_be_bytes w64 bytes)

-- a key in two slots: its first 24 bytes, and the other nine with the number of its node
abbrev pub head_of : Key → Slot
head_of key = record { first = word (take 8 key); second = word (take 8 (drop 8 key)); third = word (take 8 (drop 8 (drop 8 key))); place = 0 }

abbrev pub tail_of : (node : ℕ) → Key → Slot
tail_of node key = record { first = word (take 8 (drop 8 (drop 8 (drop 8 key)))); second = cast_signed w64 (slice_index key 32); third = pos 0; place = node }

abbrev pub entry : ℕ × Key → List Slot
entry held = head_of held.1 ∷ tail_of held.0 held.1 ∷ []

-- the two slots of an entry (what stands for a slot past the end has no meaning)
abbrev pub NOTHING : Slot
NOTHING = record { first = pos 0; second = pos 0; third = pos 0; place = 0 }

abbrev pub head : List Slot → Slot
head slots = get_or slots 0 NOTHING

abbrev pub tail : List Slot → Slot
tail slots = get_or slots 1 NOTHING

-- two numbers of 64 bits are the same, and two entries in all five numbers of a key
abbrev pub is_equal : ℤ → ℤ → Bool
is_equal x y = nat_eq (cast_unsigned w64 x) (cast_unsigned w64 y)

abbrev pub is_same : List Slot → List Slot → Bool
is_same x y =
    is_equal (head x).first (head y).first && is_equal (head x).second (head y).second && is_equal (head x).third (head y).third &&
    is_equal (tail x).first (tail y).first && is_equal (tail x).second (tail y).second

-- the node of the first entry whose key stands before
abbrev pub repeats_first : (before : List (List Slot)) → List (List Slot) → Option ℕ
repeats_first before [] = None
repeats_first before (x ∷ rest) = if list_any (is_same x) before then Some ((tail x).place) else repeats_first (before ++ x ∷ []) rest
