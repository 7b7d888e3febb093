-- What the texts and keys that a descriptor gives are, at any branch and index.
use Rattle.std.specs.Prelude.{◌≡◌, ℕ, IsUtf8, All, ⊤, List, length, map, Ok}
use Rattle.hex.specs.Hex.{encode_lower}
use Rattle.def_script.specs.Bytes.{Bytes}
use Rattle.def_tree.specs.Tree.{Key, Tree}
use Rattle.def_tree.specs.Range.{IsKey}
use Rattle.def_text.specs.Refusal.{TextReads}
use Rattle.def_descriptor.specs.Pieces.{Piece, text_with}
use Rattle.def_descriptor.specs.Parts.{Body, single}
use Rattle.def_descriptor.specs.Answer.{Descriptor, Answers}
use Rattle.def_descriptor.specs.Gives.{expressions_of, keys_at, text_of, HasTree}
use Rattle.ms_key_laws.specs.WithoutKeys.{without_keys}

-- texts of the same pieces, with as many keys in them, are read alike: if one has a tree, so has the other, one that differs in its keys alone and whose
-- nodes have the same offsets
abbrev pub TextsReadAlike : Type 0
TextsReadAlike =
    (pieces : List Piece) (keys others : List Key) (tree : Tree) (offsets : List ℕ) → All IsKey keys → All IsKey others → length keys ≡ length others →
    IsUtf8 (text_with (map encode_lower keys) pieces) → IsUtf8 (text_with (map encode_lower others) pieces) →
    TextReads (text_with (map encode_lower keys) pieces) tree offsets →
    (other : Tree) × TextReads (text_with (map encode_lower others) pieces) other offsets × (without_keys other ≡ without_keys tree)

-- each key that a descriptor gives has the form of one: 33 bytes, of which the first is 02 or 03
abbrev pub KeysHaveForm : Type 0
KeysHaveForm =
    (text : Bytes) (own : Descriptor) (branch i : ℕ) (keys : List Key) → Answers text (Ok own) → keys_at branch i (expressions_of own.body) ≡ Ok keys → All IsKey keys

-- the text of its miniscript with keys in it is in UTF-8
abbrev pub TextsAreUtf8 : Type 0
TextsAreUtf8 = (text : Bytes) (own : Descriptor) (keys : List Key) → IsUtf8 text → Answers text (Ok own) → IsUtf8 (text_of own.body keys)

-- a body has a tree with its keys, if it is a miniscript
abbrev pub HasSomeTree : Body → List Key → Type 0
HasSomeTree (single expression) keys = ⊤
HasSomeTree body keys = (tree : Tree) × (offsets : List ℕ) × HasTree body keys tree offsets

-- at each branch and index where each expression has a key, `msat` reads the text of the miniscript with these keys
abbrev pub TextsAreRead : Type 0
TextsAreRead =
    (text : Bytes) (own : Descriptor) (branch i : ℕ) (keys : List Key) → IsUtf8 text → Answers text (Ok own) →
    keys_at branch i (expressions_of own.body) ≡ Ok keys → HasSomeTree own.body keys

-- the trees of two places differ in their keys alone, and their nodes stand at the same offsets
abbrev pub TreesDifferInKeys : Type 0
TreesDifferInKeys =
    (text : Bytes) (own : Descriptor) (branch i other_branch j : ℕ) (keys others : List Key) (tree other : Tree) (offsets places : List ℕ) →
    IsUtf8 text → Answers text (Ok own) →
    keys_at branch i (expressions_of own.body) ≡ Ok keys → keys_at other_branch j (expressions_of own.body) ≡ Ok others →
    HasTree own.body keys tree offsets → HasTree own.body others other places → (without_keys tree ≡ without_keys other) × (offsets ≡ places)
