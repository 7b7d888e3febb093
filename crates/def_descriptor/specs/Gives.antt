-- What a descriptor gives at a branch and an index.
use Rattle.std.specs.Prelude.{◌≡◌, ℕ, ◌==◌, nat_lt, Bool, true, false, if◌then◌else◌, List, [], ◌∷◌, ◌++◌, map, take, slice_index, Option, Some, None, Result, Ok, Err}
use Rattle.std.specs.List.{list_any}
use Rattle.std.specs.Option.{option_map, option_and_then, unwrap_or}
use Rattle.hex.specs.Hex.{encode_lower}
use Rattle.def_hash.specs.Hash.{hash160}
use Rattle.def_script.specs.Bytes.{Bytes}
use Rattle.def_machine.specs.Program.{program_of}
use Rattle.def_tree.specs.Tree.{Key, Tree}
use Rattle.def_text.specs.Refusal.{TextReads}
use Rattle.def_emit.specs.Emit.{script_of}
use Rattle.def_curve.specs.Key.{number_of}
use Rattle.def_curve.specs.Encoding.{compressed}
use Rattle.def_derive.specs.Child.{node_of, descendant}
use Rattle.def_address.specs.declared.Network.{Network}
use Rattle.def_address.specs.declared.Network.TheVariants.{Main, Test}
use Rattle.def_address.specs.Address.{hash_output, address_of}
use Rattle.def_descriptor.specs.Expression.{Origin, Way, number, branches, index, Named, point, extended, Expression}
use Rattle.def_descriptor.specs.ReadKey.{NOTHING_SEEN, seen_with, Seen}
use Rattle.def_descriptor.specs.Pieces.{Piece, expressions, text_with, place_of}
use Rattle.def_descriptor.specs.Parts.{Body, miniscript, sorted, single}

-- ---- what stands in it

abbrev pub expressions_of : Body → List Expression
expressions_of (miniscript ps) = expressions ps
expressions_of (sorted ps) = expressions ps
expressions_of (single expression) = expression ∷ []

-- whether a key goes by the index
abbrev pub is_index : Way → Bool
is_index index = true
is_index way = false

abbrev pub goes_by_index : Named → Bool
goes_by_index (point key) = false
goes_by_index (extended key ways) = list_any is_index ways

abbrev pub is_ranged : Body → Bool
is_ranged body = list_any (λ expression. goes_by_index expression.named) (expressions_of body)

-- what all its keys fix
abbrev pub seen_in : Seen → List Expression → Seen
seen_in seen [] = seen
seen_in seen (expression ∷ rest) = seen_in (seen_with seen expression) rest

-- the length of its multipaths: 1 without any (BIP 389)
abbrev pub branch_count : Body → ℕ
branch_count body = unwrap_or (seen_in NOTHING_SEEN (expressions_of body)).length 1

-- ---- keys (BIP 32)

-- the numbers of a key's own steps
abbrev pub number_at : (branch i : ℕ) → Way → ℕ
number_at branch i (number n) = n
number_at branch i (branches numbers) = slice_index numbers branch
number_at branch i index = i

-- the key of an expression: none where one of its steps has none
abbrev pub key_at : (branch i : ℕ) → Named → Option Key
key_at branch i (point key) = Some key
key_at branch i (extended key ways) =
    option_map (λ node. compressed node.point) (option_and_then (descendant (map (number_at branch i) ways)) (node_of key))

-- where it comes from: the fingerprint and all steps. Without an origin the fingerprint is that of the key as it stands there
abbrev pub own_print : Named → Bytes
own_print (point key) = take 4 (hash160 key)
own_print (extended key ways) = take 4 (hash160 key.key)

abbrev pub own_steps : (branch i : ℕ) → Named → List ℕ
own_steps branch i (point key) = []
own_steps branch i (extended key ways) = map (number_at branch i) ways

abbrev pub written_origin : Option Origin → Named → Origin
written_origin None named = record { print = own_print named; steps = [] }
written_origin (Some origin) named = origin

abbrev pub origin_at : (branch i : ℕ) → Expression → Origin
origin_at branch i expression =
    let origin = written_origin expression.origin expression.named in
    record { print = origin.print; steps = origin.steps ++ own_steps branch i expression.named }

-- the keys of some expressions, or the offset of the first that has none
abbrev pub with_key : (at : ℕ) → Option Key → Result (List Key) ℕ → Result (List Key) ℕ
with_key at None keys = Err at
with_key at (Some key) (Ok keys) = Ok (key ∷ keys)
with_key at (Some key) (Err later) = Err later

abbrev pub keys_at : (branch i : ℕ) → List Expression → Result (List Key) ℕ
keys_at branch i [] = Ok []
keys_at branch i (expression ∷ rest) = with_key expression.at (key_at branch i expression.named) (keys_at branch i rest)

-- ---- the text and the tree of a miniscript

-- keys in the order of their bytes (BIP 67): all have as many, so it is that of their numbers
abbrev pub with_sorted : Key → List Key → List Key
with_sorted key [] = key ∷ []
with_sorted key (first ∷ keys) = if nat_lt (number_of first) (number_of key) then first ∷ with_sorted key keys else key ∷ first ∷ keys

abbrev pub in_order : List Key → List Key
in_order [] = []
in_order (key ∷ keys) = with_sorted key (in_order keys)

-- the text that `msat` takes, with each key's digits in the place of its expression
abbrev pub text_of : Body → List Key → Bytes
text_of (miniscript ps) keys = text_with (map encode_lower keys) ps
text_of (sorted ps) keys = text_with (map encode_lower (in_order keys)) ps
text_of (single expression) keys = []

-- its tree, whose nodes have their offsets in the descriptor
abbrev pub pieces_in : Body → List Piece
pieces_in (miniscript ps) = ps
pieces_in (sorted ps) = ps
pieces_in (single expression) = []

abbrev pub HasTree : Body → List Key → Tree → (offsets : List ℕ) → Type 0
HasTree body keys tree offsets =
    (own : List ℕ) × TextReads (text_of body keys) tree own × (offsets ≡ map (place_of 0 (pieces_in body)) own)

-- ---- the output (BIPs 141, 16) and its address

-- the program of a key, and that of a tree (BIP 141)
abbrev pub key_program : Key → Bytes
key_program key = 0x00 ∷ 0x14 ∷ hash160 key

abbrev pub tree_program : Tree → Bytes
tree_program tree = program_of (script_of tree)

-- the output's script of a program: with `sh` that of its hash
abbrev pub output_of : (under : Bool) → (program : Bytes) → Bytes
output_of true program = hash_output (hash160 program)
output_of false program = program

-- the network of a descriptor: that of test where it has a `tpub`
abbrev pub network_by : Option ℕ → Network
network_by None = Main
network_by (Some version) = if version == 0x043587cf then Test else Main

abbrev pub network_of : Body → Network
network_of body = network_by (seen_in NOTHING_SEEN (expressions_of body)).version

-- the address of an output, on the network that is asked, or on its own one
abbrev pub asked : Option Network → Body → Network
asked None body = network_of body
asked (Some network) body = network

abbrev pub address_at : Option Network → Body → (output : Bytes) → Option Bytes
address_at network body output = address_of (asked network body) output
