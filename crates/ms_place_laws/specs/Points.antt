-- What is so of the keys, programs and addresses that a descriptor gives.
use Rattle.std.specs.Prelude.{◌≡◌, ◌⊎◌, ℕ, Bool, IsTrue, All, List, ◌∷◌, Some, None, Ok, Err}
use Rattle.def_script.specs.Bytes.{Bytes}
use Rattle.def_tree.specs.Tree.{Key, Tree}
use Rattle.def_address.specs.declared.Network.{Network}
use Rattle.def_address.specs.Address.{address_of, script_at}
use Rattle.def_descriptor.specs.declared.DescriptorFault.TheVariants.{Private}
use Rattle.def_descriptor.specs.Token.{Token, token}
use Rattle.def_descriptor.specs.ReadKey.{Seen, extended_word, is_private, read_named}
use Rattle.def_descriptor.specs.Answer.{Descriptor, Answers}
use Rattle.def_descriptor.specs.Gives.{expressions_of, keys_at, key_program, tree_program, output_of}
use Rattle.ms_key_laws.specs.Public.{HasPoint}

-- each key that a descriptor gives is that of a point of the curve
abbrev pub KeysHavePoints : Type 0
KeysHavePoints =
    (text : Bytes) (own : Descriptor) (branch i : ℕ) (keys : List Key) → Answers text (Ok own) → keys_at branch i (expressions_of own.body) ≡ Ok keys → All HasPoint keys

-- in the place of a key, what looks like a private one is refused as such, unless it is the text of an extended public key
abbrev pub PrivateIsRefused : Type 0
PrivateIsRefused =
    (seen : Seen) (at : ℕ) (word : Bytes) (ts : List Token) → IsTrue (is_private word) → extended_word word ≡ None →
    read_named seen (token at word ∷ ts) ≡ Err (Private at)

-- the program of a key, or that of a tree
abbrev pub IsProgram : Bytes → Type 0
IsProgram program = ((key : Key) × (program ≡ key_program key)) ⊎ ((tree : Tree) × (program ≡ tree_program tree))

-- the address of a descriptor's output gives the output's script
abbrev pub AddressesGiveOutputs : Type 0
AddressesGiveOutputs =
    (network : Network) (under : Bool) (program address : Bytes) → IsProgram program → address_of network (output_of under program) ≡ Some address →
    script_at network address ≡ Some (output_of under program)

-- so two different outputs of descriptors have no address in common
abbrev pub AddressesAreOfOneOutput : Type 0
AddressesAreOfOneOutput =
    (network : Network) (under below : Bool) (program other address : Bytes) → IsProgram program → IsProgram other →
    address_of network (output_of under program) ≡ Some address → address_of network (output_of below other) ≡ Some address → output_of under program ≡ output_of below other
