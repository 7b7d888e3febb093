-- What a descriptor gives at a branch and an index.
use Rattle.std.specs.Prelude.{◌≡◌, ⊤, ℕ, Bool, List, [], ◌∷◌, Option, Some, None, Ok, Err}
use Rattle.def_script.specs.Bytes.{Bytes}
use Rattle.def_tree.specs.Tree.{Key, Tree}
use Rattle.def_text.specs.Refusal.{TextReads}
use Rattle.def_emit.specs.Emit.{script_of}
use Rattle.def_machine.specs.Program.{program_of}
use Rattle.def_address.specs.declared.Network.{Network}
use Rattle.def_address.specs.Address.{address_of}
use Rattle.def_descriptor.specs.Parts.{Body, single}
use Rattle.def_descriptor.specs.Gives.{expressions_of, keys_at, text_of, HasTree, key_program, tree_program, output_of, address_at}
use Rattle.ms_descriptor.specs.declared.parts.Body.{Body as OwnBody}
use Rattle.ms_descriptor.specs.declared.parts.Body.TheVariants as own
use Rattle.ms_outputs.specs.declared.given.Given.{Given}
use Rattle.ms_outputs.specs.declared.given.Spelled.{Spelled}
use Rattle.ms_outputs.specs.declared.given.GivenFault.{GivenFault}
use Rattle.ms_outputs.specs.declared.given.GivenFault.TheVariants.{NoKey, Memory}

-- the Script of the tree of a text
pub record HasScript (text script : Bytes) : Type 0 where
  pub tree : Tree
  pub offsets : List ℕ
  pub reads : TextReads text tree offsets
  pub is : script ≡ script_of tree

-- a text has a tree
abbrev pub IsReadable : (text : Bytes) → Type 0
IsReadable text = (tree : Tree) × (offsets : List ℕ) × TextReads text tree offsets

-- so has that of a body, if it is a miniscript
abbrev pub IsReadableOf : OwnBody → (text : Bytes) → Type 0
IsReadableOf (own.Single expression) text = ⊤
IsReadableOf body text = IsReadable text

-- the Script of the text of a body: there is none of a single key
abbrev pub IsScripted : OwnBody → (text : Bytes) → (script : Option Bytes) → Type 0
IsScripted (own.Single expression) text script = script ≡ None
IsScripted body text None = ⊥
IsScripted body text (Some script) = HasScript text script

-- where there is no Script there is one key
abbrev pub HasKeyFor : (script : Option Bytes) → List Key → Type 0
HasKeyFor None keys = (key : Key) × (keys ≡ key ∷ [])
HasKeyFor (Some script) keys = ⊤

-- the program of a Script, or without one of the one key
abbrev pub IsProgramBy : (script : Option Bytes) → List Key → (program : Bytes) → Type 0
IsProgramBy None keys program = (key : Key) × (keys ≡ key ∷ []) × (program ≡ key_program key)
IsProgramBy (Some script) keys program = program ≡ program_of script

-- an output has an address on a network
abbrev pub HasAddress : Network → (output : Bytes) → Type 0
HasAddress network output = (address : Bytes) × (address_of network output ≡ Some address)

-- the Script and the program of a body with its keys: those of its tree, or the program of its single key
abbrev pub IsProgram : Body → List Key → (script : Option Bytes) → (program : Bytes) → Type 0
IsProgram (single expression) keys script program = (key : Key) × (keys ≡ key ∷ []) × (script ≡ None) × (program ≡ key_program key)
IsProgram body keys script program =
    (tree : Tree) × (offsets : List ℕ) × HasTree body keys tree offsets × (script ≡ Some (script_of tree)) × (program ≡ tree_program tree)

-- its keys, and the text of its miniscript with them
pub record IsSpelled (body : Body) (branch index : ℕ) (spelled : Spelled) : Type 0 where
  pub keys : keys_at branch index (expressions_of body) ≡ Ok spelled.keys.items
  pub text : spelled.text.items ≡ text_of body spelled.keys.items

-- its keys, the text of its miniscript, its Script and program, its output and the address of that
pub record IsGiven (body : Body) (under : Bool) (network : Option Network) (branch index : ℕ) (given : Given) : Type 0 where
  pub keys : keys_at branch index (expressions_of body) ≡ Ok given.keys.items
  pub text : given.text.items ≡ text_of body given.keys.items
  pub program : IsProgram body given.keys.items given.script given.program.items
  pub output : given.output.items ≡ output_of under given.program.items
  pub address : address_at network body given.output.items ≡ Some given.address.items

-- why it gives nothing: an expression has no key
abbrev pub IsNotGiven : Body → (branch index : ℕ) → GivenFault → Type 0
IsNotGiven body branch index (NoKey at) = keys_at branch index (expressions_of body) ≡ Err at
IsNotGiven body branch index Memory = ⊤
