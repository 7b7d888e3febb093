-- What the letters of a type mean (BIP 379: z, o, n, d, u of correctness; s, f, e of malleability), over all
-- satisfactions and dissatisfactions of each node of a valid miniscript, as a miniscript of its own. What is valid
-- by the limits of policy is so by those of consensus.
use Rattle.std.specs.Prelude.{◌≡◌, ℕ, ◌≤◌, ◌⊎◌, IsTrue, false, List, [], ◌∷◌, ◌++◌, length, reverse, All, Contains, Ok}
use Rattle.def_hash.specs.declared.HashKind.{HashKind}
use Rattle.def_script.specs.Bytes.{Bytes, IsBytes}
use Rattle.def_machine.specs.declared.Locks.{Locks}
use Rattle.def_script.specs.Limits.{MAX_SCRIPT_ELEMENT_SIZE}
use Rattle.def_machine.specs.Stacks.{Stack, is_empty, member}
use Rattle.def_machine.specs.Machine.{Given, State, is_live}
use Rattle.def_tree.specs.Tree.{Tree, hash}
use Rattle.def_tree.specs.Range.{IsWritable}
use Rattle.def_types.specs.declared.Base.TheVariants.{B}
use Rattle.def_types.specs.declared.CorrectnessType.{CorrectnessType}
use Rattle.def_types.specs.declared.MalleabilityProperties.{MalleabilityProperties}
use Rattle.def_types.specs.Correctness.{correctness_of}
use Rattle.def_types.specs.Malleable.{malleability_of}
use Rattle.def_assets.specs.Assets.{Assets, known}
use Rattle.def_tree.specs.Nodes.{all_nodes}
use Rattle.def_sane.specs.declared.Rules.TheVariants.{Consensus}
use Rattle.def_sane.specs.Unfit.{IsValidUnder}
use Rattle.def_satisfaction.specs.Setting.{Mode, any, only}
use Rattle.def_satisfaction.specs.Rows.{ONE, IsNoPreimageOf}
use Rattle.def_satisfaction.specs.Satisfaction.{Dsat, FullSat, FullDsat}
use Rattle.def_promises.specs.Limited.{StopFrom, LeaveFrom}

-- no signature at all
abbrev pub without_signatures : Locks → Given
without_signatures locks = record { checker = member []; locks = locks }

-- z, zero-arg: every satisfaction and dissatisfaction has no item
abbrev pub ZeroArg : Tree → CorrectnessType → Type 0
ZeroArg node ty =
    (given : Given) (mode : Mode) (stack : List Bytes) → IsTrue ty.z →
    FullSat node given mode stack ⊎ FullDsat node given mode stack →
    length stack ≡ 0

-- o, one-arg: every one has one item
abbrev pub OneArg : Tree → CorrectnessType → Type 0
OneArg node ty =
    (given : Given) (mode : Mode) (stack : List Bytes) → IsTrue ty.o →
    FullSat node given mode stack ⊎ FullDsat node given mode stack →
    length stack ≡ 1

-- n, nonzero: every one has an item, and the top item of a satisfaction isn't empty
abbrev pub NonZero : Tree → CorrectnessType → Type 0
NonZero node ty =
    (given : Given) (mode : Mode) (stack : List Bytes) → IsTrue ty.n →
    (FullDsat node given mode stack → 1 ≤ length stack) ×
    (FullSat node given mode stack →
    (below : List Bytes) × (top : Bytes) × (stack ≡ below ++ top ∷ []) × (is_empty top ≡ false))

-- of each hash fragment some 32 bytes don't hash to the value
abbrev pub HashesCanBeMissed : Tree → Type 0
HashesCanBeMissed node =
    (kind : HashKind) (value : Bytes) → Contains (all_nodes node) (hash kind value) →
    (bytes : Bytes) × IsBytes bytes × IsNoPreimageOf kind value bytes

-- d, dissatisfiable: there is a dissatisfaction without a signature, and it consists of bytes
abbrev pub Dissatisfiable : Tree → CorrectnessType → Type 0
Dissatisfiable node ty =
    (locks : Locks) (mode : Mode) → IsTrue ty.d → HashesCanBeMissed node →
    (stack : List Bytes) × All IsBytes stack × FullDsat node (without_signatures locks) mode stack

-- u, unit: carried out from a stack that ends in a satisfaction, a miniscript of type B leaves the byte 1 in its place,
-- or stops at a limit. No element of the satisfaction is too long, since no run starts with such a one
abbrev pub UnitValue : Tree → CorrectnessType → Type 0
UnitValue node ty =
    (given : Given) (stack : List Bytes) (below : Stack) (s : State) (place : ℕ) → (ty.base ≡ B) → IsTrue ty.u →
    FullSat node given any stack → All (λ item. length item ≤ MAX_SCRIPT_ELEMENT_SIZE) stack →
    IsTrue (is_live s) → s.main ≡ reverse stack ++ below →
    StopFrom node given s place ⊎ LeaveFrom node given s place (ONE ∷ below)

-- the letters of correctness
pub record TypeLetters (node : Tree) (ty : CorrectnessType) : Type 0 where
  pub zero_arg : ZeroArg node ty
  pub one_arg : OneArg node ty
  pub non_zero : NonZero node ty
  pub dissatisfiable : Dissatisfiable node ty
  pub unit : UnitValue node ty

-- s, signed: every satisfaction needs a signature
abbrev pub Signed : Tree → MalleabilityProperties → Type 0
Signed node properties =
    (locks : Locks) (mode : Mode) (stack : List Bytes) → IsTrue properties.s →
    ¬ FullSat node (without_signatures locks) mode stack

-- f, forced: every dissatisfaction needs one
abbrev pub Forced : Tree → MalleabilityProperties → Type 0
Forced node properties =
    (locks : Locks) (mode : Mode) (stack : List Bytes) → IsTrue properties.f →
    ¬ FullDsat node (without_signatures locks) mode stack

-- e, expressive: with the known preimages alone there is one dissatisfaction without a signature; it is canonical
-- and consists of bytes
abbrev pub Expressive : Tree → MalleabilityProperties → Type 0
Expressive node properties =
    (locks : Locks) (assets : Assets) → IsTrue properties.e →
    (stack : List Bytes) × All IsBytes stack ×
    FullDsat node (without_signatures locks) (only (known assets)) stack ×
    Dsat node assets stack ×
    ((other : List Bytes) → FullDsat node (without_signatures locks) (only (known assets)) other → other ≡ stack)

-- the letters of malleability
pub record MalleabilityLetters (node : Tree) (properties : MalleabilityProperties) : Type 0 where
  pub signed : Signed node properties
  pub forced : Forced node properties
  pub expressive : Expressive node properties

-- each node has a type, and the letters of its type hold; where it has properties of malleability, theirs do
pub record Letters (tree : Tree) : Type 0 where
  pub types :
      (node : Tree) → Contains (all_nodes tree) node →
      (ty : CorrectnessType) × (correctness_of node ≡ Ok ty) × TypeLetters node ty
  pub properties :
      (node : Tree) (properties : MalleabilityProperties) → Contains (all_nodes tree) node → malleability_of node ≡ Ok properties →
      MalleabilityLetters node properties

-- of every miniscript that is valid under consensus
abbrev pub LettersHold : Type 0
LettersHold = (tree : Tree) → IsWritable tree → IsValidUnder Consensus tree → Letters tree
