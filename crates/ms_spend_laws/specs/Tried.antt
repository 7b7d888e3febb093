-- Which inputs are Ready, and which are Unsatisfied.
use Rattle.std.specs.Prelude.{◌≡◌, ◌↔◌, false, List, Some, Ok}
use Rattle.def_script.specs.Bytes.{Bytes}
use Rattle.def_tree.specs.Tree.{Tree}
use Rattle.def_sane.specs.Unfit.{IsSane}
use Rattle.def_satisfaction.specs.Satisfaction.{Sat}
use Rattle.def_decode.specs.Decoded.{IsDecoded}
use Rattle.def_spend.specs.declared.State.{State}
use Rattle.def_spend.specs.declared.State.TheVariants as state
use Rattle.def_spend.specs.Fields.{signatures_in, keys_in, asked_type}
use Rattle.def_spend.specs.Good.{assets_of}
use Rattle.def_spend.specs.Reading.{Input, script_code}
use Rattle.def_spend.specs.States.{is_sighash_wrong, are_too_many, state_of}
use Rattle.ms_given_laws.specs.Given.{OfEachInput}

-- the input isn't final, and spends the program of its witness script, which is read as a sane miniscript; its signatures
-- are of the asked type, which is one of the six hash types where there is a signature, and there aren't too many signatures or
-- preimages
pub record IsTried (input : Input) (tree : Tree) (script : Bytes) : Type 0 where
  pub spends : script_code input.spend ≡ Ok script
  pub read : input.tree ≡ Some tree
  pub decoded : IsDecoded (keys_in input.spend.fields) script tree
  pub sane : IsSane tree
  pub types : is_sighash_wrong (asked_type input.spend.fields) (signatures_in input.spend.fields) ≡ false
  pub few : are_too_many input.spend.fields ≡ false

-- such an input, of whose tree and map this holds
abbrev pub IsTriedWith : Input → (Tree → Type 0) → Type 0
IsTriedWith input Holds = (tree : Tree) × (script : Bytes) × IsTried input tree script × Holds tree

-- an input is Ready exactly where it is such a one, and what its map holds makes a canonical satisfaction
abbrev pub ReadyExactly : Type 0
ReadyExactly =
    OfEachInput (λ input. (state_of input ≡ state.Ready)
    ↔ IsTriedWith input (λ tree. (stack : List Bytes) × Sat tree (assets_of input.spend) stack))

-- and Unsatisfied exactly where it is such a one, and that makes none
abbrev pub UnsatisfiedExactly : Type 0
UnsatisfiedExactly =
    OfEachInput (λ input. (state_of input ≡ state.Unsatisfied)
    ↔ IsTriedWith input (λ tree. (stack : List Bytes) → ¬ Sat tree (assets_of input.spend) stack))

-- what holds of each input in a state, and of the miniscript that it is read as
abbrev pub OfEachIn : State → (Input → Tree → Type 0) → Type 0
OfEachIn wanted Holds =
    OfEachInput (λ input. state_of input ≡ wanted → (tree : Tree) → input.tree ≡ Some tree → Holds input tree)
