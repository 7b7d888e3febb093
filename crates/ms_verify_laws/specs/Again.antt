-- What `verify` says of what `finalize` wrote by the good signatures.
use Rattle.std.specs.Prelude.{◌≡◌, ℕ, true, List, slice_get, Some}
use Rattle.def_machine.specs.Stacks.{Pairs}
use Rattle.def_tree.specs.Tree.{Tree}
use Rattle.def_satisfaction.specs.Satisfaction.{Sat}
use Rattle.def_spend.specs.declared.Verification.{Verification}
use Rattle.def_spend.specs.declared.Verification.TheVariants.{Verified}
use Rattle.def_spend.specs.Good.{good_signatures, assets_of}
use Rattle.def_spend.specs.Hashes.{script_in}
use Rattle.def_spend.specs.Reading.{Input, AreInputs}
use Rattle.def_spend.specs.States.{state_of, is_ready, stack_of}
use Rattle.def_spend.specs.Finalized.{finalized}
use Rattle.def_verify.specs.Verdict.{verdict_of, valid}
use Rattle.ms_given_laws.specs.Given.{OfEachGiven}

-- ---- its final fields are valid

-- of the Script of the input as it was
pub record IsValidAgain (input later : Input) : Type 0 where
  pub checks : Pairs
  pub verdict : verdict_of later ≡ valid (script_in input.spend) checks

-- in the PSBT with each input that is Ready made final, which is what is read of the bytes that `finalize` writes, the input of its
-- number, whichever signatures count then
abbrev pub WrittenIsValid : Type 0
WrittenIsValid =
    OfEachGiven (λ psbt. (inputs : List Input) → AreInputs Verified psbt inputs → (verification : Verification) (again : List Input) →
    AreInputs verification (finalized psbt inputs) again → (number : ℕ) (input later : Input) → slice_get inputs number ≡ Some input →
    slice_get again number ≡ Some later → is_ready (state_of input) ≡ true → IsValidAgain input later)

-- ---- and good signatures are what it is satisfied with

-- a canonical satisfaction of what the input is read as, with no signatures but good ones of the map
pub record IsOfGood (input : Input) : Type 0 where
  pub tree : Tree
  pub read : input.tree ≡ Some tree
  pub signatures : (assets_of input.spend).pairs ≡ good_signatures input.spend
  pub satisfied : Sat tree (assets_of input.spend) (stack_of input)

abbrev pub WrittenIsOfGood : Type 0
WrittenIsOfGood =
    OfEachGiven (λ psbt. (inputs : List Input) → AreInputs Verified psbt inputs →
    (number : ℕ) (input : Input) → slice_get inputs number ≡ Some input → is_ready (state_of input) ≡ true → IsOfGood input)
