-- Which reasons against a miniscript don't depend on its keys.
use Rattle.std.specs.Prelude.{◌≡◌, ℕ, IsUtf8, List, Option, Some, None, Ok}
use Rattle.def_script.specs.Bytes.{Bytes}
use Rattle.def_tree.specs.Tree.{Key, Tree}
use Rattle.def_tree.specs.Range.{IsWritable}
use Rattle.def_types.specs.Correctness.{correctness_of}
use Rattle.def_types.specs.Malleable.{malleability_of}
use Rattle.def_sane.specs.declared.Rules.{Rules}
use Rattle.def_sane.specs.declared.Unfit.{Unfit}
use Rattle.def_sane.specs.declared.Unfit.TheVariants as unfit
use Rattle.def_sane.specs.TheLimits.{the_limits}
use Rattle.def_sane.specs.Unfit.{first_unfit_under}
use Rattle.def_descriptor.specs.Answer.{Descriptor, Answers}
use Rattle.def_descriptor.specs.Gives.{expressions_of, keys_at, HasTree}
use Rattle.ms_key_laws.specs.WithoutKeys.{without_keys}

-- a reason, unless it is that a key is repeated
abbrev pub unless_repeated : Option Unfit → Option Unfit
unless_repeated (Some (unfit.RepeatedKey node)) = None
unless_repeated reason = reason

-- two trees that differ in their keys alone have the same type, limits and properties, and the same first reason against them under any rules, unless that
-- is a repeated key, which is the last one
pub record AreAsGood (tree other : Tree) : Type 0 where
  pub types : correctness_of tree ≡ correctness_of other
  pub limits : the_limits tree ≡ the_limits other
  pub properties : malleability_of tree ≡ malleability_of other
  pub reasons : (rules : Rules) → unless_repeated (first_unfit_under rules tree) ≡ unless_repeated (first_unfit_under rules other)

abbrev pub ReasonsDependOnNoKey : Type 0
ReasonsDependOnNoKey = (tree other : Tree) → IsWritable tree → IsWritable other → without_keys tree ≡ without_keys other → AreAsGood tree other

-- so have the trees of a descriptor at two places
abbrev pub PlacesAreAsGood : Type 0
PlacesAreAsGood =
    (text : Bytes) (own : Descriptor) (branch i other_branch j : ℕ) (keys others : List Key) (tree other : Tree) (offsets places : List ℕ) →
    IsUtf8 text → Answers text (Ok own) →
    keys_at branch i (expressions_of own.body) ≡ Ok keys → keys_at other_branch j (expressions_of own.body) ≡ Ok others →
    HasTree own.body keys tree offsets → HasTree own.body others other places → AreAsGood tree other
