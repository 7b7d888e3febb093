-- What is promised of the weight of a strict satisfaction.
use Rattle.std.specs.Prelude.{◌≡◌, ◌≤◌, List, Option, Some}
use Rattle.def_script.specs.Bytes.{Bytes}
use Rattle.def_tree.specs.Tree.{Tree}
use Rattle.def_assets.specs.Assets.{Assets}
use Rattle.def_script.specs.Witness.{weight}
use Rattle.def_satisfaction.specs.Satisfaction.{Sat}
use Rattle.def_choice.specs.NonMalleable.{NonMalleable}

-- where a canonical satisfaction that nobody can change exists, one was found, which weighs no more
abbrev pub IsLightestUnchanged : Tree → Assets → (found : Option (List Bytes)) → Type 0
IsLightestUnchanged tree assets found =
    (other : List Bytes) → Sat tree assets other → NonMalleable tree assets other →
    (stack : List Bytes) × (found ≡ Some stack) × (weight stack ≤ weight other)
