-- Which keys to ask for a signature where the map's are not enough.
use Rattle.std.specs.Prelude.{ℕ, not, List, length, map, filter, is_some, Option, Some, None}
use Rattle.def_script.specs.Bytes.{Bytes}
use Rattle.def_script.specs.Signature.{MAX_SIGNATURE_SIZE}
use Rattle.def_tree.specs.Tree.{Key, Tree}
use Rattle.def_assets.specs.Assets.{Assets, sig_of}
use Rattle.def_sane.specs.Keys.{keys}
use Rattle.def_plan.specs.Lengths.{Lengths}
use Rattle.def_plan.specs.Plan.{Plan, plan_of}

-- the length of the signature that a key has, or the greatest where it has none
abbrev pub length_by : Option Bytes → ℕ
length_by None = MAX_SIGNATURE_SIZE
length_by (Some sig) = length sig

-- each key of the miniscript can sign
abbrev pub lengths_of : Tree → Assets → Lengths
lengths_of tree assets = map (λ key. (key, length_by (sig_of assets key))) (keys tree)

-- the plan under the locks and preimages
abbrev pub plan_with : Tree → Assets → Option Plan
plan_with tree assets = plan_of tree assets (lengths_of tree assets)

-- the keys that have no signature
abbrev pub unsigned_keys : Assets → List Key → List Key
unsigned_keys assets = filter (λ key. not (is_some (sig_of assets key)))
