-- The keys of a plan, one after the other.
use Rattle.std.proofs.Common.{◌≡◌, ℕ, List, refl}
use Rattle.std.specs.List.{flat_map}
use Rattle.def_script.specs.Bytes.{Bytes}
use Rattle.def_tree.specs.Tree.{Key}
use Rattle.def_plan.specs.Plan.{Plan}
use Rattle.ms_calls.specs.Asked.{Asked, asked}

pub asked_same : (plan : Plan) (list : List Key) (weight : ℕ) (keys : Bytes) → plan ≡ record { keys = list; weight = weight }
    → keys ≡ flat_map (λ (key : Key). key) list → ◌≡◌ {A = Asked} (asked plan) (record { keys = keys; weight = weight })
asked_same plan list weight keys is e = rw (is, e) refl
