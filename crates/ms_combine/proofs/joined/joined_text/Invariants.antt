use Rattle.std.proofs.Common.{◌-◌, ◌≤◌, List, All, length}
use Rattle.def_psbt.specs.Map.{Map}
use Rattle.ms_combine.specs.Scaffolding.Rows.{AreRows, rows_joined, first_of}
use Rattle.ms_combine.proofs.Rows.{Joining}
use Rattle.ms_combine.proofs.joined.joined_text.Given as goal

abbrev pub invariant-maps : goal.invariant-maps
invariant-maps l =
    All (λ place. place ≤ length l.bytes) l.places.items
    × ((row : List Map) (rows : List (List Map)) → AreRows l.bytes l.end l.fn.places.items row rows → Joining l.bytes l.end l.places.items l.out.items (rows_joined row rows))

abbrev pub decreases-maps : goal.decreases-maps
decreases-maps l = l.end - first_of l.places.items
