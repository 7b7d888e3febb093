use Rattle.std.proofs.Common.{suc, ◌-◌, ◌≤◌, length}
use Rattle.ms_psbt.specs.declared.repeats.Keys.TheVariants as keys
use Rattle.ms_psbt.specs.Scaffolding.Kinds.{forms_of}
use Rattle.ms_psbt.specs.Scaffolding.Repeats.{AreMarked, places_of}
use Rattle.ms_psbt.specs.Scaffolding.Walks.{walk_from}
use Rattle.ms_psbt.proofs.Walked.{Before, WalksOn}
use Rattle.ms_psbt.proofs.maps.walk.Given as goal

abbrev pub invariant-loop-next : goal.invariant-loop-next
invariant-loop-next l =
    (l.at ≤ length l.psbt) × Before (places_of l.places.items) l.at
    × WalksOn (forms_of l.kind) l.psbt l.at (places_of l.places.items) (walk_from (forms_of l.kind) l.psbt (suc (length l.psbt)) l.from)
    × AreMarked keys.Pairs l.psbt l.places.items

abbrev pub decreases-loop-next : goal.decreases-loop-next
decreases-loop-next l = length l.psbt - l.at
