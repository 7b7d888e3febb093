use Rattle.std.proofs.Common.{◌≡◌, ◌++◌, length}
use Rattle.std.specs.List.{flat_map}
use Rattle.std.specs.Prelude.{filter}
use Rattle.def_psbt.specs.Map.{pair_text}
use Rattle.def_spend.specs.Finalized.{is_kept}
use Rattle.ms_psbt_write.proofs.maps.push_kept.Given as goal

abbrev pub invariant-loop-pair : goal.invariant-loop-pair
invariant-loop-pair l = l.out.items ++ flat_map pair_text (filter is_kept l.left) ≡ l.fn.out.items ++ flat_map pair_text (filter is_kept l.fn.map)

abbrev pub decreases-loop-pair : goal.decreases-loop-pair
decreases-loop-pair l = length l.left
