use Rattle.std.proofs.Common.{◌≡◌, [], ◌++◌, length}
use Rattle.def_psbt.specs.Laws.{IsSoundMap}
use Rattle.def_psbt.specs.Listed.{global_form}
use Rattle.def_psbt.specs.Map.{Map, magic, map_text}
use Rattle.ms_combine.proofs.Telling.{Leaving}
use Rattle.ms_combine.proofs.versions.version_in.Given as goal

abbrev pub invariant-pairs : goal.invariant-pairs
invariant-pairs l = (global : Map) → l.before_inputs ≡ magic ++ map_text global → IsSoundMap global_form [] global → Leaving l.left global

abbrev pub decreases-pairs : goal.decreases-pairs
decreases-pairs l = length l.left
