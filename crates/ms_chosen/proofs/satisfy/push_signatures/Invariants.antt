use Rattle.std.proofs.Common.{◌≡◌, ◌++◌, List, Some, drop}
use Rattle.def_script.specs.Bytes.{Bytes}
use Rattle.ms_chosen.proofs.Pushed.{signed}
use Rattle.ms_chosen.proofs.satisfy.push_signatures.Given as goal

-- what is left to be pushed makes the whole
abbrev pub invariant-loop-place : goal.invariant-loop-place
invariant-loop-place l =
    (whole : List Bytes) → signed l.choice.last l.assets 0 l.keys ≡ Some whole →
    (rest : List Bytes) × (signed l.choice.last l.assets l.place (drop l.place l.keys) ≡ Some rest) × (l.fn.stack ++ whole ≡ l.stack ++ rest)
