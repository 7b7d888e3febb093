use Rattle.std.proofs.Common.{◌≡◌, nat_le, length, take, true}
use Rattle.std.specs.List.{list_all}
use Rattle.def_script.specs.Bytes.{Bytes}
use Rattle.ms_interp.proofs.runs.all_fit.Given as goal

abbrev pub invariant-loop-i : goal.invariant-loop-i
invariant-loop-i l = list_all (λ (x : Bytes). nat_le (length x) 520) (take l.i l.stack) ≡ true
