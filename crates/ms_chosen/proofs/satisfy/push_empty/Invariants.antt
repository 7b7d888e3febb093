use Rattle.std.proofs.Common.{◌≡◌, ◌++◌, replicate}
use Rattle.def_satisfaction.specs.Rows.{EMPTY}
use Rattle.ms_chosen.proofs.satisfy.push_empty.Given as goal

abbrev pub invariant-loop : goal.invariant-loop
invariant-loop l = l.stack ≡ l.fn.stack ++ replicate l.counter EMPTY
