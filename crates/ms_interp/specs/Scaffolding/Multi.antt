-- What the parts of CHECKMULTISIG answer.
use Rattle.std.specs.Prelude.{Bool, Option}
use Rattle.def_machine.specs.Stacks.{Pairs}
use Rattle.ms_interp.specs.declared.multi_sig.Judged.{Judged}

abbrev pub found_by : Option Pairs → Option Pairs
found_by found = found

abbrev pub judged_seen : Judged → Bool × Pairs
judged_seen judged = (judged.passed, judged.found)
