use Rattle.std.proofs.Common.{◌≡◌, take, true}
use Rattle.std.specs.List.{list_all}
use Rattle.def_machine.specs.Stacks.{is_empty}
use Rattle.ms_interp.proofs.multi_sig.all_empty.Given as goal

abbrev pub invariant-loop-sig : goal.invariant-loop-sig
invariant-loop-sig l = list_all is_empty (take l.sig-index l.signatures) ≡ true
