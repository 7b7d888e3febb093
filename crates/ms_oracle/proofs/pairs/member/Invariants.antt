use Rattle.std.proofs.Common.{◌≡◌, drop}
use Rattle.def_machine.specs.Stacks.{member as the_member}
use Rattle.ms_oracle.proofs.pairs.member.Given as goal

abbrev pub invariant-loop-pair : goal.invariant-loop-pair
invariant-loop-pair l = the_member (drop l.pair-index l.table) l.key l.sig ≡ the_member l.table l.key l.sig
