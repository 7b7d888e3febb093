use Rattle.std.proofs.Common.{◌≡◌, ◌-◌, ◌≤◌, length}
use Rattle.std.specs.List.{list_all}
use Rattle.def_machine.specs.Stacks.{is_empty}
use Rattle.ms_audit.proofs.Lefts.{between}
use Rattle.ms_audit.proofs.spend.Spend.are_empty.Given as goal

abbrev pub invariant-loop-end : goal.invariant-loop-end
invariant-loop-end g l = record {
  bottom : l.bottom ≤ l.end;
  top : l.end ≤ length l.self.stack.now;
  same : list_all is_empty (between l.self.stack.now l.bottom l.end) ≡ list_all is_empty (between l.self.stack.now l.bottom l.top);
}

abbrev pub decreases-loop-end : goal.decreases-loop-end
decreases-loop-end g l = l.end - l.bottom
