use Rattle.std.proofs.Common.{◌≡◌, ◌≤◌, length, reverse, take}
use Rattle.ms_audit_laws.specs.Walk.{are_found}
use Rattle.ms_audit.proofs.Lefts.{between}
use Rattle.ms_audit.proofs.spend.Spend.are_found.Given as goal

abbrev pub invariant-loop-count : goal.invariant-loop-count
invariant-loop-count g l = record {
  bottom : l.bottom ≤ l.end;
  top : l.end ≤ length l.self.stack.now;
  count : l.count ≤ length l.keys;
  same :
      are_found (g.C.SignatureChecker.checker l.self.sigs.now) (reverse (take l.count l.keys)) (between l.self.stack.now l.bottom l.end)
      ≡ are_found (g.C.SignatureChecker.checker l.self.sigs.now) (reverse l.keys) (between l.self.stack.now l.bottom l.top);
}

abbrev pub decreases-loop-count : goal.decreases-loop-count
decreases-loop-count g l = l.count
