use Rattle.std.proofs.Common.{◌≡◌, drop}
use Rattle.std.specs.List.{list_any}
use Rattle.std.specs.Str.{bytes_eq}
use Rattle.ms_plan.proofs.marks.holds.Given as goal

abbrev pub invariant-loop-place : goal.invariant-loop-place
invariant-loop-place l = list_any (λ item. bytes_eq item l.sig) (drop l.place l.items) ≡ list_any (λ item. bytes_eq item l.sig) l.items
