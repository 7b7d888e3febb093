use Rattle.std.proofs.Common.{rules}
use Rattle.ms_held.proofs.FewHeld.{none_few}
use Rattle.ms_held.proofs.assets.Assets.new.Goals as goal

pub invariant_of-result : goal.invariant_of-result
invariant_of-result c = rw (c.new.ensures, c.new-2.ensures.items) (none_few c.args.locks (search rules) (search rules) (search rules))
