use Rattle.ms_way_laws.proofs.Named.{named_in, keys_once, policy_named, named_once}
use Rattle.ms_way_laws.proofs.OfTree.{sane_locks}
use Rattle.ms_way_laws.proofs.Ordered.{reckoned_are_ways}
use Rattle.ms_way_laws.proofs.laws.reckoned.Goals as goal

pub returns : goal.returns
returns c = λ tree settled writable is_sane is.
    reckoned_are_ways tree settled (sane_locks tree is_sane) is (named_in tree) (keys_once tree is_sane) (policy_named tree) (named_once tree is_sane)
