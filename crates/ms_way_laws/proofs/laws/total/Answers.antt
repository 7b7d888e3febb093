use Rattle.ms_way_laws.proofs.Named.{named_in, keys_once}
use Rattle.ms_way_laws.proofs.OfTree.{sane_locks}
use Rattle.ms_way_laws.proofs.Total.{total_is_count}
use Rattle.ms_way_laws.proofs.laws.total.Goals as goal

pub returns : goal.returns
returns c = λ tree settled writable is_sane is.
    total_is_count tree settled (sane_locks tree is_sane) is (named_in tree) (keys_once tree is_sane)
