use Rattle.ms_way_laws.proofs.OfTree.{sane_locks}
use Rattle.ms_way_laws.proofs.Tried.{tried_are_ways, each_has_way}
use Rattle.ms_way_laws.proofs.laws.tried.Goals as goal

pub returns : goal.returns
returns c = record {
  ways = λ tree writable sane. tried_are_ways tree (sane_locks tree sane);
  each = λ tree offer writable sane fits enough. each_has_way tree (sane_locks tree sane) offer fits enough;
}
