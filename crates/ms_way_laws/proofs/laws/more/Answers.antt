use Rattle.def_ways.specs.Enough.{policy_of}
use Rattle.ms_way_laws.proofs.More.{more_is_true, more_meet}
use Rattle.ms_way_laws.proofs.OfTree.{sane_locks}
use Rattle.ms_way_laws.proofs.laws.more.Goals as goal

pub returns : goal.returns
returns c = record {
  atoms = more_is_true;
  offers = more_meet;
  enough = λ tree offer more writable sane is are h e.
      more_meet (policy_of tree) offer more (sane_locks tree sane) (is.delay, is.moment) (are.delay, are.moment) h e;
}
