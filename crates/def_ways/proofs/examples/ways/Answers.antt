-- The ways, each computed.
use Rattle.std.proofs.Common.{refl}
use Rattle.def_machine.specs.Locks.{older_holds, after_holds}
use Rattle.def_ways.specs.Tried.{ways}
use Rattle.def_ways.proofs.examples.ways.Goals as goal

pub returns : goal.returns
unfolding older_holds after_holds ways
returns c = record {
  key_or_later_key = refl;
  two_of_three = refl;
  locks_of_one_kind = refl;
  lock_of_no_blocks = refl;
  locks_of_both_units = refl;
  relative_and_absolute = refl;
  hash_value_twice = refl;
  hash_value_first = refl;
  no_way = refl;
  settings = (refl, refl);
}
