use Rattle.std.proofs.Common.{rules, arith}
use Rattle.std.proofs.lemmas.Grind.{common_steps}
use Rattle.ms_io.specs.Calls.{no_call}
use Rattle.ms_io.proofs.MovesLemmas.{writes_more, writes_stop, offers_more}
use Rattle.ms_io.proofs.sink.put_all.Goals as goal

pub returns-in_default-clause-part : goal.returns-in_default-clause-part
returns-in_default-clause-part g c = writes_stop _ _ _ _ _ c.loop-rest.invariant.so_far c.in_default.ensures.bytes

pub returns-in_default-clause-offered_until : goal.returns-in_default-clause-offered_until
returns-in_default-clause-offered_until g c = record {
  now = c.loop-rest.sink;
  rest = c.loop-rest.rest.now;
  offered = c.loop-rest.invariant.offered;
  left = grind (arith, common_steps);
  failed = c.in_default.ensures.call;
}

pub loop-rest-init : goal.loop-rest-init
loop-rest-init g c = record { so_far = search rules; offered = no_call; later = search rules }

pub loop-rest-preserved : goal.loop-rest-preserved
loop-rest-preserved g c = record {
  so_far = writes_more _ _ _ _ _ _ c.loop-rest.invariant.so_far c.in-Ok.ensures.bytes;
  offered = offers_more _ _ _ _ _ _ _ c.loop-rest.invariant.offered (grind (arith, common_steps)) c.in-Ok.ensures.call;
  later = search rules;
}
