use Rattle.std.proofs.Common.{arith}
use Rattle.ms_writers.proofs.Joined.{on_ok, multi_done}
use Rattle.ms_writers.proofs.writing.add_multi.Goals as goal

pub returns : goal.returns
returns c = λ k.
    on_ok c.code.result
    (multi_done c.args.written.now c.push.new.self c.loop-key.written c.push-2.new.self c.code.new.self c.args.node k c.loop-key._key-index c.args.keys.now
    (omega (arith, c.loop-key-test.false)) c.in_ok-push.ensures c.loop-key.invariant c.in_ok-push-3.ensures)
    c.code.ensures
