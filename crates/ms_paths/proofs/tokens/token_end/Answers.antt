-- One byte more, and the last one.
use Rattle.std.proofs.Common.{arith, sym, ◌∙◌}
use Rattle.ms_paths.proofs.Places.{first_at, loop_begins, loop_goes, loop_stops, loop_ends}
use Rattle.ms_paths.proofs.tokens.token_end.Goals as goal

pub loop-end-init : goal.loop-end-init
loop-end-init c = record {
  above = omega arith;
  within = omega arith;
  length = loop_begins c.args.text.now c.args.at;
}

pub loop-end-preserved : goal.loop-end-preserved
loop-end-preserved c = record {
  above = omega (arith, c.loop-end.invariant.above);
  within = omega arith;
  length =
      loop_goes c.args.text.now c.loop-end.end _ (omega (arith, c.loop-end.invariant.above)) (omega arith) (sym c.belongs.ensures ∙ c.if-not-belongs.false)
      c.loop-end.invariant.length;
}

pub returns-then-not-belongs-clause-token : goal.returns-then-not-belongs-clause-token
returns-then-not-belongs-clause-token c =
    first_at c.args.text.now c.args.at c.loop-end.end (omega arith)
    (loop_stops c.args.text.now c.args.at c.loop-end.end c.loop-end.invariant.above (omega arith) (sym c.belongs.ensures ∙ c.if-not-belongs.true)
    c.loop-end.invariant.length)

pub returns-clause-token : goal.returns-clause-token
returns-clause-token c =
    first_at c.args.text.now c.args.at c.loop-end.end (omega arith)
    (loop_ends c.args.text.now c.args.at c.loop-end.end c.loop-end.invariant.above (omega arith) c.loop-end.invariant.length)
