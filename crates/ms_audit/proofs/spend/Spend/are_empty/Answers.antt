use Rattle.std.proofs.Common.{◌≡◌, ◌-◌, sym, ◌∙◌, arith, get_or, [], true, false}
use Rattle.def_machine.specs.Stacks.{is_empty}
use Rattle.ms_audit.proofs.Lefts.{empty_is, empty_step}
use Rattle.ms_audit.proofs.spend.Spend.are_empty.Goals as goal

pub returns-then-not-is_empty : goal.returns-then-not-is_empty
returns-then-not-is_empty g c =
    let e : is_empty (get_or c.args.self.now.stack.now (c.loop-end.end - 1) []) ≡ false = rw (← c.item.ensures) (empty_is c.item.result.now ∙ sym c.if-not-is_empty.ensures) in
    sym (empty_step c.args.self.now.stack.now c.args.bottom c.loop-end.end false c.loop-end-test.true c.loop-end.invariant.top e)
    ∙ c.loop-end.invariant.same

pub loop-end-preserved : goal.loop-end-preserved
loop-end-preserved g c =
    let e : is_empty (get_or c.args.self.now.stack.now (c.loop-end.end - 1) []) ≡ true = rw (← c.item.ensures) (empty_is c.item.result.now ∙ sym c.if-not-is_empty.ensures) in
    record {
      bottom = omega (arith, c.loop-end-test.true);
      top = omega (arith, c.loop-end.invariant.top);
      same =
          sym (empty_step c.args.self.now.stack.now c.args.bottom c.loop-end.end true c.loop-end-test.true c.loop-end.invariant.top e)
          ∙ c.loop-end.invariant.same;
    }
