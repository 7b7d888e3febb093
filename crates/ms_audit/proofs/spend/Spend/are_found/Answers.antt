use Rattle.std.proofs.Common.{◌<◌, ◌-◌, [], true, false, sym, ◌∙◌, arith}
use Rattle.std.proofs.lemmas.List.{get_or_read}
use Rattle.ms_audit.proofs.Lefts.{try_key, tried_all}
use Rattle.ms_audit.proofs.spend.Spend.are_found.Goals as goal

pub loop-count-preserved-then-is_good : goal.loop-count-preserved-then-is_good
loop-count-preserved-then-is_good g c =
    let keys = c.args.keys.now in
    let stack = c.args.self.now.stack.now in
    let checker = g.C.SignatureChecker.checker c.args.self.now.sigs.now in
    let i = c.loop-count.invariant in
    let some : c.args.bottom < c.loop-count.end = omega (arith, c.if-end-bottom.false, i.bottom) in
    record {
      bottom = omega (arith, some);
      top = omega (arith, i.top);
      count = omega (arith, i.count);
      same =
          sym (try_key checker keys stack c.loop-count.count c.args.bottom c.loop-count.end true c.as_bytes.result.now c.item.result.now c.loop-count-test.true i.count some i.top
          (c.as_bytes.ensures.bytes ∙ get_or_read keys (c.loop-count.count - 1) c.index-keys-count.result
          (omega (arith, i.count, c.loop-count-test.true)) c.index-keys-count.is []) c.item.ensures (sym c.is_good.ensures ∙ c.if-is_good.true))
          ∙ i.same;
    }

pub loop-count-preserved : goal.loop-count-preserved
loop-count-preserved g c =
    let keys = c.args.keys.now in
    let stack = c.args.self.now.stack.now in
    let checker = g.C.SignatureChecker.checker c.args.self.now.sigs.now in
    let i = c.loop-count.invariant in
    let some : c.args.bottom < c.loop-count.end = omega (arith, c.if-end-bottom.false, i.bottom) in
    record {
      bottom = i.bottom;
      top = i.top;
      count = omega (arith, i.count);
      same =
          sym (try_key checker keys stack c.loop-count.count c.args.bottom c.loop-count.end false c.as_bytes.result.now c.item.result.now c.loop-count-test.true i.count some i.top
          (c.as_bytes.ensures.bytes ∙ get_or_read keys (c.loop-count.count - 1) c.index-keys-count.result
          (omega (arith, i.count, c.loop-count-test.true)) c.index-keys-count.is []) c.item.ensures (sym c.is_good.ensures ∙ c.if-is_good.false))
          ∙ i.same;
    }

pub returns : goal.returns
returns g c =
    let i = c.loop-count.invariant in
    sym (tried_all (g.C.SignatureChecker.checker c.args.self.now.sigs.now) c.args.keys.now c.args.self.now.stack.now c.loop-count.count c.args.bottom
    c.loop-count.end c.loop-count-test.false i.bottom i.top) ∙ i.same
