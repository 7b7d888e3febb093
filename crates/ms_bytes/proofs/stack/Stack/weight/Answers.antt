use Rattle.std.proofs.Common.{◌≡◌, ◌+◌, ◌^◌, ◌≤◌, length, ap, subst, sym, ◌∙◌, arith}
use Rattle.def_script.specs.Bytes.{Bytes}
use Rattle.def_script.specs.Witness.{weight}
use Rattle.ms_bytes.proofs.WeightLemmas.{front_step, front_light}
use Rattle.ms_bytes.proofs.stack.Stack.weight.Goals as goal

pub overflow_add-total-in-loop-item : goal.overflow_add-total-in-loop-item
overflow_add-total-in-loop-item c =
    let items = c.deref-item-items.result.now in
    let light : weight items ≤ 2 ^ 40 = subst (λ stack. weight stack ≤ 2 ^ 40) (sym (c.deref-item-items.ensures.value ∙ c.self.view_is)) c.requires in
    let size : length c.as_slice.result.now ≡ length c.item-item.result = ap (λ (x : Bytes). length x) c.as_slice.ensures in
    let step = front_step items c.loop-item.item-index c.item-item.result c.loop-item-test.true c.item-item.is in
    let most = front_light items (c.loop-item.item-index + 1) in
    record { fits = omega (arith, size, step, most, c.loop-item.invariant, light) }

pub loop-item-preserved : goal.loop-item-preserved
loop-item-preserved c =
    let size : length c.as_slice.result.now ≡ length c.item-item.result = ap (λ (x : Bytes). length x) c.as_slice.ensures in
    let step = front_step c.deref-item-items.result.now c.loop-item.item-index c.item-item.result c.loop-item-test.true c.item-item.is in
    omega (arith, size, step, c.loop-item.invariant)
