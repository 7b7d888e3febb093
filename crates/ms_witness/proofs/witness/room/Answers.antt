use Rattle.std.proofs.Common.{◌≡◌, ◌+◌, ◌<◌, ◌≤◌, [], ◌∷◌, ◌++◌, length, take, sym, ap, subst, ◌∙◌, arith}
use Rattle.std.specs.List.{flat_map}
use Rattle.std.proofs.lemmas.List.{take_more, take_all}
use Rattle.def_script.specs.Bytes.{Bytes}
use Rattle.def_script.specs.Witness.{sized}
use Rattle.ms_witness.specs.Reading.{MOST_WITNESS}
use Rattle.ms_witness.proofs.Room.{one_more, whole}
use Rattle.ms_witness.proofs.witness.room.Goals as goal

pub loop-i-preserved : goal.loop-i-preserved
loop-i-preserved c =
    let below : c.loop-i.i < length c.args.stack.now = omega (arith, c.loop-i-test.true, c.len-i-end.ensures) in
    let short : length c.item.result.now ≤ MOST_WITNESS = subst (λ (b : Bytes). length b ≤ MOST_WITNESS) (sym c.item.ensures) (c.requires.items c.loop-i.i [] below) in
    let more : take (c.loop-i.i + 1) c.args.stack.now ≡ take c.loop-i.i c.args.stack.now ++ c.item.result.now ∷ [] =
    take_more c.args.stack.now c.loop-i.i [] below ∙ ap (λ (b : Bytes). take c.loop-i.i c.args.stack.now ++ b ∷ []) (sym c.item.ensures) in
    let longer = one_more (take c.loop-i.i c.args.stack.now) c.item.result.now short in
    record {
      enough = rw more (omega (arith, longer, c.loop-i.invariant.enough));
      small = omega (arith, short, c.loop-i.invariant.small);
    }

pub returns : goal.returns
returns c =
    let all : take c.loop-i.i c.args.stack.now ≡ c.args.stack.now = take_all c.loop-i.i c.args.stack.now (omega (arith, c.loop-i-test.false, c.len-i-end.ensures)) in
    let enough : length (flat_map sized c.args.stack.now) + (6 + length c.args.script.now) ≤ c.loop-i.room = rw all at c.loop-i.invariant.enough in
    omega (arith, enough, whole c.args.stack.now c.args.script.now c.requires)
