use Rattle.std.proofs.Common.{◌∷◌, ◌∙◌, length, arith}
use Rattle.ms_height.proofs.Marks.{above_few, above_inside, excess_most}
use Rattle.ms_height.proofs.sums.Top.add.Goals as goal

pub note-requires-clause-told : goal.note-requires-clause-told
note-requires-clause-told c = let t = c.requires.told in (t.1, t.2.counted, t.3)

pub meet-requires-clause-above : goal.meet-requires-clause-above
meet-requires-clause-above c =
    let t = c.requires.told in omega (arith, t.2.rising.above, above_few c.args.self.now.mark t.1, t.3)

pub meet-requires-clause-excess : goal.meet-requires-clause-excess
meet-requires-clause-excess c =
    let t = c.requires.told in
    omega (arith, c.requires.small, t.3, t.2.rising.excess, excess_most c.args.self.now.mark t.1 t.2.counted.small)

pub raise-requires-clause-told : goal.raise-requires-clause-told
raise-requires-clause-told c =
    let t = c.requires.told in
    (c.args.number ∷ t.1, c.loop-self.invariant.rising t.0 t.1 t.2 t.3, c.note.ensures.counted t.1 t.2.counted t.3)

pub loop-self-smaller : goal.loop-self-smaller
loop-self-smaller c =
    let t = c.requires.told in
    let rising = c.loop-self.invariant.rising t.0 t.1 t.2 t.3 in
    let counted = c.note.ensures.counted t.1 t.2.counted t.3 in
    let inside = above_inside c.loop-self.self.mark (length c.note.new.counts) (c.args.number ∷ t.1) counted.inside (omega (arith, rising.above, c.loop-self-test.true)) in
    omega (arith, inside, c.raise.ensures.mark)

pub loop-self-preserved : goal.loop-self-preserved
loop-self-preserved c = record {
  rising = λ n xs is few. c.raise.ensures.rising (c.args.number ∷ xs) (c.loop-self.invariant.rising n xs is few) (c.note.ensures.counted xs is.counted few);
  count = c.raise.ensures.count ∙ c.loop-self.invariant.count;
}

pub returns : goal.returns
returns c = λ n xs is few. record {
  counted = c.note.ensures.counted xs is.counted few;
  rising = c.loop-self.invariant.rising n xs is few;
  few = omega (arith, c.loop-self-test.false, c.saturating_sub.ensures);
  same = c.loop-self.invariant.count ∙ is.same;
}
