use Rattle.std.proofs.Common.{◌≡◌, ◌+◌, ◌^◌, ◌∙◌, inr, length, arith}
use Rattle.ms_height.specs.Scaffolding.Tops.{equal}
use Rattle.ms_height.proofs.Marks.{excess_next, above_next, reached_next, above_excess, above_inside}
use Rattle.ms_height.proofs.sums.Top.raise.Goals as goal

pub overflow_add-self : goal.overflow_add-self
overflow_add-self c =
    let t = c.requires.told in
    let low = above_inside c.args.self.now.mark (2 ^ 32) t.0 t.2.small (omega (arith, t.1.above, c.requires.many)) in
    omega (arith, low)

pub overflow_sub-self : goal.overflow_sub-self
overflow_sub-self c = let t = c.requires.told in omega (arith, t.1.above, t.1.excess, above_excess c.args.self.now.mark t.0)

pub offset_bounds-counts-self : goal.offset_bounds-counts-self
offset_bounds-counts-self c =
    let t = c.requires.told in
    let low = above_inside c.args.self.now.mark (2 ^ 32) t.0 t.2.small (omega (arith, t.1.above, c.requires.many)) in
    omega (arith, low)

pub bounds-counts-self : goal.bounds-counts-self
bounds-counts-self c =
    let t = c.requires.told in above_inside c.args.self.now.mark (length c.args.counts.now) t.0 t.2.inside (omega (arith, t.1.above, c.requires.many))

pub overflow_sub-self-2 : goal.overflow_sub-self-2
overflow_sub-self-2 c =
    let t = c.requires.told in
    let mark = c.args.self.now.mark in
    let inside = above_inside mark (length c.args.counts.now) t.0 t.2.inside (omega (arith, t.1.above, c.requires.many)) in
    let at : c.from.result ≡ equal (mark + 1) t.0 = c.from.ensures ∙ t.2.each (mark + 1) inside in
    omega (arith, at, t.1.above, above_next mark t.0)

pub returns-clause-rising : goal.returns-clause-rising
returns-clause-rising c = λ xs rising counted.
    let mark = c.args.self.now.mark in
    let inside = above_inside mark (length c.args.counts.now) xs counted.inside (omega (arith, rising.above, c.requires.many)) in
    let at : c.from.result ≡ equal (mark + 1) xs = c.from.ensures ∙ counted.each (mark + 1) inside in
    record {
      above = omega (arith, rising.above, at, above_next mark xs);
      excess = omega (arith, rising.excess, rising.above, excess_next mark xs);
      many = inr (omega (arith, reached_next mark xs, rising.above, c.requires.many));
    }
