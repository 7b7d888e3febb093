use Rattle.std.proofs.Common.{◌≡◌, ◌+◌, ◌-◌, ◌*◌, ◌∙◌, ap, arith}
use Rattle.ms_height.specs.Scaffolding.Chosen.{top}
use Rattle.ms_height.proofs.Tops.{top_is, fewer_reach}
use Rattle.ms_height.proofs.Marks.{marks_most, excess_most}
use Rattle.ms_height.proofs.sums.Top.sum_of_fewer.Goals as goal

pub overflow_mul-result : goal.overflow_mul-result
overflow_mul-result c =
    let t = c.requires.told in
    let fewer = c.saturating_sub.result in
    let mark = c.args.self.now.mark in
    omega (arith, marks_most fewer mark t.2 t.3.counted.small (fewer_reach fewer c.args.self.now.count mark t.2 c.saturating_sub.ensures t.3.rising.many), c.saturating_sub.ensures, t.3.same, t.4)

pub overflow_add-result : goal.overflow_add-result
overflow_add-result c =
    let t = c.requires.told in
    let fewer = c.saturating_sub.result in
    let mark = c.args.self.now.mark in
    omega (
      arith,
      marks_most fewer mark t.2 t.3.counted.small (fewer_reach fewer c.args.self.now.count mark t.2 c.saturating_sub.ensures t.3.rising.many),
      c.saturating_sub.ensures,
      t.3.same,
      t.4,
      t.3.rising.excess,
      excess_most mark t.2 t.3.counted.small,
      t.3.counted.few,
    )

pub returns-clause-sum : goal.returns-clause-sum
returns-clause-sum c = λ slots n xs is.
    let fewer = c.saturating_sub.result in
    let mark = c.args.self.now.mark in
    let sum : fewer * mark + c.args.self.now.excess ≡ top fewer xs =
    omega (
      arith,
      is.rising.excess,
      top_is fewer mark xs (omega (arith, is.few, is.rising.above, c.saturating_sub.ensures)) (fewer_reach fewer c.args.self.now.count mark xs c.saturating_sub.ensures is.rising.many),
    ) in
    sum ∙ ap (λ m. top m xs) (c.saturating_sub.ensures ∙ ap (λ m. m - 1) is.same)

pub returns-clause-low : goal.returns-clause-low
returns-clause-low c =
    let t = c.requires.told in
    let fewer = c.saturating_sub.result in
    let mark = c.args.self.now.mark in
    omega (
      arith,
      marks_most fewer mark t.2 t.3.counted.small (fewer_reach fewer c.args.self.now.count mark t.2 c.saturating_sub.ensures t.3.rising.many),
      c.saturating_sub.ensures,
      t.3.same,
      t.4,
      t.3.rising.excess,
      excess_most mark t.2 t.3.counted.small,
      t.3.counted.few,
    )
