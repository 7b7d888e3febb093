use Rattle.std.proofs.Common.{◌≡◌, ◌-◌, ◌<◌, suc, length, drop, ◌∙◌, ap, subst, sym, List, ℕ, arith}
use Rattle.std.proofs.lemmas.List.{drop_all}
use Rattle.def_height.specs.Scaffolding.Highest.{only}
use Rattle.ms_height.specs.declared.highest.Heights.{Heights}
use Rattle.ms_height.specs.Scaffolding.Choice.{IsChoice}
use Rattle.ms_height.specs.Scaffolding.Kept.{ItemsBelow, IsFitting, heights_in}
use Rattle.ms_height.specs.Scaffolding.Low.{IsLowHeights}
use Rattle.ms_height.proofs.Keeping.{length_in}
use Rattle.ms_height.proofs.Tallies.{few_free}
use Rattle.ms_height.proofs.Walks.{left_at, left_further, shorter, free_from, stuck_from, choice_behind, choice_from, choice_all}
use Rattle.ms_height.proofs.threshold.chosen_within.Goals as goal
use Rattle.ms_height.proofs.threshold.chosen_within.Goals.{then-index-eq0, else-index-eq0}

pub new-choice-requires-clause-t : goal.new-choice-requires-clause-t
new-choice-requires-clause-t c =
    let cs = heights_in c.args.sats.now c.args.dsats.now in
    omega (arith, c.requires.all, few_free cs, length_in c.args.sats.now c.args.dsats.now c.requires.alike, c.requires.few)

pub new-choice-requires-clause-u : goal.new-choice-requires-clause-u
new-choice-requires-clause-u c =
    let cs = heights_in c.args.sats.now c.args.dsats.now in
    omega (arith, c.requires.all, few_free cs, length_in c.args.sats.now c.args.dsats.now c.requires.alike, c.requires.few)

pub loop-index-init : goal.loop-index-init
loop-index-init c =
    let n = length c.args.sats.now in
    let cs = heights_in c.args.sats.now c.args.dsats.now in
    let none = drop_all n cs (omega (arith, length_in c.args.sats.now c.args.dsats.now c.requires.alike)) in
    let P : List Heights → Type 0 = λ xs. IsChoice c.new-choice.result c.new-choice.new.pluses c.new-choice.new.minuses c.args.bounds.now.satisfied c.args.bounds.now.dissatisfied (left_at n) xs in
    record { index = omega arith; told = subst P (sym none) (c.new-choice.ensures (left_at n)) }

pub add-requires-clause-told : goal.add-requires-clause-told
add-requires-clause-told c =
    let cs = heights_in c.args.sats.now c.args.dsats.now in
    let as_many = length_in c.args.sats.now c.args.dsats.now c.requires.alike in
    let index = c.loop-index.index in
    let i = index - 1 in
    let below : i < length cs = omega (arith, as_many, c.loop-index.invariant.index, c.loop-index-test.true) in (
      c.args.bounds.now.satisfied,
      c.args.bounds.now.dissatisfied,
      drop (suc i) cs,
      choice_behind c.loop-index.choice c.loop-index.pluses c.loop-index.minuses c.args.bounds.now.satisfied c.args.bounds.now.dissatisfied cs index i
          (omega (arith, c.loop-index-test.true)) c.loop-index.invariant.told,
      omega (arith, shorter cs i below, as_many, c.requires.few),
    )

pub add-requires-clause-low : goal.add-requires-clause-low
add-requires-clause-low c =
    let as_many = length_in c.args.sats.now c.args.dsats.now c.requires.alike in
    subst IsLowHeights (sym c.child_at.ensures) (c.requires.low (c.loop-index.index - 1) c.child_at.result (omega (arith, as_many, c.loop-index.invariant.index, c.loop-index-test.true)))

pub add-requires-clause-fine : goal.add-requires-clause-fine
add-requires-clause-fine c =
    let as_many = length_in c.args.sats.now c.args.dsats.now c.requires.alike in
    stuck_from (heights_in c.args.sats.now c.args.dsats.now) (c.loop-index.index - 1) c.child_at.result
    (omega (arith, as_many, c.loop-index.invariant.index, c.loop-index-test.true)) c.child_at.ensures c.requires.fine

pub add-requires-clause-sat : goal.add-requires-clause-sat
add-requires-clause-sat c =
    let as_many = length_in c.args.sats.now c.args.dsats.now c.requires.alike in
    let fits = subst (IsFitting (length c.args.pluses.now)) (sym c.child_at.ensures)
    (c.requires.fits (c.loop-index.index - 1) c.child_at.result (omega (arith, as_many, c.loop-index.invariant.index, c.loop-index-test.true))) in
    let same : length c.args.pluses.now ≡ length c.loop-index.pluses = omega (arith, c.loop-index.auto.pluses) in
    subst (λ (n : ℕ). ItemsBelow n c.child_at.result.sat) same fits.sat

pub add-requires-clause-dsat : goal.add-requires-clause-dsat
add-requires-clause-dsat c =
    let as_many = length_in c.args.sats.now c.args.dsats.now c.requires.alike in
    let fits = subst (IsFitting (length c.args.pluses.now)) (sym c.child_at.ensures)
    (c.requires.fits (c.loop-index.index - 1) c.child_at.result (omega (arith, as_many, c.loop-index.invariant.index, c.loop-index-test.true))) in
    let same : length c.args.pluses.now ≡ length c.loop-index.minuses = omega (arith, c.loop-index.auto.minuses, c.requires.minuses) in
    subst (λ (n : ℕ). ItemsBelow n c.child_at.result.dsat) same fits.dsat

pub loop-index-preserved : goal.loop-index-preserved
loop-index-preserved c =
    let cs = heights_in c.args.sats.now c.args.dsats.now in
    let as_many = length_in c.args.sats.now c.args.dsats.now c.requires.alike in
    let index = c.loop-index.index in
    let i = index - 1 in
    let t = c.args.bounds.now.satisfied in
    let u = c.args.bounds.now.dissatisfied in
    let below : i < length cs = omega (arith, as_many, c.loop-index.invariant.index, c.loop-index-test.true) in
    let leaves : c.if-index-eq0.left ≡ left_at i =
    elim c.if-index-eq0.branch [ then-index-eq0 w ↦ w.left-is ∙ sym (ap left_at w.if-index-eq0.true) | else-index-eq0 w ↦ w.left-is ∙ sym (left_further i (omega (arith, w.if-index-eq0.false))) ] in
    record {
      index = omega (arith, c.loop-index.invariant.index);
      told = choice_from c.add.new.self c.add.new.pluses c.add.new.minuses t u c.if-index-eq0.left cs i c.child_at.result below c.child_at.ensures leaves
          (c.add.ensures t u (drop (suc i) cs)
          (choice_behind c.loop-index.choice c.loop-index.pluses c.loop-index.minuses t u cs index i (omega (arith, c.loop-index-test.true)) c.loop-index.invariant.told)
          (omega (arith, shorter cs i below, as_many, c.requires.few))
          (omega (arith, free_from cs i c.child_at.result below c.child_at.ensures, c.requires.all)));
    }

pub items-requires : goal.items-requires
items-requires c =
    let cs = heights_in c.args.sats.now c.args.dsats.now in
    let t = c.args.bounds.now.satisfied in
    let u = c.args.bounds.now.dissatisfied in
    let told = choice_all c.loop-index.choice c.loop-index.pluses c.loop-index.minuses t u cs c.loop-index.index (omega (arith, c.loop-index-test.false)) c.loop-index.invariant.told in
    record { told = (c.loop-index.pluses, c.loop-index.minuses, t, u, 1, cs, told, omega (arith, length_in c.args.sats.now c.args.dsats.now c.requires.alike, c.requires.few)) }

pub returns : goal.returns
returns c =
    let cs = heights_in c.args.sats.now c.args.dsats.now in
    let t = c.args.bounds.now.satisfied in
    let u = c.args.bounds.now.dissatisfied in
    let told = choice_all c.loop-index.choice c.loop-index.pluses c.loop-index.minuses t u cs c.loop-index.index (omega (arith, c.loop-index-test.false)) c.loop-index.invariant.told in
    told.best ∙ ap (λ (n : ℕ). only n c.loop-index.choice.best) (sym (c.items.ensures.items c.loop-index.pluses c.loop-index.minuses t u 1 cs told))
