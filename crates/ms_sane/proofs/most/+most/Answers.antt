use Rattle.std.proofs.Common.{◌-◌, ◌∙◌, ap, subst, sym, arith, length, take}
use Rattle.std.proofs.lemmas.List.{take_all}
use Rattle.def_tree.specs.Size.{nodes}
use Rattle.ms_sane.specs.Scaffolding.Most.{children_in}
use Rattle.ms_work.proofs.Children.{ready_children}
use Rattle.ms_sane.proofs.Children.{parts_chosen, same_takes, children_more, costs_alike}
use Rattle.ms_choice.specs.Numbers.{costs_in}
use Rattle.ms_choice.specs.Tally.{Tells}
use Rattle.ms_choice.specs.Choice.{greatest}
use Rattle.ms_choice.proofs.Tallies.{told_written}
use Rattle.ms_sane.proofs.most.+most.Goals as goal

pub most-of_thresh-requires : goal.most-of_thresh-requires
most-of_thresh-requires t c =
    let shows = c.in-Thresh.ensures.shows in
    (omega (arith, c.decreases, ap nodes shows), ready_children _ c.in-Thresh.k c.in-Thresh.children.now _ shows c.requires)

pub of_thresh-loop-child-preserved : goal.of_thresh-loop-child-preserved
of_thresh-loop-child-preserved t c =
    let xs = c.args.children.now in
    let i = c.loop-child.child-index in
    let x = c.child-item.result in
    let slots = c.loop-child.slots in
    let tally = c.loop-child.tally in
    record {
      fits = c.add.ensures.fits;
      told = λ n.
          let told = told_written n (children_in n (take i xs)) tally slots c.most-taken.new.slots (length slots - tally.free) c.loop-child.invariant.fits.room (c.loop-child.invariant.told n) in
          let more = children_more n xs i x (costs_in n c.as_child.result) c.loop-child-test.true c.child-item.is
          (c.as_child.ensures.costs n ∙ costs_alike n c.most-taken.ensures.takes.sat c.most-taken.ensures.takes.dsat) in
          subst (λ cs. Tells n cs c.add.new.self c.add.new.slots) more (c.add.ensures.told n (children_in n (take i xs)) told);
      free = omega (arith, c.add.ensures.free, c.loop-child.invariant.free);
      place = omega (arith, c.add.ensures.place, c.loop-child.invariant.place);
    }

pub of_thresh-greatest_of-requires-clause-told : goal.of_thresh-greatest_of-requires-clause-told
of_thresh-greatest_of-requires-clause-told t c = λ n. (children_in n (take c.loop-child.child-index c.args.children.now), c.loop-child.invariant.told n)

pub of_thresh-returns : goal.of_thresh-returns
of_thresh-returns t c =
    let xs = c.args.children.now in
    let i = c.loop-child.child-index in
    let all = take_all i xs c.loop-child-test.false in
    record {
      sat = same_takes _ _ (λ n.
          c.taken_of-sat.ensures n ∙
          c.greatest_of.ensures n (children_in n (take i xs)) (c.loop-child.invariant.told n) ∙
          ap (λ ys. greatest (children_in n ys) c.args.k) all ∙
          sym (parts_chosen n xs c.args.k));
      dsat = same_takes _ _ (λ n.
          c.taken_of-dsat.ensures n ∙
          c.none_of.ensures.greatest n (children_in n (take i xs)) c.loop-child.slots (c.loop-child.invariant.told n) ∙
          ap (λ ys. greatest (children_in n ys) 0) all ∙
          sym (parts_chosen n xs 0));
    }
