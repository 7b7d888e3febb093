use Rattle.std.proofs.Common.{◌≡◌, ℕ, ◌<◌, ◌∙◌, ap, subst, arith, length}
use Rattle.def_tree.specs.Tree as model
use Rattle.def_tree.specs.Size.{nodes}
use Rattle.def_types.proofs.Facts.{typed-multi}
use Rattle.def_height.specs.Scaffolding.Highest.{at_least, highest_parts}
use Rattle.ms_tree.specs.Shape.{shapes}
use Rattle.ms_tree.proofs.Parts.{nodes_at, in_range_at}
use Rattle.ms_work.proofs.Children.{few_children, typed_at, typed_children}
use Rattle.ms_height.specs.Scaffolding.Chosen.{chosen}
use Rattle.ms_height.specs.Scaffolding.Kept.{heights_in}
use Rattle.ms_height.specs.Scaffolding.Ready.{IsReady}
use Rattle.ms_height.proofs.Children.{ready_at, low_kept, room_kept, chosen_parts}
use Rattle.ms_height.proofs.Keeping.{kept_more, kept_all}
use Rattle.ms_height.proofs.heights.+heights.Goals as goal

pub heights-of_thresh-requires : goal.heights-of_thresh-requires
heights-of_thresh-requires t c =
    let shows = c.in-Thresh.ensures.shows in
    let Ready : model.Tree → Type 0 = λ s. IsReady s (length c.args.slots.now) in
    let ready = subst Ready shows c.requires in
    let fewer = ap nodes shows in
    (omega (arith, c.decreases, fewer), (c.in-Thresh.ensures.in_range.1, (typed_children c.in-Thresh.children.now ready.typed.0, (omega (arith, ready.in_range.measure), omega (arith, ready.room)))))

pub heights-of_multi-requires-clause-enough : goal.heights-of_multi-requires-clause-enough
heights-of_multi-requires-clause-enough t c =
    let Ready : model.Tree → Type 0 = λ s. IsReady s (length c.args.slots.now) in
    let ready = subst Ready c.in-Multi.ensures.shows c.requires in
    (typed-multi c.in-Multi.k c.in-Multi.keys.now ready.typed).1

pub of_thresh-chosen-requires-clause-low : goal.of_thresh-chosen-requires-clause-low
of_thresh-chosen-requires-clause-low t c = low_kept c.args.children.now _ c.keep_children.ensures c.requires.in_range c.requires.typed

pub of_thresh-chosen-requires-clause-room : goal.of_thresh-chosen-requires-clause-room
of_thresh-chosen-requires-clause-room t c =
    room_kept c.args.children.now _ (length c.keep_children.new.rest) c.keep_children.ensures
    (omega (arith, c.requires.room, c.split_at_mut-sats.ensures.back_len, c.split_at_mut-dsats.ensures.back_len, c.keep_children.auto.rest, few_children c.args.children.now))
    c.requires.typed

pub of_thresh-chosen-requires-2-clause-low : goal.of_thresh-chosen-requires-2-clause-low
of_thresh-chosen-requires-2-clause-low t c = low_kept c.args.children.now _ c.keep_children.ensures c.requires.in_range c.requires.typed

pub of_thresh-chosen-requires-2-clause-room : goal.of_thresh-chosen-requires-2-clause-room
of_thresh-chosen-requires-2-clause-room t c =
    room_kept c.args.children.now _ (length c.chosen.new.room) c.keep_children.ensures
    (omega (arith, c.requires.room, c.split_at_mut-sats.ensures.back_len, c.split_at_mut-dsats.ensures.back_len, c.keep_children.auto.rest, few_children c.args.children.now, c.chosen.auto.room))
    c.requires.typed

pub of_thresh-returns : goal.of_thresh-returns
of_thresh-returns t c =
    let xs = shapes c.args.children.now in
    let parts : (k : ℕ) → chosen 1 (heights_in c.keep_children.new.sats c.keep_children.new.dsats) k ≡ highest_parts 1 xs k =
    λ k. ap (λ hs. chosen 1 hs k) c.keep_children.ensures ∙ ap (λ f. f k) (chosen_parts 1 xs) in
    let sat = c.at_least.ensures ∙ ap (at_least 2) (c.chosen.ensures ∙ parts c.args.k) in
    let dsat = c.at_least-2.ensures ∙ ap (at_least 2) (c.chosen-2.ensures ∙ parts 0) in
    λ i. record { sat = sat i; dsat = dsat i }

pub keep_children-heights-child-requires : goal.keep_children-heights-child-requires
keep_children-heights-child-requires t c =
    let xs = c.args.children.now in
    let i = c.loop-index.index in
    let x = c.index-children-index.result in
    let at = c.index-children-index.is in
    let below : i < length xs = omega (arith, c.loop-index-test.true, c.loop-index.auto.index-end) in
    let few = nodes_at xs i x below at in (
      omega (arith, c.decreases, few),
      record {
        in_range = in_range_at xs i x below at c.requires.in_range;
        typed = typed_at xs i x below at c.requires.typed;
        room = ready_at xs i x (length c.loop-index.rest) below at (omega (arith, c.requires.room, c.loop-index.auto.rest));
      },
    )

pub keep_children-loop-index-preserved : goal.keep_children-loop-index-preserved
keep_children-loop-index-preserved t c =
    let xs = c.args.children.now in
    let below : c.loop-index.index < length xs = omega (arith, c.loop-index-test.true, c.loop-index.auto.index-end) in
    record {
      kept = kept_more xs c.loop-index.index c.index-children-index.result c.loop-index.sats c.loop-index.dsats c.slot_of.result c.slot_of-in-loop-index.result below
          (omega (arith, below, c.loop-index.auto.sats, c.requires.sats)) (omega (arith, below, c.loop-index.auto.dsats, c.requires.dsats)) c.index-children-index.is
          (c.slot_of.ensures ∙ ap (λ h. h.sat) c.heights-child.ensures.highest) (c.slot_of-in-loop-index.ensures ∙ ap (λ h. h.dsat) c.heights-child.ensures.highest) c.loop-index.invariant.kept;
    }

pub keep_children-returns : goal.keep_children-returns
keep_children-returns t c =
    let xs = c.args.children.now in
    kept_all xs c.loop-index.index c.loop-index.sats c.loop-index.dsats (omega (arith, c.loop-index-test.false, c.loop-index.auto.index-end))
    (omega (arith, c.loop-index.auto.sats, c.requires.sats)) (omega (arith, c.loop-index.auto.dsats, c.requires.dsats)) c.loop-index.invariant.kept
