use Rattle.std.proofs.Common.{◌≡◌, ◌+◌, ◌≤◌, ◌^◌, length, ℕ, get_or, ◌∙◌, subst, sym, arith}
use Rattle.std.proofs.lemmas.List.{length-take}
use Rattle.ms_height.specs.Scaffolding.Kept.{heights_in, IsFitting}
use Rattle.ms_height.proofs.Keeping.{length_in}
use Rattle.ms_height.proofs.Tallies.{counts_all, low_fits, known_bounds}
use Rattle.ms_height.proofs.Exact.{chosen_none, chosen_exact}
use Rattle.ms_height.proofs.threshold.chosen.Goals as goal

pub returns-in_default : goal.returns-in_default
returns-in_default c =
    let cs = heights_in c.args.sats.now c.args.dsats.now in
    let all = counts_all c.tally_of-tally.result (length c.args.sats.now) cs (omega (arith, length_in c.args.sats.now c.args.dsats.now c.requires.alike)) c.tally_of-tally.ensures in
    sym (chosen_none 1 cs c.args.count (known_bounds c.tally_of-tally.result cs c.args.count all (c.bounds.ensures.none c.in_default.is)))

pub overflow_add-size : goal.overflow_add-size
overflow_add-size c =
    let as_many = length_in c.args.sats.now c.args.dsats.now c.requires.alike in
    let cs = heights_in c.args.sats.now c.args.dsats.now in
    let most = c.tally_of-tally.ensures.least (2 ^ 32) (omega arith) (λ i d below. low_fits _ (c.requires.low i d (omega (arith, below, as_many)))) in
    omega (arith, most)

pub split_at_mut-pluses-requires : goal.split_at_mut-pluses-requires
split_at_mut-pluses-requires c =
    let as_many = length_in c.args.sats.now c.args.dsats.now c.requires.alike in
    let room = c.requires.room in
    let most = c.tally_of-tally.ensures.least room.0 room.1 (λ i d below. room.3 i d (omega (arith, below, as_many))) in
    omega (arith, most, room.2)

pub slice_bounds-chosen_within-end : goal.slice_bounds-chosen_within-end
slice_bounds-chosen_within-end c =
    let as_many = length_in c.args.sats.now c.args.dsats.now c.requires.alike in
    let room = c.requires.room in
    let most = c.tally_of-tally.ensures.least room.0 room.1 (λ i d below. room.3 i d (omega (arith, below, as_many))) in
    omega (arith, most, room.2, c.split_at_mut-pluses.ensures.back_len)

pub slice_bounds-chosen_within-end-2 : goal.slice_bounds-chosen_within-end-2
slice_bounds-chosen_within-end-2 c =
    let as_many = length_in c.args.sats.now c.args.dsats.now c.requires.alike in
    let room = c.requires.room in
    let most = c.tally_of-tally.ensures.least room.0 room.1 (λ i d below. room.3 i d (omega (arith, below, as_many))) in
    let size = c.tally_of-tally.result.most_items + 1 in
    let inside : size ≤ length c.split_at_mut-pluses.result.1.now = omega (arith, most, room.2, c.split_at_mut-pluses.ensures.back_len) in
    grind (arith, length-take, inside)

pub chosen_within-requires-clause-minuses : goal.chosen_within-requires-clause-minuses
chosen_within-requires-clause-minuses c =
    let as_many = length_in c.args.sats.now c.args.dsats.now c.requires.alike in
    let room = c.requires.room in
    let most = c.tally_of-tally.ensures.least room.0 room.1 (λ i d below. room.3 i d (omega (arith, below, as_many))) in
    let size = c.tally_of-tally.result.most_items + 1 in
    let inside : size ≤ length c.split_at_mut-pluses.result.1.now = omega (arith, most, room.2, c.split_at_mut-pluses.ensures.back_len) in
    let front = c.split_at_mut-pluses.ensures.front_len in
    grind (arith, length-take, inside, front)

pub chosen_within-requires-clause-fits : goal.chosen_within-requires-clause-fits
chosen_within-requires-clause-fits c =
    let as_many = length_in c.args.sats.now c.args.dsats.now c.requires.alike in
    let size : c.tally_of-tally.result.most_items + 1 ≡ length c.split_at_mut-pluses.result.0.now = omega (arith, c.split_at_mut-pluses.ensures.front_len) in
    λ i d below. subst (λ (n : ℕ). IsFitting n (get_or (heights_in c.args.sats.now c.args.dsats.now) i d)) size (c.tally_of-tally.ensures.fits i d (omega (arith, below, as_many)))

pub chosen_within-requires-clause-fine : goal.chosen_within-requires-clause-fine
chosen_within-requires-clause-fine c =
    let cs = heights_in c.args.sats.now c.args.dsats.now in
    let all = counts_all c.tally_of-tally.result (length c.args.sats.now) cs (omega (arith, length_in c.args.sats.now c.args.dsats.now c.requires.alike)) c.tally_of-tally.ensures in
    omega (arith, all.2, c.in-Some.ensures.some.0)

pub chosen_within-requires-clause-all : goal.chosen_within-requires-clause-all
chosen_within-requires-clause-all c =
    let cs = heights_in c.args.sats.now c.args.dsats.now in
    let all = counts_all c.tally_of-tally.result (length c.args.sats.now) cs (omega (arith, length_in c.args.sats.now c.args.dsats.now c.requires.alike)) c.tally_of-tally.ensures in
    omega (arith, all.1, c.in-Some.ensures.some.2)

pub returns : goal.returns
returns c =
    let cs = heights_in c.args.sats.now c.args.dsats.now in
    let all = counts_all c.tally_of-tally.result (length c.args.sats.now) cs (omega (arith, length_in c.args.sats.now c.args.dsats.now c.requires.alike)) c.tally_of-tally.ensures in
    let bounds = c.in-Some.bounds in
    sym c.chosen_within.ensures ∙
    sym (chosen_exact 1 cs c.args.count bounds.satisfied bounds.dissatisfied (omega (arith, all.0, c.in-Some.ensures.some.1)) (omega (arith, all.1, c.in-Some.ensures.some.2)))
