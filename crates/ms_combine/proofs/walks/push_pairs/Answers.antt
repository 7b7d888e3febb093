use Rattle.std.proofs.Common.{◌++◌, Bool, length, sym, ap, subst, ◌∙◌, arith}
use Rattle.def_script.specs.Bytes.{Bytes}
use Rattle.ms_combine.specs.Scaffolding.Earliest.{earliest_text}
use Rattle.ms_combine.specs.Scaffolding.Order.{IsFirst}
use Rattle.ms_combine.specs.Scaffolding.Walk.{places_from, behind_from}
use Rattle.ms_combine.proofs.Onward.{later}
use Rattle.ms_combine.proofs.Pushing.{stands_here, added, passed_over, all_added}
use Rattle.ms_combine.proofs.walks.push_pairs.Goals as goal

pub is_first-requires-clause-stands : goal.is_first-requires-clause-stands
is_first-requires-clause-stands c =
    stands_here c.args.bytes.now c.args.order.now c.pairs.out.items
    (c.args.out.now.items ++ earliest_text c.args.bytes.now c.args.order.now (places_from c.args.bytes.now (length c.args.bytes.now) c.args.from))
    (behind_from c.args.bytes.now (length c.args.bytes.now) c.args.from) c.pairs.at c.in-Some.next (sym c.next_place.ensures ∙ c.in-Some.is) c.pairs.invariant

pub pairs-smaller-in_ok-extend_from_slice : goal.pairs-smaller-in_ok-extend_from_slice
pairs-smaller-in_ok-extend_from_slice c = let l = later c.args.bytes.now c.pairs.at c.in-Some.next (sym c.next_place.ensures ∙ c.in-Some.is) in omega (arith, l.0, l.1)

pub pairs-preserved-in_ok-extend_from_slice : goal.pairs-preserved-in_ok-extend_from_slice
pairs-preserved-in_ok-extend_from_slice c =
    added c.args.bytes.now c.args.order.now c.pairs.out.items c.extend_from_slice.new.self.items
    (c.args.out.now.items ++ earliest_text c.args.bytes.now c.args.order.now (places_from c.args.bytes.now (length c.args.bytes.now) c.args.from))
    (behind_from c.args.bytes.now (length c.args.bytes.now) c.args.from) c.pairs.at c.in-Some.next (sym c.next_place.ensures ∙ c.in-Some.is)
    (subst (λ (b : Bool). IsFirst c.args.bytes.now c.args.order.now c.pairs.at b) c.if-is_first.true c.is_first.ensures)
    (c.in_ok-extend_from_slice.ensures.items ∙ ap (λ (l : Bytes). c.pairs.out.items ++ l) c.pair_at.ensures) c.pairs.invariant

pub pairs-smaller : goal.pairs-smaller
pairs-smaller c = let l = later c.args.bytes.now c.pairs.at c.in-Some.next (sym c.next_place.ensures ∙ c.in-Some.is) in omega (arith, l.0, l.1)

pub pairs-preserved : goal.pairs-preserved
pairs-preserved c =
    passed_over c.args.bytes.now c.args.order.now c.pairs.out.items
    (c.args.out.now.items ++ earliest_text c.args.bytes.now c.args.order.now (places_from c.args.bytes.now (length c.args.bytes.now) c.args.from))
    (behind_from c.args.bytes.now (length c.args.bytes.now) c.args.from) c.pairs.at c.in-Some.next (sym c.next_place.ensures ∙ c.in-Some.is)
    (subst (λ (b : Bool). IsFirst c.args.bytes.now c.args.order.now c.pairs.at b) c.if-is_first.false c.is_first.ensures) c.pairs.invariant

pub returns-clause-pairs : goal.returns-clause-pairs
returns-clause-pairs c =
    (all_added c.args.bytes.now c.args.order.now c.pairs.out.items
    (c.args.out.now.items ++ earliest_text c.args.bytes.now c.args.order.now (places_from c.args.bytes.now (length c.args.bytes.now) c.args.from))
    (behind_from c.args.bytes.now (length c.args.bytes.now) c.args.from) c.pairs.at (sym c.next_place.ensures ∙ c.in_default.is) c.pairs.invariant).0

pub returns-clause-behind : goal.returns-clause-behind
returns-clause-behind c =
    let all = all_added c.args.bytes.now c.args.order.now c.pairs.out.items
    (c.args.out.now.items ++ earliest_text c.args.bytes.now c.args.order.now (places_from c.args.bytes.now (length c.args.bytes.now) c.args.from))
    (behind_from c.args.bytes.now (length c.args.bytes.now) c.args.from) c.pairs.at (sym c.next_place.ensures ∙ c.in_default.is) c.pairs.invariant in
    let end = all.1 in
    let least = c.min.ensures in
    omega (arith, end, least)
