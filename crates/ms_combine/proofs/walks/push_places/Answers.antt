use Rattle.std.proofs.Common.{◌≡◌, ◌++◌, ◌∷◌, List, length, map, refl, sym, ◌∙◌, arith}
use Rattle.std.proofs.lemmas.List.{append-nil}
use Rattle.ms_combine.specs.declared.keys.Marked.{Marked}
use Rattle.ms_combine.specs.Scaffolding.Walk.{places_from, marked_at}
use Rattle.ms_combine.proofs.Onward.{later}
use Rattle.ms_combine.proofs.Walking.{starts, goes_on, ends, so, one_marked, added}
use Rattle.ms_combine.proofs.walks.push_places.Goals as goal

pub pairs-init : goal.pairs-init
pairs-init c =
    starts c.args.bytes.now c.args.from (λ places end. c.args.order.now.items ++ map (marked_at c.args.bytes.now) places
    ≡ c.args.order.now.items ++ map (marked_at c.args.bytes.now) (places_from c.args.bytes.now (length c.args.bytes.now) c.args.from)) c.requires.from refl

pub pairs-smaller : goal.pairs-smaller
pairs-smaller c = let l = later c.args.bytes.now c.pairs.at c.in-Some.next (sym c.next_place.ensures ∙ c.in-Some.is) in omega (arith, l.0, l.1)

pub pairs-preserved : goal.pairs-preserved
pairs-preserved c =
    let all : List Marked = c.args.order.now.items ++ map (marked_at c.args.bytes.now) (places_from c.args.bytes.now (length c.args.bytes.now) c.args.from) in
    so c.args.bytes.now c.in-Some.next (λ places end. c.pairs.order.items ++ map (marked_at c.args.bytes.now) (c.pairs.at ∷ places) ≡ all)
    (λ places end. c.push.new.self.items ++ map (marked_at c.args.bytes.now) places ≡ all)
    (λ places end held. added c.args.bytes.now c.pairs.order.items all c.push.new.self.items c.with_mark.result c.pairs.at places c.in_ok-push.ensures.items
    (one_marked c.args.bytes.now c.with_mark.result c.pairs.at c.with_mark.ensures.mark c.with_mark.ensures.place) held)
    (goes_on c.args.bytes.now c.pairs.at c.in-Some.next (λ places end. c.pairs.order.items ++ map (marked_at c.args.bytes.now) places ≡ all)
    (sym c.next_place.ensures ∙ c.in-Some.is) c.pairs.invariant)

pub returns : goal.returns
returns c =
    sym (append-nil c.pairs.order.items)
    ∙ ends c.args.bytes.now c.pairs.at (λ places end. c.pairs.order.items ++ map (marked_at c.args.bytes.now) places
    ≡ c.args.order.now.items ++ map (marked_at c.args.bytes.now) (places_from c.args.bytes.now (length c.args.bytes.now) c.args.from))
    (sym c.next_place.ensures ∙ c.in_default.is) c.pairs.invariant
