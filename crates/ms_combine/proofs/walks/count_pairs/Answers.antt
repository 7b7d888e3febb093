use Rattle.std.proofs.Common.{◌≡◌, ℕ, ◌+◌, ◌∷◌, length, sym, ◌∙◌, arith}
use Rattle.ms_combine.specs.Scaffolding.Walk.{places_from}
use Rattle.ms_combine.proofs.Onward.{later}
use Rattle.ms_combine.proofs.Walking.{starts, goes_on, ends, so, few}
use Rattle.ms_combine.proofs.walks.count_pairs.Goals as goal

pub pairs-init : goal.pairs-init
pairs-init c = starts c.args.bytes.now c.args.from (λ places end. 0 + length places ≡ length (places_from c.args.bytes.now (length c.args.bytes.now) c.args.from)) c.requires.from (omega arith)

pub overflow_add-count : goal.overflow_add-count
overflow_add-count c =
    let held = c.pairs.invariant.holds in
    let most = few c.args.bytes.now (length c.args.bytes.now) c.args.from in
    let room = c.requires.room in
    omega (arith, held, most, room)

pub pairs-smaller : goal.pairs-smaller
pairs-smaller c = let l = later c.args.bytes.now c.pairs.at c.in-Some.next (sym c.next_place.ensures ∙ c.in-Some.is) in omega (arith, l.0, l.1)

pub pairs-preserved : goal.pairs-preserved
pairs-preserved c =
    let total : ℕ = length (places_from c.args.bytes.now (length c.args.bytes.now) c.args.from) in
    so c.args.bytes.now c.in-Some.next (λ places end. c.pairs.count + length (c.pairs.at ∷ places) ≡ total) (λ places end. c.pairs.count + 1 + length places ≡ total)
    (λ places end held. omega (arith, held))
    (goes_on c.args.bytes.now c.pairs.at c.in-Some.next (λ places end. c.pairs.count + length places ≡ total) (sym c.next_place.ensures ∙ c.in-Some.is) c.pairs.invariant)

pub returns : goal.returns
returns c =
    let held = ends c.args.bytes.now c.pairs.at (λ places end. c.pairs.count + length places ≡ length (places_from c.args.bytes.now (length c.args.bytes.now) c.args.from))
    (sym c.next_place.ensures ∙ c.in_default.is) c.pairs.invariant in
    omega (arith, held)
