-- One step more, the last one, none, and one too many.
use Rattle.std.proofs.Common.{◌≡◌, ℕ, zero, suc, ◌+◌, ◌-◌, List, [], ◌∷◌, ◌++◌, map, arith, sym, ap, ◌∙◌, Bool, true, Ok, Err}
use Rattle.def_descriptor.specs.declared.DescriptorFault.{DescriptorFault}
use Rattle.def_descriptor.specs.Expression.{Way}
use Rattle.def_descriptor.specs.Steps.{read_ways}
use Rattle.ms_paths.specs.declared.steps.Way.{Way as OwnWay}
use Rattle.ms_paths.specs.declared.steps.Way.TheVariants as own
use Rattle.ms_paths.specs.Places.{tokens_at}
use Rattle.ms_paths.specs.Paths.{way_at, ways_at}
use Rattle.ms_paths.proofs.Reading.{handed}
use Rattle.ms_paths.proofs.Ways.{before, ways_end, ways_beyond, ways_stop, goes_index, goes_number, goes_branches, ways_push}
use Rattle.ms_paths.proofs.steps.read_ways.Goals as goal
use Rattle.ms_paths.proofs.steps.read_ways.Goals.{in-Number+in_ok-push-in-Number, in-Branches+in_ok-push-in-Branches}

pub returns-in_default : goal.returns-in_default
returns-in_default c = (
  c.loop.invariant.reads
      ∙ ways_end (255 - c.loop.counter) c.args.fixed c.loop.had (ways_at c.loop.ways) (tokens_at c.args.text.now c.loop.end) c.in_default.ensures.mark,
  c.loop.invariant.place,
  c.loop.invariant.after,
)

pub returns-in_err-way : goal.returns-in_err-way
returns-in_err-way c =
    let one : 255 - c.loop.counter ≡ suc (255 - (c.loop.counter + 1)) = omega arith in
    handed _ _ _ _ _ _ c.from_residual.ensures.1 (λ n.
    c.loop.invariant.reads
    ∙ ways_stop c.args.text.now c.loop.end c.in-Some.next c.args.fixed c.loop.had (ways_at c.loop.ways) c.in-Some.ensures.mark.0 c.in-Some.ensures.mark.1
    (255 - c.loop.counter) (255 - (c.loop.counter + 1)) one c.in_err-way.field-0.0 (c.in_err-way.ensures n))

pub returns-in-Index : goal.returns-in-Index
returns-in-Index c =
    let way = c.in_ok-way.way in
    let rest = tokens_at c.args.text.now c.in_ok-way.behind in
    let one : 255 - c.loop.counter ≡ suc (255 - (c.loop.counter + 1)) = omega arith in
    let grown : ways_at c.push.new.self ≡ ways_at c.loop.ways ++ way_at way ∷ [] =
    ap (map way_at) c.in_ok-push-in-Index.ensures.items
    ∙ (ways_push c.loop.ways.items own.Index
    ∙ ap (λ (z : OwnWay). ways_at c.loop.ways ++ way_at z ∷ []) (sym c.in-Index.is)) in (
      c.loop.invariant.reads
          ∙ (goes_index c.args.text.now c.loop.end c.in-Some.next c.args.fixed c.loop.had (ways_at c.loop.ways) c.in-Some.ensures.mark.0 c.in-Some.ensures.mark.1
          (255 - c.loop.counter) (255 - (c.loop.counter + 1)) one (way_at way) rest (ap way_at c.in-Index.is) c.in_ok-way.ensures.0
          ∙ ap (λ (z : List Way). Ok (z, rest)) (sym grown)),
      c.in_ok-way.ensures.1,
      omega (arith, c.loop.invariant.after, c.in-Some.ensures.after, c.in_ok-way.ensures.2),
    )

pub loop-preserved : goal.loop-preserved
loop-preserved c =
    let way = c.in_ok-way.way in
    let rest = tokens_at c.args.text.now c.in_ok-way.behind in
    let most : ℕ = 255 - (c.loop.counter + 1) in
    let one : 255 - c.loop.counter ≡ suc most = omega arith in
    let kept = λ (e : ways_at c.match-way.ways ≡ ways_at c.loop.ways ++ way_at way ∷ []) (h : Bool) (f : c.match-way.had ≡ h).
    ap (λ (z : List Way). before z (read_ways most c.args.fixed h rest)) (sym e)
    ∙ ap (λ (z : Bool). before (ways_at c.match-way.ways) (read_ways most c.args.fixed z rest)) (sym f) in
    elim c.match-way.branch [
      | in-Number+in_ok-push-in-Number w ↦ record {
        place = c.in_ok-way.ensures.1;
        after = omega (arith, c.loop.invariant.after, c.in-Some.ensures.after, c.in_ok-way.ensures.2);
        reads =
            c.loop.invariant.reads
            ∙ (goes_number c.args.text.now c.loop.end c.in-Some.next c.args.fixed c.loop.had (ways_at c.loop.ways) c.in-Some.ensures.mark.0
            c.in-Some.ensures.mark.1 (255 - c.loop.counter) most one (way_at way) w.in-Number.number rest (ap way_at w.in-Number.is) c.in_ok-way.ensures.0
            ∙ kept
            (ap ways_at w.ways-is
            ∙ (ap (map way_at) w.in_ok-push-in-Number.ensures.items
            ∙ (ways_push c.loop.ways.items (own.Number w.in-Number.number)
            ∙ ap (λ (z : OwnWay). ways_at c.loop.ways ++ way_at z ∷ []) (sym w.in-Number.is)))) c.loop.had w.had-is);
      }
      | in-Branches+in_ok-push-in-Branches w ↦ record {
        place = c.in_ok-way.ensures.1;
        after = omega (arith, c.loop.invariant.after, c.in-Some.ensures.after, c.in_ok-way.ensures.2);
        reads =
            c.loop.invariant.reads
            ∙ (goes_branches c.args.text.now c.loop.end c.in-Some.next c.args.fixed c.loop.had (ways_at c.loop.ways) c.in-Some.ensures.mark.0
            c.in-Some.ensures.mark.1 (255 - c.loop.counter) most one (way_at way) w.in-Branches.numbers.items rest (ap way_at w.in-Branches.is)
            c.in_ok-way.ensures.0
            ∙ kept
            (ap ways_at w.ways-is
            ∙ (ap (map way_at) w.in_ok-push-in-Branches.ensures.items
            ∙ (ways_push c.loop.ways.items (own.Branches w.in-Branches.numbers)
            ∙ ap (λ (z : OwnWay). ways_at c.loop.ways ++ way_at z ∷ []) (sym w.in-Branches.is)))) true w.had-is);
      }
    ]

pub returns-in_default-behind_mark : goal.returns-in_default-behind_mark
returns-in_default-behind_mark c = (
  c.loop.invariant.reads
      ∙ ways_end (255 - c.loop.counter) c.args.fixed c.loop.had (ways_at c.loop.ways) (tokens_at c.args.text.now c.loop.end) c.in_default-behind_mark.ensures.mark,
  c.loop.invariant.place,
  c.loop.invariant.after,
)

pub returns : goal.returns
returns c = λ n.
    let none : 255 - c.loop.counter ≡ zero = omega (arith, c.loop-test.false) in
    c.loop.invariant.reads
    ∙ (ways_beyond c.args.text.now c.loop.end c.in-Some-behind_mark.next c.args.fixed c.loop.had (ways_at c.loop.ways) c.in-Some-behind_mark.ensures.mark.0
    c.in-Some-behind_mark.ensures.mark.1 (255 - c.loop.counter) none
    ∙ ap (λ (z : DescriptorFault). Err z) (c.way_over.ensures n))
