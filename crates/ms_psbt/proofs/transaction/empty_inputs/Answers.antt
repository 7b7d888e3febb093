use Rattle.std.proofs.Common.{◌≡◌, ◌+◌, ◌-◌, ◌++◌, option_map, subst, sym, ◌∙◌}
use Rattle.ms_psbt.specs.declared.repeats.Keys.TheVariants as keys
use Rattle.ms_psbt.specs.Scaffolding.Outpoints.{empties}
use Rattle.ms_psbt.specs.Scaffolding.Repeats.{key_at, places_of}
use Rattle.ms_psbt.proofs.Marking.{places_more, marks_more}
use Rattle.ms_psbt.proofs.Unsigned.{empties_on, empties_none, empties_done, empty_within}
use Rattle.ms_psbt.proofs.transaction.empty_inputs.Goals as goal

pub is_empty_input-is_empty-requires : goal.is_empty_input-is_empty-requires
is_empty_input-is_empty-requires c = c.loop.invariant.0

pub returns-clause-places : goal.returns-clause-places
returns-clause-places c = empties_done c.args.bytes.now c.args.count c.loop.counter c.loop.at (places_of c.loop.places.items) _ c.loop-test.false c.loop.invariant.1

pub returns-else-is_empty-clause-places : goal.returns-else-is_empty-clause-places
returns-else-is_empty-clause-places c =
    empties_none c.args.bytes.now c.args.count c.loop.counter c.loop.at (places_of c.loop.places.items) _ c.loop-test.true
    (sym c.is_empty_input-is_empty.ensures ∙ c.if-is_empty.false) c.loop.invariant.1

pub loop-preserved : goal.loop-preserved
loop-preserved c =
    let is = sym c.is_empty_input-is_empty.ensures ∙ c.if-is_empty.true in (
      empty_within c.args.bytes.now c.loop.at is c.loop.invariant.0,
      subst (λ xs. option_map (λ places. xs ++ places) (empties c.args.bytes.now (c.args.count - (c.loop.counter + 1)) (c.loop.at + 41)) ≡ empties c.args.bytes.now c.args.count c.args.from)
          (sym (places_more c.loop.places.items _ c.marked_outpoint.result (key_at keys.Outpoints c.args.bytes.now c.loop.at) c.loop.at c.in_ok-push.ensures.items c.marked_outpoint.ensures))
          (empties_on c.args.bytes.now c.args.count c.loop.counter c.loop.at (places_of c.loop.places.items) _ c.loop-test.true is c.loop.invariant.1),
      marks_more keys.Outpoints c.args.bytes.now c.loop.places.items _ c.marked_outpoint.result c.loop.at c.in_ok-push.ensures.items c.marked_outpoint.ensures c.loop.invariant.2,
    )
