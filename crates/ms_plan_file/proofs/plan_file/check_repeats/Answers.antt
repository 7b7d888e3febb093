use Rattle.std.proofs.Common.{option_map, refl, sym, ◌∙◌, ap, arith}
use Rattle.def_plan.specs.declared.PlanFault.TheVariants as fault
use Rattle.ms_assets.proofs.Repeats.{repeated_from, repeats_here, repeats_later, repeats_none}
use Rattle.ms_plan_file.proofs.plan_file.check_repeats.Goals as goal

pub returns-then-holds_key_of : goal.returns-then-holds_key_of
returns-then-holds_key_of c =
    let held = sym c.holds_key_of.ensures ∙ c.if-holds_key_of.true in
    repeated_from fault.RepeatedKey c.args.table.now ∙ ap (option_map fault.RepeatedKey)
    (sym c.loop-i.invariant ∙ repeats_here c.loop-i.i c.args.table.now c.index-table-i.result c.loop-i-test.true c.index-table-i.is held)

pub loop-i-preserved : goal.loop-i-preserved
loop-i-preserved c =
    let held = sym c.holds_key_of.ensures ∙ c.if-holds_key_of.false in
    repeats_later c.loop-i.i c.args.table.now c.index-table-i.result c.loop-i-test.true c.index-table-i.is held ∙ c.loop-i.invariant

pub returns : goal.returns
returns c = (
  repeated_from fault.RepeatedKey c.args.table.now
      ∙ ap (option_map fault.RepeatedKey) (sym c.loop-i.invariant ∙ repeats_none c.loop-i.i c.args.table.now (omega (arith, c.loop-i-test.false))),
  refl,
)
