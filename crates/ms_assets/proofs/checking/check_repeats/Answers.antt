use Rattle.std.proofs.Common.{option_map, refl, sym, ◌∙◌, ap, arith}
use Rattle.def_files.specs.declared.AssetFault.TheVariants as fault
use Rattle.def_files.specs.Parts.{same_under}
use Rattle.ms_assets.proofs.Repeats.{repeats_from, same_here, same_later, same_none}
use Rattle.ms_assets.proofs.checking.check_repeats.Goals as goal

pub returns-then-holds_same : goal.returns-then-holds_same
returns-then-holds_same c =
    let held = sym c.holds_same.ensures ∙ c.if-holds_same.true in
    repeats_from c.args.format fault.RepeatedKey c.args.pairs.now
    ∙ ap (option_map fault.RepeatedKey) (sym c.loop-i.invariant
    ∙ same_here (same_under c.args.format) c.loop-i.i c.args.pairs.now c.index-pairs-i.result c.loop-i-test.true c.index-pairs-i.is held)

pub loop-i-preserved : goal.loop-i-preserved
loop-i-preserved c =
    let held = sym c.holds_same.ensures ∙ c.if-holds_same.false in
    same_later (same_under c.args.format) c.loop-i.i c.args.pairs.now c.index-pairs-i.result c.loop-i-test.true c.index-pairs-i.is held ∙ c.loop-i.invariant

pub returns : goal.returns
returns c = (
  repeats_from c.args.format fault.RepeatedKey c.args.pairs.now
      ∙ ap (option_map fault.RepeatedKey) (sym c.loop-i.invariant
      ∙ same_none (same_under c.args.format) c.loop-i.i c.args.pairs.now (omega (arith, c.loop-i-test.false))),
  refl,
)
