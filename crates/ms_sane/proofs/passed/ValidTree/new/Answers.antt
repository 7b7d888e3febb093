use Rattle.std.proofs.Common.{◌∙◌, arith, ap, sym}
use Rattle.def_limits.specs.declared.Limits.{Limits}
use Rattle.def_sane.proofs.Meanings.{valid_under_consensus}
use Rattle.def_sane.proofs.TheLimits.{as_computed}
use Rattle.ms_tree.specs.Shape.{shape}
use Rattle.ms_sane.proofs.Known.{valid_within, unfit_items}
use Rattle.ms_sane.proofs.passed.ValidTree.new.Goals as goal

pub returns-then-are_too_many-clause-unfit : goal.returns-then-are_too_many-clause-unfit
returns-then-are_too_many-clause-unfit c =
    let short = c.in_ok-short.ensures.short in
    let limits = c.limits_from-limits.ensures.limits in (
      unfit_items c.args.rules (shape c.args.tree) c.in_ok-short.short.ty c.limits_from-limits.result (sym short.typed) short.top limits
          (omega (arith, short.size, short.extent.bytes, ap (λ (l : Limits). l.size) limits)) (omega (arith, c.if-limits.false)) (sym c.are_too_many.ensures ∙ c.if-are_too_many.true),
      tt,
    )

pub invariant_of-result : goal.invariant_of-result
invariant_of-result c =
    let short = c.in_ok-short.ensures.short in
    let limits = c.limits_from-limits.ensures.limits in
    let valid =
    valid_within c.args.rules (shape c.args.tree) c.in_ok-short.short.ty c.limits_from-limits.result (sym short.typed) short.top limits
    (omega (arith, short.size, short.extent.bytes, ap (λ (l : Limits). l.size) limits)) (omega (arith, c.if-limits.false)) (sym c.are_too_many.ensures ∙ c.if-are_too_many.false) in
    record {
      in_range = c.requires;
      valid = valid;
      valid_by_consensus = valid_under_consensus c.args.rules (shape c.args.tree) valid;
      typed = short.typed;
      limited = limits ∙ sym (as_computed (shape c.args.tree));
      room = omega (arith, c.in_ok-work.ensures, c.limits_from-limits.ensures.room);
    }
