use Rattle.std.proofs.Common.{◌≡◌, ◌+◌, max, ◌∙◌, ap, arith}
use Rattle.def_height.specs.Scaffolding.Highest.{only}
use Rattle.ms_height.specs.Scaffolding.Choice.{items_of}
use Rattle.ms_height.specs.Scaffolding.Chosen.{more_sats, more_dsats}
use Rattle.ms_height.proofs.Choices.{fixed_child, length_sats, length_dsats}
use Rattle.ms_height.proofs.choice.Choice.add_fixed.Goals as goal

pub add-requires-clause-told : goal.add-requires-clause-told
add-requires-clause-told c = let t = c.requires.told in (t.0, more_sats t.2, t.3.sats, omega (arith, t.4, length_sats t.2))

pub add-requires-2-clause-told : goal.add-requires-2-clause-told
add-requires-2-clause-told c = let t = c.requires.told in (t.1, more_dsats t.2, t.3.dsats, omega (arith, t.4, length_dsats t.2))

pub returns-clause-sat : goal.returns-clause-sat
returns-clause-sat c = λ t u cs is few.
    let fixed = c.args.fixed.now in
    let best : max (fixed.height + items_of cs t u) (c.args.left + c.args.self.now.best) ≡ c.max-self.result = omega (arith, c.max-self.ensures, c.items.ensures.items _ _ t u 0 cs is) in
    record {
      base = omega (arith, is.base);
      best = fixed_child c.args.left fixed cs t u c.args.self.now.best is.best ∙ ap (only _) best;
      sats = c.add.ensures t (more_sats cs) is.sats (omega (arith, few, length_sats cs));
      dsats = c.add-2.ensures u (more_dsats cs) is.dsats (omega (arith, few, length_dsats cs));
      fine = omega (arith, is.fine);
      light = omega (arith, is.light, c.requires.fixed.items);
      low = omega (arith, best, is.low, c.requires.left, c.requires.fixed.height, c.items.ensures.low, c.items.ensures.items _ _ t u 0 cs is);
      bounds = is.bounds;
    }

pub returns-clause-dsat : goal.returns-clause-dsat
returns-clause-dsat c = λ t u cs is few.
    let fixed = c.args.fixed.now in
    let best : max (fixed.height + items_of cs t u) (c.args.left + c.args.self.now.best) ≡ c.max-self.result = omega (arith, c.max-self.ensures, c.items.ensures.items _ _ t u 0 cs is) in
    record {
      base = omega (arith, is.base);
      best = fixed_child c.args.left fixed cs t u c.args.self.now.best is.best ∙ ap (only _) best;
      sats = c.add.ensures t (more_sats cs) is.sats (omega (arith, few, length_sats cs));
      dsats = c.add-2.ensures u (more_dsats cs) is.dsats (omega (arith, few, length_dsats cs));
      fine = omega (arith, is.fine);
      light = omega (arith, is.light, c.requires.fixed.items);
      low = omega (arith, best, is.low, c.requires.left, c.requires.fixed.height, c.items.ensures.low, c.items.ensures.items _ _ t u 0 cs is);
      bounds = is.bounds;
    }
