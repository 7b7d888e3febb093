use Rattle.std.proofs.Common.{◌≡◌, ℕ, ◌+◌, max, ◌∷◌, ◌∙◌, ap, subst, arith}
use Rattle.def_height.specs.Scaffolding.Highest.{only}
use Rattle.ms_height.specs.Scaffolding.Choice.{items_of, reach}
use Rattle.ms_height.specs.Scaffolding.Chosen.{more_sats, more_dsats}
use Rattle.ms_height.specs.Scaffolding.Tops.{IsTop}
use Rattle.ms_height.proofs.Choices.{free_child, length_sats, length_dsats}
use Rattle.ms_height.proofs.choice.Choice.add_free.Goals as goal

pub add-requires-clause-told : goal.add-requires-clause-told
add-requires-clause-told c = let t = c.requires.told in (t.0, more_sats t.2, t.3.sats, omega (arith, t.4, length_sats t.2))

pub add-requires-2-clause-told : goal.add-requires-2-clause-told
add-requires-2-clause-told c = let t = c.requires.told in (t.1, more_dsats t.2, t.3.dsats, omega (arith, t.4, length_dsats t.2))

pub returns : goal.returns
returns c = λ t u cs is few some.
    let sat = c.args.sat.now in
    let dsat = c.args.dsat.now in
    let at_sat = c.height_at_sat-at_sat.ensures.reach _ _ t u 0 cs is in
    let at_dsat = c.height_at_dsat-at_dsat.ensures.reach _ _ t u 0 cs is in
    let best : max (max (c.args.left + c.args.self.now.best) (reach (λ n. sat.height + items_of cs n u) t)) (reach (λ n. dsat.height + items_of cs t n) u) ≡ c.max-self.result =
    omega (arith, c.max-self.ensures, c.max.ensures, at_sat, at_dsat) in
    record {
      base = omega (arith, is.base, c.min.ensures);
      best = free_child c.args.left sat dsat cs t u c.args.self.now.best is.fine some is.best ∙ ap (only _) best;
      sats = subst (λ (n : ℕ). IsTop c.add.new.self c.add.new.counts t (n ∷ more_sats cs)) c.saturating_sub.ensures (c.add.ensures t (more_sats cs) is.sats (omega (arith, few, length_sats cs)));
      dsats = subst (λ (n : ℕ). IsTop c.add-2.new.self c.add-2.new.counts u (n ∷ more_dsats cs)) c.saturating_sub-2.ensures
          (c.add-2.ensures u (more_dsats cs) is.dsats (omega (arith, few, length_dsats cs)));
      fine = omega (arith, is.fine);
      light = omega (arith, is.light, c.min.ensures, c.requires.sat.items);
      low = omega (arith, c.max-self.ensures, c.max.ensures, is.low, c.requires.left, c.height_at_sat-at_sat.ensures.low, c.height_at_dsat-at_dsat.ensures.low);
      bounds = is.bounds;
    }
