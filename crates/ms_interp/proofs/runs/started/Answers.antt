use Rattle.std.proofs.Common.{refl, sym}
use Rattle.std.specs.Prelude.{reverse}
use Rattle.ms_interp.proofs.Running.{first_state, start-fits, start-too_long, start-too_big}
use Rattle.ms_interp.proofs.runs.started.Goals as goal

pub returns-then-script-gt-MAX_SCRIPT_SIZE-clause-value : goal.returns-then-script-gt-MAX_SCRIPT_SIZE-clause-value
returns-then-script-gt-MAX_SCRIPT_SIZE-clause-value c = (start-too_long c.args.script.now c.args.stack.now c.if-script-gt-MAX_SCRIPT_SIZE.true, refl)

pub returns-then-not-all_fit-clause-value : goal.returns-then-not-all_fit-clause-value
returns-then-not-all_fit-clause-value c = (start-too_big c.args.script.now c.args.stack.now c.if-script-gt-MAX_SCRIPT_SIZE.false (sym c.if-not-all_fit.ensures), refl)

pub returns-clause-value : goal.returns-clause-value
returns-clause-value c =
    let begun = rw c.in-Ok.ensures at c.new.ensures in
    (first_state (reverse c.args.stack.now), begun, start-fits c.args.script.now c.args.stack.now c.if-script-gt-MAX_SCRIPT_SIZE.false (sym c.if-not-all_fit.ensures))
