-- The Script of a text that isn't that of a single key.
use Rattle.ms_outputs.proofs.Together.{scripted}
use Rattle.ms_outputs.proofs.given.script_for.Goals as goal

pub returns : goal.returns
returns c = scripted c.args.text.now c.in_ok-script_in.field-0 c.args.body.now c.in_default.not-Single c.in_ok-script_in.ensures
