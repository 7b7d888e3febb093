use Rattle.ms_psbt.proofs.Places.{no_key}
use Rattle.ms_psbt.proofs.repeats.pair_key_at.Goals as goal

pub returns-then-place-bytes : goal.returns-then-place-bytes
returns-then-place-bytes c = no_key c.args.bytes.now c.args.place c.if-place-bytes.true
