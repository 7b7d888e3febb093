use Rattle.std.proofs.Common.{◌∙◌, sym}
use Rattle.ms_psbt.proofs.Skipping.{transaction_counted}
use Rattle.ms_psbt.proofs.transaction.transaction_counts.Goals as goal

pub returns : goal.returns
returns c = c.read_counts.ensures ∙ sym (transaction_counted c.args.bytes.now)
