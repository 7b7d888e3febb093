use Rattle.ms_combine.proofs.Spelled.{says}
use Rattle.ms_combine.proofs.whole.has_transaction.Goals as goal

pub returns-in-Ok-clause-says : goal.returns-in-Ok-clause-says
returns-in-Ok-clause-says c = λ given e.
    says c.args.bytes.now c.in-Ok.psbt given c.are_same_transaction.result c.in-Ok.ensures.sound c.in-Ok.ensures.text c.in-Ok.ensures.reading
    (c.are_same_transaction.ensures.same c.in-Ok.psbt.transaction given c.transaction_bytes.ensures.transaction e)
