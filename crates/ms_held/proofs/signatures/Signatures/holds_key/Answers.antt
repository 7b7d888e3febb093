use Rattle.std.proofs.Common.{◌∙◌, ap, is_some}
use Rattle.ms_held.proofs.Orders.{some_held, some_seen}
use Rattle.ms_held.proofs.signatures.Signatures.holds_key.Goals as goal

pub returns : goal.returns
returns c = c.is_some.ensures ∙ some_seen c.shortest.result ∙ ap is_some c.shortest.ensures ∙ some_held c.args.self.now c.args.key.now
