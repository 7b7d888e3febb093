-- A token that is a piece.
use Rattle.std.proofs.Common.{sym, ◌∙◌}
use Rattle.ms_descriptor.specs.Expressions.{spot_at}
use Rattle.ms_descriptor.proofs.Gathering.{next_is}
use Rattle.ms_descriptor.proofs.pieces.next_token.Goals as goal

pub returns : goal.returns
returns c =
    next_is c.args.text.now c.token_at-token.result.now c.args.at (spot_at c.args.spot) c.args.level c.requires c.token_at-token.ensures.token
    c.token_at-token.ensures.within c.token_at-token.ensures.is (sym c.is_stuck.ensures ∙ c.if-is_stuck.false) (sym c.ends_at.ensures ∙ c.if-ends_at.false)
