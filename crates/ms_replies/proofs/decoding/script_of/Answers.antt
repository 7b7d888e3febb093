use Rattle.std.proofs.Common.{sym, ◌∙◌}
use Rattle.ms_words.proofs.SpellingLemmas.{no_fault}
use Rattle.ms_replies.proofs.decoding.script_of.Goals as goal

pub unreachable-requires : goal.unreachable-requires
unreachable-requires c =
    no_fault c.args.digits.now _ c.requires (λ memory. cc (sym c.in-Err-InvalidHexCharacter.field-0-is ∙ memory)) c.in-Err-InvalidHexCharacter.ensures.err

pub unreachable-requires-in-Err-OddLength : goal.unreachable-requires-in-Err-OddLength
unreachable-requires-in-Err-OddLength c =
    no_fault c.args.digits.now _ c.requires (λ memory. cc (sym c.in-Err-OddLength.field-0-is ∙ memory)) c.in-Err-OddLength.ensures.err

pub unreachable-requires-in-Err-InvalidStringLength : goal.unreachable-requires-in-Err-InvalidStringLength
unreachable-requires-in-Err-InvalidStringLength c =
    no_fault c.args.digits.now _ c.requires (λ memory. cc (sym c.in-Err-InvalidStringLength.field-0-is ∙ memory)) c.in-Err-InvalidStringLength.ensures.err
