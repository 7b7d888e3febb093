-- A token, and a key.
use Rattle.std.proofs.Common.{ap, sym, ◌∙◌, [], ◌∷◌}
use Rattle.def_descriptor.specs.Answer.{sample}
use Rattle.ms_descriptor.specs.declared.pieces.Piece.{Piece}
use Rattle.ms_descriptor.specs.Expressions.{expression_at}
use Rattle.ms_descriptor.specs.Miniscripts.{between, piece_at}
use Rattle.ms_descriptor.proofs.Sampling.{sample_plain, sample_key}
use Rattle.ms_descriptor.proofs.sample.text_of.Goals as goal

pub returns-in-Plain : goal.returns-in-Plain
returns-in-Plain c =
    sample_plain c.in-Plain.at (between c.args.text.now c.in-Plain.at c.in-Plain.end)
    ∙ ap (λ (z : Piece). sample (piece_at c.args.text.now z ∷ [])) (sym c.in-Plain.is)

pub returns-in-Key : goal.returns-in-Key
returns-in-Key c =
    sample_key (expression_at c.in-Key.field-0.value) ∙ ap (λ (z : Piece). sample (piece_at c.args.text.now z ∷ [])) (sym c.in-Key.is)
