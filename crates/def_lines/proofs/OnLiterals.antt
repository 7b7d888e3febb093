-- What a proof unfolds so that a line that is written out computes.
use Rattle.std.specs.Prelude.{⊤}
use Rattle.def_files.proofs.OnLiterals.{files_on_literals}
use Rattle.def_lines.specs.Lines.{cut}
use Rattle.def_lines.specs.Question.{line_of}
use Rattle.def_lines.specs.Answer.{answer_line, escaped}

unfoldable pub lines_on_literals : ⊤
unfolding cut line_of answer_line escaped files_on_literals
lines_on_literals = tt
