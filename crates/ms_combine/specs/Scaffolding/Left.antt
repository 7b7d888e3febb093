-- The lines of a source that are left. No public clause cites it, so it need not be believed.
use Rattle.std.specs.Prelude.{ℕ, suc, ◌+◌, ◌^◌, ◌≤◌, List, [], length, Option, Some, None}
use Rattle.std.specs.Option.{option_map}
use Rattle.def_script.specs.Bytes.{Bytes}
use Rattle.def_combine.specs.Combine as combine
use Rattle.ms_combine.specs.declared.lines.Line.{Line}
use Rattle.ms_combine.specs.declared.lines.LinesLeft.{LinesLeft}

-- the lines of what stands from the first on; none where no line is left
abbrev pub lines_in : Option Bytes → List Bytes
lines_in None = []
lines_in (Some rest) = combine.lines rest

abbrev pub rest_of : LinesLeft → Option Bytes
rest_of left = option_map (λ rest. rest.now) left.rest

-- those of which something is left without blanks
abbrev pub texts_left : LinesLeft → List combine.Line
texts_left left = combine.lines_from left.number (lines_in (rest_of left))

abbrev pub text_of : Line → combine.Line
text_of line = record { number = line.number; text = line.text.items }

-- as many lines may come as there are bytes, and one more
abbrev pub most_lines : Option Bytes → ℕ
most_lines None = 0
most_lines (Some rest) = suc (length rest)

abbrev pub HasRoom : LinesLeft → Type 0
HasRoom left = left.number + most_lines (rest_of left) ≤ 2 ^ 32
