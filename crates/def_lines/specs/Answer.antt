-- The line that answers a question: a JSON object (RFC 8259) without a space, and a line feed.
use Rattle.std.specs.Prelude.{ℕ, ◌==◌, if◌then◌else◌, [], ◌∷◌, ◌++◌, codes, decimal, Option, Some, None}
use Rattle.def_script.specs.Bytes.{Bytes}
use Rattle.def_lines.specs.declared.Part.{Part}
use Rattle.def_lines.specs.declared.Part.TheVariants as part
use Rattle.def_lines.specs.declared.LineFault.{LineFault}
use Rattle.def_lines.specs.declared.LineFault.TheVariants as fault
use Rattle.def_lines.specs.Lines.{LF}
use Rattle.def_lines.specs.Question.{Id, whole, text}

-- a number in decimal, or the string between quotes
abbrev pub id_spelled : Id → Bytes
id_spelled (whole n) = decimal n
id_spelled (text t) = codes "\"" ++ t ++ codes "\""

abbrev pub id_member : Option Id → Bytes
id_member None = []
id_member (Some id) = codes "\"id\":" ++ id_spelled id ++ codes ","

-- a report in a string: each line feed as JSON writes it. No report has a quote, a backslash or another control character
abbrev pub byte_escaped : ℕ → Bytes
byte_escaped byte = if byte == LF then codes "\\n" else byte ∷ []

unfoldable pub escaped : (report : Bytes) → Bytes
escaped [] = []
escaped (byte ∷ report) = byte_escaped byte ++ escaped report

unfoldable pub answer_line : Option Id → (status : ℕ) → (report : Bytes) → Bytes
answer_line id status report =
    codes "{" ++ id_member id ++ codes "\"status\":" ++ decimal status ++ codes ",\"report\":\"" ++ escaped report
    ++ codes "\"}" ++ LF ∷ []

-- ---- refusals

-- the status of an answer to a line that is no question, which no call ends with
abbrev pub REFUSED : ℕ
REFUSED = 12

-- the status of an answer for which memory was wanting
abbrev pub NO_MEMORY : ℕ
NO_MEMORY = 7

abbrev pub part_name : Part → Bytes
part_name part.Line = codes "line"
part_name part.Id = codes "id"
part_name part.Words = codes "words"
part_name part.Source = codes "source"

abbrev pub fault_line : LineFault → Bytes
fault_line fault.TooLong = codes "refused line TooLong" ++ LF ∷ []
fault_line fault.NotJson = codes "refused line NotJson" ++ LF ∷ []
fault_line (fault.Shape p) = codes "refused line Shape " ++ part_name p ++ LF ∷ []
