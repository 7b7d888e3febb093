-- Examples of lines: how bytes are cut, what a line asks or why it is refused, and how it is answered.
use Rattle.std.specs.Prelude.{◌≡◌, List, [], ◌∷◌, ◌++◌, codes, replicate, None, Some}
use Rattle.def_script.specs.Bytes.{Bytes}
use Rattle.def_lines.specs.declared.Part.TheVariants as part
use Rattle.def_lines.specs.declared.LineFault.TheVariants as fault
use Rattle.def_lines.specs.Lines.{cut, lines}
use Rattle.def_lines.specs.Question.{whole, text, Line, asks, refused, line_of}
use Rattle.def_lines.specs.Answer.{answer_line, fault_line, REFUSED, NO_MEMORY}
use Rattle.def_lines.specs.Answers.{AnswersOf}
use Rattle.def_lines.specs.Laws.{IsToldBy}

-- ---- lines

abbrev pub NoLine : Type 0
NoLine = lines [] ≡ []

-- a line feed alone ends an empty line
abbrev pub OneFeed : Type 0
OneFeed = lines (codes "\n") ≡ [] ∷ []

abbrev pub TwoLines : Type 0
TwoLines = lines (codes "ab\nc\n") ≡ codes "ab" ∷ codes "c" ∷ []

-- the last line needs no line feed
abbrev pub NoLastFeed : Type 0
NoLastFeed = lines (codes "ab\n\nc") ≡ codes "ab" ∷ [] ∷ codes "c" ∷ []

-- a carriage return is a byte of its line
abbrev pub CarriageReturn : Type 0
CarriageReturn = lines (codes "ab\r\n") ≡ codes "ab\r" ∷ []

-- what ends in bytes, and the beginning of what doesn't
abbrev pub CutInside : Type 0
CutInside = cut (codes "ab\nc") ≡ record { ended = codes "ab" ∷ []; rest = codes "c" }

-- ---- questions

-- the Script of `1`
abbrev pub script_words : List Bytes
script_words = codes "script" ∷ codes "1" ∷ []

abbrev pub asks_script : Line
asks_script = asks None script_words []

abbrev pub Plain : Type 0
Plain = line_of (codes "{\"words\": [\"script\", \"1\"]}") ≡ asks_script

-- spaces, a carriage return, and the members in any order
abbrev pub Spaces : Type 0
Spaces =
    line_of (codes " { \"source\" : \"\" ,\t\"words\" : [ \"script\" , \"1\" ] , \"id\" : 5 } \r")
    ≡ asks (Some (whole 5)) script_words []

-- escapes
abbrev pub Escapes : Type 0
Escapes =
    (line_of (codes "{\"words\":[\"\\u0073cript\",\"\\u0031\"],\"id\":\"\\u0061\\u002Fb\"}")
    ≡ asks (Some (text (codes "a/b"))) script_words [])
    × (line_of (codes "{\"words\":[\"script\",\"\\u0000\"]}") ≡ asks None (codes "script" ∷ (0 ∷ []) ∷ []) [])
    × (line_of (codes "{\"words\":[\"run\"],\"source\":\"\\u007b\\\"script\\\":\\\"5\\u0031\\\"}\"}")
    ≡ asks None (codes "run" ∷ []) (codes "{\"script\":\"51\"}"))

-- other members are passed over, and the last of one name counts
abbrev pub OtherMembers : Type 0
OtherMembers =
    line_of (codes "{\"words\": [\"script\", \"1\"], \"note\": {\"a\": [1, 2.5, null]}, \"Source\": 0, \"status\": 3}")
    ≡ asks_script

abbrev pub MembersTwice : Type 0
MembersTwice =
    (line_of (codes "{\"id\":1,\"words\":[\"script\",\"0\"],\"id\":2,\"words\":[\"script\",\"1\"]}")
    ≡ asks (Some (whole 2)) script_words [])
    × (line_of (codes "{\"words\":[\"script\",\"1\"],\"words\":null}") ≡ refused None (fault.Shape part.Words))

-- there may be no word, and the words need have no form
abbrev pub NoWords : Type 0
NoWords =
    (line_of (codes "{\"id\": 0, \"words\": []}") ≡ asks (Some (whole 0)) [] [])
    × (line_of (codes "{\"words\": [\"lines\"]}") ≡ asks None (codes "lines" ∷ []) [])

-- ids at their ends
abbrev pub with_id_of : (id : Bytes) → Bytes
with_id_of id = codes "{\"id\":" ++ id ++ codes ",\"words\":[\"script\",\"1\"]}"

abbrev pub Ids : Type 0
Ids =
    (line_of (with_id_of (codes "0")) ≡ asks (Some (whole 0)) script_words [])
    × (line_of (with_id_of (codes "9007199254740991")) ≡ asks (Some (whole 9007199254740991)) script_words [])
    × (line_of (with_id_of (codes "\"\"")) ≡ asks (Some (text [])) script_words [])
    × (line_of (with_id_of (codes "\"" ++ replicate 256 97 ++ codes "\"")) ≡ asks (Some (text (replicate 256 97))) script_words [])
    × (line_of (with_id_of (codes "\" !#$[]^~\"")) ≡ asks (Some (text (codes " !#$[]^~"))) script_words [])

-- ---- refusals

abbrev pub IsRefused : (line : Bytes) → Type 0
IsRefused line = line_of line ≡ refused None fault.NotJson

abbrev pub NotJson : Type 0
NotJson =
    IsRefused []
    × IsRefused (codes " ")
    × IsRefused (codes "\r")
    × IsRefused (codes "{\"id\":1,\"words\":[\"script\",\"1\"]")
    × IsRefused (codes "{\"words\":[\"script\",\"1\"]} x")
    × IsRefused (codes "{'words':[]}")
    × IsRefused (codes "{\"words\":[\"" ++ 0xff ∷ codes "\"]}")
    × IsRefused (codes "{\"words\":[\"\\ud800\"]}")
    × IsRefused (codes "{\"words\":[\"script\",1e400]}")
    × IsRefused (0xef ∷ 0xbb ∷ 0xbf ∷ codes "{\"words\":[\"script\",\"1\"]}")

-- 126 lists in one another in an object, and 127
abbrev pub nested_in : (lists : Bytes) → Bytes
nested_in lists = codes "{\"words\":[\"script\",\"1\"],\"x\":" ++ lists ++ codes "}"

abbrev pub Nested : Type 0
Nested =
    (line_of (nested_in (replicate 126 91 ++ replicate 126 93)) ≡ asks_script)
    × IsRefused (nested_in (replicate 127 91 ++ replicate 127 93))

abbrev pub NoObject : Type 0
NoObject =
    (line_of (codes "[]") ≡ refused None (fault.Shape part.Line))
    × (line_of (codes "\"script\"") ≡ refused None (fault.Shape part.Line))
    × (line_of (codes "null") ≡ refused None (fault.Shape part.Line))

abbrev pub RefusesId : (id : Bytes) → Type 0
RefusesId id = line_of (with_id_of id) ≡ refused None (fault.Shape part.Id)

abbrev pub OtherIds : Type 0
OtherIds =
    RefusesId (codes "9007199254740992")
    × RefusesId (codes "-1")
    × RefusesId (codes "-0")
    × RefusesId (codes "1.0")
    × RefusesId (codes "1e0")
    × RefusesId (codes "null")
    × RefusesId (codes "true")
    × RefusesId (codes "[]")
    × RefusesId (codes "{}")

abbrev pub OtherTexts : Type 0
OtherTexts =
    RefusesId (codes "\"" ++ replicate 257 97 ++ codes "\"")
    × RefusesId (codes "\"a\\\"b\"")
    × RefusesId (codes "\"a\\\\b\"")
    × RefusesId (codes "\"\\n\"")
    × RefusesId (codes "\"\\u007f\"")
    × RefusesId (codes "\"\\u00e9\"")

abbrev pub OtherWords : Type 0
OtherWords =
    (line_of (codes "{\"id\": 1}") ≡ refused (Some (whole 1)) (fault.Shape part.Words))
    × (line_of (codes "{\"id\": 2, \"words\": \"script\"}") ≡ refused (Some (whole 2)) (fault.Shape part.Words))
    × (line_of (codes "{\"id\": 3, \"words\": [\"script\", 1]}") ≡ refused (Some (whole 3)) (fault.Shape part.Words))
    × (line_of (codes "{\"id\": 4, \"words\": null}") ≡ refused (Some (whole 4)) (fault.Shape part.Words))

abbrev pub OtherSources : Type 0
OtherSources =
    (line_of (codes "{\"id\": \"x\", \"words\": [\"run\"], \"source\": {\"script\": \"51\"}}")
    ≡ refused (Some (text (codes "x"))) (fault.Shape part.Source))
    × (line_of (codes "{\"words\": [\"run\"], \"source\": null}") ≡ refused None (fault.Shape part.Source))

-- the id goes first, then the words
abbrev pub InOrder : Type 0
InOrder =
    (line_of (codes "{\"id\":-1,\"words\":0,\"source\":0}") ≡ refused None (fault.Shape part.Id))
    × (line_of (codes "{\"id\":1,\"words\":0,\"source\":0}") ≡ refused (Some (whole 1)) (fault.Shape part.Words))
    × (line_of (codes "{\"id\":1,\"words\":[],\"source\":0}") ≡ refused (Some (whole 1)) (fault.Shape part.Source))

-- ---- answers

abbrev pub WithoutId : Type 0
WithoutId =
    answer_line None 2 (codes "refused text Syntax at 3\n")
    ≡ codes "{\"status\":2,\"report\":\"refused text Syntax at 3\\n\"}\n"

abbrev pub WithIds : Type 0
WithIds =
    (answer_line (Some (text (codes "6f1a..:0"))) 0 (codes "accepted ops 0 peak 1\n")
    ≡ codes "{\"id\":\"6f1a..:0\",\"status\":0,\"report\":\"accepted ops 0 peak 1\\n\"}\n")
    × (answer_line (Some (whole 9007199254740991)) 10 (codes "no reading\n")
    ≡ codes "{\"id\":9007199254740991,\"status\":10,\"report\":\"no reading\\n\"}\n")

abbrev pub NoMemory : Type 0
NoMemory = answer_line (Some (whole 7)) NO_MEMORY [] ≡ codes "{\"id\":7,\"status\":7,\"report\":\"\"}\n"

abbrev pub Refusals : Type 0
Refusals =
    (answer_line None REFUSED (fault_line fault.TooLong) ≡ codes "{\"status\":12,\"report\":\"refused line TooLong\\n\"}\n")
    × (answer_line None REFUSED (fault_line fault.NotJson) ≡ codes "{\"status\":12,\"report\":\"refused line NotJson\\n\"}\n")
    × (answer_line None REFUSED (fault_line (fault.Shape part.Line)) ≡ codes "{\"status\":12,\"report\":\"refused line Shape line\\n\"}\n")
    × (answer_line None REFUSED (fault_line (fault.Shape part.Id)) ≡ codes "{\"status\":12,\"report\":\"refused line Shape id\\n\"}\n")
    × (answer_line (Some (whole 1)) REFUSED (fault_line (fault.Shape part.Words))
    ≡ codes "{\"id\":1,\"status\":12,\"report\":\"refused line Shape words\\n\"}\n")
    × (answer_line (Some (text (codes "x"))) REFUSED (fault_line (fault.Shape part.Source))
    ≡ codes "{\"id\":\"x\",\"status\":12,\"report\":\"refused line Shape source\\n\"}\n")

-- ---- answers that answer

-- a program that answers everything with 3 and `x`
abbrev pub always_three : AnswersOf
always_three words source status report = (status ≡ 3) × (report ≡ codes "x\n")

-- the answer of this program to a question with an id
abbrev pub asks_three : Bytes
asks_three = codes "{\"id\":1,\"words\":[]}"

abbrev pub TellsThree : Type 0
TellsThree = IsToldBy always_three asks_three (codes "{\"id\":1,\"status\":3,\"report\":\"x\\n\"}")

-- and no line with another id, status or report answers the question
abbrev pub Answered : (line answer : Bytes) → Type 0
Answered line answer = IsToldBy always_three line answer

abbrev pub OthersThanTheirs : Type 0
OthersThanTheirs =
    (¬ Answered asks_three (codes "{\"id\":2,\"status\":3,\"report\":\"x\\n\"}"))
    × (¬ Answered asks_three (codes "{\"status\":3,\"report\":\"x\\n\"}"))
    × (¬ Answered asks_three (codes "{\"id\":1,\"status\":4,\"report\":\"x\\n\"}"))
    × (¬ Answered asks_three (codes "{\"id\":1,\"status\":3,\"report\":\"y\\n\"}"))

-- so of a line that is no question
abbrev pub OthersThanRefusals : Type 0
OthersThanRefusals =
    (¬ Answered (codes "[]") (codes "{\"id\":1,\"status\":12,\"report\":\"refused line Shape line\\n\"}"))
    × (¬ Answered (codes "[]") (codes "{\"status\":3,\"report\":\"refused line Shape line\\n\"}"))
    × (¬ Answered (codes "[]") (codes "{\"status\":12,\"report\":\"refused line NotJson\\n\"}"))
