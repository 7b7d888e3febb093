-- Answers to `decode HEX KEY..`.
use Rattle.std.specs.Prelude.{List, [], ◌∷◌, ◌++◌, codes}
use Rattle.def_script.specs.Bytes.{Bytes}
use Rattle.def_answer.specs.declared.status.Status.TheVariants as status
use Rattle.def_answer.specs.Answer.{Answer}
use Rattle.def_answer.specs.Samples.{A, B, C, nothing, lines}
use Rattle.ms_answer_laws.specs.SatisfyExamples.{late_script}

-- a Script is read back as a text, with these keys
abbrev pub Decodes : (script : Bytes) → (keys : List Bytes) → (text : Bytes) → Type 0
Decodes script keys text = Answer (codes "decode" ∷ script ∷ keys) nothing status.Done (lines ((codes "text " ++ text) ∷ []))

-- or can't be
abbrev pub IsUnread : (script : Bytes) → (keys : List Bytes) → Type 0
IsUnread script keys = Answer (codes "decode" ∷ script ∷ keys) nothing status.NoReading (codes "no reading\n")

-- a key
abbrev pub ReadKey : Type 0
ReadKey = Decodes (codes "21" ++ A ++ codes "ac") [] (codes "c:pk_k(" ++ A ++ codes ")")

-- three keys, nested to the right
abbrev pub ReadChain : Type 0
ReadChain =
    Decodes (codes "21" ++ A ++ codes "ad21" ++ B ++ codes "ad21" ++ C ++ codes "ac") []
    (codes "and_v(vc:pk_k(" ++ A ++ codes "),and_v(vc:pk_k(" ++ B ++ codes "),c:pk_k(" ++ C ++ codes ")))")

-- the hash of a key, with the key and without it
abbrev pub ReadKeyHash : Type 0
ReadKeyHash =
    Decodes late_script (B ∷ []) (codes "or_d(c:pk_k(" ++ A ++ codes "),and_v(vc:pk_h(" ++ B ++ codes "),older(144)))")
    × IsUnread late_script []
    × IsUnread late_script (A ∷ C ∷ [])

-- `1`; an opcode alone; no byte; a VERIFY that isn't fused
abbrev pub ReadShort : Type 0
ReadShort =
    Decodes (codes "51") [] (codes "1") × IsUnread (codes "ac") [] × IsUnread [] []
    × IsUnread (codes "21" ++ A ++ codes "ac6951") []

-- an odd number of digits; no digit; no key; no Script
abbrev pub NoScript : Type 0
NoScript =
    let IsUsage = λ (words : List Bytes). Answer (codes "decode" ∷ words) nothing status.Usage (codes "refused usage\n") in
    IsUsage (codes "5" ∷ []) × IsUsage (codes "5g" ∷ []) × IsUsage (codes "51" ∷ codes "02" ∷ []) × IsUsage (codes "51" ∷ A ∷ [] ∷ [])
    × IsUsage []
