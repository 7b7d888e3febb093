-- Answers to `plan TEXT`.
use Rattle.std.specs.Prelude.{ℕ, ◌<◌, length, List, [], ◌∷◌, ◌++◌, codes, decimal}
use Rattle.def_script.specs.Bytes.{Bytes}
use Rattle.def_answer.specs.declared.status.Status.TheVariants as status
use Rattle.def_answer.specs.Lines.{MOST_FILE}
use Rattle.def_answer.specs.Answer.{Answer}
use Rattle.def_answer.specs.Samples.{A, B, C, pk, file, joined, number, nothing, lines}
use Rattle.ms_answer_laws.specs.SatisfyExamples.{lock_text}

-- a key that can sign, with the length of its signature; and the list of them
abbrev pub estimate : (key : Bytes) → (length : ℕ) → Bytes
estimate key length = codes "{\"key\":\"" ++ key ++ codes "\",\"length\":" ++ decimal length ++ codes "}"

abbrev pub estimates : List Bytes → Bytes
estimates texts = codes "\"keys\":[" ++ joined texts ++ codes "]"

-- the answer with a plan file of these members
abbrev pub Asks : (text : Bytes) → (members : List Bytes) → (report : List Bytes) → Type 0
Asks text members report = Answer (codes "plan" ∷ text ∷ []) (file members) status.Done (lines report)

-- there is no plan
abbrev pub NoneIsEnough : (text : Bytes) → (members : List Bytes) → Type 0
NoneIsEnough text members = Answer (codes "plan" ∷ text ∷ []) (file members) status.NoSatisfaction (codes "no satisfaction\n")

-- `multi(2,A,B,C)`: of three signatures the two shortest
abbrev pub two_of_three : Bytes
two_of_three = codes "multi(2," ++ A ++ codes "," ++ B ++ codes "," ++ C ++ codes ")"

abbrev pub ShortestTwo : Type 0
ShortestTwo =
    Asks two_of_three (estimates (estimate A 71 ∷ estimate B 72 ∷ estimate C 70 ∷ []) ∷ [])
    ((codes "ask " ++ A) ∷ (codes "ask " ++ C) ∷ codes "weight at most 144" ∷ [])

-- `thresh(3,pk(A),s:pk(B),s:pk(C),sln:older(32))` where the lock is met, and where it isn't
abbrev pub two_keys : Bytes
two_keys = estimates (estimate A 71 ∷ estimate C 70 ∷ [])

abbrev pub LockCounts : Type 0
LockCounts =
    Asks lock_text (number (codes "sequence") 32 ∷ two_keys ∷ [])
    ((codes "ask " ++ A) ∷ (codes "ask " ++ C) ∷ codes "weight at most 145" ∷ [])
    × NoneIsEnough lock_text (number (codes "sequence") 31 ∷ two_keys ∷ [])

-- no key at all, and one too few
abbrev pub TooFewKeys : Type 0
TooFewKeys = NoneIsEnough (pk A) [] × NoneIsEnough two_of_three (estimates (estimate B 72 ∷ []) ∷ [])

-- the line with which a file is refused
abbrev pub RefusesPlan : (source : Bytes) → (line : Bytes) → Type 0
RefusesPlan source line = Answer (codes "plan" ∷ pk A ∷ []) source status.FileRefused (lines ((codes "refused file " ++ line) ∷ []))

abbrev pub RefusedPlanFiles : Type 0
RefusedPlanFiles =
    RefusesPlan nothing (codes "NotJson")
    × RefusesPlan (codes "[]") (codes "Shape file")
    × RefusesPlan (codes "{\"keys\":{}}") (codes "Shape keys")
    × RefusesPlan (codes "{\"sequence\":4294967296}") (codes "Number sequence")
    × RefusesPlan (file (estimates (estimate (codes "0") 71 ∷ []) ∷ [])) (codes "Hex keys 0")
    × RefusesPlan (file (estimates (estimate A 71 ∷ estimate B 74 ∷ []) ∷ [])) (codes "Length 1")
    × RefusesPlan (file (estimates (estimate A 74 ∷ estimate (codes "00") 71 ∷ []) ∷ [])) (codes "KeyForm 1")
    × RefusesPlan (file (estimates (estimate A 71 ∷ estimate A 71 ∷ []) ∷ [])) (codes "RepeatedKey 1")

-- a text that isn't sane, and one that isn't spelled, whatever the file
abbrev pub PlanRefused : Type 0
PlanRefused =
    Answer (codes "plan" ∷ codes "1" ∷ []) nothing status.TextRefused (codes "refused text NoSignature\n")
    × Answer (codes "plan" ∷ codes "--malleable" ∷ []) nothing status.TextRefused (codes "refused text Syntax at 0\n")

-- over 1,048,576 bytes, whatever they are
abbrev pub PlanFileTooLong : Type 0
PlanFileTooLong = (source : Bytes) → MOST_FILE < length source → RefusesPlan source (codes "TooLong")
