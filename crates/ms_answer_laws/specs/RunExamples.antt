-- Answers to `run`.
use Rattle.std.specs.Prelude.{◌<◌, length, List, [], ◌∷◌, ◌++◌, codes}
use Rattle.def_script.specs.Bytes.{Bytes}
use Rattle.def_answer.specs.declared.status.Status.TheVariants as status
use Rattle.def_answer.specs.Lines.{MOST_FILE}
use Rattle.def_answer.specs.Answer.{Answer}
use Rattle.def_answer.specs.Samples.{A, SIG_A, file, number, signature, signatures, strings, nothing, times, lines}

-- the member `script`
abbrev pub script : (digits : Bytes) → Bytes
script digits = codes "\"script\":\"" ++ digits ++ codes "\""

-- the member `witness`
abbrev pub witness : (digits : List Bytes) → Bytes
witness digits = strings (codes "witness") digits

-- a run file of these members is accepted, with this report; or its script is refused, by this fault and
-- at this instruction
abbrev pub Accepts : (members : List Bytes) → (report : List Bytes) → Type 0
Accepts members report = Answer (codes "run" ∷ []) (file members) status.Done (lines report)

abbrev pub Faults : (members : List Bytes) → (fault : Bytes) → Type 0
Faults members fault =
    Answer (codes "run" ∷ []) (file members) status.ScriptRefused (lines ((codes "refused script " ++ fault) ∷ []))

abbrev pub AcceptedRuns : Type 0
AcceptedRuns =
    Accepts (script (codes "51") ∷ []) (codes "accepted ops 0 peak 1" ∷ [])
    × Accepts (script (codes "006301016851") ∷ []) (codes "accepted ops 2 peak 1" ∷ [])
    × Accepts (script (codes "050000008000b2") ∷ []) (codes "accepted ops 1 peak 1" ∷ [])

-- a good pair has a line
abbrev pub AcceptedSignature : Type 0
AcceptedSignature =
    Accepts (script (codes "21" ++ A ++ codes "ac") ∷ witness (SIG_A ∷ []) ∷ signatures (signature A SIG_A ∷ []) ∷ [])
    (codes "accepted ops 1 peak 2" ∷ (codes "check " ++ A ++ codes " " ++ SIG_A) ∷ [])

abbrev pub FaultLines : Type 0
FaultLines =
    Faults (script (codes "51") ∷ witness (codes "00" ∷ []) ∷ []) (codes "CleanStack at 1")
    × Faults (script (codes "514c") ∷ []) (codes "Truncated at 1")
    × Faults (script (codes "0101") ∷ []) (codes "NonMinimalPush at 0")
    × Faults (script (codes "0063616851") ∷ []) (codes "Unsupported at 2")
    × Faults (script (codes "76") ∷ []) (codes "StackUnderflow at 0")
    × Faults (script (codes "6c") ∷ []) (codes "AltUnderflow at 0")
    × Faults (script (codes "516351") ∷ []) (codes "Unbalanced at 3")
    × Faults (script (codes "6351675168") ∷ witness (codes "02" ∷ []) ∷ []) (codes "MinimalIf at 0")
    × Faults (script (codes "0069") ∷ []) (codes "Verify at 1")
    × Faults (script (codes "92") ∷ witness (codes "0100" ∷ []) ∷ []) (codes "NumberForm at 0")
    × Faults (script (codes "4fb1") ∷ []) (codes "NegativeLock at 1")
    × Faults (script (codes "52b1") ∷ number (codes "locktime") 1 ∷ []) (codes "UnmetLock at 1")
    × Faults (script (codes "020202ac") ∷ witness (nothing ∷ []) ∷ []) (codes "KeyForm at 1")
    × Faults (script (codes "21" ++ A ++ codes "ac") ∷ witness (SIG_A ∷ []) ∷ []) (codes "NullFail at 1")
    × Faults (script (codes "0115ae") ∷ []) (codes "KeyCount at 1")
    × Faults (script (codes "5221" ++ A ++ codes "51ae") ∷ []) (codes "SigCount at 3")
    × Faults (script nothing ∷ witness (codes "80" ∷ []) ∷ []) (codes "EvalFalse at 0")

abbrev pub NullDummyLine : Type 0
NullDummyLine =
    Faults (script (codes "5121" ++ A ++ codes "51ae") ∷ witness (codes "01" ∷ SIG_A ∷ [])
    ∷ signatures (signature A SIG_A ∷ []) ∷ [])
    (codes "NullDummy at 3")

-- 10,001 bytes; an element of 521 bytes; 202 opcodes; 1,001 elements
abbrev pub LimitLines : Type 0
LimitLines =
    Faults (script (times 10001 (codes "51")) ∷ []) (codes "ScriptSize at 0")
    × Faults (script (codes "51") ∷ witness (times 521 (codes "00") ∷ []) ∷ []) (codes "ElementSize at 0")
    × Faults (script (codes "51" ++ times 202 (codes "92")) ∷ []) (codes "OpCount at 202")
    × Faults (script (times 1001 (codes "51")) ∷ []) (codes "StackSize at 1000")

-- the file is refused
abbrev pub RefusedRunFiles : Type 0
RefusedRunFiles =
    Answer (codes "run" ∷ []) (codes "{}") status.FileRefused (codes "refused file Shape script\n")
    × Answer (codes "run" ∷ []) (codes "{\"script\":\"5\"}") status.FileRefused (codes "refused file Hex script 0\n")
    × Answer (codes "run"
    ∷ []) (codes "{\"signatures\":0}") status.FileRefused (codes "refused file Shape signatures\n")

-- over 1,048,576 bytes, whatever they are
abbrev pub RunFileTooLong : Type 0
RunFileTooLong =
    (source : Bytes) → MOST_FILE < length source → Answer (codes "run"
    ∷ []) source status.FileRefused (codes "refused file TooLong\n")
