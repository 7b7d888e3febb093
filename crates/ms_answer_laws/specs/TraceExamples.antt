-- Answers to `trace` and `trace TEXT`.
use Rattle.std.specs.Prelude.{◌<◌, length, List, [], ◌∷◌, ◌++◌, codes}
use Rattle.def_script.specs.Bytes.{Bytes}
use Rattle.def_answer.specs.declared.status.Status.{Status}
use Rattle.def_answer.specs.declared.status.Status.TheVariants as status
use Rattle.def_answer.specs.Lines.{MOST_FILE}
use Rattle.def_answer.specs.Answer.{Answer}
use Rattle.def_answer.specs.Samples.{A, B, SIG_A, SIG_B, pk, file, signature, signatures, nothing, times, lines}
use Rattle.ms_answer_laws.specs.RunExamples.{script, witness}

-- the trace of the run of a run file of these members ends with this status and is this one; or that of one for a text
abbrev pub Traces : (members : List Bytes) → Status → (report : List Bytes) → Type 0
Traces members s report = Answer (codes "trace" ∷ []) (file members) s (lines report)

abbrev pub TracesText : (text : Bytes) → (members : List Bytes) → Status → (report : List Bytes) → Type 0
TracesText text members s report = Answer (codes "trace" ∷ text ∷ []) (file members) s (lines report)

abbrev pub TracedKey : Type 0
TracedKey =
    Traces (script (codes "21" ++ A ++ codes "ac") ∷ witness (SIG_A ∷ []) ∷ signatures (signature A SIG_A ∷ []) ∷ []) status.Done
    ((codes "step 0 push " ++ A) ∷ (codes "step 34 OP_CHECKSIG pop 2 push 01 check " ++ A ++ codes " " ++ SIG_A)
    ∷ codes "accepted ops 1 peak 2" ∷ [])

-- a fault of an instruction, one of the end, and one before the first step
abbrev pub TracedFaults : Type 0
TracedFaults =
    Traces (script (codes "515288") ∷ []) status.ScriptRefused
    (codes "step 0 push 01" ∷ codes "step 1 push 02" ∷ codes "stop 2 OP_EQUALVERIFY" ∷ codes "refused script Verify at 2" ∷ [])
    × Traces (script (codes "0180") ∷ []) status.ScriptRefused (codes "step 0 push 80" ∷ codes "refused script EvalFalse at 1" ∷ [])
    × Traces (script (codes "51") ∷ witness (times 521 (codes "00") ∷ []) ∷ []) status.ScriptRefused
    (codes "refused script ElementSize at 0" ∷ [])

-- `or_i(pk(A),pk(B))`, by the second key
abbrev pub TracedChoice : Type 0
TracedChoice =
    TracesText (codes "or_i(" ++ pk A ++ codes "," ++ pk B ++ codes ")")
    (script (codes "6321" ++ A ++ codes "ac6721" ++ B ++ codes "ac68") ∷ witness (SIG_B ∷ nothing ∷ [])
    ∷ signatures (signature B SIG_B ∷ []) ∷ []) status.Done
    (codes "step 0 OP_IF pop 1 open no node 0" ∷ (codes "skip 1 push " ++ A ++ codes " node 5") ∷ codes "skip 35 OP_CHECKSIG node 5"
    ∷ codes "step 36 OP_ELSE turn node 0" ∷ (codes "step 37 push " ++ B ++ codes " node 76")
    ∷ (codes "step 71 OP_CHECKSIG pop 2 push 01 check " ++ B ++ codes " " ++ SIG_B ++ codes " node 76")
    ∷ codes "step 72 OP_ENDIF close node 0" ∷ codes "accepted ops 5 peak 2" ∷ [])

-- a stack that is refused, and another script
abbrev pub TracedRefusals : Type 0
TracedRefusals =
    TracesText (pk A)
    (script (codes "21" ++ A ++ codes "ac") ∷ witness (SIG_B ∷ []) ∷ signatures (signature A SIG_A ∷ []) ∷ []) status.ScriptRefused
    ((codes "step 0 push " ++ A ++ codes " node 0") ∷ codes "stop 34 OP_CHECKSIG node 0" ∷ codes "refused script NullFail at 1" ∷ [])
    × TracesText (pk A) (script (codes "51") ∷ []) status.NotAccepted (codes "not accepted WrongScript" ∷ [])

-- a text that isn't valid, and one that isn't spelled, whatever the file; a text needn't be sane
abbrev pub TracedTexts : Type 0
TracedTexts =
    Answer (codes "trace" ∷ (codes "v:" ++ pk A) ∷ []) nothing status.TextRefused (codes "refused text TopNotB\n")
    × Answer (codes "trace" ∷ codes "--consensus" ∷ []) nothing status.TextRefused (codes "refused text Syntax at 0\n")
    × TracesText (codes "1") (script (codes "51") ∷ []) status.Done (codes "step 0 push 01 node 0" ∷ codes "accepted ops 0 peak 1" ∷ [])

-- the file is refused as that of `run`; and three words have no form
abbrev pub RefusedTraceFiles : Type 0
RefusedTraceFiles =
    Answer (codes "trace" ∷ []) (codes "{}") status.FileRefused (codes "refused file Shape script\n")
    × Answer (codes "trace" ∷ codes "1" ∷ []) nothing status.FileRefused (codes "refused file NotJson\n")
    × Answer (codes "trace" ∷ codes "--consensus" ∷ codes "1" ∷ []) nothing status.Usage (codes "refused usage\n")

-- over 1,048,576 bytes, whatever they are
abbrev pub TraceFileTooLong : Type 0
TraceFileTooLong =
    (source : Bytes) → MOST_FILE < length source → Answer (codes "trace" ∷ []) source status.FileRefused (codes "refused file TooLong\n")
