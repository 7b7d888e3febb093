-- Answers to `audit TEXT`.
use Rattle.std.specs.Prelude.{◌<◌, length, List, [], ◌∷◌, ◌++◌, codes}
use Rattle.def_script.specs.Bytes.{Bytes}
use Rattle.def_answer.specs.declared.status.Status.TheVariants as status
use Rattle.def_answer.specs.Lines.{MOST_FILE}
use Rattle.def_answer.specs.Answer.{Answer}
use Rattle.def_answer.specs.Samples.{A, B, SIG_A, SIG_B, H1, P2, pk, sha, file, signature, signatures, nothing, lines}
use Rattle.ms_answer_laws.specs.RunExamples.{script, witness}

-- a run file of these members shows how its stack satisfies a text; or the stack isn't accepted, with this line
abbrev pub Shows : (text : Bytes) → (members : List Bytes) → (report : List Bytes) → Type 0
Shows text members report = Answer (codes "audit" ∷ text ∷ []) (file members) status.Done (lines report)

abbrev pub IsNotAccepted : (text : Bytes) → (members : List Bytes) → (line : Bytes) → Type 0
IsNotAccepted text members line =
    Answer (codes "audit" ∷ text ∷ []) (file members) status.NotAccepted (lines ((codes "not accepted " ++ line) ∷ []))

-- `or_b(pk(A),s:pk(B))` with its Script
abbrev pub either : Bytes
either = codes "or_b(" ++ pk A ++ codes ",s:" ++ pk B ++ codes ")"

abbrev pub either_script : Bytes
either_script = script (codes "21" ++ A ++ codes "ac7c21" ++ B ++ codes "ac9b")

-- satisfied by both keys, which isn't canonical, and by one
abbrev pub BothKeys : Type 0
BothKeys =
    Shows either
    (either_script ∷ witness (SIG_B ∷ SIG_A ∷ []) ∷ signatures (signature A SIG_A ∷ signature B SIG_B ∷ []) ∷ [])
    (codes "accepted ops 4 peak 3"
    ∷ codes "node 5 sat" ∷ codes "node 5 sat" ∷ codes "node 78 sat" ∷ codes "node 78 sat" ∷ codes "node 76 sat"
    ∷ codes "node 0 sat extra" ∷ codes "canonical no" ∷ [])

abbrev pub OneKey : Type 0
OneKey =
    Shows either (either_script ∷ witness (nothing ∷ SIG_A ∷ []) ∷ signatures (signature A SIG_A ∷ []) ∷ [])
    (codes "accepted ops 4 peak 3"
    ∷ codes "node 5 sat" ∷ codes "node 5 sat" ∷ codes "node 78 dsat" ∷ codes "node 78 dsat" ∷ codes "node 76 dsat"
    ∷ codes "node 0 sat" ∷ codes "canonical yes" ∷ [])

-- a signature of another key, and another script: the second one whatever the stack
abbrev pub NotAccepted : Type 0
NotAccepted =
    IsNotAccepted either (either_script ∷ witness (SIG_A ∷ SIG_A ∷ []) ∷ signatures (signature A SIG_A ∷ []) ∷ [])
    (codes "NullFail at 4")
    × IsNotAccepted either (script (codes "51") ∷ []) (codes "WrongScript")
    × IsNotAccepted either (script (codes "51") ∷ witness (SIG_A ∷ SIG_A ∷ []) ∷ []) (codes "WrongScript")

-- a hash that is dissatisfied by 32 bytes that aren't all zero
abbrev pub hash_or_key : Bytes
hash_or_key = codes "or_b(" ++ sha H1 ++ codes ",s:" ++ pk A ++ codes ")"

abbrev pub hash_or_key_script : Bytes
hash_or_key_script = script (codes "82012088a820" ++ H1 ++ codes "877c21" ++ A ++ codes "ac9b")

abbrev pub OtherBytes : Type 0
OtherBytes =
    Shows hash_or_key (hash_or_key_script ∷ witness (SIG_A ∷ P2 ∷ []) ∷ signatures (signature A SIG_A ∷ []) ∷ [])
    (codes "accepted ops 7 peak 4"
    ∷ codes "node 5 dsat extra" ∷ codes "node 80 sat" ∷ codes "node 80 sat" ∷ codes "node 78 sat" ∷ codes "node 0 sat"
    ∷ codes "canonical no" ∷ [])

-- a text that isn't valid, and one that isn't spelled, whatever the file; a text needn't be sane
abbrev pub AuditedTexts : Type 0
AuditedTexts =
    Answer (codes "audit" ∷ (codes "v:" ++ pk A) ∷ []) nothing status.TextRefused (codes "refused text TopNotB\n")
    × Answer (codes "audit" ∷ codes "--malleable" ∷ []) nothing status.TextRefused (codes "refused text Syntax at 0\n")
    × Shows (codes "1") (script (codes "51") ∷ []) (codes "accepted ops 0 peak 1" ∷ codes "node 0 sat" ∷ codes "canonical yes" ∷ [])

-- the file is refused as that of `run`
abbrev pub RefusedAuditFiles : Type 0
RefusedAuditFiles =
    Answer (codes "audit" ∷ codes "1" ∷ []) (codes "{}") status.FileRefused (codes "refused file Shape script\n")
    × Answer (codes "audit" ∷ codes "1" ∷ []) nothing status.FileRefused (codes "refused file NotJson\n")

-- over 1,048,576 bytes, whatever they are
abbrev pub AuditFileTooLong : Type 0
AuditFileTooLong =
    (source : Bytes) → MOST_FILE < length source → Answer (codes "audit"
    ∷ codes "1" ∷ []) source status.FileRefused (codes "refused file TooLong\n")
