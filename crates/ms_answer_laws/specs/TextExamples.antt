-- Answers to words without a form, and to `script TEXT` and `check TEXT`.
use Rattle.std.specs.Prelude.{ℕ, List, [], ◌∷◌, ◌++◌, codes, replicate}
use Rattle.def_script.specs.Bytes.{Bytes}
use Rattle.def_answer.specs.declared.status.Status.TheVariants as status
use Rattle.def_answer.specs.Answer.{Answer}
use Rattle.def_answer.specs.Samples.{A, B, C, H1, call, pk, sha, nothing, lines, known}

-- ---- words

-- these words have no form
abbrev pub IsUsage : (words : List Bytes) → Type 0
IsUsage words = Answer words nothing status.Usage (codes "refused usage\n")

abbrev pub NoForm : Type 0
NoForm =
    IsUsage [] × IsUsage (codes "run" ∷ codes "x" ∷ []) × IsUsage (codes "script" ∷ []) × IsUsage (codes "help"
    ∷ codes "0" ∷ [])
    × IsUsage (codes "gen" ∷ codes "0" ∷ []) × IsUsage (codes "gen" ∷ codes "31" ∷ []) × IsUsage (codes "gen"
    ∷ codes "05" ∷ [])
    × IsUsage (codes "satisfy" ∷ codes "0" ∷ codes "0" ∷ []) × IsUsage (codes "satisfy" ∷ codes "--malleable"
    ∷ codes "0" ∷ codes "0" ∷ [])

-- ---- script

-- `pk(A)`
abbrev pub ScriptOfKey : Type 0
ScriptOfKey = Answer (codes "script" ∷ pk A ∷ []) nothing status.Done (lines ((codes "21" ++ A ++ codes "ac") ∷ []))

-- `1`, which is valid
abbrev pub ScriptOfOne : Type 0
ScriptOfOne = Answer (codes "script" ∷ codes "1" ∷ []) nothing status.Done (codes "51\n")

-- `and_v(v:pk(A),pkh(A))`, which isn't sane
abbrev pub ScriptOfSameKey : Type 0
ScriptOfSameKey =
    Answer (codes "script" ∷ call (codes "and_v") (codes "v:" ++ pk B ++ codes "," ++ call (codes "pkh") B)
    ∷ []) nothing status.Done
    (lines ((codes "21" ++ B ++ codes "ad76a914751e76e8199196d454941c45d1b3a323f1433bd688ac") ∷ []))

-- ---- check

-- what `check` prints of a text
abbrev pub Checks : (text : Bytes) → (report : List Bytes) → Type 0
Checks text report = Answer (codes "check" ∷ text ∷ []) nothing status.Done (lines report)

-- `pk(B)`
abbrev pub CheckOfKey : Type 0
CheckOfKey =
    Checks (pk B) (
    codes "text c:pk_k(0279be667ef9dcbbac55a06295ce870b07029bfcdb2dce28d959f2815b16f81798)"
    ∷ codes "type Bonduse"
    ∷ codes "script 210279be667ef9dcbbac55a06295ce870b07029bfcdb2dce28d959f2815b16f81798ac"
    ∷ codes "program 00201863143c14c5166804bd19203356da136c985678cd4d27a1b8c6329604903262"
    ∷ codes "limits size 35 ops 1 items 1 weight 74"
    ∷ [])

-- `and_v(v:and_v(v:pk(A),pk(B)),pk(C))`
abbrev pub CheckOfChain : Type 0
CheckOfChain =
    Checks (call (codes "and_v") (codes "v:" ++ call (codes "and_v") (codes "v:" ++ pk A ++ codes "," ++ pk B)
    ++ codes "," ++ pk C)) (
    (codes "text and_v(v:and_v(vc:pk_k(" ++ A ++ codes "),c:pk_k(" ++ B ++ codes ")),c:pk_k(" ++ C ++ codes "))")
    ∷ codes "type Bnusf"
    ∷ known (codes "21" ++ A ++ codes "ad21" ++ B ++ codes "ad21" ++ C
    ++ codes "ac") (codes "size 105 ops 3 items 3 weight 222"))

-- `0`
abbrev pub CheckOfZero : Type 0
CheckOfZero =
    Checks (codes "0") (codes "text 0" ∷ codes "type Bzduse"
    ∷ known (codes "00") (codes "size 1 ops 0 items 0 weight 0"))

-- `and_v(v:pk(A),or_i(and_v(v:pk(B),older(10)),older(4194314)))`: a height or a time
abbrev pub CheckOfEither : Type 0
CheckOfEither =
    Checks (call (codes "and_v") (codes "v:" ++ pk A ++ codes ",or_i(and_v(v:" ++ pk B
    ++ codes ",older(10)),older(4194314))")) (
    (codes "text and_v(vc:pk_k(" ++ A ++ codes "),or_i(and_v(vc:pk_k(" ++ B ++ codes "),older(10)),older(4194314)))")
    ∷ codes "type Bnsf"
    ∷ known (codes "21" ++ A ++ codes "ad6321" ++ B
    ++ codes "ad5ab267030a0040b268") (codes "size 80 ops 7 items 3 weight 150"))

-- ---- texts that are refused

-- the line with which `check` refuses a text
abbrev pub Refuses : (text : Bytes) → (line : Bytes) → Type 0
Refuses text line =
    Answer (codes "check" ∷ text ∷ []) nothing status.TextRefused (lines ((codes "refused text " ++ line) ∷ []))

abbrev pub Unspelled : Type 0
Unspelled =
    Refuses [] (codes "Syntax at 0") × Refuses (codes "and_") (codes "Syntax at 0")
    × Refuses (codes "pk(02)") (codes "Syntax at 3")
    × Refuses (codes "older(00)") (codes "Syntax at 6") × Refuses (codes "pk (" ++ A
    ++ codes ")") (codes "Syntax at 2")
    × Refuses (codes "pk(" ++ A) (codes "Syntax at 69") × Refuses (pk A ++ codes ")") (codes "Syntax at 70")

-- so many letters `n`, and `:0`
abbrev pub wrapped : ℕ → Bytes
wrapped n = replicate n 110 ++ codes ":0"

abbrev pub TooDeepOrLong : Type 0
TooDeepOrLong =
    Refuses (wrapped 255) (codes "Ops 255") × Refuses (wrapped 256) (codes "TooDeep at 257")
    × Refuses (wrapped 300) (codes "TooDeep at 0")
    × Refuses (replicate 65537 110) (codes "TooLong")

abbrev pub BrokenRules : Type 0
BrokenRules =
    Refuses (codes "thresh(1,dv:older(1),s:" ++ pk A ++ codes ")") (codes "Rule ThreshFirst at 0")
    × Refuses (codes "thresh(3," ++ pk A ++ codes ",s:" ++ pk B ++ codes ")") (codes "Rule ThreshRange at 0")
    × Refuses (codes "older(0)") (codes "Rule OlderRange at 0")
    × Refuses (codes "v:" ++ pk A) (codes "TopNotB")

abbrev pub NotSane : Type 0
NotSane =
    Refuses (codes "or_b(" ++ sha H1 ++ codes ",s:" ++ pk A ++ codes ")") (codes "Malleable OrBE at 0")
    × Refuses (codes "1") (codes "NoSignature")
    × Refuses (codes "and_v(v:" ++ pk A ++ codes ",and_b(older(10),a:older(4194314)))") (codes "MixedLocks at 79")
    × Refuses (codes "and_v(v:" ++ pk A ++ codes ",pkh(" ++ A ++ codes "))") (codes "RepeatedKey at 79")
