-- Answers to `satisfy TEXT` and `satisfy --malleable TEXT`.
use Rattle.std.specs.Prelude.{◌<◌, length, List, [], ◌∷◌, ◌++◌, codes}
use Rattle.def_script.specs.Bytes.{Bytes}
use Rattle.def_answer.specs.declared.status.Status.TheVariants as status
use Rattle.def_answer.specs.Lines.{MOST_FILE}
use Rattle.def_answer.specs.Answer.{Answer}
use Rattle.def_answer.specs.Samples.{A, B, C, SIG_A, SIG_B, SIG_C, P0, P1, P2, P3, H0, H1, H2, H3, pk, sha, file, number, signature, signatures, strings, nothing, lines, known}

-- the answer with an asset file of these members
abbrev pub Satisfies : (text : Bytes) → (members : List Bytes) → (report : List Bytes) → Type 0
Satisfies text members report = Answer (codes "satisfy" ∷ text ∷ []) (file members) status.Done (lines report)

abbrev pub Cheapest : (text : Bytes) → (members : List Bytes) → (report : List Bytes) → Type 0
Cheapest text members report =
    Answer (codes "satisfy" ∷ codes "--malleable" ∷ text ∷ []) (file members) status.Done (lines report)

-- there is none
abbrev pub NoneSatisfies : (text : Bytes) → (members : List Bytes) → Type 0
NoneSatisfies text members =
    Answer (codes "satisfy" ∷ text ∷ []) (file members) status.NoSatisfaction (codes "no satisfaction\n")

abbrev pub sig_a : Bytes
sig_a = signature A SIG_A

abbrev pub sig_b : Bytes
sig_b = signature B SIG_B

abbrev pub sig_c : Bytes
sig_c = signature C SIG_C

-- ---- keys

-- `multi(2,A,B,C)` with all three signatures, the last key's first
abbrev pub multi_script : Bytes
multi_script = codes "5221" ++ A ++ codes "21" ++ B ++ codes "21" ++ C ++ codes "53ae"

abbrev pub TwoOfThree : Type 0
TwoOfThree =
    Satisfies (codes "multi(2," ++ A ++ codes "," ++ B ++ codes "," ++ C ++ codes ")") (signatures (sig_c ∷ sig_b
    ∷ sig_a ∷ []) ∷ []) (
    known multi_script (codes "size 105 ops 4 items 3 weight 149")
    ++ codes "item -"
    ∷ (codes "item " ++ SIG_A)
    ∷ (codes "item " ++ SIG_C)
    ∷ (codes "witness 040047" ++ SIG_A ++ codes "46" ++ SIG_C ++ codes "69" ++ multi_script)
    ∷ codes "replay ops 4 items 3 weight 144 peak 8"
    ∷ [])

-- `pk(A)` with two signatures of A: the shorter one is taken, whichever form asks
abbrev pub key_script : Bytes
key_script = codes "21" ++ A ++ codes "ac"

abbrev pub short_sig_a : Bytes
short_sig_a = signature A SIG_C

abbrev pub two_signatures : List Bytes
two_signatures = number (codes "format") 2 ∷ signatures (sig_a ∷ short_sig_a ∷ []) ∷ []

abbrev pub with_short_sig : List Bytes
with_short_sig =
    known key_script (codes "size 35 ops 1 items 1 weight 74")
    ++ (codes "item " ++ SIG_C)
    ∷ (codes "witness 0246" ++ SIG_C ++ codes "23" ++ key_script)
    ∷ codes "replay ops 1 items 1 weight 71 peak 2"
    ∷ []

abbrev pub ShorterSignature : Type 0
ShorterSignature = Satisfies (pk A) two_signatures with_short_sig × Cheapest (pk A) two_signatures with_short_sig

-- ---- locks

-- `or_d(pk(A),and_v(v:pkh(B),older(144)))`
abbrev pub late_text : Bytes
late_text = codes "or_d(" ++ pk A ++ codes ",and_v(v:pkh(" ++ B ++ codes "),older(144)))"

abbrev pub late_script : Bytes
late_script = codes "21" ++ A ++ codes "ac736476a914751e76e8199196d454941c45d1b3a323f1433bd688ad029000b268"

abbrev pub LateKey : Type 0
LateKey =
    Satisfies late_text (number (codes "sequence") 144 ∷ signatures (sig_b ∷ []) ∷ []) (
    known late_script (codes "size 67 ops 9 items 3 weight 109")
    ++ (codes "item " ++ SIG_B)
    ∷ (codes "item " ++ B)
    ∷ codes "item -"
    ∷ (codes "witness 0448" ++ SIG_B ++ codes "21" ++ B ++ codes "0043" ++ late_script)
    ∷ codes "replay ops 9 items 3 weight 108 peak 4"
    ∷ [])

-- a block too early; a time where blocks are asked for; version 1
abbrev pub TooEarly : Type 0
TooEarly =
    NoneSatisfies late_text (number (codes "sequence") 143 ∷ signatures (sig_b ∷ []) ∷ [])
    × NoneSatisfies late_text (number (codes "sequence") 4194448 ∷ signatures (sig_b ∷ []) ∷ [])
    × NoneSatisfies late_text (number (codes "sequence") 144 ∷ number (codes "version") 1 ∷ signatures (sig_b
    ∷ []) ∷ [])

-- `and_v(v:pk(A),older(65536))`: the operand is 0 under the mask
abbrev pub void_script : Bytes
void_script = codes "21" ++ A ++ codes "ad03000001b2"

abbrev pub VoidLock : Type 0
VoidLock =
    Satisfies (codes "and_v(v:" ++ pk A ++ codes ",older(65536))") (number (codes "sequence") 0
    ∷ signatures (sig_a ∷ []) ∷ []) (
    known void_script (codes "size 40 ops 2 items 1 weight 74")
    ++ (codes "item " ++ SIG_A)
    ∷ (codes "witness 0247" ++ SIG_A ++ codes "28" ++ void_script)
    ∷ codes "replay ops 2 items 1 weight 72 peak 2"
    ∷ [])

-- `and_v(v:pk(A),after(500000000))`
abbrev pub time_text : Bytes
time_text = codes "and_v(v:" ++ pk A ++ codes ",after(500000000))"

abbrev pub time_script : Bytes
time_script = codes "21" ++ A ++ codes "ad040065cd1db1"

abbrev pub TimeLock : Type 0
TimeLock =
    Satisfies time_text (number (codes "locktime") 500000000 ∷ signatures (sig_a ∷ []) ∷ []) (
    known time_script (codes "size 41 ops 2 items 1 weight 74")
    ++ (codes "item " ++ SIG_A)
    ∷ (codes "witness 0247" ++ SIG_A ++ codes "29" ++ time_script)
    ∷ codes "replay ops 2 items 1 weight 72 peak 2"
    ∷ [])

-- a height; the final sequence number; a height where a time is given
abbrev pub NoTime : Type 0
NoTime =
    NoneSatisfies time_text (number (codes "locktime") 499999999 ∷ signatures (sig_a ∷ []) ∷ [])
    × NoneSatisfies time_text (number (codes "locktime") 500000000 ∷ number (codes "sequence") 4294967295
    ∷ signatures (sig_a ∷ []) ∷ [])
    × NoneSatisfies (codes "and_v(v:" ++ pk A ++ codes ",after(499999999))") (number (codes "locktime") 500000000
    ∷ signatures (sig_a ∷ []) ∷ [])

-- ---- thresholds

-- `thresh(2,j:and_v(v:sha256(h1),and_v(v:sha256(h2),and_v(v:sha256(h3),1))),s:pk(A),s:pk(B))`
abbrev pub hashes_text : Bytes
hashes_text =
    codes "thresh(2,j:and_v(v:" ++ sha H1 ++ codes ",and_v(v:" ++ sha H2 ++ codes ",and_v(v:" ++ sha H3
    ++ codes ",1))),s:" ++ pk A
    ++ codes ",s:" ++ pk B ++ codes ")"

abbrev pub hash_script : (value : Bytes) → Bytes
hash_script value = codes "82012088a820" ++ value ++ codes "88"

abbrev pub hashes_script : Bytes
hashes_script =
    codes "829263" ++ hash_script H1 ++ hash_script H2 ++ hash_script H3 ++ codes "51687c21" ++ A
    ++ codes "ac937c21" ++ B
    ++ codes "ac935287"

abbrev pub three_preimages : List Bytes
three_preimages = signatures (sig_a ∷ sig_b ∷ []) ∷ strings (codes "preimages") (P1 ∷ P2 ∷ P3 ∷ []) ∷ []

-- three preimages need no signature, and two signatures weigh less
abbrev pub StrictThreshold : Type 0
StrictThreshold =
    Satisfies hashes_text three_preimages (
    known hashes_script (codes "size 198 ops 23 items 5 weight 174")
    ++ codes "item -"
    ∷ (codes "item " ++ SIG_A)
    ∷ (codes "item " ++ P3)
    ∷ (codes "item " ++ P2)
    ∷ (codes "item " ++ P1)
    ∷ (codes "witness 060047" ++ SIG_A ++ codes "20" ++ P3 ++ codes "20" ++ P2 ++ codes "20" ++ P1 ++ codes "c6"
    ++ hashes_script)
    ∷ codes "replay ops 23 items 5 weight 172 peak 7"
    ∷ [])

abbrev pub CheapestThreshold : Type 0
CheapestThreshold =
    Cheapest hashes_text three_preimages (
    known hashes_script (codes "size 198 ops 23 items 5 weight 174")
    ++ (codes "item " ++ SIG_B)
    ∷ (codes "item " ++ SIG_A)
    ∷ codes "item -"
    ∷ (codes "witness 0448" ++ SIG_B ++ codes "47" ++ SIG_A ++ codes "00c6" ++ hashes_script)
    ∷ codes "replay ops 23 items 3 weight 146 peak 4"
    ∷ [])

-- `and_v(v:pk(B),or_i(pk(A),and_v(v:sha256(h1),and_v(v:sha256(h2),sha256(h3)))))`
abbrev pub either_text : Bytes
either_text =
    codes "and_v(v:" ++ pk B ++ codes ",or_i(" ++ pk A ++ codes ",and_v(v:" ++ sha H1 ++ codes ",and_v(v:"
    ++ sha H2 ++ codes "," ++ sha H3
    ++ codes "))))"

abbrev pub either_script : Bytes
either_script =
    codes "21" ++ B ++ codes "ad6321" ++ A ++ codes "ac67" ++ hash_script H1 ++ hash_script H2
    ++ codes "82012088a820" ++ H3 ++ codes "8768"

abbrev pub StrictEither : Type 0
StrictEither =
    Satisfies either_text three_preimages (
    known either_script (codes "size 190 ops 17 items 5 weight 174")
    ++ (codes "item " ++ P3)
    ∷ (codes "item " ++ P2)
    ∷ (codes "item " ++ P1)
    ∷ codes "item -"
    ∷ (codes "item " ++ SIG_B)
    ∷ (codes "witness 0620" ++ P3 ++ codes "20" ++ P2 ++ codes "20" ++ P1 ++ codes "0048" ++ SIG_B ++ codes "be"
    ++ either_script)
    ∷ codes "replay ops 17 items 5 weight 173 peak 6"
    ∷ [])

abbrev pub CheapestEither : Type 0
CheapestEither =
    Cheapest either_text three_preimages (
    known either_script (codes "size 190 ops 17 items 5 weight 174")
    ++ (codes "item " ++ SIG_A)
    ∷ codes "item 01"
    ∷ (codes "item " ++ SIG_B)
    ∷ (codes "witness 0447" ++ SIG_A ++ codes "010148" ++ SIG_B ++ codes "be" ++ either_script)
    ∷ codes "replay ops 17 items 3 weight 147 peak 4"
    ∷ [])

-- `thresh(3,pk(A),s:pk(B),s:pk(C),sln:older(32))`
abbrev pub lock_text : Bytes
lock_text = codes "thresh(3," ++ pk A ++ codes ",s:" ++ pk B ++ codes ",s:" ++ pk C ++ codes ",sln:older(32))"

abbrev pub lock_script : Bytes
lock_script =
    codes "21" ++ A ++ codes "ac7c21" ++ B ++ codes "ac937c21" ++ C ++ codes "ac937c6300670120b29268935387"

abbrev pub LockInThreshold : Type 0
LockInThreshold =
    Satisfies lock_text (number (codes "sequence") 32 ∷ signatures (sig_a ∷ sig_c ∷ []) ∷ []) (
    known lock_script (codes "size 121 ops 15 items 4 weight 224")
    ++ codes "item -"
    ∷ (codes "item " ++ SIG_C)
    ∷ codes "item -"
    ∷ (codes "item " ++ SIG_A)
    ∷ (codes "witness 050046" ++ SIG_C ++ codes "0047" ++ SIG_A ++ codes "79" ++ lock_script)
    ∷ codes "replay ops 15 items 4 weight 145 peak 5"
    ∷ [])

abbrev pub LockTooEarly : Type 0
LockTooEarly = NoneSatisfies lock_text (number (codes "sequence") 31 ∷ signatures (sig_a ∷ sig_c ∷ []) ∷ [])

-- a block too early, with all three signatures: the lock's child is dissatisfied by the selector of its `0`
abbrev pub SignaturesForLock : Type 0
SignaturesForLock =
    Satisfies lock_text (number (codes "sequence") 31 ∷ signatures (sig_a ∷ sig_c ∷ sig_b ∷ []) ∷ []) (
    known lock_script (codes "size 121 ops 15 items 4 weight 224")
    ++ codes "item 01"
    ∷ (codes "item " ++ SIG_C)
    ∷ (codes "item " ++ SIG_B)
    ∷ (codes "item " ++ SIG_A)
    ∷ (codes "witness 05010146" ++ SIG_C ++ codes "48" ++ SIG_B ++ codes "47" ++ SIG_A ++ codes "79" ++ lock_script)
    ∷ codes "replay ops 15 items 4 weight 218 peak 5"
    ∷ [])

-- `thresh(1,sha256(Z),s:pk(A))` where 32 zero bytes hash to Z: they are no dissatisfaction, but a preimage
abbrev pub zeros_text : Bytes
zeros_text = codes "thresh(1," ++ sha H0 ++ codes ",s:" ++ pk A ++ codes ")"

abbrev pub zeros_script : Bytes
zeros_script = codes "82012088a820" ++ H0 ++ codes "877c21" ++ A ++ codes "ac935187"

abbrev pub ZerosAsPreimage : Type 0
ZerosAsPreimage =
    Cheapest zeros_text (signatures (sig_a ∷ []) ∷ strings (codes "preimages") (P0 ∷ []) ∷ []) (
    known zeros_script (codes "size 78 ops 8 items 2 weight 107")
    ++ codes "item -"
    ∷ (codes "item " ++ P0)
    ∷ (codes "witness 030020" ++ P0 ++ codes "4e" ++ zeros_script)
    ∷ codes "replay ops 8 items 2 weight 34 peak 4"
    ∷ [])

abbrev pub ZerosUnknown : Type 0
ZerosUnknown =
    Answer (codes "satisfy" ∷ codes "--malleable" ∷ zeros_text ∷ []) (file (signatures (sig_a ∷ [])
    ∷ [])) status.NoSatisfaction (codes "no satisfaction\n")

-- ---- texts and files that are refused

-- not sane; a text that isn't spelled, though it looks like the other form
abbrev pub TextsFirst : Type 0
TextsFirst =
    Answer (codes "satisfy" ∷ zeros_text
    ∷ []) nothing status.TextRefused (codes "refused text Malleable ThreshE at 0\n")
    × Answer (codes "satisfy" ∷ codes "--malleable"
    ∷ []) nothing status.TextRefused (codes "refused text Syntax at 0\n")

-- `0` has no satisfaction
abbrev pub ZeroHasNone : Type 0
ZeroHasNone = NoneSatisfies (codes "0") [] × NoneSatisfies (pk A) []

-- the line with which a file is refused
abbrev pub RefusesFile : (source : Bytes) → (line : Bytes) → Type 0
RefusesFile source line =
    Answer (codes "satisfy" ∷ pk A ∷ []) source status.FileRefused (lines ((codes "refused file " ++ line) ∷ []))

abbrev pub RefusedFiles : Type 0
RefusedFiles =
    RefusesFile nothing (codes "NotJson")
    × RefusesFile (codes "{\"version\":2") (codes "NotJson")
    × RefusesFile (codes "[]") (codes "Shape file")
    × RefusesFile (codes "{\"sequence\":4294967296}") (codes "Number sequence")
    × RefusesFile (file (signatures (sig_a ∷ sig_a ∷ []) ∷ [])) (codes "RepeatedKey 1")
    × RefusesFile (file (signatures (signature A (SIG_A ++ codes "aaaaaa") ∷ []) ∷ [])) (codes "SigLength 0")

-- several signatures of a key without a format that has them; one twice; other formats, after the numbers of the locks
abbrev pub RefusedFormats : Type 0
RefusedFormats =
    RefusesFile (file (signatures (sig_a ∷ short_sig_a ∷ []) ∷ [])) (codes "RepeatedKey 1")
    × RefusesFile (file (number (codes "format") 1 ∷ signatures (sig_a ∷ short_sig_a ∷ []) ∷ [])) (codes "RepeatedKey 1")
    × RefusesFile (file (number (codes "format") 2 ∷ signatures (sig_a ∷ sig_a ∷ []) ∷ [])) (codes "RepeatedKey 1")
    × RefusesFile (file (number (codes "format") 3 ∷ [])) (codes "Number format")
    × RefusesFile (codes "{\"format\":3,\"version\":-1}") (codes "Number version")

-- over 1,048,576 bytes, whatever they are
abbrev pub FileTooLong : Type 0
FileTooLong = (source : Bytes) → MOST_FILE < length source → RefusesFile source (codes "TooLong")
