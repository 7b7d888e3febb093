-- Answers to `asm TEXT`.
use Rattle.std.specs.Prelude.{[], ◌∷◌, ◌++◌, codes}
use Rattle.def_answer.specs.declared.status.Status.TheVariants as status
use Rattle.def_answer.specs.Answer.{Answer}
use Rattle.def_answer.specs.Samples.{A, B, pk, nothing, lines}
use Rattle.ms_answer_laws.specs.TextExamples.{IsUsage}

-- `or_d(pk(A),and_v(v:pkh(B),older(144)))`: the form of CHECKSIG that does VERIFY too is of the sugar `pkh`
abbrev pub ListedChoice : Type 0
ListedChoice =
    Answer (codes "asm" ∷ (codes "or_d(" ++ pk A ++ codes ",and_v(v:pkh(" ++ B ++ codes "),older(144)))") ∷ []) nothing status.Done (lines (
    (codes "at 0 push " ++ A ++ codes " node 5")
    ∷ codes "at 34 OP_CHECKSIG node 5"
    ∷ codes "at 35 OP_IFDUP node 0"
    ∷ codes "at 36 OP_NOTIF node 0"
    ∷ codes "at 37 OP_DUP node 84"
    ∷ codes "at 38 OP_HASH160 node 84"
    ∷ codes "at 39 push 751e76e8199196d454941c45d1b3a323f1433bd6 node 84"
    ∷ codes "at 60 OP_EQUALVERIFY node 84"
    ∷ codes "at 61 OP_CHECKSIGVERIFY node 84"
    ∷ codes "at 62 push 9000 node 156"
    ∷ codes "at 65 OP_CHECKSEQUENCEVERIFY node 156"
    ∷ codes "at 66 OP_ENDIF node 0"
    ∷ []))

-- a text needn't be sane; by consensus; and the second word is the text, whatever it is
abbrev pub ListedTexts : Type 0
ListedTexts =
    Answer (codes "asm" ∷ codes "1" ∷ []) nothing status.Done (codes "at 0 push 01 node 0\n")
    × Answer (codes "asm" ∷ codes "--consensus" ∷ codes "0" ∷ []) nothing status.Done (codes "at 0 push - node 0\n")
    × Answer (codes "asm" ∷ codes "--consensus" ∷ []) nothing status.TextRefused (codes "refused text Syntax at 0\n")
    × Answer (codes "asm" ∷ (codes "v:" ++ pk A) ∷ []) nothing status.TextRefused (codes "refused text TopNotB\n")

-- other lists of words have no form
abbrev pub NoFormOfListing : Type 0
NoFormOfListing = IsUsage (codes "asm" ∷ []) × IsUsage (codes "asm" ∷ codes "1" ∷ codes "1" ∷ [])
