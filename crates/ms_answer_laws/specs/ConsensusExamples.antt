-- Answers to the forms with `--consensus`.
use Rattle.std.specs.Prelude.{[], ◌∷◌, ◌++◌, codes}
use Rattle.def_answer.specs.declared.status.Status.TheVariants as status
use Rattle.def_answer.specs.Answer.{Answer}
use Rattle.def_answer.specs.Samples.{A, B, SIG_A, SIG_B, P1, P2, P3, pk, file, nothing, lines, known}
use Rattle.ms_answer_laws.specs.SatisfyExamples.{hashes_text, hashes_script, three_preimages}
use Rattle.ms_answer_laws.specs.TextExamples.{IsUsage}

-- `pk(A)`
abbrev pub ScriptByConsensus : Type 0
ScriptByConsensus =
    Answer (codes "script" ∷ codes "--consensus" ∷ pk A ∷ []) nothing status.Done (lines ((codes "21" ++ A ++ codes "ac") ∷ []))

-- `pk(B)`, with its height
abbrev pub CheckByConsensus : Type 0
CheckByConsensus =
    Answer (codes "check" ∷ codes "--consensus" ∷ pk B ∷ []) nothing status.Done (lines (
    codes "text c:pk_k(0279be667ef9dcbbac55a06295ce870b07029bfcdb2dce28d959f2815b16f81798)"
    ∷ codes "type Bonduse"
    ∷ known (codes "21" ++ B ++ codes "ac") (codes "size 35 ops 1 items 1 weight 74 height 2")))

-- three preimages, at the height of the miniscript
abbrev pub StrictByConsensus : Type 0
StrictByConsensus =
    Answer (codes "satisfy" ∷ codes "--consensus" ∷ hashes_text ∷ []) (file three_preimages) status.Done (lines (
    known hashes_script (codes "size 198 ops 23 items 5 weight 174 height 7")
    ++ codes "item -"
    ∷ (codes "item " ++ SIG_A)
    ∷ (codes "item " ++ P3)
    ∷ (codes "item " ++ P2)
    ∷ (codes "item " ++ P1)
    ∷ (codes "witness 060047" ++ SIG_A ++ codes "20" ++ P3 ++ codes "20" ++ P2 ++ codes "20" ++ P1 ++ codes "c6"
    ++ hashes_script)
    ∷ codes "replay ops 23 items 5 weight 172 peak 7"
    ∷ []))

abbrev pub CheapestByConsensus : Type 0
CheapestByConsensus =
    Answer (codes "satisfy" ∷ codes "--malleable" ∷ codes "--consensus" ∷ hashes_text ∷ []) (file three_preimages) status.Done (lines (
    known hashes_script (codes "size 198 ops 23 items 5 weight 174 height 7")
    ++ (codes "item " ++ SIG_B)
    ∷ (codes "item " ++ SIG_A)
    ∷ codes "item -"
    ∷ (codes "witness 0448" ++ SIG_B ++ codes "47" ++ SIG_A ++ codes "00c6" ++ hashes_script)
    ∷ codes "replay ops 23 items 3 weight 146 peak 4"
    ∷ []))

-- reasons that don't hang on the rules
abbrev pub RefusedByConsensus : Type 0
RefusedByConsensus =
    Answer (codes "check" ∷ codes "--consensus" ∷ codes "1" ∷ []) nothing status.TextRefused (codes "refused text NoSignature\n")
    × Answer (codes "script" ∷ codes "--consensus" ∷ (codes "v:" ++ pk A) ∷ []) nothing status.TextRefused (codes "refused text TopNotB\n")

-- the second word of two is the TEXT, and so is the third behind `--malleable`
abbrev pub TextIsConsensus : Type 0
TextIsConsensus =
    Answer (codes "check" ∷ codes "--consensus" ∷ []) nothing status.TextRefused (codes "refused text Syntax at 0\n")
    × Answer (codes "satisfy" ∷ codes "--malleable" ∷ codes "--consensus" ∷ []) nothing status.TextRefused (codes "refused text Syntax at 0\n")

-- no other words ask for the rules of consensus
abbrev pub NoFormByConsensus : Type 0
NoFormByConsensus =
    IsUsage (codes "policy" ∷ codes "--consensus" ∷ codes "1" ∷ [])
    × IsUsage (codes "satisfy" ∷ codes "--consensus" ∷ codes "--malleable" ∷ codes "1" ∷ [])
    × IsUsage (codes "script" ∷ codes "--malleable" ∷ codes "--consensus" ∷ codes "1" ∷ [])
