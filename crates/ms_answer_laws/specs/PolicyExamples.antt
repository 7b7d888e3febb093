-- Answers to `policy TEXT`.
use Rattle.std.specs.Prelude.{[], ◌∷◌, ◌++◌, codes}
use Rattle.def_script.specs.Bytes.{Bytes}
use Rattle.def_answer.specs.declared.status.Status.TheVariants as status
use Rattle.def_answer.specs.Answer.{Answer}
use Rattle.def_answer.specs.Samples.{A, B, C, H1, H2, H3, sha, nothing, lines}
use Rattle.ms_answer_laws.specs.SatisfyExamples.{late_text, lock_text, hashes_text}

-- what `policy` prints of a text
abbrev pub Demands : (text : Bytes) → (policy keys : Bytes) → Type 0
Demands text policy keys =
    Answer (codes "policy" ∷ text ∷ []) nothing status.Done (lines ((codes "policy " ++ policy) ∷ (codes "keys " ++ keys) ∷ []))

abbrev pub key : (digits : Bytes) → Bytes
key digits = codes "key(" ++ digits ++ codes ")"

-- `or_d(pk(A),and_v(v:pkh(B),older(144)))`
abbrev pub PolicyOfLateKey : Type 0
PolicyOfLateKey = Demands late_text (codes "any(" ++ key A ++ codes ",all(" ++ key B ++ codes ",older(144)))") (codes "1")

-- `thresh(3,pk(A),s:pk(B),s:pk(C),sln:older(32))`: the lock stands for one of the keys
abbrev pub PolicyOfLock : Type 0
PolicyOfLock =
    Demands lock_text (codes "thresh(3," ++ key A ++ codes "," ++ key B ++ codes "," ++ key C ++ codes ",older(32))") (codes "2")

-- `thresh(2,j:and_v(v:sha256(h1),and_v(v:sha256(h2),and_v(v:sha256(h3),1))),s:pk(A),s:pk(B))`
abbrev pub PolicyOfHashes : Type 0
PolicyOfHashes =
    Demands hashes_text (codes "thresh(2,all(" ++ sha H1 ++ codes "," ++ sha H2 ++ codes "," ++ sha H3 ++ codes ")," ++ key A
    ++ codes "," ++ key B ++ codes ")") (codes "1")

-- `0`, which no keys make true
abbrev pub PolicyOfZero : Type 0
PolicyOfZero = Demands (codes "0") (codes "never") (codes "none")

-- `1` isn't sane, and the empty text isn't spelled
abbrev pub PolicyRefused : Type 0
PolicyRefused =
    Answer (codes "policy" ∷ codes "1" ∷ []) nothing status.TextRefused (codes "refused text NoSignature\n")
    × Answer (codes "policy" ∷ [] ∷ []) nothing status.TextRefused (codes "refused text Syntax at 0\n")
