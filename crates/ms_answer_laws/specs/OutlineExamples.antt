-- Answers to `tree TEXT`.
use Rattle.std.specs.Prelude.{[], ◌∷◌, ◌++◌, codes}
use Rattle.def_answer.specs.declared.status.Status.TheVariants as status
use Rattle.def_answer.specs.Answer.{Answer}
use Rattle.def_answer.specs.Samples.{A, B, pk, nothing, lines}
use Rattle.ms_answer_laws.specs.TextExamples.{IsUsage}

-- `or_d(pk(A),and_v(v:pkh(B),older(144)))`: `pk(A)` is `c:pk_k(A)`, both at its place
abbrev pub OutlinedChoice : Type 0
OutlinedChoice =
    Answer (codes "tree" ∷ (codes "or_d(" ++ pk A ++ codes ",and_v(v:pkh(" ++ B ++ codes "),older(144)))") ∷ []) nothing status.Done (lines (
    codes "node 0 0 Bsf or_d"
    ∷ codes "node 5 1 Bonduse c"
    ∷ (codes "node 5 2 Konduse pk_k " ++ A)
    ∷ codes "node 76 1 Bnsf and_v"
    ∷ codes "node 82 2 Vnsf v"
    ∷ codes "node 84 3 Bnduse c"
    ∷ (codes "node 84 4 Knduse pk_h " ++ B)
    ∷ codes "node 156 2 Bzf older 144"
    ∷ []))

-- the same without `v:`, which fits
abbrev pub OutlinedRule : Type 0
OutlinedRule =
    Answer (codes "tree" ∷ (codes "or_d(" ++ pk A ++ codes ",and_v(" ++ pk B ++ codes ",older(144)))") ∷ []) nothing status.TextRefused (lines (
    codes "node 0 0 - or_d"
    ∷ codes "node 5 1 Bonduse c"
    ∷ (codes "node 5 2 Konduse pk_k " ++ A)
    ∷ codes "node 76 1 - and_v"
    ∷ codes "node 82 2 Bonduse c"
    ∷ (codes "node 82 3 Konduse pk_k " ++ B)
    ∷ codes "node 153 2 Bzf older 144"
    ∷ codes "refused text Rule AndVX at 76"
    ∷ codes "fits v at 82"
    ∷ []))

-- a requirement of malleability that is false: `or_i(sha256(..),sha256(..))` as `or_i(0,or_i(1,1))`
abbrev pub OutlinedMalleable : Type 0
OutlinedMalleable =
    Answer (codes "tree" ∷ codes "or_i(0,or_i(1,1))" ∷ []) nothing status.TextRefused (lines (
    codes "node 0 0 Bdu? or_i"
    ∷ codes "node 5 1 Bzduse 0"
    ∷ codes "node 7 1 Bou? or_i"
    ∷ codes "node 12 2 Bzuf 1"
    ∷ codes "node 14 2 Bzuf 1"
    ∷ codes "refused text Malleable OrIS at 7"
    ∷ []))

-- by consensus; the second word is the text, whatever it is; and other lists of words have no form
abbrev pub OutlinedWords : Type 0
OutlinedWords =
    Answer (codes "tree" ∷ codes "--consensus" ∷ pk A ∷ []) nothing status.Done
    (lines (codes "node 0 0 Bonduse c" ∷ (codes "node 0 1 Konduse pk_k " ++ A) ∷ []))
    × Answer (codes "tree" ∷ codes "--consensus" ∷ []) nothing status.TextRefused (codes "refused text Syntax at 0\n")
    × IsUsage (codes "tree" ∷ [])
    × IsUsage (codes "tree" ∷ codes "1" ∷ codes "1" ∷ [])
