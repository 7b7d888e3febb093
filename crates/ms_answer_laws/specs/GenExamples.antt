-- Answers to `gen N`.
use Rattle.std.specs.Prelude.{List, [], ◌∷◌, codes}
use Rattle.def_script.specs.Bytes.{Bytes}
use Rattle.def_answer.specs.declared.status.Status.TheVariants as status
use Rattle.def_answer.specs.Answer.{Answer}
use Rattle.def_answer.specs.Samples.{nothing, lines}

abbrev pub Generates : (n : Bytes) → (report : List Bytes) → Type 0
Generates n report = Answer (codes "gen" ∷ n ∷ []) nothing status.Done (lines report)

abbrev pub GenOne : Type 0
GenOne =
    Generates (codes "1") (
    codes "children 1 threshold 1"
    ∷ codes "limits size 37 ops 2 items 1 weight 74"
    ∷ codes "strict items 1 weight 71 peak 2"
    ∷ codes "cheapest items 1 weight 71"
    ∷ [])

abbrev pub GenFour : Type 0
GenFour =
    Generates (codes "4") (
    codes "children 4 threshold 2"
    ∷ codes "limits size 158 ops 19 items 4 weight 150"
    ∷ codes "strict items 4 weight 106 peak 5"
    ∷ codes "cheapest items 4 weight 106"
    ∷ [])
