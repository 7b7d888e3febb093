-- Words that need the source, and words that don't.
use Rattle.std.specs.Prelude.{[], ◌∷◌, ◌++◌, codes}
use Rattle.def_answer.specs.Sources.{ReadsSource}
use Rattle.def_answer.specs.Samples.{A, pk}

-- a run; a sane text; a valid one, where it may be malleable
abbrev pub WordsThatRead : Type 0
WordsThatRead =
    ReadsSource (codes "run" ∷ [])
    × ReadsSource (codes "satisfy" ∷ pk A ∷ [])
    × ReadsSource (codes "satisfy" ∷ codes "--malleable" ∷ codes "1" ∷ [])
    × ReadsSource (codes "plan" ∷ pk A ∷ [])
    × ReadsSource (codes "audit" ∷ codes "1" ∷ [])
    × ReadsSource (codes "trace" ∷ [])
    × ReadsSource (codes "trace" ∷ codes "1" ∷ [])

-- no form; other commands; a text that isn't sane, that isn't valid, or that isn't spelled
abbrev pub WordsThatDoNot : Type 0
WordsThatDoNot =
    ¬ ReadsSource (codes "run" ∷ codes "0" ∷ [])
    × ¬ ReadsSource (codes "script" ∷ pk A ∷ [])
    × ¬ ReadsSource (codes "asm" ∷ pk A ∷ [])
    × ¬ ReadsSource (codes "tree" ∷ pk A ∷ [])
    × ¬ ReadsSource (codes "check" ∷ pk A ∷ [])
    × ¬ ReadsSource (codes "gen" ∷ codes "4" ∷ [])
    × ¬ ReadsSource (codes "policy" ∷ pk A ∷ [])
    × ¬ ReadsSource (codes "decode" ∷ codes "51" ∷ A ∷ [])
    × ¬ ReadsSource (codes "satisfy" ∷ codes "1" ∷ [])
    × ¬ ReadsSource (codes "satisfy" ∷ codes "--malleable" ∷ (codes "v:" ++ pk A) ∷ [])
    × ¬ ReadsSource (codes "satisfy" ∷ codes "--malleable" ∷ [])
    × ¬ ReadsSource (codes "plan" ∷ codes "1" ∷ [])
    × ¬ ReadsSource (codes "audit" ∷ (codes "v:" ++ pk A) ∷ [])
    × ¬ ReadsSource (codes "trace" ∷ (codes "v:" ++ pk A) ∷ [])
    × ¬ ReadsSource (codes "plan" ∷ pk A ∷ pk A ∷ [])
