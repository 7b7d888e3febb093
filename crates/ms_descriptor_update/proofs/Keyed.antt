-- Keys with where they come from.
use Rattle.std.proofs.Common.{◌≡◌, ℕ, List, [], ◌∷◌, ◌++◌, length, refl, ap, ◌∙◌, sym, arith}
use Rattle.def_tree.specs.Tree.{Key}
use Rattle.def_descriptor.specs.Expression.{Origin, Expression}
use Rattle.def_descriptor_answer.specs.Update.{with_origins}

none_left : (branch index : ℕ) (expressions : List Expression) → with_origins branch index expressions [] ≡ []
none_left branch index [] = refl
none_left branch index (expression ∷ rest) = refl

empty : (keys : List Key) → length keys ≡ 0 → keys ≡ []
empty [] h = refl
empty (key ∷ keys) h = absurd (omega (arith, h))

-- without keys nothing is added
pub no_keys : (branch index : ℕ) (expression : Expression) (keys : List Key) (before : List (Key × Origin)) (more : List Expression) → length keys ≡ 0
    → before ++ with_origins branch index more keys ≡ before ++ with_origins branch index (expression ∷ more) keys
no_keys branch index expression keys before more h =
    let none : keys ≡ [] = empty keys h in
    ap (λ (z : List Key). before ++ with_origins branch index more z) none
    ∙ (ap (λ (z : List (Key × Origin)). before ++ z) (none_left branch index more)
    ∙ ap (λ (z : List Key). before ++ with_origins branch index (expression ∷ more) z) (sym none))
