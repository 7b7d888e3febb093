-- The lines of keys.
use Rattle.std.proofs.Common.{◌≡◌, ℕ, List, [], ◌∷◌, ◌++◌, length, refl, ap, ◌∙◌, sym, arith}
use Rattle.def_script.specs.Bytes.{Bytes}
use Rattle.def_tree.specs.Tree.{Key}
use Rattle.def_descriptor.specs.Expression.{Expression}
use Rattle.def_descriptor_answer.specs.Lines.{key_lines}

none_left : (branch index : ℕ) (expressions : List Expression) → key_lines branch index expressions [] ≡ []
none_left branch index [] = refl
none_left branch index (expression ∷ rest) = refl

empty : (keys : List Key) → length keys ≡ 0 → keys ≡ []
empty [] h = refl
empty (key ∷ keys) h = absurd (omega (arith, h))

-- without keys nothing is added
pub no_keys : (branch index : ℕ) (expression : Expression) (keys : List Key) (before : Bytes) (more : List Expression) → length keys ≡ 0
    → before ++ key_lines branch index more keys ≡ before ++ key_lines branch index (expression ∷ more) keys
no_keys branch index expression keys before more h =
    let none : keys ≡ [] = empty keys h in
    ap (λ (z : List Key). before ++ key_lines branch index more z) none
    ∙ (ap (λ (z : Bytes). before ++ z) (none_left branch index more)
    ∙ ap (λ (z : List Key). before ++ key_lines branch index (expression ∷ more) z) (sym none))
