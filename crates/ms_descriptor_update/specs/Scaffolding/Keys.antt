-- What is added of keys with where they come from.
use Rattle.std.specs.Prelude.{◌≡◌, ℕ, List, ◌++◌}
use Rattle.def_tree.specs.Tree.{Key}
use Rattle.def_descriptor.specs.Expression.{Origin, Expression}
use Rattle.def_descriptor_answer.specs.Update.{with_origins}

-- the keys of some expressions were added, which took the first of the keys: with those that are left, the keys of whatever
-- expressions follow go on as those of all
abbrev pub AddsOrigins : (branch index : ℕ) → List Expression → (keys : List Key) → (before after : List (Key × Origin)) → (rest : List Key) → Type 0
AddsOrigins branch index expressions keys before after rest =
    (more : List Expression) → after ++ with_origins branch index more rest ≡ before ++ with_origins branch index (expressions ++ more) keys
