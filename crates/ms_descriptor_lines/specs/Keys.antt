-- What is added of the lines of keys.
use Rattle.std.specs.Prelude.{◌≡◌, ℕ, List, ◌++◌}
use Rattle.def_script.specs.Bytes.{Bytes}
use Rattle.def_tree.specs.Tree.{Key}
use Rattle.def_descriptor.specs.Expression.{Expression}
use Rattle.def_descriptor_answer.specs.Lines.{key_lines}

-- the lines of some expressions were added, which took the first of the keys: with those that are left, the lines of whatever
-- expressions follow go on as those of all
abbrev pub AddsKeyLines : (branch index : ℕ) → List Expression → (keys : List Key) → (before after : Bytes) → (rest : List Key) → Type 0
AddsKeyLines branch index expressions keys before after rest =
    (more : List Expression) → after ++ key_lines branch index more rest ≡ before ++ key_lines branch index (expressions ++ more) keys
