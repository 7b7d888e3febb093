-- Runs of letters, by their bytes.
use Rattle.std.specs.Prelude.{ℕ, ◌+◌, ◌==◌, List, [], ◌∷◌, ◌++◌, if◌then◌else◌}
use Rattle.std.specs.Str.{byte}
use Rattle.def_script.specs.Bytes.{Bytes}

-- the offsets so far, and those of the nodes that letters put before their expression: the `0` of each `l`
abbrev pub offsets_before_run : ℕ → Bytes → List ℕ → List ℕ
offsets_before_run a [] os = os
offsets_before_run a (b ∷ w) os = offsets_before_run (a + 1) w (if b == byte "l" then os ++ a ∷ [] else os)
