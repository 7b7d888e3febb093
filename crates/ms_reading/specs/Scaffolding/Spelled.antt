-- Bytes beside the spelling of instructions.
use Rattle.std.specs.Prelude.{◌≡◌, ◌++◌, Option, MatchOption}
use Rattle.std.specs.Borrow.{Bor}
use Rattle.def_script.specs.Bytes.{Bytes}

-- what stands behind a part that bytes begin with, or that they don't
abbrev pub IsBehind : (part bytes : Bytes) → Option (Bor Bytes) → Type 0
IsBehind part bytes o = MatchOption o ((rest : Bytes) → bytes ≡ part ++ rest → ⊥) (λ rest. bytes ≡ part ++ rest.now)
