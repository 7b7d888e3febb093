use Rattle.std.proofs.Common.{◌≡◌, ℕ, List}
use Rattle.def_hash.specs.Ripemd.{left_line}
use Rattle.ms_hash.proofs.rounds.left_eight.Given as goal

-- the variables after the steps so far
abbrev pub invariant-steps : goal.invariant-steps
invariant-steps l = (h : List ℕ) → l.fn.v ≡ left_line l.w h l.from → l.v ≡ left_line l.w h l.j
