use Rattle.std.proofs.Common.{◌≡◌, ℕ, List}
use Rattle.def_hash.specs.Ripemd.{right_line}
use Rattle.ms_hash.proofs.rounds.right_eight.Given as goal

-- the variables after the steps so far
abbrev pub invariant-steps : goal.invariant-steps
invariant-steps l = (h : List ℕ) → l.fn.v ≡ right_line l.w h l.from → l.v ≡ right_line l.w h l.j
