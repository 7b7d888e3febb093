-- Each reason against a tree stands behind the same words in the line of `msat check`.
use Rattle.std.proofs.Common.{ℕ, ◌≤◌, List, length, arith}
use Rattle.def_sane.specs.declared.Unfit.{Unfit}
use Rattle.def_sane.specs.declared.Unfit.TheVariants as unfit
use Rattle.def_answer.specs.Lines.{unfit_line}

pub behind_words : (offsets : List ℕ) (why : Unfit) → 13 ≤ length (unfit_line offsets why)
behind_words offsets (unfit.Rule at) = omega arith
behind_words offsets unfit.TopNotB = omega arith
behind_words offsets (unfit.Size n) = omega arith
behind_words offsets (unfit.Ops n) = omega arith
behind_words offsets (unfit.Items n) = omega arith
behind_words offsets (unfit.Malleable at) = omega arith
behind_words offsets unfit.NoSignature = omega arith
behind_words offsets (unfit.MixedLocks node) = omega arith
behind_words offsets (unfit.RepeatedKey node) = omega arith
