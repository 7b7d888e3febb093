-- The examples compute.
use Rattle.std.proofs.Common.{refl}
use Rattle.def_satisfaction.proofs.Computing.{computing}
use Rattle.def_files.proofs.OnLiterals.{files_on_literals}
use Rattle.def_plan.specs.PlanFile.{plan_file_of}
use Rattle.def_plan.specs.Examples.{ShortestTwo, FirstTwo, TooFew, LockCounts, PreimagesFirst}
use Rattle.def_plan.specs.FileExamples.{Gives, Shapes, Parts, Values, Repeats}

pub shortest_two : ShortestTwo
unfolding computing
shortest_two = (refl, refl)

pub first_two : FirstTwo
unfolding computing
first_two = refl

pub too_few : TooFew
unfolding computing
too_few = refl

pub lock_counts : LockCounts
unfolding computing
lock_counts = (refl, refl)

pub preimages_first : PreimagesFirst
unfolding computing
preimages_first = (refl, refl, refl)

pub gives : Gives
unfolding plan_file_of files_on_literals
gives = (refl, refl)

pub shapes : Shapes
unfolding plan_file_of files_on_literals
shapes = (refl, refl, refl, refl, refl, refl)

pub parts : Parts
unfolding plan_file_of files_on_literals
parts = (refl, refl, refl)

pub values : Values
unfolding plan_file_of files_on_literals
values = (refl, refl, refl, refl)

pub repeats : Repeats
unfolding plan_file_of files_on_literals
repeats = (refl, refl, refl)
