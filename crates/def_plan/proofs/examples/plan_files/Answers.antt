use Rattle.def_plan.proofs.examples.plan_files.Goals as goal
use Rattle.def_plan.proofs.Computed.{gives, shapes, parts, values, repeats}

pub returns-clause-gives : goal.returns-clause-gives
returns-clause-gives c = gives

pub returns-clause-shapes : goal.returns-clause-shapes
returns-clause-shapes c = shapes

pub returns-clause-parts : goal.returns-clause-parts
returns-clause-parts c = parts

pub returns-clause-values : goal.returns-clause-values
returns-clause-values c = values

pub returns-clause-repeats : goal.returns-clause-repeats
returns-clause-repeats c = repeats
