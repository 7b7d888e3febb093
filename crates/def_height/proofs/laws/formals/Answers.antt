use Rattle.def_height.proofs.laws.formals.Goals as goal
use Rattle.def_height.proofs.Formals.{courses_are_of_formals, formals_have_courses}

pub returns : goal.returns
returns c = record { of_formals = courses_are_of_formals; have_courses = formals_have_courses }
