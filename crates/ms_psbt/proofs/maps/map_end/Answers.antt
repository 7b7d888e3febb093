use Rattle.std.proofs.Common.{Some, None, [], ap, ◌∙◌}
use Rattle.std.proofs.lemmas.Result.{err_from_is_err_and}
use Rattle.ms_psbt.specs.declared.repeats.Keys.TheVariants as keys
use Rattle.ms_psbt.specs.Scaffolding.Kinds.{forms_of}
use Rattle.ms_psbt.specs.Scaffolding.Repeats.{places_of, repeat_in}
use Rattle.ms_psbt.proofs.Walking.{map_walked}
use Rattle.ms_psbt.proofs.maps.map_end.Goals as goal

pub returns-in-Some-clause-reading : goal.returns-in-Some-clause-reading
returns-in-Some-clause-reading c =
    map_walked (forms_of c.args.kind) c.args.psbt.now c.args.at (places_of c.walk.new.places.items) c.in_ok-outcome.outcome
    (Some c.in-Some.place) c.in_ok-outcome.ensures.walk (c.in-Some.ensures
    ∙ ap (λ places. repeat_in keys.Pairs c.args.psbt.now [] (places_of places)) c.deref_mut.ensures.value)

pub returns-in_err-outcome-in-None-clause-reading : goal.returns-in_err-outcome-in-None-clause-reading
returns-in_err-outcome-in-None-clause-reading c =
    let refused = err_from_is_err_and c.from_residual-in_err-outcome-in-None.result c.from_residual-in_err-outcome-in-None.ensures.1 in
    rw (refused.1, refused.2)
    (map_walked (forms_of c.args.kind) c.args.psbt.now c.args.at (places_of c.walk.new.places.items) c.in_ok-outcome.outcome None c.in_ok-outcome.ensures.walk
    (c.in-None.ensures ∙ ap (λ places. repeat_in keys.Pairs c.args.psbt.now [] (places_of places)) c.deref_mut.ensures.value)
    ∙ c.in_err-outcome-in-None.was)

pub returns-in_ok-outcome-in-None-clause-reading : goal.returns-in_ok-outcome-in-None-clause-reading
returns-in_ok-outcome-in-None-clause-reading c =
    map_walked (forms_of c.args.kind) c.args.psbt.now c.args.at (places_of c.walk.new.places.items) c.in_ok-outcome.outcome None c.in_ok-outcome.ensures.walk
    (c.in-None.ensures ∙ ap (λ places. repeat_in keys.Pairs c.args.psbt.now [] (places_of places)) c.deref_mut.ensures.value) ∙ c.in_ok-outcome-in-None.was
