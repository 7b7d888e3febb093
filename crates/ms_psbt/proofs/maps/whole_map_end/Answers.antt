use Rattle.std.proofs.lemmas.Result.{err_from_is_err_and}
use Rattle.ms_psbt.specs.Scaffolding.Kinds.{rules_of}
use Rattle.ms_psbt.proofs.Walking.{map_stop}
use Rattle.ms_psbt.proofs.maps.whole_map_end.Goals as goal

pub returns-in_err-end-clause-reading : goal.returns-in_err-end-clause-reading
returns-in_err-end-clause-reading c =
    let refused = err_from_is_err_and c.from_residual.result c.from_residual.ensures.1 in
    rw (refused.1, refused.2) (map_stop (rules_of c.args.kind) c.args.psbt.now c.args.at c.in_err-end.field-0.0 c.in_err-end.ensures.reading)
