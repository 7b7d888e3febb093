use Rattle.std.proofs.lemmas.Result.{err_from_is_err_and}
use Rattle.ms_calls.proofs.TextLemmas.{finds_of_misfit}
use Rattle.ms_calls.proofs.satisfying.witness_of_text.Goals as goal

pub returns-in_err-tree : goal.returns-in_err-tree
returns-in_err-tree c =
    let p = err_from_is_err_and c.from_residual.result c.from_residual.ensures.1 in
    rw (p.1, p.2) (finds_of_misfit _ _ _ c.in_err-tree.field-0.0 c.in_err-tree.ensures.stop)
