use Rattle.std.proofs.Common.{◌++◌, refl, append_assoc, arith}
use Rattle.std.proofs.lemmas.Grind.{common_steps}
use Rattle.std.specs.Prelude.{codes, decimal}
use Rattle.ms_print.proofs.AddedLemmas.{on_err, adds_front}
use Rattle.ms_print.proofs.print.print_lock.Goals as goal

pub returns-in_err-push_str-2-clause-err : goal.returns-in_err-push_str-2-clause-err
returns-in_err-push_str-2-clause-err c =
    on_err _ _ (adds_front _ _ _ c.args.name.now (codes "(" ++ decimal c.args.n) (grind (arith, common_steps)) (append_assoc c.args.name.now (codes "(") (decimal c.args.n)))

pub returns-in_err-print_number-clause-err : goal.returns-in_err-print_number-clause-err
returns-in_err-print_number-clause-err c =
    on_err _ _ (adds_front _ _ _ (c.args.name.now ++ codes "(") (decimal c.args.n) (grind (arith, common_steps)) refl)
