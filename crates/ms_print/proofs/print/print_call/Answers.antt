use Rattle.std.proofs.Common.{◌++◌, refl, append_assoc, arith}
use Rattle.std.proofs.lemmas.Grind.{common_steps}
use Rattle.std.specs.Prelude.{codes}
use Rattle.hex.specs.Hex.{encode_lower}
use Rattle.ms_print.proofs.AddedLemmas.{on_err, adds_front}
use Rattle.ms_print.proofs.print.print_call.Goals as goal

pub returns-in_err-push_str-2-clause-err : goal.returns-in_err-push_str-2-clause-err
returns-in_err-push_str-2-clause-err c =
    on_err _ _ (adds_front _ _ _ c.args.name.now (codes "(" ++ encode_lower c.args.bytes.now) (grind (arith, common_steps)) (append_assoc c.args.name.now (codes "(") (encode_lower c.args.bytes.now)))

pub returns-in_err-print_hex-clause-err : goal.returns-in_err-print_hex-clause-err
returns-in_err-print_hex-clause-err c =
    on_err _ _ (adds_front _ _ _ (c.args.name.now ++ codes "(") (encode_lower c.args.bytes.now) (grind (arith, common_steps)) refl)
