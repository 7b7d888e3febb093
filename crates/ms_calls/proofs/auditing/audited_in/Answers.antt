use Rattle.std.proofs.Common.{refl}
use Rattle.ms_tree.specs.Shape.{shape}
use Rattle.ms_arrays.specs.ArrayRun.{run_of_arrays}
use Rattle.ms_calls.specs.Audited.{audit_given}
use Rattle.ms_calls.proofs.TextLemmas.{finds_of_reading, finds_of_no_reading}
use Rattle.ms_calls.proofs.auditing.audited_in.Goals as goal

pub returns-in-Ok : goal.returns-in-Ok
returns-in-Ok c =
    finds_of_reading c.args.text.now (audit_given (run_of_arrays c.args.locks c.args.arrays.now)) (shape c.in-Ok.text.tree) c.in-Ok.text.offsets.items
    c.audited_of_text.result c.in-Ok.ensures.utf8 c.in-Ok.ensures.read c.audited_of_text.ensures

pub returns : goal.returns
returns c =
    finds_of_no_reading c.args.text.now (audit_given (run_of_arrays c.args.locks c.args.arrays.now)) c.in-Err.stop (λ fault. refl) c.in-Err.ensures.stop
