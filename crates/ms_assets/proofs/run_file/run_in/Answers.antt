use Rattle.std.proofs.Common.{Err, None, inl, map, sym, ◌∙◌, ap}
use Rattle.std.proofs.lemmas.Result.{err_from_is_err_and}
use Rattle.serde_json.specs.View.{view}
use Rattle.def_files.specs.declared.Member.TheVariants as member
use Rattle.def_files.specs.Json.{spelled}
use Rattle.def_files.specs.Parts.{is_hex, is_hex_pair, key_of, sig_of, bytes_of}
use Rattle.ms_assets.specs.Runs.{run_seen}
use Rattle.ms_assets.proofs.Refusals.{no_hex_first}
use Rattle.ms_assets.proofs.RunRefusals.{no_digits, shapes_are, HasNumbers, HasRead, number_stops, pairs_end, digits_end, strings_end, read_done}
use Rattle.ms_assets.proofs.run_file.run_in.Goals as goal

pub returns-in_err-locks-clause-run : goal.returns-in_err-locks-clause-run
returns-in_err-locks-clause-run c =
    let p = err_from_is_err_and c.from_residual-in_err-locks.result c.from_residual-in_err-locks.ensures.1 in
    let shapes = shapes_are (view c.args.file.now) _ c.if-not-is_object.false c.is_object.ensures c.in_ok-signatures.ensures.elements.0
    c.in_ok-text.ensures.0 c.in_ok-witness.ensures.elements.0 in
    inl (ap run_seen (p.1 ∙ ap Err p.2) ∙ number_stops _ _ shapes c.in_err-locks.ensures)

pub returns-in_err-pairs-clause-run : goal.returns-in_err-pairs-clause-run
returns-in_err-pairs-clause-run c =
    let p = err_from_is_err_and c.from_residual-in_err-pairs.result c.from_residual-in_err-pairs.ensures.1 in
    let shapes = shapes_are (view c.args.file.now) _ c.if-not-is_object.false c.is_object.ensures c.in_ok-signatures.ensures.elements.0
    c.in_ok-text.ensures.0 c.in_ok-witness.ensures.elements.0 in
    let numbers : HasNumbers (view c.args.file.now) = record { shapes = shapes; numbers = c.in_ok-locks.ensures.0 } in
    pairs_end _ _ _ _ numbers c.in_ok-signatures.ensures.elements.1 c.in_err-pairs.ensures (ap run_seen (p.1 ∙ ap Err p.2))

pub returns-in_err-script-clause-run : goal.returns-in_err-script-clause-run
returns-in_err-script-clause-run c =
    let p = err_from_is_err_and c.from_residual-in_err-script.result c.from_residual-in_err-script.ensures.1 in
    let shapes = shapes_are (view c.args.file.now) _ c.if-not-is_object.false c.is_object.ensures c.in_ok-signatures.ensures.elements.0
    c.in_ok-text.ensures.0 c.in_ok-witness.ensures.elements.0 in
    let numbers : HasNumbers (view c.args.file.now) = record { shapes = shapes; numbers = c.in_ok-locks.ensures.0 } in
    digits_end _ _ _ _ numbers (no_hex_first is_hex_pair member.Signatures
    (view c.args.file.now) _ None c.in_ok-signatures.ensures.elements.1 c.in_ok-pairs.ensures.0) c.in_ok-text.ensures.1 c.in_err-script.ensures
    (ap run_seen (p.1 ∙ ap Err p.2))

pub returns-in_err-stack-clause-run : goal.returns-in_err-stack-clause-run
returns-in_err-stack-clause-run c =
    let p = err_from_is_err_and c.from_residual-in_err-stack.result c.from_residual-in_err-stack.ensures.1 in
    let shapes = shapes_are (view c.args.file.now) _ c.if-not-is_object.false c.is_object.ensures c.in_ok-signatures.ensures.elements.0
    c.in_ok-text.ensures.0 c.in_ok-witness.ensures.elements.0 in
    let numbers : HasNumbers (view c.args.file.now) = record { shapes = shapes; numbers = c.in_ok-locks.ensures.0 } in
    strings_end _ _ _ _ numbers (no_hex_first is_hex_pair member.Signatures
    (view c.args.file.now) _ None c.in_ok-signatures.ensures.elements.1 c.in_ok-pairs.ensures.0)
    (ap no_digits (sym c.in_ok-text.ensures.1) ∙ c.in_ok-script.ensures.0) c.in_ok-witness.ensures.elements.1 c.in_err-stack.ensures
    (ap run_seen (p.1 ∙ ap Err p.2))

pub returns-clause-run : goal.returns-clause-run
returns-clause-run c =
    let shapes = shapes_are (view c.args.file.now) _ c.if-not-is_object.false c.is_object.ensures c.in_ok-signatures.ensures.elements.0
    c.in_ok-text.ensures.0 c.in_ok-witness.ensures.elements.0 in
    let numbers : HasNumbers (view c.args.file.now) = record { shapes = shapes; numbers = c.in_ok-locks.ensures.0 } in
    let has : HasRead (view c.args.file.now) c.in_ok-script.script c.in_ok-stack.stack c.in_ok-locks.locks c.in_ok-pairs.pairs = record {
      numbers = numbers;
      signatures = no_hex_first is_hex_pair member.Signatures (view c.args.file.now) _ None c.in_ok-signatures.ensures.elements.1 c.in_ok-pairs.ensures.0;
      digits = ap no_digits (sym c.in_ok-text.ensures.1) ∙ c.in_ok-script.ensures.0;
      witness = no_hex_first is_hex member.Witness (view c.args.file.now) _ None c.in_ok-witness.ensures.elements.1 c.in_ok-stack.ensures.0;
      script = c.in_ok-script.ensures.1 ∙ ap spelled c.in_ok-text.ensures.1;
      stack = c.in_ok-stack.ensures.1 ∙ ap (map bytes_of) c.in_ok-witness.ensures.elements.1;
      locks = c.in_ok-locks.ensures.1;
      pairs = c.in_ok-pairs.ensures.1 ∙ ap (map (λ e. (key_of e, sig_of e))) c.in_ok-signatures.ensures.elements.1;
    } in
    inl (c.run_of_parts.ensures.run ∙ read_done _ _ _ _ _ has)
