use Rattle.std.proofs.Common.{Err, None, inl, map, ◌∙◌, ap}
use Rattle.std.proofs.lemmas.Result.{err_from_is_err_and}
use Rattle.serde_json.specs.View.{view}
use Rattle.def_files.specs.declared.Member.TheVariants as member
use Rattle.def_files.specs.Parts.{is_hex, is_hex_pair, key_of, sig_of, bytes_of}
use Rattle.ms_assets.specs.Scaffolding.Seen.{parts_seen}
use Rattle.ms_assets.proofs.Refusals.{no_hex_first}
use Rattle.ms_assets.proofs.AssetRefusals.{shapes_are, HasNumbers, HasRead, number_stops, format_stops, pairs_end, strings_end, read_done}
use Rattle.ms_assets.proofs.asset_file.assets_in.Goals as goal

pub returns-in_err-locks : goal.returns-in_err-locks
returns-in_err-locks c =
    let p = err_from_is_err_and c.from_residual-in_err-locks.result c.from_residual-in_err-locks.ensures.1 in
    let shapes = shapes_are (view c.args.file.now) _ c.if-not-is_object.false c.is_object.ensures
    c.in_ok-signatures.ensures.elements.0 c.in_ok-preimages.ensures.elements.0 in
    inl (ap parts_seen (p.1 ∙ ap Err p.2) ∙ number_stops _ _ shapes c.in_err-locks.ensures)

pub returns-in_err-format : goal.returns-in_err-format
returns-in_err-format c =
    let p = err_from_is_err_and c.from_residual-in_err-format.result c.from_residual-in_err-format.ensures.1 in
    let shapes = shapes_are (view c.args.file.now) _ c.if-not-is_object.false c.is_object.ensures
    c.in_ok-signatures.ensures.elements.0 c.in_ok-preimages.ensures.elements.0 in
    inl (ap parts_seen (p.1 ∙ ap Err p.2) ∙ format_stops _ _ shapes c.in_ok-locks.ensures.0 c.in_err-format.ensures)

pub returns-in_err-pairs : goal.returns-in_err-pairs
returns-in_err-pairs c =
    let p = err_from_is_err_and c.from_residual-in_err-pairs.result c.from_residual-in_err-pairs.ensures.1 in
    let shapes = shapes_are (view c.args.file.now) _ c.if-not-is_object.false c.is_object.ensures
    c.in_ok-signatures.ensures.elements.0 c.in_ok-preimages.ensures.elements.0 in
    let numbers : HasNumbers (view c.args.file.now) = record { shapes = shapes; locks = c.in_ok-locks.ensures.0; format = c.in_ok-format.ensures.0 } in
    pairs_end _ _ _ _ numbers c.in_ok-signatures.ensures.elements.1 c.in_err-pairs.ensures (ap parts_seen (p.1 ∙ ap Err p.2))

pub returns-in_err-strings : goal.returns-in_err-strings
returns-in_err-strings c =
    let p = err_from_is_err_and c.from_residual-in_err-strings.result c.from_residual-in_err-strings.ensures.1 in
    let shapes = shapes_are (view c.args.file.now) _ c.if-not-is_object.false c.is_object.ensures
    c.in_ok-signatures.ensures.elements.0 c.in_ok-preimages.ensures.elements.0 in
    let numbers : HasNumbers (view c.args.file.now) = record { shapes = shapes; locks = c.in_ok-locks.ensures.0; format = c.in_ok-format.ensures.0 } in
    strings_end _ _ _ _ _ numbers c.in_ok-signatures.ensures.elements.1 c.in_ok-pairs.ensures.0 c.in_ok-preimages.ensures.elements.1 c.in_err-strings.ensures (ap parts_seen (p.1 ∙ ap Err p.2))

pub returns : goal.returns
returns c =
    let shapes = shapes_are (view c.args.file.now) _ c.if-not-is_object.false c.is_object.ensures
    c.in_ok-signatures.ensures.elements.0 c.in_ok-preimages.ensures.elements.0 in
    let numbers : HasNumbers (view c.args.file.now) = record { shapes = shapes; locks = c.in_ok-locks.ensures.0; format = c.in_ok-format.ensures.0 } in
    let has : HasRead (view c.args.file.now) c.in_ok-format.format c.in_ok-locks.locks c.in_ok-pairs.pairs c.in_ok-strings.strings = record {
      numbers = numbers;
      format = c.in_ok-format.ensures.1;
      locks = c.in_ok-locks.ensures.1;
      signatures = no_hex_first is_hex_pair member.Signatures (view c.args.file.now) _ None c.in_ok-signatures.ensures.elements.1 c.in_ok-pairs.ensures.0;
      pairs = c.in_ok-pairs.ensures.1 ∙ ap (map (λ e. (key_of e, sig_of e))) c.in_ok-signatures.ensures.elements.1;
      preimages = no_hex_first is_hex member.Preimages (view c.args.file.now) _ None c.in_ok-preimages.ensures.elements.1 c.in_ok-strings.ensures.0;
      strings = c.in_ok-strings.ensures.1 ∙ ap (map bytes_of) c.in_ok-preimages.ensures.elements.1;
    } in
    read_done _ _ _ _ _ (parts_seen c.check_parts.result) has c.check_parts.ensures
