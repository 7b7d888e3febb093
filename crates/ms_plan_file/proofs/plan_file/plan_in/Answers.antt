use Rattle.std.proofs.Common.{Err, None, inl, map, ◌∙◌, ap}
use Rattle.std.proofs.lemmas.Result.{err_from_is_err_and}
use Rattle.serde_json.specs.View.{view}
use Rattle.def_files.specs.declared.Member.TheVariants as file_member
use Rattle.def_files.specs.Parts.{elements, is_hex, key_of, bytes_of}
use Rattle.def_plan.specs.declared.PlanMember.TheVariants as member
use Rattle.def_plan.specs.declared.PlanFault.TheVariants as fault
use Rattle.def_plan.specs.PlanFile.{key_elements, is_hex_key, length_at}
use Rattle.ms_plan_file.specs.Scaffolding.Reading.{parts_seen}
use Rattle.ms_plan_file.proofs.PlanRefusals.{object_none, hex_first, HasShapes, HasRead, number_stops, keys_end, preimages_end, read_done}
use Rattle.ms_plan_file.proofs.plan_file.plan_in.Goals as goal

pub returns-in_err-locks : goal.returns-in_err-locks
returns-in_err-locks c =
    let p = err_from_is_err_and c.from_residual-in_err-locks.result c.from_residual-in_err-locks.ensures.1 in
    let shapes : HasShapes (view c.args.file.now) = record {
      object = object_none _ _ c.if-not-is_object.false c.is_object.ensures;
      keys =
          c.in_ok-keys.ensures.elements.0;
      preimages = c.in_ok-preimages.ensures.elements.0;
    } in
    inl (ap parts_seen (p.1 ∙ ap Err p.2) ∙ number_stops _ _ shapes c.in_err-locks.ensures)

pub returns-in_err-entries : goal.returns-in_err-entries
returns-in_err-entries c =
    let p = err_from_is_err_and c.from_residual-in_err-entries.result c.from_residual-in_err-entries.ensures.1 in
    let shapes : HasShapes (view c.args.file.now) = record {
      object = object_none _ _ c.if-not-is_object.false c.is_object.ensures;
      keys =
          c.in_ok-keys.ensures.elements.0;
      preimages = c.in_ok-preimages.ensures.elements.0;
    } in
    keys_end _ _ _ _ shapes c.in_ok-locks.ensures.0 c.in_ok-keys.ensures.elements.1 c.in_err-entries.ensures (ap parts_seen (p.1 ∙ ap Err p.2))

pub returns-in_err-strings : goal.returns-in_err-strings
returns-in_err-strings c =
    let p = err_from_is_err_and c.from_residual-in_err-strings.result c.from_residual-in_err-strings.ensures.1 in
    let shapes : HasShapes (view c.args.file.now) = record {
      object = object_none _ _ c.if-not-is_object.false c.is_object.ensures;
      keys =
          c.in_ok-keys.ensures.elements.0;
      preimages = c.in_ok-preimages.ensures.elements.0;
    } in
    preimages_end _ _ _ _ _ shapes c.in_ok-locks.ensures.0 c.in_ok-keys.ensures.elements.1 c.in_ok-entries.ensures.0 c.in_ok-preimages.ensures.elements.1
    c.in_err-strings.ensures (ap parts_seen (p.1 ∙ ap Err p.2))

pub returns : goal.returns
returns c =
    let file = view c.args.file.now in
    let shapes : HasShapes file = record {
      object = object_none _ _ c.if-not-is_object.false c.is_object.ensures;
      keys =
          c.in_ok-keys.ensures.elements.0;
      preimages = c.in_ok-preimages.ensures.elements.0;
    } in
    let has : HasRead file c.in_ok-locks.locks c.as_slice.result.now c.in_ok-strings.strings = record {
      shapes = shapes;
      numbers = c.in_ok-locks.ensures.0;
      locks = c.in_ok-locks.ensures.1;
      keys = hex_first is_hex_key (fault.Hex member.Keys) (key_elements file) _ None c.in_ok-keys.ensures.elements.1 c.in_ok-entries.ensures.0;
      entries = c.as_slice.ensures.value ∙ c.in_ok-entries.ensures.1 ∙ ap (map (λ e. (key_of e, length_at e))) c.in_ok-keys.ensures.elements.1;
      preimages = hex_first is_hex (fault.Hex member.Preimages) (elements file_member.Preimages file) _ None c.in_ok-preimages.ensures.elements.1 c.in_ok-strings.ensures.0;
      strings = c.in_ok-strings.ensures.1 ∙ ap (map bytes_of) c.in_ok-preimages.ensures.elements.1;
    } in
    read_done _ _ _ _ (parts_seen c.check_parts.result) has c.check_parts.ensures
