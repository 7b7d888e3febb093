use Rattle.std.proofs.Common.{◌≡◌, refl, ap}
use Rattle.def_psbt.specs.Transaction.{Transaction}
use Rattle.def_script.specs.Bytes.{Bytes}
use Rattle.def_update.specs.Known.{OUTPUT, pairs_by, known_by}
use Rattle.ms_update.proofs.Going.{after_next, open_output, front_of, front_is, output_next, output_barred, output_fits, outputs_end}
use Rattle.ms_update.proofs.Whole.{outputs_begin, outputs_place}
use Rattle.ms_update.proofs.updating.push_outputs.Goals as goal

pub outputs-init : goal.outputs-init
outputs-init g c =
    let same = ap (λ (t : Transaction). t.outputs) c.requires.same in
    let items : c.into_iter-output-iterator.result ≡ c.args.psbt.now.transaction.outputs = cc (c.into_iter-output-iterator.ensures.into_iter_gives, c.outputs-output-items.ensures, same) in
    outputs_begin (g.K.Book.known c.args.known.now) c.args.psbt.now c.into_iter-output-iterator.result c.after_inputs-rest.result.now _ c.args.out.now.items c.requires.sound items
    c.after_inputs-rest.ensures

pub first_map-map-requires : goal.first_map-map-requires
first_map-map-requires g c =
    let left = after_next _ _ c.in-Some.output c.next.new.self _ _ _ _ _ _ c.in-Some.ensures.steps c.outputs.invariant in
    front_of _ _ _ _ _ _ _ _ _ (open_output _ _ _ _ _ _ _ _ _ left)

pub push_output-requires-clause-map : goal.push_output-requires-clause-map
push_output-requires-clause-map g c =
    let left = after_next _ _ c.in-Some.output c.next.new.self _ _ _ _ _ _ c.in-Some.ensures.steps c.outputs.invariant in
    (front_is _ _ _ _ _ _ _ _ _ c.first_map-map.result.now (open_output _ _ _ _ _ _ _ _ _ left) c.first_map-map.ensures).is_text

pub returns-in-Err : goal.returns-in-Err
returns-in-Err g c =
    let left = after_next _ _ c.in-Some.output c.next.new.self _ _ _ _ _ _ c.in-Some.ensures.steps c.outputs.invariant in
    output_barred (g.K.Book.known c.args.known.now) c.in-Some.output c.next.new.self c.args.psbt.now.transaction.outputs c.outputs.rest.now c.outputs.at _ _
    c.outputs.out.items c.push_output.new.out.items c.args.out.now.items c.push_output.new.out.items _ _ c.first_map-map.result.now _ c.args.psbt.now.outputs c.in-Err.why
    (outputs_place c.args.psbt.now c.bytes.result.now c.after_inputs-rest.result.now c.bytes.ensures c.after_inputs-rest.ensures) left c.first_map-map.ensures
    (ap (λ (s : Bytes). pairs_by OUTPUT (known_by (g.K.Book.known c.args.known.now) s)) c.script.ensures) c.in-Err.ensures

pub behind_map-rest-requires : goal.behind_map-rest-requires
behind_map-rest-requires g c =
    let left = after_next _ _ c.in-Some.output c.next.new.self _ _ _ _ _ _ c.in-Some.ensures.steps c.outputs.invariant in
    output_fits _ _ _ _ _ _ _ _ _ c.first_map-map.result.now left c.first_map-map.ensures

pub outputs-preserved : goal.outputs-preserved
outputs-preserved g c =
    let left = after_next _ _ c.in-Some.output c.next.new.self _ _ _ _ _ _ c.in-Some.ensures.steps c.outputs.invariant in
    let put = c.in-Ok.ensures in
    output_next (g.K.Book.known c.args.known.now) c.in-Some.output c.next.new.self c.outputs.rest.now c.outputs.at _ c.outputs.out.items c.push_output.new.out.items _ _ _
    c.first_map-map.result.now c.behind_map-rest.result.now _ left c.first_map-map.ensures (ap (λ (s : Bytes). pairs_by OUTPUT (known_by (g.K.Book.known c.args.known.now) s))
    c.script.ensures) put.0 put.1 refl c.behind_map-rest.ensures

pub returns : goal.returns
returns g c =
    outputs_end (g.K.Book.known c.args.known.now) c.args.psbt.now.transaction.outputs c.outputs.output-iterator c.args.psbt.now.outputs c.outputs.rest.now c.outputs.at _ _
    c.args.out.now.items c.outputs.out.items _ (outputs_place c.args.psbt.now c.bytes.result.now c.after_inputs-rest.result.now c.bytes.ensures c.after_inputs-rest.ensures)
    c.in-None.ensures.steps.0 c.outputs.invariant
