-- The name of a `multi`, and its pieces.
use Rattle.std.proofs.Common.{◌≡◌, List, ◌++◌, map, ap, sym, ◌∙◌, append_assoc, codes}
use Rattle.std.proofs.lemmas.Result.{on_ok_weaker}
use Rattle.def_script.specs.Bytes.{Bytes}
use Rattle.def_descriptor.specs.Gives.{pieces_in}
use Rattle.def_descriptor.specs.Answer.{sample}
use Rattle.ms_descriptor.specs.declared.pieces.Piece.{Piece}
use Rattle.ms_descriptor.specs.declared.parts.Body.{Body}
use Rattle.ms_descriptor.specs.Miniscripts.{piece_at}
use Rattle.ms_descriptor.specs.Bodies.{body_at}
use Rattle.ms_descriptor.proofs.Sampling.{sample_name}
use Rattle.ms_descriptor.proofs.sample.push_body.Goals as goal

pub returns-in_ok-extend_from_slice-in-Sorted : goal.returns-in_ok-extend_from_slice-in-Sorted
returns-in_ok-extend_from_slice-in-Sorted c =
    let text = c.args.text.now in
    let name : Bytes = codes "multi" in
    let before = c.args.sample.now.items in
    let own : Bytes = sample (map (piece_at text) c.in-Sorted.pieces.items) in
    let whole : name ++ own ≡ sample (pieces_in (body_at text c.args.body.now)) =
    sym (sample_name c.in-Sorted.field-0 name (map (piece_at text) c.in-Sorted.pieces.items))
    ∙ ap (λ (z : Body). sample (pieces_in (body_at text z))) (sym c.in-Sorted.is) in
    let all : c.extend_from_slice.new.self.items ++ sample (map (piece_at text) c.deref-in-Sorted.result.now)
    ≡ before ++ sample (pieces_in (body_at text c.args.body.now)) =
    ap (λ (z : Bytes). z ++ sample (map (piece_at text) c.deref-in-Sorted.result.now)) c.in_ok-extend_from_slice-in-Sorted.ensures.items
    ∙ (ap (λ (z : List Piece). (before ++ name) ++ sample (map (piece_at text) z)) c.deref-in-Sorted.ensures.value
    ∙ (append_assoc before name own ∙ ap (λ (z : Bytes). before ++ z) whole)) in
    on_ok_weaker c.push_pieces-in-Sorted.result
    (λ (e : c.push_pieces-in-Sorted.new.sample.items ≡ c.extend_from_slice.new.self.items ++ sample (map (piece_at text) c.deref-in-Sorted.result.now)). e ∙ all)
    c.push_pieces-in-Sorted.ensures
