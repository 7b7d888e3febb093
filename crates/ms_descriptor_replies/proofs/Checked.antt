-- What is told of a place at branch 0 and index 0.
use Rattle.std.proofs.Common.{◌≡◌, [], ◌++◌, codes, append-nil, append_assoc, ap, ◌∙◌, sym, refl, Option}
use Rattle.std.specs.declared.vec.Vec.{Vec}
use Rattle.std.specs.declared.alloc.Global.{Global}
use Rattle.std.specs.Prelude.{ℕ}
use Rattle.def_script.specs.Bytes.{Bytes}
use Rattle.def_address.specs.declared.Network.{Network}
use Rattle.def_answer.specs.Lines.{line, limits_line}
use Rattle.def_answer.specs.Check.{type_letters}
use Rattle.def_descriptor.specs.Answer.{Descriptor}
use Rattle.def_descriptor_answer.specs.declared.status.Status.{Status}
use Rattle.def_descriptor_answer.specs.declared.status.Status.TheVariants as status
use Rattle.def_descriptor_answer.specs.Places.{Place, of_key, of_tree, nothing, IsAt}
use Rattle.def_descriptor_answer.specs.Lines.{judgement_lines, descriptor_line, shape_lines, check_report}
use Rattle.def_descriptor_answer.specs.Reply.{reply, check_status, RepliesToCheck}
use Rattle.ms_outputs.specs.declared.given.Given.{Given}
use Rattle.ms_descriptor_replies.specs.declared.judging.Place.TheVariants as own
use Rattle.ms_descriptor_replies.specs.declared.measures.Measures.{Measures}
use Rattle.ms_descriptor_replies.specs.Found.{IsFound}
use Rattle.ms_descriptor_replies.proofs.Joined.{three_texts}

abbrev Judged : Place → Status → (before after : Bytes) → Type 0
Judged place status before after = (status ≡ check_status place) × (after ≡ before ++ judgement_lines place)

module _ (network : Option Network) (d : Descriptor) where
  pub judged_key : (place : Place) (given : Given) (before : Bytes) → IsFound network d place (own.Key given) → Judged place status.Done before before
  judged_key (of_key key) given before h = (refl, sym (append-nil before))
  judged_key (of_tree keys tree) given before h = absurd h
  judged_key (nothing reason) given before h = absurd h

  pub judged_tree : (place : Place) (given : Given) (measures : Measures) (before after : Bytes) → IsFound network d place (own.Tree given measures)
      → after ≡ before ++ (line (codes "type " ++ type_letters measures.ty measures.malleability_of) ++ limits_line measures.limits)
      → Judged place status.Done before after
  judged_tree (of_key key) given measures before after h e = absurd h
  judged_tree (of_tree keys tree) given measures before after h e =
      let measured = h.1 in
      (refl, rw (e, measured.ty, measured.malleability_of, measured.limits) refl)
  judged_tree (nothing reason) given measures before after h e = absurd h

  pub judged_nothing : (place : Place) (reason : Vec ℕ Global) (before first after : Bytes) → IsFound network d place (own.Nothing reason)
      → first ≡ before ++ codes "unfit " → after ≡ first ++ reason.items → Judged place status.Unfit before after
  judged_nothing (of_key key) reason before first after h e f = absurd h
  judged_nothing (of_tree keys tree) reason before first after h e f = absurd h
  judged_nothing (nothing why) reason before first after h e f =
      (refl, f ∙ (ap (λ (z : Bytes). z ++ reason.items) e ∙ (append_assoc before (codes "unfit ") reason.items ∙ ap (λ (z : Bytes). before ++ (codes "unfit " ++ z)) h)))

pub checked : (text : Bytes) (d : Descriptor) (place : Place) (status : Status) (none first second after : Bytes) → IsAt d.body 0 0 place
    → none ≡ [] → first ≡ none ++ descriptor_line text d.length → second ≡ first ++ shape_lines d.under d.body → Judged place status second after
    → RepliesToCheck text d (reply status after)
checked text d place status none first second after at e0 e1 e2 h = (
  place,
  at,
  ap (λ (z : Status). reply z after) h.0
      ∙ ap (reply (check_status place))
      (three_texts none (descriptor_line text d.length) (shape_lines d.under d.body) (judgement_lines place) first second after e1 e2 h.1
      ∙ ap (λ (z : Bytes). z ++ check_report text d place) e0),
)
