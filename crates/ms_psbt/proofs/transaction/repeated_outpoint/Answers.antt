use Rattle.std.proofs.Common.{Some, [], option_map, ap, subst, ◌∙◌}
use Rattle.def_psbt.specs.TransactionReading.{transaction_of}
use Rattle.ms_psbt.specs.declared.repeats.Keys.TheVariants as keys
use Rattle.ms_psbt.specs.Scaffolding.Outpoints.{Places, AreOutpoints, first_at, first_repeated, number_from}
use Rattle.ms_psbt.specs.Scaffolding.Repeats.{places_of, repeat_in}
use Rattle.ms_psbt.proofs.Numbering.{number_is}
use Rattle.ms_psbt.proofs.Unsigned.{transaction_long}
use Rattle.ms_psbt.proofs.transaction.repeated_outpoint.Goals as goal

pub returns-in-Some : goal.returns-in-Some
returns-in-Some c = λ t e empty.
    let bytes = c.args.bytes.now in
    let places = places_of c.in-Some.places.items in
    let are : AreOutpoints c.args.bytes.now t (places_of c.in-Some.places.items) = subst (λ o. Places c.args.bytes.now o (Some (places_of c.in-Some.places.items))) e
    (subst (λ places. Places c.args.bytes.now (transaction_of c.args.bytes.now) (option_map (λ v. places_of v.items) places)) c.in-Some.is c.in_ok-places.ensures.places) in
    c.number_at.ensures ∙ ap (λ f. number_from f c.first_repeat.result) (c.first_input_place-from.ensures (transaction_long bytes t e))
    ∙ ap (number_from (first_at bytes)) (c.first_repeat.ensures ∙ ap (λ places. repeat_in keys.Outpoints bytes [] (places_of places)) c.deref_mut.ensures.value)
    ∙ number_is bytes (first_at bytes) places are.row ∙ ap (first_repeated []) are.texts
