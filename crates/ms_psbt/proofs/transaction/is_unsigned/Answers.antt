use Rattle.std.proofs.Common.{[], not, option_map, ap, subst, ◌∙◌}
use Rattle.def_psbt.specs.TransactionReading.{transaction_of}
use Rattle.ms_psbt.specs.declared.repeats.Keys.TheVariants as keys
use Rattle.ms_psbt.specs.Scaffolding.Outpoints.{Places}
use Rattle.ms_psbt.specs.Scaffolding.Repeats.{places_of, repeat_in}
use Rattle.ms_psbt.specs.Scaffolding.Skips.{counts_of}
use Rattle.ms_psbt.proofs.Unsigned.{unsigned_is, counted_some, none_is}
use Rattle.ms_psbt.proofs.transaction.is_unsigned.Goals as goal

pub returns-in-Some : goal.returns-in-Some
returns-in-Some c =
    let bytes = c.args.bytes.now in
    let some = counted_some counts_of (transaction_of c.args.bytes.now) c.transaction_counts.result c.transaction_counts.ensures (c.is_none.ensures ∙ ap not c.if-is_none.false) in
    none_is c.first_repeat.result c.is_none-in-Some.result c.is_none-in-Some.ensures
    ∙ unsigned_is bytes (transaction_of bytes) (places_of c.in-Some.places.items) c.first_repeat.result some
    (subst (λ places. Places c.args.bytes.now (transaction_of c.args.bytes.now) (option_map (λ v. places_of v.items) places)) c.in-Some.is c.in_ok-places.ensures.places)
    (c.first_repeat.ensures ∙ ap (λ places. repeat_in keys.Outpoints bytes [] (places_of places)) c.deref_mut.ensures.value)
