-- The transaction, given or written.
use Rattle.std.proofs.Common.{◌≡◌, ℕ, ◌^◌, ◌<◌, true, List, [], ◌∷◌, length, Option, Some, None, Ok, Err, refl, sym, ap, subst, ◌∙◌}
use Rattle.def_script.specs.Bytes.{Bytes, IsBytes}
use Rattle.def_psbt.specs.declared.PsbtVersion.{PsbtVersion}
use Rattle.def_psbt.specs.declared.PsbtVersion.TheVariants as version
use Rattle.def_psbt.specs.declared.Refusal.{Refusal}
use Rattle.def_psbt.specs.Fields.{version_of, transaction_of_fields}
use Rattle.def_psbt.specs.Listed.{global_form}
use Rattle.def_psbt.specs.Map.{Map, has_types}
use Rattle.def_psbt.specs.Reading.{map_at, input_rules, output_rules, Outline as TheOutline, given, counted, outline_in, input_count, output_count, transaction_by, unjoined, unless}
use Rattle.def_psbt.specs.Transaction.{Transaction, transaction_text}
use Rattle.def_psbt.specs.TransactionReading.{transaction_of}
use Rattle.ms_psbt.specs.declared.outline.Outline.{Outline}
use Rattle.ms_psbt.specs.declared.outline.Outline.TheVariants as outline
use Rattle.ms_psbt.specs.declared.psbt.TransactionBytes.{TransactionBytes}
use Rattle.ms_psbt.specs.declared.stop.ReadStop.{ReadStop}
use Rattle.ms_psbt.specs.declared.stop.ReadStop.TheVariants as stop
use Rattle.ms_psbt.specs.Seen.{ReadsOr}
use Rattle.ms_psbt.specs.Scaffolding.Kept.{bytes_of}
use Rattle.ms_psbt.specs.Scaffolding.Maps.{Placed, InputsAt, OutputsAt}
use Rattle.ms_psbt.specs.Scaffolding.Outlines.{IsOutline}
use Rattle.ms_psbt.proofs.Joining.{fields_read, counted_needs, given_zero, counted_two, next_is, before_is, before_none}

-- a refusal stops what follows, and none doesn't
pub wrong_stops : {A : Type 0} (o : Option Refusal) (x : A) (refusal : Refusal) → Some refusal ≡ o → unless o (Ok x) ≡ Err refusal
wrong_stops (Some found) x refusal e = cc
wrong_stops None x refusal e = absurd cc

pub right_goes : {A : Type 0} (o : Option Refusal) (x new : A) → None ≡ o → new ≡ x → unless o (Ok x) ≡ Ok new
right_goes o x new e is = next_is o x (sym e) ∙ ap (λ y. unless None (Ok y)) (sym is)

-- the bytes that were given
abbrev pub given_bytes : Outline → Option Bytes
given_bytes (outline.Given bytes) = Some bytes.now
given_bytes outline.Counted = None

pub when_given : (o : Outline) (value : Bytes) (global : Map × ℕ) (said : TheOutline) (a b : ℕ) (ins outs : List Map) → given_bytes o ≡ Some value
    → outline_in (version_of global.0) global.0 ≡ Some said → IsOutline o a b said
    → unless (unjoined (version_of global.0) global.1 ins) (Ok (Some (transaction_by said global.0 ins outs))) ≡ Ok (transaction_of value)
when_given (outline.Given bytes) value global (given t) a b ins outs is told out =
    let zero : version_of global.0 ≡ version.Zero = given_zero global.0 t (version_of global.0) told in
    let same : bytes.now ≡ value = cc in
    let read : transaction_of value ≡ Some t = sym (ap transaction_of same) ∙ out.0 in
    subst (λ (v : PsbtVersion). unless (unjoined v global.1 ins) (Ok (Some t)) ≡ Ok (transaction_of value)) (sym zero) (ap (λ (o : Option Transaction). unless None (Ok o)) (sym read))
when_given (outline.Given bytes) value global (counted n m) a b ins outs is told out = absurd out
when_given outline.Counted value global said a b ins outs is told out = absurd cc

-- what is known of version 2
pub record Later (psbt : Bytes) (global : Map × ℕ) (said : TheOutline) (middle : ℕ) (in_places out_places : List ℕ) (ins outs : List Map) : Type 0 where
  pub two : version_of global.0 ≡ version.Two
  pub needs : has_types (0x02 ∷ []) global.0 ≡ true
  pub ins_at : InputsAt psbt global.1 in_places ins
  pub outs_at : OutputsAt psbt middle out_places outs
  pub back : transaction_of (transaction_text (transaction_of_fields global.0 ins outs)) ≡ Some (transaction_of_fields global.0 ins outs)
  pub by : transaction_by said global.0 ins outs ≡ transaction_of_fields global.0 ins outs

pub when_counted : (psbt : Bytes) → IsBytes psbt → length psbt < 2 ^ 64 → (o : Outline) (global : Map × ℕ) (said : TheOutline) (a b middle : ℕ) (in_places out_places : List ℕ) (ins outs : List Map)
    → given_bytes o ≡ None → map_at global_form psbt 5 ≡ Ok global → outline_in (version_of global.0) global.0 ≡ Some said → IsOutline o a b said
    → Placed (input_rules (version_of global.0)) psbt global.1 in_places ins → length ins ≡ input_count said
    → Placed (output_rules (version_of global.0)) psbt middle out_places outs → length outs ≡ output_count said
    → Later psbt global said middle in_places out_places ins outs
when_counted psbt fits small (outline.Given bytes) global said a b middle in_places out_places ins outs none e told is placed many others many_others = absurd cc
when_counted psbt fits small outline.Counted global (given t) a b middle in_places out_places ins outs none e told is placed many others many_others = absurd is
when_counted psbt fits small outline.Counted global (counted n m) a b middle in_places out_places ins outs none e told is placed many others many_others =
    let two : version_of global.0 ≡ version.Two = counted_two global.0 n m (version_of global.0) told in
    let told_two : outline_in version.Two global.0 ≡ Some (counted n m) = subst (λ (v : PsbtVersion). outline_in v global.0 ≡ Some (counted n m)) two told in
    let ins_at : InputsAt psbt global.1 in_places ins = subst (λ (v : PsbtVersion). Placed (input_rules v) psbt global.1 in_places ins) two placed in
    let outs_at : OutputsAt psbt middle out_places outs = subst (λ (v : PsbtVersion). Placed (output_rules v) psbt middle out_places outs) two others in
    record {
      two = two;
      needs = counted_needs global.0 (counted n m) told_two;
      ins_at = ins_at;
      outs_at = outs_at;
      back = fields_read psbt fits small global global.1 middle in_places out_places ins outs n m e told_two ins_at many outs_at many_others;
      by = refl;
    }

module _ {psbt : Bytes} {global : Map × ℕ} {said : TheOutline} {middle : ℕ} {in_places out_places : List ℕ} {ins outs : List Map}
    (later : Later psbt global said middle in_places out_places ins outs) where
  pub later_made : (value : Bytes) → unless (unjoined version.Two global.1 ins) (Ok (transaction_text (transaction_of_fields global.0 ins outs))) ≡ Ok value
      → unless (unjoined (version_of global.0) global.1 ins) (Ok (Some (transaction_by said global.0 ins outs))) ≡ Ok (transaction_of value)
  later_made value e =
      let both = before_none (unjoined version.Two global.1 ins) (transaction_text (transaction_of_fields global.0 ins outs)) value e in
      let read : transaction_of value ≡ Some (transaction_by said global.0 ins outs) = sym (ap transaction_of both.1) ∙ later.back ∙ ap (λ (t : Transaction). Some t) (sym later.by) in
      subst (λ (v : PsbtVersion). unless (unjoined v global.1 ins) (Ok (Some (transaction_by said global.0 ins outs))) ≡ Ok (transaction_of value)) (sym later.two)
      (right_goes (unjoined version.Two global.1 ins) (Some (transaction_by said global.0 ins outs)) (transaction_of value) (sym both.0) read)

  pub later_stops : {A : Type 0} (seen : A → Bytes) (why : ReadStop)
      → ReadsOr seen (Err why) (unless (unjoined version.Two global.1 ins) (Ok (transaction_text (transaction_of_fields global.0 ins outs))))
      → ReadsOr (λ (made : TransactionBytes). transaction_of (bytes_of made)) (Err why) (unless (unjoined (version_of global.0) global.1 ins) (Ok (Some (transaction_by said global.0 ins outs))))
  later_stops seen (stop.Refused refusal) e =
      subst (λ (v : PsbtVersion). unless (unjoined v global.1 ins) (Ok (Some (transaction_by said global.0 ins outs))) ≡ Err refusal) (sym later.two)
      (before_is (unjoined version.Two global.1 ins) (transaction_text (transaction_of_fields global.0 ins outs)) (Some (transaction_by said global.0 ins outs)) refusal e)
  later_stops seen stop.Memory e = tt
