use Rattle.std.proofs.Common.{ℕ, ◌+◌, [], ◌∷◌, ◌++◌, length, refl, sym, ap, ◌∙◌}
use Rattle.base64.specs.Engines.{standard}
use Rattle.base64.specs.GeneralPurpose.{decode_of}
use Rattle.def_script.specs.Bytes.{Bytes}
use Rattle.def_psbt.specs.Reading.{read_psbt}
use Rattle.def_psbt.specs.Source.{decoded}
use Rattle.def_psbt.specs.TransactionReading.{transaction_of}
use Rattle.ms_combine.specs.Scaffolding.Left.{text_of}
use Rattle.ms_combine.proofs.Keeping.{kept_more}
use Rattle.ms_combine.proofs.Reading.{line_given, other_is}
use Rattle.ms_combine.proofs.parts.add_part.Goals as goal

pub returns-clause-part : goal.returns-clause-part
returns-clause-part c = λ first others h.
    let read = line_given c.args.line.number c.args.line.text.items c.in_ok-decoded.decoded.items c.in_ok-psbt.psbt
    (ap (λ (l : Bytes). decoded (decode_of standard l)) (sym c.as_slice.ensures.value) ∙ c.in_ok-decoded.ensures.reading)
    (ap read_psbt (sym c.as_slice-2.ensures.value) ∙ c.in_ok-psbt.ensures.reading) in
    let fault = sym (c.other_fault.ensures first h.version (ap transaction_of c.as_slice-3.ensures.value ∙ h.transaction)) ∙ c.in_default.is in (
      c.in_ok-psbt.psbt,
      other_is first (text_of c.args.line) c.in_ok-psbt.psbt read fault,
      kept_more c.args.parts.now _ first c.in_ok-psbt.psbt others h
          (c.in_ok-extend_from_slice.ensures.items ∙ ap (λ (l : Bytes). c.args.parts.now.bytes.items ++ l) (c.as_slice-5.ensures.value ∙ sym c.as_slice-2.ensures.value ∙ c.in_ok-psbt.ensures.text))
          (c.in_ok-push.ensures.items ∙ ap (λ (n : ℕ). c.args.parts.now.places.items ++ (n + 5) ∷ []) (c.length_of-from.ensures ∙ ap length c.as_slice-4.ensures.value)) refl refl refl,
    )
