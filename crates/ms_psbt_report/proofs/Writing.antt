-- Maps of inputs as they are written, one more at the end.
use Rattle.std.proofs.Common.{◌≡◌, ℕ, ◌+◌, ◌≤◌, ◌++◌, ◌&&◌, Bool, true, false, List, [], ◌∷◌, take, length, map, slice_get, Some, sym, ap, subst, ◌∙◌, append_assoc}
use Rattle.std.specs.List.{flat_map, list_all}
use Rattle.std.proofs.lemmas.List.{flat_map_more, map_push}
use Rattle.def_script.specs.Bytes.{Bytes}
use Rattle.def_psbt.specs.Map.{Psbt, magic, map_text}
use Rattle.def_spend.specs.declared.Verification.{Verification}
use Rattle.def_spend.specs.Input.{spends_of}
use Rattle.def_spend.specs.Reading.{Input, HasReading, AreInputs}
use Rattle.def_spend.specs.Finalized.{written_map}
use Rattle.def_psbt_answer.specs.Reply.{is_settled}
use Rattle.ms_psbt_report.proofs.AllTold.{all_more}
use Rattle.ms_psbt_report.proofs.Loops.{all_taken, taken_more}
use Rattle.ms_psbt_report.specs.declared.replies.finalizing.Written.{Written}
use Rattle.ms_psbt_report.specs.Scaffolding.Written.{IsWritten}

text_more : (front : Bytes) (inputs : List Input) (input : Input) (before after : Bytes) → before ≡ front ++ flat_map map_text (map written_map inputs)
    → after ≡ before ++ map_text (written_map input) → after ≡ front ++ flat_map map_text (map written_map (inputs ++ input ∷ []))
text_more front inputs input before after is e =
    e ∙ ap (λ text. text ++ map_text (written_map input)) is ∙ append_assoc front (flat_map map_text (map written_map inputs)) (map_text (written_map input))
    ∙ ap (λ maps. front ++ maps) (flat_map_more map_text [] (map written_map inputs) (written_map input))
    ∙ ap (λ maps. front ++ flat_map map_text maps) (sym (map_push written_map inputs input))

settled_more : (inputs : List Input) (input : Input) (before after : Bool) → before ≡ list_all is_settled inputs → after ≡ (before && is_settled input)
    → after ≡ list_all is_settled (inputs ++ input ∷ [])
settled_more inputs input before after is e =
    e ∙ ap (λ b. b && is_settled input) is ∙ sym (all_more is_settled inputs input)

-- whether it is settled besides
pub and_settled : (before now is : Bool) → before ≡ true → now ≡ is → now ≡ (before && is)
and_settled before now is e h = h ∙ ap (λ b. b && is) (sym e)

pub and_not : (before now is : Bool) → before ≡ false → now ≡ false → now ≡ (before && is)
and_not before now is e h = h ∙ ap (λ b. b && is) (sym e)

-- an input more is written
pub written_more : (verification : Verification) (psbt : Psbt) (inputs : List Input) (number : ℕ) (input : Input) (before after : Written) → AreInputs verification psbt inputs
    → slice_get (spends_of verification psbt) number ≡ Some input.spend → HasReading input → IsWritten psbt (take number inputs) before
    → after.text.items ≡ before.text.items ++ map_text (written_map input) → after.are_settled ≡ (before.are_settled && is_settled input)
    → IsWritten psbt (take (number + 1) inputs) after
written_more verification psbt inputs number input before after are there read is text settled =
    subst (λ (xs : List Input). IsWritten psbt xs after) (sym (taken_more verification psbt inputs number input are there read))
    (record {
      text = text_more (magic ++ map_text psbt.global) (take number inputs) input before.text.items after.text.items is.text text;
      settled = settled_more (take number inputs) input before.are_settled after.are_settled is.settled settled;
    })

-- all inputs are written
pub all_written : (verification : Verification) (psbt : Psbt) (inputs : List Input) (count number : ℕ) (written : Written) → AreInputs verification psbt inputs → count ≡ length psbt.inputs
    → count ≡ length psbt.transaction.inputs → count ≤ number → IsWritten psbt (take number inputs) written → IsWritten psbt inputs written
all_written verification psbt inputs count number written are maps own past is =
    subst (λ (xs : List Input). IsWritten psbt xs written) (all_taken verification psbt inputs count number are maps own past) is
