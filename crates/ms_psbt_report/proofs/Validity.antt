-- What `verify` tells of inputs, one more at the end.
use Rattle.std.proofs.Common.{◌≡◌, ℕ, ◌+◌, ◌<◌, ◌&&◌, ◌∷◌, ◌++◌, Bool, List, take, drop, length, get_or, slice_get, Some, append_assoc, sym, ap, ◌∙◌}
use Rattle.std.specs.List.{flat_map, list_all}
use Rattle.std.proofs.lemmas.List.{drop_more}
use Rattle.def_script.specs.Bytes.{Bytes}
use Rattle.def_machine.specs.Stacks.{Pairs}
use Rattle.def_curve.specs.declared.Judgement.{Judgement}
use Rattle.def_psbt.specs.Map.{Psbt}
use Rattle.def_spend.specs.declared.Verification.{Verification}
use Rattle.def_spend.specs.Input.{spends_of}
use Rattle.def_spend.specs.Reading.{Input, HasReading, AreInputs}
use Rattle.def_verify.specs.Verdict.{verdict_of, is_valid}
use Rattle.def_psbt_answer.specs.Lines.{signature_line}
use Rattle.ms_psbt_report.proofs.AllTold.{all_more}
use Rattle.ms_psbt_report.proofs.Loops.{taken_more}

abbrev pub valid_input : Input → Bool
valid_input input = is_valid (verdict_of input)

pub valid_more : (verification : Verification) (psbt : Psbt) (inputs : List Input) (number : ℕ) (input : Input) (before is after : Bool) → AreInputs verification psbt inputs
    → slice_get (spends_of verification psbt) number ≡ Some input.spend → HasReading input → before ≡ list_all valid_input (take number inputs)
    → is ≡ valid_input input → after ≡ (before && is) → after ≡ list_all valid_input (take (number + 1) inputs)
valid_more verification psbt inputs number input before is after are there read former one e =
    e ∙ ap (λ b. b && is) former ∙ ap (λ b. list_all valid_input (take number inputs) && b) one
    ∙ sym (all_more valid_input (take number inputs) input) ∙ ap (list_all valid_input) (sym (taken_more verification psbt inputs number input are there read))

-- the line of a pair that passed, by what it is told of
pub passed_told : (before : Bytes) {key own sig its : Bytes} {word judged : Judgement} → key ≡ own → sig ≡ its → word ≡ judged
    → before ++ signature_line (key, sig) (Some word) ≡ before ++ signature_line (own, its) (Some judged)
passed_told before {key} {own} {sig} {its} {word} {judged} k s w =
    ap (λ x. before ++ signature_line (x, sig) (Some word)) k ∙ ap (λ x. before ++ signature_line (own, x) (Some word)) s
    ∙ ap (λ x. before ++ signature_line (own, its) (Some x)) w

-- one line more, of those that are left
pub one_passed : (f : Bytes × Bytes → Bytes) (first before after : Bytes) (pairs : Pairs) (i : ℕ) (pair : Bytes × Bytes) → i < length pairs
    → pair ≡ get_or pairs i pair → after ≡ before ++ f pair → before ++ flat_map f (drop i pairs) ≡ first
    → after ++ flat_map f (drop (i + 1) pairs) ≡ first
one_passed f first before after pairs i pair below is e so_far =
    let next : drop i pairs ≡ pair ∷ drop (i + 1) pairs = drop_more pairs i pair below ∙ ap (λ p. p ∷ drop (i + 1) pairs) (sym is) in
    ap (λ bytes. bytes ++ flat_map f (drop (i + 1) pairs)) e ∙ append_assoc before (f pair) (flat_map f (drop (i + 1) pairs))
    ∙ ap (λ (ps : Pairs). before ++ flat_map f ps) (sym next) ∙ so_far
