-- Loops over the inputs of a PSBT.
use Rattle.std.proofs.Common.{◌≡◌, ℕ, ◌+◌, ◌≤◌, ◌<◌, ◌++◌, Bool, true, false, List, [], ◌∷◌, take, drop, length, get_or, slice_get, Some, None, refl, sym, ap, subst, ◌∙◌, arith}
use Rattle.std.specs.List.{flat_map}
use Rattle.std.specs.Option.{option_map}
use Rattle.std.proofs.lemmas.List.{flat_map_more, take_all, drop_all}
use Rattle.std.proofs.lemmas.Option.{slice_get-get_or}
use Rattle.def_script.specs.Bytes.{Bytes}
use Rattle.def_psbt.specs.Transaction.{Transaction}
use Rattle.def_psbt.specs.Map.{Map, Psbt}
use Rattle.def_spend.specs.declared.Verification.{Verification}
use Rattle.def_spend.specs.Input.{spends_of}
use Rattle.def_spend.specs.Reading.{Input, HasReading, AreInputs, has_final}
use Rattle.def_spend.specs.States.{state_of, is_final}
use Rattle.def_psbt_answer.specs.Reply.{first_open}
use Rattle.ms_psbt_answer_laws.proofs.Unique.{input_at}
use Rattle.ms_psbt_report.specs.declared.inspecting.Told.{Told}
use Rattle.ms_psbt_report.specs.Scaffolding.Told.{AreTold}
use Rattle.ms_psbt_report.proofs.Lists.{take_with, drop_with}
use Rattle.ms_psbt_answer_laws.proofs.Sane.{final_state}
use Rattle.ms_psbt_report.proofs.Spends.{spend_at, count_inputs, own_spend}

-- all inputs are among so many
pub all_taken : (verification : Verification) (psbt : Psbt) (inputs : List Input) (count number : ℕ) → AreInputs verification psbt inputs → count ≡ length psbt.inputs
    → count ≡ length psbt.transaction.inputs → count ≤ number → take number inputs ≡ inputs
all_taken verification psbt inputs count number are maps own past =
    let long : length inputs ≡ count = count_inputs verification psbt inputs count are maps own in
    take_all number inputs (omega arith)

-- the input with a number follows those of lesser numbers
pub taken_more : (verification : Verification) (psbt : Psbt) (inputs : List Input) (number : ℕ) (input : Input) → AreInputs verification psbt inputs
    → slice_get (spends_of verification psbt) number ≡ Some input.spend → HasReading input → take (number + 1) inputs ≡ take number inputs ++ input ∷ []
taken_more verification psbt inputs number input are there read = take_with inputs number input (input_at verification psbt inputs number input are there read)

pub told_more : (transaction : Transaction) (verification : Verification) (psbt : Psbt) (inputs : List Input) (number : ℕ) (input : Input) (told : Told) → AreInputs verification psbt inputs
    → slice_get (spends_of verification psbt) number ≡ Some input.spend → HasReading input → AreTold transaction (take number inputs ++ input ∷ []) told
    → AreTold transaction (take (number + 1) inputs) told
told_more transaction verification psbt inputs number input told are there read h =
    subst (λ (xs : List Input). AreTold transaction xs told) (sym (taken_more verification psbt inputs number input are there read)) h

-- the lines of inputs, one more
pub lines_more : (f : Input → Bytes) (verification : Verification) (psbt : Psbt) (inputs : List Input) (number : ℕ) (input : Input) (before after : Bytes) → AreInputs verification psbt inputs
    → slice_get (spends_of verification psbt) number ≡ Some input.spend → HasReading input → before ≡ flat_map f (take number inputs)
    → after ≡ before ++ f input → after ≡ flat_map f (take (number + 1) inputs)
lines_more f verification psbt inputs number input before after are there read is e =
    e ∙ ap (λ bytes. bytes ++ f input) is ∙ flat_map_more f [] (take number inputs) input
    ∙ ap (flat_map f) (sym (taken_more verification psbt inputs number input are there read))

-- ---- the first that isn't Final

-- the input with a number, by its map
record IsNumbered (psbt : Psbt) (inputs : List Input) (place : ℕ) (input : Input) : Type 0 where
  found : drop place inputs ≡ input ∷ drop (place + 1) inputs
  fields : slice_get psbt.inputs place ≡ Some input.spend.fields
  number : input.spend.number ≡ place

numbered : (verification : Verification) (psbt : Psbt) (inputs : List Input) (count number : ℕ) → AreInputs verification psbt inputs → count ≡ length psbt.inputs
    → count ≡ length psbt.transaction.inputs → number < count → (input : Input) × IsNumbered psbt inputs number input
numbered verification psbt [] count number are maps own below =
    let long : length {A = Input} [] ≡ count = count_inputs verification psbt [] count are maps own in absurd (omega arith)
numbered verification psbt (first ∷ rest) count number are maps own below =
    let inputs = first ∷ rest in
    let long : length inputs ≡ count = count_inputs verification psbt inputs count are maps own in
    let is = slice_get-get_or inputs number first (omega arith) in
    let at = spend_at verification psbt number (get_or inputs number first).spend (own_spend verification psbt inputs number (get_or inputs number first) are is) in
    (get_or inputs number first, record { found = drop_with inputs number (get_or inputs number first) is; fields = at.fields; number = at.number })

passed : (input : Input) (rest : List Input) → is_final (state_of input) ≡ true → first_open (input ∷ rest) ≡ first_open rest
passed input rest h = rw h refl

stopped : (input : Input) (rest : List Input) → is_final (state_of input) ≡ false → first_open (input ∷ rest) ≡ Some input
stopped input rest h = rw h refl

-- what is told of the map with a number
abbrev Tells : Psbt → ℕ → Bool → Type 0
Tells psbt number is = (map : Map) → slice_get psbt.inputs number ≡ Some map → is ≡ has_final map

pub open_more : (verification : Verification) (psbt : Psbt) (inputs : List Input) (count number : ℕ) → AreInputs verification psbt inputs → count ≡ length psbt.inputs
    → count ≡ length psbt.transaction.inputs → number < count → Tells psbt number true → first_open (drop number inputs) ≡ first_open inputs
    → first_open (drop (number + 1) inputs) ≡ first_open inputs
open_more verification psbt inputs count number are maps own below tells h =
    let (input, at) = numbered verification psbt inputs count number are maps own below in
    let final : is_final (state_of input) ≡ true = final_state input ∙ sym (tells input.spend.fields at.fields) in
    sym (passed input (drop (number + 1) inputs) final) ∙ ap first_open (sym at.found) ∙ h

pub open_here : (verification : Verification) (psbt : Psbt) (inputs : List Input) (count number : ℕ) → AreInputs verification psbt inputs → count ≡ length psbt.inputs
    → count ≡ length psbt.transaction.inputs → number < count → Tells psbt number false → first_open (drop number inputs) ≡ first_open inputs
    → Some number ≡ option_map (λ (input : Input). input.spend.number) (first_open inputs)
open_here verification psbt inputs count number are maps own below tells h =
    let (input, at) = numbered verification psbt inputs count number are maps own below in
    let stays : is_final (state_of input) ≡ false = final_state input ∙ sym (tells input.spend.fields at.fields) in
    let first : Some input ≡ first_open inputs = sym (stopped input (drop (number + 1) inputs) stays) ∙ ap first_open (sym at.found) ∙ h in
    ap Some (sym at.number) ∙ ap (option_map (λ (i : Input). i.spend.number)) first

pub open_nowhere : (verification : Verification) (psbt : Psbt) (inputs : List Input) (count number : ℕ) → AreInputs verification psbt inputs → count ≡ length psbt.inputs
    → count ≡ length psbt.transaction.inputs → count ≤ number → first_open (drop number inputs) ≡ first_open inputs
    → None ≡ option_map (λ (input : Input). input.spend.number) (first_open inputs)
open_nowhere verification psbt inputs count number are maps own past h =
    let long : length inputs ≡ count = count_inputs verification psbt inputs count are maps own in
    let none : None ≡ first_open inputs = ap first_open (sym (drop_all number inputs (omega arith))) ∙ h in
    ap (option_map (λ (i : Input). i.spend.number)) none
