-- The map of an input, the transaction, its number and which signatures count decide alone.
use Rattle.std.proofs.Common.{◌≡◌, ℕ, zero, suc, ◌+◌, List, [], ◌∷◌, Option, Some, None, refl, sym, ap, subst, ◌∙◌, arith}
use Rattle.std.specs.List.{AllByRecursion, slice_get}
use Rattle.std.specs.Option.{option_map}
use Rattle.std.proofs.lemmas.Option.{slice_get-map}
use Rattle.std.proofs.lemmas.List.Elements.{recursion_from_All}
use Rattle.def_psbt.specs.Transaction.{TransactionInput, Transaction}
use Rattle.def_psbt.specs.Map.{Map}
use Rattle.def_spend.specs.Hashes.{hash_by}
use Rattle.def_spend.specs.Kinds.{kind_of}
use Rattle.def_spend.specs.declared.Verification.{Verification}
use Rattle.def_spend.specs.Good.{word_of}
use Rattle.def_spend.specs.Input.{Spend, spends_from}
use Rattle.def_spend.specs.Reading.{Input, HasReading}
use Rattle.def_spend.specs.States.{state_of}
use Rattle.def_spend.specs.Finalized.{witness_of, written_map}
use Rattle.def_verify.specs.Verdict.{verdict_of}
use Rattle.def_psbt_answer.specs.Report.{input_report, input_hashes}
use Rattle.def_psbt_answer.specs.Verified.{input_verdict}
use Rattle.ms_psbt_answer_laws.proofs.Unique.{one_reading}
use Rattle.ms_psbt_laws.specs.Alone.{MapDecidesAlone}

-- the input of a number, where the transaction and the maps have it
abbrev picked : Verification → Transaction → (number : ℕ) → Option TransactionInput → Option Map → Option Spend
picked verification transaction number (Some input) (Some fields) = Some (record { verification = verification; transaction = transaction; number = number; input = input; fields = fields })
picked verification transaction number (Some input) None = None
picked verification transaction number None o = None

spend_at : (verification : Verification) (transaction : Transaction) (number : ℕ) (ins : List TransactionInput) (maps : List Map) (i : ℕ)
    → slice_get (spends_from verification transaction number ins maps) i ≡ picked verification transaction (number + i) (slice_get ins i) (slice_get maps i)
spend_at verification transaction number [] maps zero = refl
spend_at verification transaction number [] maps (suc i) = refl
spend_at verification transaction number (input ∷ ins) [] zero = refl
spend_at verification transaction number (input ∷ ins) [] (suc i) = nothing (slice_get ins i)
  where
    nothing : (o : Option TransactionInput) → None ≡ picked verification transaction (number + suc i) o None
    nothing None = refl
    nothing (Some x) = refl
spend_at verification transaction number (input ∷ ins) (fields ∷ maps) zero =
    let same : number ≡ number + 0 = omega arith in
    ap (λ n. Some (record { verification = verification; transaction = transaction; number = n; input = input; fields = fields })) same
spend_at verification transaction number (input ∷ ins) (fields ∷ maps) (suc i) =
    let same : number + 1 + i ≡ number + suc i = omega arith in
    spend_at verification transaction (number + 1) ins maps i ∙ ap (λ n. picked verification transaction n (slice_get ins i) (slice_get maps i)) same

all_at : (xs : List Input) (i : ℕ) (x : Input) → AllByRecursion HasReading xs → slice_get xs i ≡ Some x → HasReading x
all_at [] zero x h e = absurd cc
all_at [] (suc i) x h e = absurd cc
all_at (y ∷ xs) zero x h e = let same : y ≡ x = cc in subst HasReading same h.0
all_at (y ∷ xs) (suc i) x h e = all_at xs i x h.1 e

one_input : (a b : Option Input) → ((x : Input) → a ≡ Some x → HasReading x) → ((y : Input) → b ≡ Some y → HasReading y)
    → option_map (λ input. input.spend) a ≡ option_map (λ input. input.spend) b → a ≡ b
one_input None None h k e = refl
one_input None (Some y) h k e = absurd cc
one_input (Some x) None h k e = absurd cc
one_input (Some x) (Some y) h k e = let same : x.spend ≡ y.spend = cc in ap Some (one_reading x y (h x refl) (k y refl) same)

pub map_decides_alone : MapDecidesAlone
map_decides_alone verification psbt other inputs others number are same_are transaction fields =
    let one = sym (slice_get-map (λ (input : Input). input.spend) inputs number) ∙ ap (λ l. slice_get l number) are.spends
    ∙ spend_at verification psbt.transaction 0 psbt.transaction.inputs psbt.inputs number in
    let two = sym (slice_get-map (λ (input : Input). input.spend) others number) ∙ ap (λ l. slice_get l number) same_are.spends
    ∙ spend_at verification other.transaction 0 other.transaction.inputs other.inputs number in
    let spends = one ∙ ap (λ o. picked verification psbt.transaction (0 + number) (slice_get psbt.transaction.inputs number) o) fields
    ∙ ap (λ t. picked verification t (0 + number) (slice_get t.inputs number) (slice_get other.inputs number)) transaction ∙ sym two in
    let same : slice_get inputs number ≡ slice_get others number =
    one_input (slice_get inputs number) (slice_get others number) (λ x e. all_at inputs number x (recursion_from_All HasReading inputs are.read) e)
    (λ y e. all_at others number y (recursion_from_All HasReading others same_are.read) e) spends in
    record {
      state = ap (option_map state_of) same;
      kind = ap (option_map (λ input. kind_of input.spend)) same;
      witness = ap (option_map witness_of) same;
      written = ap (option_map written_map) same;
      hash = λ type. ap (option_map (λ input. hash_by type input.spend)) same;
      word = λ pair. ap (option_map (λ input. word_of input.spend pair)) same;
      verdict = ap (option_map verdict_of) same;
      report = ap (option_map input_report) same;
      hashes = ap (option_map input_hashes) same;
      verified = ap (option_map input_verdict) same;
    }
