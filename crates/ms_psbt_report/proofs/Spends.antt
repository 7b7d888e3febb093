-- The inputs of a PSBT by their numbers.
use Rattle.std.proofs.Common.{◌≡◌, ℕ, zero, suc, ◌+◌, List, [], ◌∷◌, length, slice_get, Some, refl, sym, ap, subst, ◌∙◌, arith}
use Rattle.std.proofs.lemmas.List.{length-map}
use Rattle.std.proofs.lemmas.Option.{slice_get-map}
use Rattle.std.specs.Option.{option_map}
use Rattle.def_psbt.specs.Transaction.{TransactionInput, Transaction}
use Rattle.def_psbt.specs.Map.{Map, Psbt}
use Rattle.def_spend.specs.declared.Verification.{Verification}
use Rattle.def_spend.specs.Input.{Spend, spends_from, spends_of}
use Rattle.def_spend.specs.Reading.{Input, AreInputs}

-- what an input with a number has
pub record IsAt (counted : Verification) (own : Transaction) (maps : List Map) (at place : ℕ) (spend : Spend) : Type 0 where
  pub fields : slice_get maps place ≡ Some spend.fields
  pub verification : spend.verification ≡ counted
  pub transaction : spend.transaction ≡ own
  pub number : spend.number ≡ at

at_place : (verification : Verification) (transaction : Transaction) (first : ℕ) (inputs : List TransactionInput) (maps : List Map) (k : ℕ) (spend : Spend)
    → slice_get (spends_from verification transaction first inputs maps) k ≡ Some spend → IsAt verification transaction maps (first + k) k spend
at_place verification transaction first [] maps k spend e = absurd cc
at_place verification transaction first (i ∷ inputs) [] k spend e = absurd cc
at_place verification transaction first (i ∷ inputs) (m ∷ maps) zero spend e =
    let own : Spend = record { verification = verification; transaction = transaction; number = first; input = i; fields = m } in
    let same : own ≡ spend = cc in
    record {
      fields = ap (λ (s : Spend). Some s.fields) same;
      verification = sym (ap (λ (s : Spend). s.verification) same);
      transaction = sym (ap (λ (s : Spend). s.transaction) same);
      number = let n : first ≡ spend.number = ap (λ (s : Spend). s.number) same in omega arith;
    }
at_place verification transaction first (i ∷ inputs) (m ∷ maps) (suc k) spend e =
    let rest = at_place verification transaction (first + 1) inputs maps k spend e in
    record { fields = rest.fields; verification = rest.verification; transaction = rest.transaction; number = let n : spend.number ≡ first + 1 + k = rest.number in omega arith }

pub spend_at : (verification : Verification) (psbt : Psbt) (k : ℕ) (spend : Spend) → slice_get (spends_of verification psbt) k ≡ Some spend → IsAt verification psbt.transaction psbt.inputs k k spend
spend_at verification psbt k spend e =
    let at = at_place verification psbt.transaction 0 psbt.transaction.inputs psbt.inputs k spend e in
    record { fields = at.fields; verification = at.verification; transaction = at.transaction; number = let n : spend.number ≡ 0 + k = at.number in omega arith }

length_spends : (verification : Verification) (transaction : Transaction) (first : ℕ) (inputs : List TransactionInput) (maps : List Map) → length inputs ≡ length maps
    → length (spends_from verification transaction first inputs maps) ≡ length maps
length_spends verification transaction first [] [] e = refl
length_spends verification transaction first [] (m ∷ maps) e = absurd cc
length_spends verification transaction first (i ∷ inputs) [] e = absurd cc
length_spends verification transaction first (i ∷ inputs) (m ∷ maps) e =
    let less : length inputs ≡ length maps = omega arith in
    ap suc (length_spends verification transaction (first + 1) inputs maps less)

-- there are as many inputs as maps
pub count_inputs : (verification : Verification) (psbt : Psbt) (inputs : List Input) (count : ℕ) → AreInputs verification psbt inputs → count ≡ length psbt.inputs
    → count ≡ length psbt.transaction.inputs → length inputs ≡ count
count_inputs verification psbt inputs count are maps own =
    sym (length-map inputs (λ (i : Input). i.spend)) ∙ ap length are.spends
    ∙ length_spends verification psbt.transaction 0 psbt.transaction.inputs psbt.inputs (sym own ∙ maps) ∙ sym maps

-- the spend of an input of the list
pub own_spend : (verification : Verification) (psbt : Psbt) (inputs : List Input) (k : ℕ) (input : Input) → AreInputs verification psbt inputs → slice_get inputs k ≡ Some input
    → slice_get (spends_of verification psbt) k ≡ Some input.spend
own_spend verification psbt inputs k input are is =
    sym (ap (λ spends. slice_get spends k) are.spends) ∙ slice_get-map (λ (i : Input). i.spend) inputs k
    ∙ ap (option_map (λ (i : Input). i.spend)) is

-- the spend of an input by what is the same verification
pub spent_by : (counted verification : Verification) (psbt : Psbt) (k : ℕ) (spend : Spend) → counted ≡ verification → slice_get (spends_of counted psbt) k ≡ Some spend
    → slice_get (spends_of verification psbt) k ≡ Some spend
spent_by counted verification psbt k spend same is = subst (λ v. slice_get (spends_of v psbt) k ≡ Some spend) same is
