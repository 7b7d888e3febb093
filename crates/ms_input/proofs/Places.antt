-- Where an input stands in a PSBT.
use Rattle.std.proofs.Common.{◌≡◌, ℕ, zero, suc, ◌+◌, List, [], ◌∷◌, slice_get, All, Some, Option, sym, ap, subst, ◌∙◌, arith}
use Rattle.std.specs.Option.{unwrap_or}
use Rattle.std.proofs.lemmas.List.Elements.{All-head, All-tail}
use Rattle.def_assets.specs.Assets.{AreAssets}
use Rattle.def_machine.specs.declared.Locks.{Locks}
use Rattle.def_psbt.specs.Transaction.{TransactionInput, Transaction}
use Rattle.def_psbt.specs.Map.{Map, Psbt}
use Rattle.def_spend.specs.declared.Verification.{Verification}
use Rattle.def_spend.specs.declared.Verification.TheVariants.{Unverified}
use Rattle.def_spend.specs.Good.{assets_of}
use Rattle.def_spend.specs.Input.{Spend, spends_from, spends_of, locks_of}
use Rattle.ms_input.specs.Held.{Held, held_in, all_assets}
use Rattle.ms_input.specs.Seen.{nowhere, spend_at}
use Rattle.ms_input.specs.Verified.{HaveAssets}
use Rattle.ms_input.specs.Scaffolding.Kept.{IsAt}
use Rattle.ms_input.proofs.Judged.{all_count}

abbrev spend : Verification → Transaction → ℕ → TransactionInput → Map → Spend
spend verification transaction number input fields = record { verification = verification; transaction = transaction; number = number; input = input; fields = fields }

abbrev some : Spend → Option Spend
some x = Some x

abbrev some_map : Map → Option Map
some_map x = Some x

from_number : (verification : Verification) (transaction : Transaction) (first : ℕ) (inputs : List TransactionInput) (maps : List Map) (k : ℕ) (input : TransactionInput) (fields : Map) →
    slice_get inputs k ≡ Some input → slice_get maps k ≡ Some fields →
    slice_get (spends_from verification transaction first inputs maps) k ≡ some (spend verification transaction (first + k) input fields)
from_number verification transaction first [] maps k input fields e f = absurd cc
from_number verification transaction first (i ∷ inputs) [] k input fields e f = absurd cc
from_number verification transaction first (i ∷ inputs) (m ∷ maps) zero input fields e f =
    let same_input : i ≡ input = cc in
    let same_map : m ≡ fields = cc in
    let same_number : first ≡ first + 0 = omega arith in
    ap (λ (n : ℕ). some (spend verification transaction n i m)) same_number
    ∙ ap (λ (x : TransactionInput). some (spend verification transaction (first + 0) x m)) same_input
    ∙ ap (λ (x : Map). some (spend verification transaction (first + 0) input x)) same_map
from_number verification transaction first (i ∷ inputs) (m ∷ maps) (suc k) input fields e f =
    let same_number : first + 1 + k ≡ first + suc k = omega arith in
    from_number verification transaction (first + 1) inputs maps k input fields e f
    ∙ ap (λ (n : ℕ). some (spend verification transaction n input fields)) same_number

-- the input with a number, by what the transaction says of it and by its map
pub is_at : (verification : Verification) (psbt : Psbt) (given : Transaction) (number : ℕ) (input : TransactionInput) (fields : Map) (held : Held) →
    given ≡ psbt.transaction → slice_get given.inputs number ≡ Some input → slice_get psbt.inputs number ≡ Some fields → held ≡ held_in fields →
    IsAt verification psbt number (spend_at verification psbt number) input held
is_at verification psbt given number input fields held same read f is =
    let e : slice_get psbt.transaction.inputs number ≡ Some input = sym (ap (λ (t : Transaction). slice_get t.inputs number) same) ∙ read in
    let zero_first : 0 + number ≡ number = omega arith in
    let there : slice_get (spends_of verification psbt) number ≡ some (spend verification psbt.transaction number input fields) =
    from_number verification psbt.transaction 0 psbt.transaction.inputs psbt.inputs number input fields e f
    ∙ ap (λ (n : ℕ). some (spend verification psbt.transaction n input fields)) zero_first in
    let at : spend_at verification psbt number ≡ spend verification psbt.transaction number input fields = ap (λ (o : Option Spend). unwrap_or o nowhere) there in
    record {
      there = there ∙ ap some (sym at);
      same_verification = ap (λ (s : Spend). s.verification) at;
      transaction = ap (λ (s : Spend). s.transaction) at;
      same_number = ap (λ (s : Spend). s.number) at;
      same_input = sym (ap (λ (s : Spend). s.input) at);
      map_is = f ∙ sym (ap (λ (s : Spend). some_map s.fields) at);
      fields = is ∙ sym (ap (λ (s : Spend). held_in s.fields) at);
    }

abbrev locks : (version sequence lock_time : ℕ) → Locks
locks version sequence lock_time = record { version = version; sequence = sequence; locktime = lock_time }

-- the values of its locks
pub locks_are : (spend : Spend) (transaction given : Transaction) (input : TransactionInput) (version sequence lock_time : ℕ) →
    version ≡ given.version → sequence ≡ input.sequence → lock_time ≡ given.lock_time → given ≡ transaction →
    spend.transaction ≡ transaction → input ≡ spend.input → locks version sequence lock_time ≡ locks_of spend
locks_are spend transaction given input version sequence lock_time v s l same of_psbt same_input =
    let t : given ≡ spend.transaction = same ∙ sym of_psbt in
    ap (λ (n : ℕ). locks n sequence lock_time) (v ∙ ap (λ (x : Transaction). x.version) t)
    ∙ ap (λ (n : ℕ). locks spend.transaction.version n lock_time) (s ∙ ap (λ (x : TransactionInput). x.sequence) same_input)
    ∙ ap (λ (n : ℕ). locks spend.transaction.version spend.input.sequence n) (l ∙ ap (λ (x : Transaction). x.lock_time) t)

-- what its map holds are assets, whichever of its signatures count
at_place : {A : Type 0} (P : A → Type 0) (xs : List A) (i : ℕ) (x : A) → All P xs → slice_get xs i ≡ Some x → P x
at_place P [] i x h e = absurd cc
at_place P (y ∷ ys) zero x h e = let same : y ≡ x = cc in subst P same (All-head P y ys h)
at_place P (y ∷ ys) (suc i) x h e = at_place P ys i x (All-tail P y ys h) e

pub are_assets : (psbt : Psbt) (number : ℕ) (input : TransactionInput) (held : Held) (values : Locks) → HaveAssets psbt
    → IsAt Unverified psbt number (spend_at Unverified psbt number) input held → values ≡ locks_of (spend_at Unverified psbt number) → AreAssets (all_assets values held)
are_assets psbt number input held values have at same =
    let own = spend_at Unverified psbt number in
    subst AreAssets (sym (all_count own held values at.fields same at.same_verification))
    (at_place (λ (s : Spend). AreAssets (assets_of s)) (spends_of Unverified psbt) number own have at.there)
