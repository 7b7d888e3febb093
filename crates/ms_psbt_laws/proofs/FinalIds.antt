-- The id of the transaction with its final scriptSigs, which is told before all inputs are final.
use Rattle.std.proofs.Common.{◌≡◌, ℕ, ◌+◌, ◌&&◌, ◌||◌, Bool, true, false, List, [], ◌∷◌, length, map, Option, Some, None, Result, Ok, Err, is_some, if◌then◌else◌, inl, inr, refl, sym, ap, ◌∙◌, arith}
use Rattle.std.specs.Prelude.{unwrap_or}
use Rattle.std.specs.List.{AllByRecursion}
use Rattle.std.proofs.lemmas.Bool.{cases_Bool, or_parts}
use Rattle.std.proofs.lemmas.List.Elements.{recursion_from_All}
use Rattle.def_script.specs.Bytes.{Bytes}
use Rattle.def_psbt.specs.Transaction.{TransactionInput, Transaction, id_of}
use Rattle.def_psbt.specs.Map.{Map}
use Rattle.def_psbt.proofs.Counting.{as_many_inputs}
use Rattle.def_psbt.specs.Laws.{IsSound}
use Rattle.def_spend.specs.declared.Kind.TheVariants as kind
use Rattle.def_spend.specs.declared.State.{State}
use Rattle.def_spend.specs.declared.State.TheVariants as state
use Rattle.def_psbt.specs.Types.{IN_FINAL_SCRIPTSIG, IN_REDEEM_SCRIPT, IN_WITNESS_SCRIPT}
use Rattle.def_spend.specs.Fields.{field}
use Rattle.def_spend.specs.declared.Verification.{Verification}
use Rattle.def_spend.specs.Input.{Spend, spends_from, spends_of}
use Rattle.def_spend.specs.Kinds.{is_script_hash, is_key_hash, is_nested, kind_with, spent_utxo, spent_program, script_sig_by, open_script_sig}
use Rattle.def_spend.specs.Reading.{Input, has_byte, has_final, script_with, open_script, script_code}
use Rattle.def_spend.specs.States.{state_of, is_final, is_ready}
use Rattle.def_spend.specs.Finalized.{script_sig_of, written_map, finalized, final_input, final_inputs, final_transaction, known_script_sig, known_input, known_inputs, are_known, has_script_sig, final_id}
use Rattle.ms_psbt_answer_laws.proofs.Sane.{final_state}
use Rattle.ms_psbt_answer_laws.proofs.Written.{leaves_others}
use Rattle.ms_given_laws.specs.Given.{EachIsSound}
use Rattle.ms_spend_laws.proofs.Inputs.{IsGiven, of_each}
use Rattle.ms_spend_laws.proofs.States.{opens, ready_is}
use Rattle.ms_psbt_laws.specs.Network.{IdIsTold, FinalIdStays}
use Rattle.ms_psbt_laws.proofs.Again.{is_made_final}
use Rattle.ms_psbt_laws.proofs.NetworkTexts.{bare_inputs, same_inputs}

-- ---- inputs with the same final scriptSigs

-- inputs of which the same is known
pub record AreAlike (one other : List Spend) : Type 0 where
  pub inputs : known_inputs one ≡ known_inputs other
  pub known : are_known one ≡ are_known other
  pub some : has_script_sig one ≡ has_script_sig other

pub alike_more : (x y : Spend) (xs ys : List Spend) → x.input ≡ y.input → known_script_sig x ≡ known_script_sig y → AreAlike xs ys → AreAlike (x ∷ xs) (y ∷ ys)
alike_more x y xs ys input same rest = record {
  inputs = ap (λ (i : TransactionInput). record i { script_sig = unwrap_or (known_script_sig x) [] } ∷ known_inputs xs) input
      ∙ ap (λ (o : Option Bytes). record y.input { script_sig = unwrap_or o [] } ∷ known_inputs xs) same
      ∙ ap (λ (is : List TransactionInput). known_input y ∷ is) rest.inputs;
  known = ap (λ (o : Option Bytes). is_some o && are_known xs) same ∙ ap (λ b. is_some (known_script_sig y) && b) rest.known;
  some = ap (λ o. has_byte o || has_script_sig xs) same ∙ ap (λ b. has_byte (known_script_sig y) || b) rest.some;
}

abbrev id_by : (known some : Bool) → Transaction → List TransactionInput → Option Bytes
id_by known some transaction ins = if known && some then Some (id_of (record transaction { inputs = ins })) else None

pub id_alike : (transaction : Transaction) (one other : List Spend) → AreAlike one other → final_id transaction one ≡ final_id transaction other
id_alike transaction one other alike =
    ap (λ b. id_by b (has_script_sig one) transaction (known_inputs one)) alike.known
    ∙ ap (λ b. id_by (are_known other) b transaction (known_inputs one)) alike.some
    ∙ ap (id_by (are_known other) (has_script_sig other) transaction) alike.inputs

-- ---- where each input is final

abbrev IsFinalMap : Map → Type 0
IsFinalMap fields = has_final fields ≡ true

abbrev sig_in : Map → Bytes
sig_in fields = unwrap_or (field IN_FINAL_SCRIPTSIG fields) []

known_of_map : (spend : Spend) → IsFinalMap spend.fields → known_script_sig spend ≡ Some (sig_in spend.fields)
known_of_map spend final = ap (λ b. if b then Some (sig_in spend.fields) else open_script_sig spend) final

known_is_final : (verification : Verification) (transaction : Transaction) (number : ℕ) (ins : List TransactionInput) (maps : List Map) → AllByRecursion IsFinalMap maps
    → known_inputs (spends_from verification transaction number ins maps) ≡ final_inputs ins maps
known_is_final verification transaction number [] maps final = refl
known_is_final verification transaction number (input ∷ ins) [] final = refl
known_is_final verification transaction number (input ∷ ins) (fields ∷ maps) final =
    let spend : Spend = record { verification = verification; transaction = transaction; number = number; input = input; fields = fields } in
    ap (λ (o : Option Bytes). record input { script_sig = unwrap_or o [] } ∷ known_inputs (spends_from verification transaction (number + 1) ins maps)) (known_of_map spend final.0)
    ∙ ap (λ (is : List TransactionInput). final_input input fields ∷ is) (known_is_final verification transaction (number + 1) ins maps final.1)

all_known : (verification : Verification) (transaction : Transaction) (number : ℕ) (ins : List TransactionInput) (maps : List Map) → AllByRecursion IsFinalMap maps
    → are_known (spends_from verification transaction number ins maps) ≡ true
all_known verification transaction number [] maps final = refl
all_known verification transaction number (input ∷ ins) [] final = refl
all_known verification transaction number (input ∷ ins) (fields ∷ maps) final =
    let spend : Spend = record { verification = verification; transaction = transaction; number = number; input = input; fields = fields } in
    ap (λ (o : Option Bytes). is_some o && are_known (spends_from verification transaction (number + 1) ins maps)) (known_of_map spend final.0)
    ∙ all_known verification transaction (number + 1) ins maps final.1

bare_of : (o : Option Bytes) → has_byte (Some (unwrap_or o [])) ≡ false → has_byte o ≡ false
bare_of None e = refl
bare_of (Some value) e = e

-- where no final scriptSig has a byte, none of the maps has one
none_has_byte : (verification : Verification) (transaction : Transaction) (number : ℕ) (ins : List TransactionInput) (maps : List Map) → length maps ≡ length ins
    → AllByRecursion IsFinalMap maps → has_script_sig (spends_from verification transaction number ins maps) ≡ false
    → AllByRecursion (λ fields. has_byte (field IN_FINAL_SCRIPTSIG fields) ≡ false) maps
none_has_byte verification transaction number ins [] same final e = tt
none_has_byte verification transaction number [] (fields ∷ maps) same final e = absurd (omega (arith, same))
none_has_byte verification transaction number (input ∷ ins) (fields ∷ maps) same final e =
    let spend : Spend = record { verification = verification; transaction = transaction; number = number; input = input; fields = fields } in
    let rest : List Spend = spends_from verification transaction (number + 1) ins maps in
    let parts = or_parts (has_byte (known_script_sig spend)) (has_script_sig rest) e in (
      bare_of (field IN_FINAL_SCRIPTSIG fields) (sym (ap has_byte (known_of_map spend final.0)) ∙ parts.0),
      none_has_byte verification transaction (number + 1) ins maps (omega (arith, same)) final.1 parts.1,
    )

-- so the map of each Final input is
all_final : (verification : Verification) (transaction : Transaction) (number : ℕ) (ins : List TransactionInput) (maps : List Map) (inputs : List Input) → length maps ≡ length ins
    → map (λ (input : Input). input.spend) inputs ≡ spends_from verification transaction number ins maps
    → AllByRecursion (λ (input : Input). is_final (state_of input) ≡ true) inputs → AllByRecursion IsFinalMap maps
all_final verification transaction number ins [] inputs same e final = tt
all_final verification transaction number [] (fields ∷ maps) inputs same e final = absurd (omega (arith, same))
all_final verification transaction number (i ∷ ins) (fields ∷ maps) [] same e final = absurd cc
all_final verification transaction number (i ∷ ins) (fields ∷ maps) (input ∷ inputs) same e final =
    let here : input.spend ≡ record { verification = verification; transaction = transaction; number = number; input = i; fields = fields } = cc in
    let rest : map (λ (input : Input). input.spend) inputs ≡ spends_from verification transaction (number + 1) ins maps = cc in (
      sym (ap (λ (spend : Spend). has_final spend.fields) here) ∙ sym (final_state input) ∙ final.0,
      all_final verification transaction (number + 1) ins maps inputs (omega (arith, same)) rest final.1,
    )

pub id_is_told : EachIsSound → IdIsTold
id_is_told law source psbt fits e counted inputs are all verification =
    let sound = (law source psbt fits e).sound in
    let each = recursion_from_All (λ (input : Input). is_final (state_of input) ≡ true) inputs all in
    let final = all_final counted psbt.transaction 0 psbt.transaction.inputs psbt.inputs inputs (as_many_inputs psbt sound) are.spends each in
    go sound final (has_script_sig spends) refl
  where
    spends : List Spend
    spends = spends_of verification psbt

    own : Transaction
    own = psbt.transaction

    go : IsSound psbt → AllByRecursion IsFinalMap psbt.inputs → (b : Bool) → has_script_sig spends ≡ b
        → id_of (final_transaction psbt) ≡ unwrap_or (final_id own spends) (id_of own)
    go sound final true some =
        ap (λ (ins : List TransactionInput). id_of (record own { inputs = ins })) (sym (known_is_final verification own 0 own.inputs psbt.inputs final))
        ∙ sym (ap (λ b. unwrap_or (id_by b (has_script_sig spends) own (known_inputs spends)) (id_of own)) (all_known verification own 0 own.inputs psbt.inputs final)
        ∙ ap (λ b. unwrap_or (id_by true b own (known_inputs spends)) (id_of own)) some)
    go sound final false none =
        let bare = none_has_byte verification own 0 own.inputs psbt.inputs (as_many_inputs psbt sound) final none in
        ap (λ (ins : List TransactionInput). id_of (record own { inputs = ins }))
        (same_inputs own.inputs psbt.inputs (as_many_inputs psbt sound) (bare_inputs psbt sound) bare)
        ∙ sym (ap (λ b. unwrap_or (id_by b (has_script_sig spends) own (known_inputs spends)) (id_of own)) (all_known verification own 0 own.inputs psbt.inputs final)
        ∙ ap (λ b. unwrap_or (id_by true b own (known_inputs spends)) (id_of own)) none)

-- ---- before they are made final

-- where a Script is found, the scriptSig is known
sig_is_known : (nested : Bool) (redeem : Bytes) (r : Result Bytes State) (o : Option Bytes) (script : Bytes) → script_with r o ≡ Ok script
    → is_some (script_sig_by (kind_with nested r) redeem) ≡ true
sig_is_known nested redeem (Err s) o script e = absurd cc
sig_is_known nested redeem (Ok program) o script e = elim (cases_Bool (is_script_hash program)) [
  | inl is ↦ rw is (of_script nested)
  | inr other ↦ elim (cases_Bool (is_key_hash program)) [ inl is ↦ rw (other, is) (of_key nested) | inr neither ↦ absurd (not_found (Err state.OtherOutput) refl (rw (other, neither) at e)) ]
]
  where
    of_script : (b : Bool) → is_some (script_sig_by (if b then kind.P2shP2wsh else kind.P2wsh) redeem) ≡ true
    of_script true = refl
    of_script false = refl

    of_key : (b : Bool) → is_some (script_sig_by (if b then kind.P2shP2wpkh else kind.P2wpkh) redeem) ≡ true
    of_key true = refl
    of_key false = refl

    not_found : (r : Result Bytes State) → r ≡ Err state.OtherOutput → r ≡ Ok script → ⊥
    not_found r other found = cc (sym other ∙ found)

some_unwrapped : (o : Option Bytes) → is_some o ≡ true → o ≡ Some (unwrap_or o [])
some_unwrapped None e = absurd cc
some_unwrapped (Some value) e = refl

abbrev code_unless : Bool → Spend → Result Bytes State
code_unless final spend = if final then Err state.Final else open_script spend

-- of an input whose Script is found it is that of its kind
known_open : (spend : Spend) (script : Bytes) → script_code spend ≡ Ok script → known_script_sig spend ≡ Some (script_sig_of spend)
known_open spend script e = go (has_final spend.fields) refl
  where
    go : (b : Bool) → has_final spend.fields ≡ b → known_script_sig spend ≡ Some (script_sig_of spend)
    go true is = absurd cc (sym (ap (λ b. code_unless b spend) is) ∙ e)
    go false is =
        let found : open_script spend ≡ Ok script = sym (ap (λ b. code_unless b spend) is) ∙ e in
        let known = sig_is_known (is_nested (spent_utxo spend)) (unwrap_or (field IN_REDEEM_SCRIPT spend.fields) []) (spent_program spend) (field IN_WITNESS_SCRIPT spend.fields) script found in
        ap (λ b. if b then Some (sig_in spend.fields) else open_script_sig spend) is ∙ some_unwrapped (open_script_sig spend) known

abbrev with_fields : Spend → Map → Spend
with_fields spend fields = record spend { fields = fields }

-- what is known of the final scriptSig of an input stays, as its map is written
known_stays : (input : Input) → IsGiven input → known_script_sig (with_fields input.spend (written_map input)) ≡ known_script_sig input.spend
known_stays input given = elim (cases_Bool (is_ready (state_of input))) [
  | inl ready ↦
      let made = is_made_final input given ready in
      let o = opens input state.Ready given.read tt (ready_is (state_of input) ready) in
      known_of_map (with_fields input.spend (written_map input)) made.final ∙ ap Some made.script_sig ∙ sym (known_open input.spend o.script o.tried.spends)
  | inr other ↦ ap (λ (fields : Map). known_script_sig (with_fields input.spend fields)) (leaves_others input other)
]

all_alike : (counted verification : Verification) (transaction : Transaction) (number : ℕ) (ins : List TransactionInput) (maps : List Map) (inputs : List Input)
    → map (λ (input : Input). input.spend) inputs ≡ spends_from counted transaction number ins maps → AllByRecursion IsGiven inputs
    → AreAlike (spends_from verification transaction number ins (map written_map inputs)) (spends_from verification transaction number ins maps)
all_alike counted verification transaction number [] maps inputs e given = record { inputs = refl; known = refl; some = refl }
all_alike counted verification transaction number (i ∷ ins) [] [] e given = record { inputs = refl; known = refl; some = refl }
all_alike counted verification transaction number (i ∷ ins) (fields ∷ maps) (input ∷ inputs) e given =
    let counting : Spend = record { verification = counted; transaction = transaction; number = number; input = i; fields = fields } in
    let own : Spend = record { verification = verification; transaction = transaction; number = number; input = i; fields = fields } in
    let here : input.spend ≡ counting = cc in
    let rest : map (λ (input : Input). input.spend) inputs ≡ spends_from counted transaction (number + 1) ins maps = cc in
    let same : known_script_sig (with_fields own (written_map input)) ≡ known_script_sig own =
    ap (λ spend. known_script_sig (with_fields spend (written_map input))) (sym here) ∙ known_stays input given.0 ∙ ap known_script_sig here in
    alike_more (with_fields own (written_map input)) own (spends_from verification transaction (number + 1) ins (map written_map inputs)) (spends_from verification transaction (number + 1) ins maps)
    refl same (all_alike counted verification transaction (number + 1) ins maps inputs rest given.1)
all_alike counted verification transaction number ins maps inputs e given = absurd cc

pub final_id_stays : EachIsSound → FinalIdStays
final_id_stays law source psbt fits e counted inputs are verification =
    let given = recursion_from_All IsGiven inputs (of_each law IsGiven (λ input g. g) source psbt fits e counted inputs are) in
    id_alike psbt.transaction (spends_of verification (finalized psbt inputs)) (spends_of verification psbt)
    (all_alike counted verification psbt.transaction 0 psbt.transaction.inputs psbt.inputs inputs are.spends given)
