-- What a map holds with a pair more.
use Rattle.std.proofs.Common.{◌≡◌, ℕ, ◌==◌, ◌&&◌, ◌||◌, Bool, true, false, cond, if◌then◌else◌, List, [], ◌∷◌, ◌++◌, map, filter, find, length, Option, Some, None, Result, Ok, Err, OnOk, refl, sym, ◌∙◌, ap, subst}
use Rattle.std.specs.Option.{option_map}
use Rattle.std.proofs.lemmas.Bool.{eqb-true}
use Rattle.def_script.specs.Bytes.{Bytes}
use Rattle.def_script.specs.Key.{is_key}
use Rattle.def_psbt.specs.Map.{Pair, Map, type_of, data_of}
use Rattle.def_psbt.specs.Types.{IN_NON_WITNESS_UTXO, IN_WITNESS_UTXO, IN_PARTIAL_SIG, IN_SIGHASH_TYPE, IN_REDEEM_SCRIPT, IN_WITNESS_SCRIPT, IN_BIP32_DERIVATION, IN_FINAL_SCRIPTSIG, IN_FINAL_SCRIPTWITNESS, IN_RIPEMD160, IN_HASH256}
use Rattle.def_spend.specs.Fields.{is_between, has_type, field, is_signed, signatures_in, has_key, keys_in, is_preimage_pair, preimages_in}
use Rattle.ms_input.specs.Held.{Held, held_in, Adds}
use Rattle.ms_input.specs.Kinds.{kind_of}
use Rattle.ms_input.specs.Adding.{first_of, added}

-- ---- each part with a pair more

abbrev pub picked : Bool → Option Bytes → (value : Bytes) → Option Bytes
picked is former value = cond is (first_of former value) former

abbrev pub more : {A : Type 0} → Bool → List A → A → List A
more is xs x = cond is (xs ++ x ∷ []) xs

abbrev pub with_pair : Map → (key value : Bytes) → Map
with_pair fields key value = fields ++ record { key = key; value = value } ∷ []

same_choice : {A : Type 0} (b : Bool) (x : A) → x ≡ cond b x x
same_choice true x = refl
same_choice false x = refl

field-with_pair : (type : ℕ) (fields : Map) (key value : Bytes)
    → field type (with_pair fields key value) ≡ picked (type_of key == type) (field type fields) value
field-with_pair type [] key value = go (type_of key == type)
  where
    go : (b : Bool) → option_map (λ (pair : Pair). pair.value) (cond b (Some (record { key = key; value = value })) None) ≡ picked b None value
    go true = refl
    go false = refl
field-with_pair type (x ∷ xs) key value = go (has_type type x) (field-with_pair type xs key value)
  where
    go : (b : Bool) → field type (with_pair xs key value) ≡ picked (type_of key == type) (field type xs) value
        → option_map (λ (pair : Pair). pair.value) (cond b (Some x) (find (has_type type) (with_pair xs key value)))
        ≡ picked (type_of key == type) (option_map (λ (pair : Pair). pair.value) (cond b (Some x) (find (has_type type) xs))) value
    go true e = same_choice (type_of key == type) (Some x.value)
    go false e = e

-- the elements that pass a test, each as a change leaves it
chosen-with_pair : {A : Type 0} (test : Pair → Bool) (change : Pair → A) (fields : Map) (key value : Bytes)
    → map change (filter test (with_pair fields key value))
    ≡ more (test (record { key = key; value = value })) (map change (filter test fields)) (change (record { key = key; value = value }))
chosen-with_pair {A} test change [] key value = go (test (record { key = key; value = value }))
  where
    go : (b : Bool) → map change (cond b (record { key = key; value = value } ∷ []) []) ≡ more b [] (change (record { key = key; value = value }))
    go true = refl
    go false = refl
chosen-with_pair {A} test change (x ∷ xs) key value =
    go (test x) (chosen-with_pair test change xs key value)
  where
    put : (b : Bool) (ys : List A) → change x ∷ more b ys (change (record { key = key; value = value })) ≡ more b (change x ∷ ys) (change (record { key = key; value = value }))
    put true ys = refl
    put false ys = refl

    go : (b : Bool)
        → map change (filter test (with_pair xs key value))
        ≡ more (test (record { key = key; value = value })) (map change (filter test xs)) (change (record { key = key; value = value }))
        → map change (cond b (x ∷ filter test (with_pair xs key value)) (filter test (with_pair xs key value)))
        ≡ more (test (record { key = key; value = value })) (map change (cond b (x ∷ filter test xs) (filter test xs))) (change (record { key = key; value = value }))
    go true e = ap (λ l. change x ∷ l) e ∙ put (test (record { key = key; value = value })) (map change (filter test xs))
    go false e = e

-- ---- all parts

abbrev pub grown : (type : ℕ) → Held → (data_bytes value : Bytes) → Held
grown type held data_bytes value = record {
  previous = picked (type == IN_NON_WITNESS_UTXO) held.previous value;
  output = picked (type == IN_WITNESS_UTXO) held.output value;
  asked = picked (type == IN_SIGHASH_TYPE) held.asked value;
  redeem = picked (type == IN_REDEEM_SCRIPT) held.redeem value;
  script = picked (type == IN_WITNESS_SCRIPT) held.script value;
  final_script_sig = picked (type == IN_FINAL_SCRIPTSIG) held.final_script_sig value;
  final_witness = picked (type == IN_FINAL_SCRIPTWITNESS) held.final_witness value;
  pairs = more ((type == IN_PARTIAL_SIG) && is_key data_bytes) held.pairs (data_bytes, value);
  keys = more (((type == IN_PARTIAL_SIG) || (type == IN_BIP32_DERIVATION)) && is_key data_bytes) held.keys data_bytes;
  preimages = more (is_between IN_RIPEMD160 IN_HASH256 type && (length value == 32)) held.preimages value;
}

held-with_pair : (fields : Map) (key value : Bytes) → held_in (with_pair fields key value) ≡ grown (type_of key) (held_in fields) (data_of key) value
held-with_pair fields key value =
    let now = grown (type_of key) (held_in fields) (data_of key) value in
    let all = with_pair fields key value in
    ap (λ x. record (held_in all) { previous = x }) (field-with_pair IN_NON_WITNESS_UTXO fields key value)
    ∙ ap (λ x. record (held_in all) { previous = now.previous; output = x }) (field-with_pair IN_WITNESS_UTXO fields key value)
    ∙ ap (λ x. record (held_in all) { previous = now.previous; output = now.output; asked = x }) (field-with_pair IN_SIGHASH_TYPE fields key value)
    ∙ ap (λ x. record now {
      redeem = x;
      script = field IN_WITNESS_SCRIPT all;
      final_script_sig = field IN_FINAL_SCRIPTSIG all;
      final_witness = field IN_FINAL_SCRIPTWITNESS all;
      pairs =
          signatures_in all;
      keys = keys_in all;
      preimages = preimages_in all;
    })
    (field-with_pair IN_REDEEM_SCRIPT fields key value)
    ∙ ap (λ x. record now {
      script = x;
      final_script_sig = field IN_FINAL_SCRIPTSIG all;
      final_witness = field IN_FINAL_SCRIPTWITNESS all;
      pairs =
          signatures_in all;
      keys = keys_in all;
      preimages = preimages_in all;
    })
    (field-with_pair IN_WITNESS_SCRIPT fields key value)
    ∙ ap (λ x. record now { final_script_sig = x; final_witness = field IN_FINAL_SCRIPTWITNESS all; pairs = signatures_in all; keys = keys_in all; preimages = preimages_in all })
    (field-with_pair IN_FINAL_SCRIPTSIG fields key value)
    ∙ ap (λ x. record now { final_witness = x; pairs = signatures_in all; keys = keys_in all; preimages = preimages_in all })
    (field-with_pair IN_FINAL_SCRIPTWITNESS fields key value)
    ∙ ap (λ x. record now { pairs = x; keys = keys_in all; preimages = preimages_in all })
    (chosen-with_pair is_signed (λ (pair : Pair). (data_of pair.key, pair.value)) fields key value)
    ∙ ap (λ x. record now { keys = x; preimages = preimages_in all }) (chosen-with_pair has_key (λ (pair : Pair). data_of pair.key) fields key value)
    ∙ ap (λ x. record now { preimages = x }) (chosen-with_pair is_preimage_pair (λ (pair : Pair). pair.value) fields key value)

-- ---- by the kind

abbrev IsGrown : Held → (data_bytes value : Bytes) → (type : ℕ) → Type 0
IsGrown held data_bytes value type = added (kind_of type) held data_bytes value ≡ grown type held data_bytes value

-- at a type that is a literal
at : (held : Held) (data_bytes value : Bytes) (type literal : ℕ) → (type == literal) ≡ true → IsGrown held data_bytes value literal → IsGrown held data_bytes value type
at held data_bytes value type literal e h = subst (IsGrown held data_bytes value) (sym (eqb-true type literal e)) h

signature_grown : (held : Held) (data_bytes value : Bytes) → IsGrown held data_bytes value IN_PARTIAL_SIG
signature_grown held data_bytes value = go (is_key data_bytes)
  where
    go : (b : Bool) → (if b then record held { keys = held.keys ++ data_bytes ∷ []; pairs = held.pairs ++ (data_bytes, value) ∷ [] } else held)
        ≡ record held { pairs = more b held.pairs (data_bytes, value); keys = more b held.keys data_bytes }
    go true = refl
    go false = refl

derivation_grown : (held : Held) (data_bytes value : Bytes) → IsGrown held data_bytes value IN_BIP32_DERIVATION
derivation_grown held data_bytes value = go (is_key data_bytes)
  where
    go : (b : Bool) → (if b then record held { keys = held.keys ++ data_bytes ∷ [] } else held) ≡ record held { keys = more b held.keys data_bytes }
    go true = refl
    go false = refl

preimage_grown : (held : Held) (value : Bytes) → (if length value == 32 then record held { preimages = held.preimages ++ value ∷ [] } else held)
    ≡ record held { preimages = more (length value == 32) held.preimages value }
preimage_grown held value = go (length value == 32)
  where
    go : (b : Bool) → (if b then record held { preimages = held.preimages ++ value ∷ [] } else held) ≡ record held { preimages = more b held.preimages value }
    go true = refl
    go false = refl

-- by the cases of a test
tell : {A : Type 0} (b : Bool) → (b ≡ true → A) → (b ≡ false → A) → A
tell true is isn't = is refl
tell false is isn't = isn't refl

is_grown : (held : Held) (data_bytes value : Bytes) (type : ℕ) → IsGrown held data_bytes value type
is_grown held data_bytes value type =
    tell (type == IN_NON_WITNESS_UTXO) (λ e. at held data_bytes value type IN_NON_WITNESS_UTXO e refl) (λ e0.
    tell (type == IN_WITNESS_UTXO) (λ e. at held data_bytes value type IN_WITNESS_UTXO e refl) (λ e1.
    tell (type == IN_PARTIAL_SIG) (λ e. at held data_bytes value type IN_PARTIAL_SIG e (signature_grown held data_bytes value)) (λ e2.
    tell (type == IN_SIGHASH_TYPE) (λ e. at held data_bytes value type IN_SIGHASH_TYPE e refl) (λ e3.
    tell (type == IN_REDEEM_SCRIPT) (λ e. at held data_bytes value type IN_REDEEM_SCRIPT e refl) (λ e4.
    tell (type == IN_WITNESS_SCRIPT) (λ e. at held data_bytes value type IN_WITNESS_SCRIPT e refl) (λ e5.
    tell (type == IN_BIP32_DERIVATION) (λ e. at held data_bytes value type IN_BIP32_DERIVATION e (derivation_grown held data_bytes value)) (λ e6.
    tell (type == IN_FINAL_SCRIPTSIG) (λ e. at held data_bytes value type IN_FINAL_SCRIPTSIG e refl) (λ e7.
    tell (type == IN_FINAL_SCRIPTWITNESS) (λ e. at held data_bytes value type IN_FINAL_SCRIPTWITNESS e refl) (λ e8.
    tell (is_between IN_RIPEMD160 IN_HASH256 type)
    (λ e. rw (e0, e1, e2, e3, e4, e5, e6, e7, e8, e) (preimage_grown held value))
    (λ e. rw (e0, e1, e2, e3, e4, e5, e6, e7, e8, e) refl))))))))))

pub adds : (former latter : Held) (key value : Bytes) → latter ≡ added (kind_of (type_of key)) former (data_of key) value → Adds former latter key value
adds former latter key value e fields same =
    e ∙ ap (λ held. added (kind_of (type_of key)) held (data_of key) value) same
    ∙ is_grown (held_in fields) (data_of key) value (type_of key)
    ∙ sym (held-with_pair fields key value)

-- the same where the type and the data are told
pub adds_told : (former latter : Held) (type : ℕ) (data_bytes key value : Bytes) → type_of key ≡ type → data_of key ≡ data_bytes
    → latter ≡ added (kind_of type) former data_bytes value → Adds former latter key value
adds_told former latter type data_bytes key value same_type same_data e =
    adds former latter key value (e ∙ ap (λ t. added (kind_of t) former data_bytes value) (sym same_type) ∙ ap (λ d. added (kind_of (type_of key)) former d value) (sym same_data))

pub on_ok : {T E P Q : Type 0} (r : Result T E) → (P → Q) → OnOk r P → OnOk r Q
on_ok (Ok x) f h = f h
on_ok (Err e) f h = h
