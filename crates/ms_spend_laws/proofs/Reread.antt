-- An input with further signatures in its map: what it spends and what it is read as stay.
use Rattle.std.proofs.Common.{◌≡◌, ℕ, ◌==◌, ◌&&◌, ◌||◌, Bool, true, false, cond, List, [], ◌∷◌, ◌++◌, length, map, filter, find, Contains, Option, Some, Result, Err, inl, inr, refl, sym, ap, subst, ◌∙◌, arith}
use Rattle.std.specs.List.{AllByRecursion}
use Rattle.std.specs.Option.{option_map, option_and_then, unwrap_or}
use Rattle.std.specs.Str.{bytes_eq}
use Rattle.std.proofs.lemmas.Bool.{and_parts, eqb-true, false≢true, cases_Bool}
use Rattle.std.proofs.lemmas.List.{map-append}
use Rattle.std.proofs.lemmas.List.Elements.{filter-append, Contains-append_left, Contains-append_right}
use Rattle.std.proofs.lemmas.Slice.Eq.{bytes_eq-Decides}
use Rattle.def_hash.specs.Hash.{hash160}
use Rattle.def_script.specs.Bytes.{Bytes}
use Rattle.def_script.specs.Key.{is_key}
use Rattle.def_tree.specs.Tree.{Key, Tree, Trees, pk_h, and_or, two, thresh, wrap, none, more}
use Rattle.def_decode.specs.Nested.{EachHashed, EachHashedOf}
use Rattle.def_decode.specs.Decoded.{first_with, IsDecoded}
use Rattle.def_psbt.specs.Transaction.{Outpoint}
use Rattle.def_psbt.specs.Map.{Pair, Map, type_of, data_of}
use Rattle.def_psbt.specs.TransactionReading.{network_transaction_of}
use Rattle.def_psbt.specs.Forms.{output_of}
use Rattle.def_psbt.specs.Types.{IN_NON_WITNESS_UTXO, IN_WITNESS_UTXO, IN_PARTIAL_SIG, IN_SIGHASH_TYPE, IN_REDEEM_SCRIPT, IN_WITNESS_SCRIPT, IN_FINAL_SCRIPTSIG, IN_FINAL_SCRIPTWITNESS, IN_RIPEMD160, IN_HASH256}
use Rattle.def_spend.specs.Fields.{has_type, is_between, field, is_signed, has_key, keys_in, is_preimage_pair, preimages_in, last_byte, asked, asked_type}
use Rattle.def_spend.specs.Amount.{known_amount}
use Rattle.def_spend.specs.Utxo.{utxo_by, utxo_of, amount_of}
use Rattle.def_spend.specs.HashTypes.{hash_type_of}
use Rattle.def_spend.specs.SignatureHash.{signature_hash}
use Rattle.def_spend.specs.Hashes.{script_or_none, script_in, spent_amount, hash_by}
use Rattle.def_spend.specs.Good.{word_of}
use Rattle.def_curve.specs.Judgement.{judge}
use Rattle.def_spend.specs.Input.{Spend}
use Rattle.def_spend.specs.Kinds.{program_of_utxo, is_nested, spent_utxo, spent_program, kind_with, kind_of}
use Rattle.def_spend.specs.Reading.{has_byte, has_item, has_final, script_with, open_script, script_code}
use Rattle.ms_spend_laws.specs.Planned.{ConsistsOf, HaveOwnHashes, HasKeysOf}
use Rattle.ms_spend_laws.proofs.Mixed.{found_among, kept_among, first_or_rest}
use Rattle.def_spend.specs.declared.State.{State}
use Rattle.def_spend.specs.declared.State.TheVariants as state

-- ---- lists

-- what is found stays
found_stays : {A : Type 0} (test : A → Bool) (xs ys : List A) (a : A) → find test xs ≡ Some a → find test (xs ++ ys) ≡ Some a
found_stays {A} test [] ys a e = absurd cc
found_stays {A} test (x ∷ xs) ys a e = elim (cases_Bool (test x)) [
  | inl is ↦ rw is (rw is at e)
  | inr other ↦ rw other (found_stays test xs ys a (rw other at e))
]

-- what is found passes, and stands there
pub found_is : {A : Type 0} (test : A → Bool) (xs : List A) (a : A) → find test xs ≡ Some a → (test a ≡ true) × Contains xs a
found_is {A} test [] a e = absurd cc
found_is {A} test (x ∷ xs) a e = elim (cases_Bool (test x)) [
  | inl is ↦ (let same : x ≡ a = cc (rw is at e) in (subst (λ y. test y ≡ true) same is, (0, omega arith, same)))
  | inr other ↦ (let h = found_is test xs a (rw other at e) in (h.0, Contains-append_right (x ∷ []) xs a h.1))
]

-- something is found where an element passes
some_found : {A : Type 0} (test : A → Bool) (xs : List A) (a : A) → Contains xs a → test a ≡ true → (y : A) × (find test xs ≡ Some y)
some_found {A} test [] a i p = absurd (let low = i.1 in omega (arith, low))
some_found {A} test (x ∷ xs) a i p = elim (cases_Bool (test x)) [
  | inl is ↦ (x, rw is)
  | inr other ↦ elim (first_or_rest a x xs i) [
    | inl same ↦ absurd (false≢true (sym other ∙ ap test same ∙ p))
    | inr j ↦ rw other (some_found test xs a j p)
  ]
]

each : {A : Type 0} (P Q : A → Type 0) → ((x : A) → P x → Q x) → (xs : List A) → AllByRecursion P xs → AllByRecursion Q xs
each {A} P Q f [] h = tt
each {A} P Q f (x ∷ xs) h = (f x h.0, each P Q f xs h.1)

-- ---- the fields of a map with further signatures

-- maps with the same fields of what an input spends
pub record SpendAlike (fields later : Map) : Type 0 where
  pub script_sig : field IN_FINAL_SCRIPTSIG later ≡ field IN_FINAL_SCRIPTSIG fields
  pub witness : field IN_FINAL_SCRIPTWITNESS later ≡ field IN_FINAL_SCRIPTWITNESS fields
  pub previous : field IN_NON_WITNESS_UTXO later ≡ field IN_NON_WITNESS_UTXO fields
  pub claim : field IN_WITNESS_UTXO later ≡ field IN_WITNESS_UTXO fields
  pub redeem : field IN_REDEEM_SCRIPT later ≡ field IN_REDEEM_SCRIPT fields
  pub script : field IN_WITNESS_SCRIPT later ≡ field IN_WITNESS_SCRIPT fields

-- all pairs are signatures of compressed keys
abbrev pub AreSigned : Map → Type 0
AreSigned added = AllByRecursion (λ pair. is_signed pair ≡ true) added

type_is : (pair : Pair) → is_signed pair ≡ true → type_of pair.key ≡ IN_PARTIAL_SIG
type_is pair e = eqb-true (type_of pair.key) IN_PARTIAL_SIG (and_parts (has_type IN_PARTIAL_SIG pair) (is_key (data_of pair.key)) e).0

module _ (later fields added : Map) (parts : ConsistsOf later fields added) (signed : AreSigned added) where
  -- another field than the signatures
  pub field_stays : (type : ℕ) → (IN_PARTIAL_SIG == type) ≡ false → field type later ≡ field type fields
  field_stays type other =
      ap (option_map (λ (pair : Pair). pair.value)) (found_among (has_type type) later fields added parts
      (each (λ pair. is_signed pair ≡ true) (λ pair. has_type type pair ≡ false) (λ pair e. ap (λ n. n == type) (type_is pair e) ∙ other) added signed))

  pub preimages_stay : preimages_in later ≡ preimages_in fields
  preimages_stay =
      ap (map (λ (pair : Pair). pair.value)) (kept_among is_preimage_pair later fields added parts
      (each (λ pair. is_signed pair ≡ true) (λ pair. is_preimage_pair pair ≡ false)
      (λ pair e. ap (λ (n : ℕ). is_between IN_RIPEMD160 IN_HASH256 n && (length pair.value == 32)) (type_is pair e)) added signed))

  pub asked_stays : asked_type later ≡ asked_type fields
  asked_stays = ap asked (field_stays IN_SIGHASH_TYPE refl)

  pub alike : SpendAlike fields later
  alike = record {
    script_sig = field_stays IN_FINAL_SCRIPTSIG refl;
    witness = field_stays IN_FINAL_SCRIPTWITNESS refl;
    previous = field_stays IN_NON_WITNESS_UTXO refl;
    claim = field_stays IN_WITNESS_UTXO refl;
    redeem = field_stays IN_REDEEM_SCRIPT refl;
    script = field_stays IN_WITNESS_SCRIPT refl;
  }

-- two maps that are so to a third one are so to one another
pub alike_both : (kept fields later : Map) → SpendAlike kept fields → SpendAlike kept later → SpendAlike fields later
alike_both kept fields later one other = record {
  script_sig = other.script_sig ∙ sym one.script_sig;
  witness = other.witness ∙ sym one.witness;
  previous = other.previous ∙ sym one.previous;
  claim = other.claim ∙ sym one.claim;
  redeem = other.redeem ∙ sym one.redeem;
  script = other.script ∙ sym one.script;
}

-- ---- what an input spends, by such fields

module _ (fields later : Map) (alike : SpendAlike fields later) where
  pub final_alike : has_final later ≡ has_final fields
  final_alike =
      ap (λ o. has_byte o || has_item (field IN_FINAL_SCRIPTWITNESS later)) alike.script_sig
      ∙ ap (λ o. has_byte (field IN_FINAL_SCRIPTSIG fields) || has_item o) alike.witness

  pub utxo_alike : (outpoint : Outpoint) → utxo_of outpoint later ≡ utxo_of outpoint fields
  utxo_alike outpoint =
      ap (λ o. utxo_by (option_and_then network_transaction_of o) (option_and_then output_of (field IN_WITNESS_UTXO later)) outpoint) alike.previous
      ∙ ap (λ o. utxo_by (option_and_then network_transaction_of (field IN_NON_WITNESS_UTXO fields)) (option_and_then output_of o) outpoint) alike.claim

-- the program, the kind and the Script, by such fields
module _ (spend : Spend) (later : Map) (same : SpendAlike spend.fields later) where
  abbrev again : Spend
  again = record spend { fields = later }

  program_alike : spent_program again ≡ spent_program spend
  program_alike =
      ap (λ u. program_of_utxo u (field IN_REDEEM_SCRIPT later)) (utxo_alike spend.fields later same spend.input.outpoint)
      ∙ ap (program_of_utxo (spent_utxo spend)) same.redeem

  pub kind_alike : kind_of again ≡ kind_of spend
  kind_alike =
      ap (λ u. kind_with (is_nested u) (spent_program again)) (utxo_alike spend.fields later same spend.input.outpoint)
      ∙ ap (kind_with (is_nested (spent_utxo spend))) program_alike

  open_alike : open_script again ≡ open_script spend
  open_alike = ap (λ r. script_with r (field IN_WITNESS_SCRIPT later)) program_alike ∙ ap (script_with (spent_program spend)) same.script

abbrev script_unless : Bool → Result Bytes State → Result Bytes State
script_unless final script = cond final (Err state.Final) script

pub script_alike : (spend : Spend) (later : Map) → SpendAlike spend.fields later → script_code (record spend { fields = later }) ≡ script_code spend
script_alike spend later same =
    ap (λ b. script_unless b (open_script (record spend { fields = later }))) (final_alike spend.fields later same)
    ∙ ap (script_unless (has_final spend.fields)) (open_alike spend later same)

-- ---- what its signatures are

abbrev hash_with : (number : ℕ) → Spend → (script : Bytes) → (amount : ℕ) → Option Bytes
hash_with number spend script amount =
    option_map (λ type. signature_hash type spend.transaction spend.number spend.input script amount) (hash_type_of number)

pub hash_alike : (spend : Spend) (later : Map) → SpendAlike spend.fields later → (number : ℕ) → hash_by number (record spend { fields = later }) ≡ hash_by number spend
hash_alike spend later same number =
    ap (λ r. hash_with number spend (script_or_none r) (spent_amount (record spend { fields = later }))) (script_alike spend later same)
    ∙ ap (λ u. hash_with number spend (script_in spend) (known_amount (amount_of u))) (utxo_alike spend.fields later same spend.input.outpoint)

pub word_alike : (spend : Spend) (later : Map) → SpendAlike spend.fields later → (pair : Bytes × Bytes) → word_of (record spend { fields = later }) pair ≡ word_of spend pair
word_alike spend later same pair = ap (λ (o : Option Bytes). judge pair.0 (unwrap_or o []) pair.1) (hash_alike spend later same (last_byte pair.1))

-- ---- the reading

mutual
  each_key : (P Q : Key → Type 0) → ((k : Key) → P k → Q k) → (t : Tree) → EachHashed P t → EachHashed Q t
  each_key P Q f (pk_h key) h = f key h
  each_key P Q f (and_or x y z) h = (each_key P Q f x h.0, each_key P Q f y h.1, each_key P Q f z h.2)
  each_key P Q f (two kind x y) h = (each_key P Q f x h.0, each_key P Q f y h.1)
  each_key P Q f (thresh k xs) h = each_key_of P Q f xs h
  each_key P Q f (wrap wrapper x) h = each_key P Q f x h
  each_key P Q f leaf h = tt

  each_key_of : (P Q : Key → Type 0) → ((k : Key) → P k → Q k) → (xs : Trees) → EachHashedOf P xs → EachHashedOf Q xs
  each_key_of P Q f none h = tt
  each_key_of P Q f (more x xs) h = (each_key P Q f x h.0, each_key_of P Q f xs h.1)

keys_join : (fields added : Map) → keys_in (fields ++ added) ≡ keys_in fields ++ keys_in added
keys_join fields added =
    ap (map (λ (pair : Pair). data_of pair.key)) (filter-append has_key fields added)
    ∙ map-append (λ (pair : Pair). data_of pair.key) (filter has_key fields) (filter has_key added)

-- with keys behind those that were listed, a Script is read as before
decoded_behind : (keys others : List Key) (script : Bytes) (tree : Tree) → IsDecoded keys script tree → IsDecoded (keys ++ others) script tree
decoded_behind keys others script tree d = record {
  reading = record {
    valid = d.reading.valid;
    writable = d.reading.writable;
    listed = each_key (λ key. Contains keys key) (λ key. Contains (keys ++ others) key) (λ key i. Contains-append_left keys others key i) tree d.reading.listed;
    same = d.reading.same;
  };
  nested = d.nested;
  first = each_key (λ key. first_with keys (hash160 key) ≡ Some key) (λ key. first_with (keys ++ others) (hash160 key) ≡ Some key)
      (λ key e. found_stays (λ k. bytes_eq (hash160 k) (hash160 key)) keys others key e) tree d.first;
}

pub decoded_appended : (fields added : Map) (script : Bytes) (tree : Tree) → IsDecoded (keys_in fields) script tree → IsDecoded (keys_in (fields ++ added)) script tree
decoded_appended fields added script tree d =
    subst (λ ks. IsDecoded ks script tree) (sym (keys_join fields added)) (decoded_behind (keys_in fields) (keys_in added) script tree d)

-- a listed key that was the first with its HASH160 still is, where it is the only one
still_first : (keys : List Key) (key : Key) → HaveOwnHashes keys → Contains keys key → first_with keys (hash160 key) ≡ Some key
still_first keys key own i =
    let passes : bytes_eq (hash160 key) (hash160 key) ≡ true = (bytes_eq-Decides (hash160 key) (hash160 key)).1 refl in
    let f = some_found (λ k. bytes_eq (hash160 k) (hash160 key)) keys key i passes in
    let is = found_is (λ k. bytes_eq (hash160 k) (hash160 key)) keys f.0 f.1 in
    f.1 ∙ ap Some (own f.0 key is.1 i ((bytes_eq-Decides (hash160 f.0) (hash160 key)).0 is.0))

pub decoded_among : (fields later : Map) (script : Bytes) (tree : Tree) → HasKeysOf fields later → IsDecoded (keys_in fields) script tree → IsDecoded (keys_in later) script tree
decoded_among fields later script tree (inl same) d = subst (λ (ks : List Key). IsDecoded ks script tree) (sym same) d
decoded_among fields later script tree (inr h) d = record {
  reading = record {
    valid = d.reading.valid;
    writable = d.reading.writable;
    listed = each_key (λ key. Contains (keys_in fields) key) (λ key. Contains (keys_in later) key) h.1 tree d.reading.listed;
    same = d.reading.same;
  };
  nested = d.nested;
  first = each_key (λ key. first_with (keys_in fields) (hash160 key) ≡ Some key) (λ key. first_with (keys_in later) (hash160 key) ≡ Some key)
      (λ key e. still_first (keys_in later) key h.0 (h.1 key (found_is (λ k. bytes_eq (hash160 k) (hash160 key)) (keys_in fields) key e).1)) tree d.first;
}
