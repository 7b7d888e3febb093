-- The network transaction is read back.
use Rattle.std.proofs.Common.{◌≡◌, ℕ, suc, ◌^◌, ◌<◌, ◌≤◌, ◌==◌, ◌&&◌, nat_lt, Bool, true, false, cond, List, [], ◌∷◌, ◌++◌, length, map, slice_index, Option, Some, None, is_some, inl, inr, refl, sym, ap, subst, ◌∙◌, append_assoc, arith}
use Rattle.std.specs.Prelude.{unwrap_or}
use Rattle.std.specs.List.{flat_map, list_any, list_all, AllByRecursion}
use Rattle.std.specs.Option.{option_map}
use Rattle.std.specs.Int.{w16, w32, w64, to_le_bytes}
use Rattle.std.proofs.Math.Bool.{and-false}
use Rattle.std.proofs.lemmas.Bool.{false≢true, and_parts, cases_Bool, or_parts, not-false, eqb-true, leb-true, lt-ltb, ne_eqb}
use Rattle.std.proofs.lemmas.List.{nil_from_length}
use Rattle.std.proofs.lemmas.List.Elements.{recursion_from_All}
use Rattle.std.proofs.lemmas.Slice.Eq.{bytes_eq-Decides}
use Rattle.def_script.specs.Bytes.{Bytes}
use Rattle.def_script.specs.Sizes.{size_bytes}
use Rattle.def_script.specs.Witness.{items_text}
use Rattle.def_psbt.specs.Transaction.{TransactionInput, TransactionOutput, Transaction, input_text, inputs_text, outputs_text, transaction_text, id_of}
use Rattle.def_psbt.specs.Map.{Pair, Map, Psbt, type_of, data_of, pair_of_type}
use Rattle.def_psbt.specs.Part.{Part, ◌>>=◌, first_bytes, first_number, first_many, whole}
use Rattle.def_psbt.specs.TransactionReading.{first_sides, first_witness, transaction_of, witnessed_transaction_of, network_transaction_of}
use Rattle.def_psbt.specs.Forms as forms
use Rattle.def_psbt.specs.Listed.{global_form, input_form}
use Rattle.def_psbt.specs.Reading.{input_rules, Outline, given, counted, outline_in, transaction_in_pair, transaction_in, transaction_by}
use Rattle.def_psbt.specs.Laws.{IsSoundMap, IsWholeMap, IsSound}
use Rattle.def_psbt.specs.Types.{IN_FINAL_SCRIPTSIG, IN_FINAL_SCRIPTWITNESS}
use Rattle.def_spend.specs.Fields.{has_type, field}
use Rattle.def_spend.specs.Reading.{has_byte, has_item}
use Rattle.def_spend.specs.Finalized.{final_inputs, final_transaction, final_witness, witnessed_text}
use Rattle.ms_given_laws.specs.Given.{EachIsSound, IsInput, IsOutput, IsMapOfBytes, IsWhole}
use Rattle.ms_given_laws.proofs.Later.{IsPairOfBytes, given_is, not_given}
use Rattle.def_psbt.specs.declared.PsbtVersion.{PsbtVersion}
use Rattle.def_psbt.specs.declared.PsbtVersion.TheVariants as version
use Rattle.def_psbt.specs.Fields.{version_of, input_of}
use Rattle.def_psbt.proofs.Counting.{as_many_inputs}
use Rattle.ms_given_laws.proofs.Held.{HasShape, shapes, form_of, passed}
use Rattle.ms_psbt_laws.specs.Network.{witnesses_of, network_witnesses_of, IsReadAs, NetworkIsRead, IdStays}
use Rattle.ms_given_laws.proofs.PartsBack.{AreItems, bytes_back, number_32_back, many_back, witness_back, sides_back}
use Rattle.ms_psbt_laws.proofs.PartsWritten.{witness_written}
use Rattle.ms_psbt_laws.proofs.Sounding.{field_pair}
use Rattle.ms_psbt_laws.proofs.Again.{no_items}

-- ---- the fields of a sound map

-- a pair with nothing wrong by itself, of bytes, whose value can be spelled
pub record IsGoodPair (pair : Pair) : Type 0 where
  pub version : PsbtVersion
  pub shape : HasShape (input_form version) pair
  pub fits : IsPairOfBytes pair
  pub short : length pair.value < 2 ^ 64

good_pairs : (version : PsbtVersion) (before fields : Map) → IsSoundMap (input_form version) before fields → AllByRecursion IsPairOfBytes fields → AllByRecursion IsGoodPair fields
good_pairs version before [] sound fits = tt
good_pairs version before (pair ∷ fields) sound fits =
    let shape = shapes (input_form version) before (pair ∷ fields) sound in
    (record { version = version; shape = shape.0; fits = fits.0; short = sound.0.value }, good_pairs version (before ++ pair ∷ []) fields sound.1 fits.1)

some_of : {A : Type 0} (o : Option A) → is_some o ≡ true → (x : A) × (o ≡ Some x)
some_of None e = absurd (false≢true e)
some_of (Some x) e = (x, refl)

-- the final witness of a map has items, which are its bytes
pub record HasItems (fields : Map) : Type 0 where
  pub items : List Bytes
  pub are : AreItems items
  pub text : final_witness fields ≡ items_text items
  pub read : forms.witness_of (final_witness fields) ≡ Some items

empty_items : AreItems []
empty_items = record { few = omega arith; short = tt }

empty_text : (0x00 ∷ []) ≡ items_text []
unfolding size_bytes
empty_text = refl

witness_form : (version : PsbtVersion) (pair : Pair) → HasShape (input_form version) pair → has_type IN_FINAL_SCRIPTWITNESS pair ≡ true → is_some (forms.witness_of pair.value) ≡ true
unfolding input_form
witness_form version pair shape is =
    let type : type_of pair.key ≡ 0x08 = eqb-true (type_of pair.key) 0x08 is in
    passed (is_some (forms.witness_of pair.value)) (subst (λ (n : ℕ). (input_form version n).value (data_of pair.key) pair.value ≡ None) type (form_of (input_form version) pair shape).1)

has_items : (fields : Map) → AllByRecursion IsGoodPair fields → HasItems fields
has_items fields all = go (field IN_FINAL_SCRIPTWITNESS fields) refl
  where
    go : (o : Option Bytes) → field IN_FINAL_SCRIPTWITNESS fields ≡ o → HasItems fields
    go None e =
        let none : final_witness fields ≡ 0x00 ∷ [] = ap (λ (o : Option Bytes). unwrap_or o (0x00 ∷ [])) e in
        record { items = []; are = empty_items; text = none ∙ empty_text; read = ap forms.witness_of none ∙ no_items }
    go (Some value) e =
        let p = field_pair IsGoodPair IN_FINAL_SCRIPTWITNESS fields value all e in
        let some = some_of (forms.witness_of p.0.value) (witness_form p.1.version p.0 p.1.shape p.2) in
        let told = witness_written p.0.value some.0 p.1.fits.1 some.1 in
        let is : final_witness fields ≡ p.0.value = ap (λ (o : Option Bytes). unwrap_or o (0x00 ∷ [])) e ∙ sym p.3 in
        record { items = some.0; are = told.1; text = is ∙ told.0; read = ap forms.witness_of is ∙ some.1 }

-- the final scriptSig can be spelled
script_sig_short : (fields : Map) → AllByRecursion IsGoodPair fields → length (unwrap_or (field IN_FINAL_SCRIPTSIG fields) []) < 2 ^ 64
script_sig_short fields all = go (field IN_FINAL_SCRIPTSIG fields) refl
  where
    go : (o : Option Bytes) → field IN_FINAL_SCRIPTSIG fields ≡ o → length (unwrap_or o []) < 2 ^ 64
    go None e = omega arith
    go (Some value) e =
        let p = field_pair IsGoodPair IN_FINAL_SCRIPTSIG fields value all e in
        let short = p.1.short in
        let same : length p.0.value ≡ length value = ap length p.3 in
        omega (arith, short, same)

-- ---- all maps

all_good : (version : PsbtVersion) (maps : List Map) → AllByRecursion (IsWholeMap (input_rules version)) maps → AllByRecursion IsMapOfBytes maps
    → AllByRecursion (λ fields. AllByRecursion IsGoodPair fields) maps
all_good version [] sound fits = tt
all_good version (fields ∷ maps) sound fits = (good_pairs version [] fields sound.0.sound (recursion_from_All IsPairOfBytes fields fits.0), all_good version maps sound.1 fits.1)

abbrev AreGood : List Map → Type 0
AreGood maps = AllByRecursion (λ fields. AllByRecursion IsGoodPair fields) maps

-- the items of each final witness
pub record HaveItems (maps : List Map) : Type 0 where
  pub items : List (List Bytes)
  pub are : AllByRecursion AreItems items
  pub long : length items ≡ length maps
  pub text : flat_map (λ witness. witness) (map final_witness maps) ≡ flat_map items_text items
  pub read : map (λ fields. forms.witness_of (final_witness fields)) maps ≡ map Some items

have_items : (maps : List Map) → AreGood maps → HaveItems maps
have_items [] good = record { items = []; are = tt; long = refl; text = refl; read = refl }
have_items (fields ∷ maps) good =
    let first = has_items fields good.0 in
    let rest = have_items maps good.1 in
    record {
      items = first.items ∷ rest.items;
      are = (first.are, rest.are);
      long = ap suc rest.long;
      text = ap (λ (l : Bytes). l ++ flat_map (λ witness. witness) (map final_witness maps)) first.text ∙ ap (λ (l : Bytes). items_text first.items ++ l) rest.text;
      read = ap (λ o. o ∷ map (λ fields. forms.witness_of (final_witness fields)) maps) first.read ∙ ap (λ l. Some first.items ∷ l) rest.read;
    }

-- the inputs with their final scriptSigs
pub record AreFinal (ins final : List TransactionInput) (maps : List Map) : Type 0 where
  pub long : length final ≡ length ins
  pub spelled : AllByRecursion IsInput final
  pub outpoints : map (λ input. input.outpoint) final ≡ map (λ input. input.outpoint) ins
  pub sequences : map (λ input. input.sequence) final ≡ map (λ input. input.sequence) ins
  pub script_sigs : map (λ input. input.script_sig) final ≡ map (λ fields. unwrap_or (field IN_FINAL_SCRIPTSIG fields) []) maps

are_final : (ins : List TransactionInput) (maps : List Map) → AllByRecursion IsInput ins → AreGood maps → length maps ≡ length ins → AreFinal ins (final_inputs ins maps) maps
are_final [] [] spelled good same = record { long = refl; spelled = tt; outpoints = refl; sequences = refl; script_sigs = refl }
are_final [] (fields ∷ maps) spelled good same = absurd (omega (arith, same))
are_final (input ∷ ins) [] spelled good same = absurd (omega (arith, same))
are_final (input ∷ ins) (fields ∷ maps) spelled good same =
    let rest = are_final ins maps spelled.1 good.1 (omega (arith, same)) in
    let own = spelled.0 in
    record {
      long = ap suc rest.long;
      spelled = (record { id = own.id; index = own.index; script_sig = script_sig_short fields good.0; sequence = own.sequence }, rest.spelled);
      outpoints = ap (λ l. input.outpoint ∷ l) rest.outpoints;
      sequences = ap (λ l. input.sequence ∷ l) rest.sequences;
      script_sigs = ap (λ l. unwrap_or (field IN_FINAL_SCRIPTSIG fields) [] ∷ l) rest.script_sigs;
    }

-- ---- the text without witnesses

-- the numbers of a transaction, and what it consists of, can be spelled
pub record IsSpelled (transaction : Transaction) : Type 0 where
  pub version : transaction.version < 2 ^ 32
  pub inputs : AllByRecursion IsInput transaction.inputs
  pub few_inputs : length transaction.inputs < 2 ^ 64
  pub outputs : AllByRecursion IsOutput transaction.outputs
  pub few_outputs : length transaction.outputs < 2 ^ 64
  pub lock_time : transaction.lock_time < 2 ^ 32

plain_back : (t : Transaction) → IsSpelled t → transaction_of (transaction_text t) ≡ Some t
unfolding transaction_of whole
plain_back t s =
    let version = number_32_back t.version (inputs_text t.inputs ++ (outputs_text t.outputs ++ to_le_bytes w32 t.lock_time)) s.version in
    let sides = sides_back t (to_le_bytes w32 t.lock_time) s.few_inputs s.inputs s.few_outputs s.outputs in
    let lock_time = number_32_back t.lock_time [] s.lock_time in
    ap (λ (o : Part ℕ). o >>= λ version. first_sides version.1 >>= λ sides. first_number w32 sides.1 >>= λ lock_time.
    whole (Some (record { version = version.0; inputs = sides.0.0; outputs = sides.0.1; lock_time = lock_time.0 }, lock_time.1))) version
    ∙ ap (λ (o : Part (List TransactionInput × List TransactionOutput)). o >>= λ sides. first_number w32 sides.1 >>= λ lock_time.
    whole (Some (record { version = t.version; inputs = sides.0.0; outputs = sides.0.1; lock_time = lock_time.0 }, lock_time.1))) sides
    ∙ ap (λ (o : Part ℕ). o >>= λ lock_time.
    whole (Some (record { version = t.version; inputs = t.inputs; outputs = t.outputs; lock_time = lock_time.0 }, lock_time.1))) lock_time

-- the number of some inputs doesn't begin with the byte 00
not_zero : (n : ℕ) (rest : Bytes) → 1 ≤ n → (slice_index (size_bytes n ++ rest) 0 == 0) ≡ false
unfolding size_bytes
not_zero n rest some = go (nat_lt n 0xfd) (nat_lt n (2 ^ 16)) (nat_lt n (2 ^ 32))
  where
    other : (n == 0) ≡ false
    other = ne_eqb n 0 (omega (arith, some))

    go : (a b c : Bool) → (slice_index ((cond a (n ∷ []) (cond b (0xfd ∷ to_le_bytes w16 n) (cond c (0xfe ∷ to_le_bytes w32 n) (0xff ∷ to_le_bytes w64 n)))) ++ rest) 0 == 0) ≡ false
    go true b c = other
    go false true c = refl
    go false false true = refl
    go false false false = refl

-- a text without witnesses isn't in BIP 144's form
plain_form : (t : Transaction) → 1 ≤ length t.inputs → (nat_lt 4 (length (transaction_text t)) && (slice_index (transaction_text t) 4 == 0)) ≡ false
plain_form t some =
    let ins : Bytes = flat_map input_text t.inputs in
    let rest : Bytes = outputs_text t.outputs ++ to_le_bytes w32 t.lock_time in
    let other : (slice_index (transaction_text t) 4 == 0) ≡ false =
    ap (λ (l : Bytes). slice_index l 0 == 0) (append_assoc (size_bytes (length t.inputs)) ins rest) ∙ not_zero (length t.inputs) (ins ++ rest) some in
    ap (λ b. nat_lt 4 (length (transaction_text t)) && b) other ∙ and-false (nat_lt 4 (length (transaction_text t)))

plain_network : (t : Transaction) → IsSpelled t → 1 ≤ length t.inputs → network_transaction_of (transaction_text t) ≡ Some t
unfolding network_transaction_of
plain_network t s some =
    ap (λ b. cond b (witnessed_transaction_of (transaction_text t)) (transaction_of (transaction_text t))) (plain_form t some) ∙ plain_back t s

abbrev no_witness : Transaction → List (List Bytes)
no_witness t = map (λ input. []) t.inputs

plain_witnesses : (t : Transaction) → IsSpelled t → 1 ≤ length t.inputs → network_witnesses_of (transaction_text t) ≡ Some (no_witness t)
unfolding network_witnesses_of
plain_witnesses t s some =
    ap (λ b. cond b (witnesses_of (transaction_text t)) (option_map no_witness (transaction_of (transaction_text t)))) (plain_form t some)
    ∙ ap (option_map no_witness) (plain_back t s)

-- ---- the text with witnesses

-- its bytes, from left to right
abbrev in_order : Transaction → (witnesses : Bytes) → Bytes
in_order t witnesses =
    to_le_bytes w32 t.version
    ++ ((0x00 ∷ 0x01 ∷ []) ++ (inputs_text t.inputs ++ (outputs_text t.outputs ++ (witnesses ++ to_le_bytes w32 t.lock_time))))

ordered : (t : Transaction) (witnesses : List Bytes) (items : List (List Bytes)) → flat_map (λ witness. witness) witnesses ≡ flat_map items_text items
    → witnessed_text t witnesses ≡ in_order t (flat_map items_text items)
ordered t witnesses items same =
    let all : Bytes = flat_map (λ witness. witness) witnesses in
    let end : Bytes = to_le_bytes w32 t.lock_time in
    let ins : Bytes = inputs_text t.inputs in
    let outs : Bytes = outputs_text t.outputs in
    ap (λ (l : Bytes). to_le_bytes w32 t.version ++ ((0x00 ∷ 0x01 ∷ []) ++ l)) (append_assoc (ins ++ outs) all end ∙ append_assoc ins outs (all ++ end))
    ∙ ap (in_order t) same

module _ (t : Transaction) (s : IsSpelled t) (items : List (List Bytes)) (are : AllByRecursion AreItems items) (long : length items ≡ length t.inputs) (some : 1 ≤ length t.inputs) where
  abbrev text : Bytes
  text = in_order t (flat_map items_text items)

  abbrev behind_version : Bytes
  behind_version = (0x00 ∷ 0x01 ∷ []) ++ (inputs_text t.inputs ++ (outputs_text t.outputs ++ (flat_map items_text items ++ to_le_bytes w32 t.lock_time)))

  first_version : first_number w32 text ≡ Some (t.version, behind_version)
  first_version = number_32_back t.version behind_version s.version

  marker : first_bytes 2 behind_version ≡ Some (0x00 ∷ 0x01 ∷ [], inputs_text t.inputs ++ (outputs_text t.outputs ++ (flat_map items_text items ++ to_le_bytes w32 t.lock_time)))
  marker = bytes_back 2 (0x00 ∷ 0x01 ∷ []) _ refl

  sides : first_sides (inputs_text t.inputs ++ (outputs_text t.outputs ++ (flat_map items_text items ++ to_le_bytes w32 t.lock_time)))
      ≡ Some ((t.inputs, t.outputs), flat_map items_text items ++ to_le_bytes w32 t.lock_time)
  sides = sides_back t (flat_map items_text items ++ to_le_bytes w32 t.lock_time) s.few_inputs s.inputs s.few_outputs s.outputs

  witnesses : first_many first_witness (length t.inputs) (flat_map items_text items ++ to_le_bytes w32 t.lock_time) ≡ Some (items, to_le_bytes w32 t.lock_time)
  witnesses =
      ap (λ n. first_many first_witness n (flat_map items_text items ++ to_le_bytes w32 t.lock_time)) (sym long)
      ∙ many_back AreItems items_text first_witness witness_back items (to_le_bytes w32 t.lock_time) are

  lock_time : first_number w32 (to_le_bytes w32 t.lock_time) ≡ Some (t.lock_time, [])
  lock_time = number_32_back t.lock_time [] s.lock_time

  witnessed_back : witnessed_transaction_of text ≡ Some t
  unfolding witnessed_transaction_of whole
  witnessed_back =
      let has_input : nat_lt 0 (length t.inputs) ≡ true = lt-ltb 0 (length t.inputs) (omega (arith, some)) in
      rw (first_version, marker, sides, witnesses, lock_time, has_input) refl

  items_back : witnesses_of text ≡ Some items
  unfolding witnesses_of whole
  items_back = rw (first_version, marker, sides, witnesses, lock_time) refl

  form : (nat_lt 4 (length text) && (slice_index text 4 == 0)) ≡ true
  form =
      let large : nat_lt 4 (length text) ≡ true = lt-ltb 4 (length text) (omega arith) in
      ap (λ b. b && true) large

  witnessed_network : network_transaction_of text ≡ Some t
  unfolding network_transaction_of
  witnessed_network = ap (λ b. cond b (witnessed_transaction_of text) (transaction_of text)) form ∙ witnessed_back

  witnessed_items : network_witnesses_of text ≡ Some items
  unfolding network_witnesses_of
  witnessed_items = ap (λ b. cond b (witnesses_of text) (option_map no_witness (transaction_of text))) form ∙ items_back

-- ---- a PSBT that is whole

no_item : (o : Option Bytes) → has_item o ≡ false → unwrap_or o (0x00 ∷ []) ≡ 0x00 ∷ []
no_item None e = refl
no_item (Some value) e = (bytes_eq-Decides value (0x00 ∷ [])).0 (not-false _ e)

no_byte : (o : Option Bytes) → has_byte o ≡ false → unwrap_or o [] ≡ []
no_byte None e = refl
no_byte (Some value) e = (bytes_eq-Decides value []).0 (not-false _ e)

abbrev read_items : Map → Option (List Bytes)
read_items fields = forms.witness_of (final_witness fields)

none_of_maps : (ins : List TransactionInput) (maps : List Map) → length maps ≡ length ins → list_any (λ fields. has_item (field IN_FINAL_SCRIPTWITNESS fields)) maps ≡ false
    → map read_items maps ≡ map Some (map (λ input. []) ins)
none_of_maps [] [] same e = refl
none_of_maps [] (fields ∷ maps) same e = absurd (omega (arith, same))
none_of_maps (input ∷ ins) [] same e = absurd (omega (arith, same))
none_of_maps (input ∷ ins) (fields ∷ maps) same e =
    let p = or_parts (has_item (field IN_FINAL_SCRIPTWITNESS fields)) (list_any (λ fields. has_item (field IN_FINAL_SCRIPTWITNESS fields)) maps) e in
    let first = no_item (field IN_FINAL_SCRIPTWITNESS fields) p.0 in
    let rest = none_of_maps ins maps (omega (arith, same)) p.1 in
    ap (λ o. o ∷ map read_items maps) (ap forms.witness_of first ∙ no_items) ∙ ap (λ l. Some [] ∷ l) rest

good_maps : (psbt : Psbt) → IsWhole psbt → AreGood psbt.inputs
good_maps psbt whole =
    let sound = whole.sound in
    all_good (version_of psbt.global) psbt.inputs (recursion_from_All (IsWholeMap (input_rules (version_of psbt.global))) psbt.inputs sound.inputs)
    (recursion_from_All IsMapOfBytes psbt.inputs whole.inputs)

final_is : (psbt : Psbt) → IsWhole psbt → AreFinal psbt.transaction.inputs (final_inputs psbt.transaction.inputs psbt.inputs) psbt.inputs
final_is psbt whole =
    let t = whole.transaction in
    let sound = whole.sound in
    are_final psbt.transaction.inputs psbt.inputs (recursion_from_All IsInput psbt.transaction.inputs t.inputs) (good_maps psbt whole) (as_many_inputs psbt sound)

spelled : (psbt : Psbt) → IsWhole psbt → IsSpelled (final_transaction psbt)
spelled psbt whole =
    let t = whole.transaction in
    let f = final_is psbt whole in
    let long = f.long in
    let few = t.few_inputs in
    record {
      version = t.version;
      inputs = f.spelled;
      few_inputs = omega (arith, long, few);
      outputs = recursion_from_All IsOutput psbt.transaction.outputs t.outputs;
      few_outputs = t.few_outputs;
      lock_time = t.lock_time;
    }

-- what is read has all that the PSBT has
read_as : (psbt : Psbt) (bytes : Bytes) (witnesses : List (List Bytes)) → IsWhole psbt → network_transaction_of bytes ≡ Some (final_transaction psbt)
    → network_witnesses_of bytes ≡ Some witnesses → map read_items psbt.inputs ≡ map Some witnesses → IsReadAs psbt bytes
read_as psbt bytes witnesses whole read witnessed items =
    let f = final_is psbt whole in
    record {
      transaction = final_transaction psbt;
      read = read;
      version = refl;
      outpoints = f.outpoints;
      sequences = f.sequences;
      outputs = refl;
      lock_time = refl;
      script_sigs = f.script_sigs;
      witnesses = witnesses;
      witnessed = witnessed;
      items = items;
    }

pub network_is_read : EachIsSound → NetworkIsRead
network_is_read law source psbt fits e some =
    let whole = law source psbt fits e in
    let f = final_is psbt whole in
    let sound = whole.sound in
    let each = as_many_inputs psbt sound in
    let same = f.long in
    let one : 1 ≤ length (final_transaction psbt).inputs = omega (arith, some, each, same) in
    let s = spelled psbt whole in
    elim (cases_Bool (list_any (λ fields. has_item (field IN_FINAL_SCRIPTWITNESS fields)) psbt.inputs)) [
      | inl is ↦
          let h = have_items psbt.inputs (good_maps psbt whole) in
          let own = h.long in
          let long : length h.items ≡ length (final_transaction psbt).inputs = omega (arith, own, each, same) in
          let o = ordered (final_transaction psbt) (map final_witness psbt.inputs) h.items h.text in
          rw is (read_as psbt _ h.items whole (ap network_transaction_of o ∙ witnessed_network (final_transaction psbt) s h.items h.are long one)
          (ap network_witnesses_of o ∙ witnessed_items (final_transaction psbt) s h.items h.are long one) h.read)
      | inr is ↦
          rw is (read_as psbt _ (no_witness (final_transaction psbt)) whole (plain_network (final_transaction psbt) s one)
          (plain_witnesses (final_transaction psbt) s one)
          (none_of_maps (final_inputs psbt.transaction.inputs psbt.inputs) psbt.inputs (omega (arith, each, same)) is))
    ]

-- ---- the id

unsigned_form : (pair : Pair) (t : Transaction) → HasShape global_form pair → (type_of pair.key == 0x00) ≡ true → transaction_of pair.value ≡ Some t → list_all forms.has_no_script_sig t.inputs ≡ true
unfolding global_form
unsigned_form pair t shape is e =
    let type : type_of pair.key ≡ 0x00 = eqb-true (type_of pair.key) 0x00 is in
    let told = passed (forms.is_unsigned (transaction_of pair.value)) (subst (λ (n : ℕ). (global_form n).value (data_of pair.key) pair.value ≡ None) type (form_of global_form pair shape).1) in
    (and_parts (list_all forms.has_no_script_sig t.inputs) _ (subst (λ o. forms.is_unsigned o ≡ true) e told)).0

unsigned_in : (t : Transaction) (global : Map) → AllByRecursion (HasShape global_form) global → transaction_in_pair (pair_of_type 0x00 global) ≡ Some t
    → list_all forms.has_no_script_sig t.inputs ≡ true
unsigned_in t [] all e = absurd cc
unsigned_in t (pair ∷ global) all e = elim (cases_Bool (type_of pair.key == 0x00)) [
  | inl is ↦ unsigned_form pair t all.0 is (rw is at e)
  | inr other ↦ unsigned_in t global all.1 (rw other at e)
]

pub same_inputs : (ins : List TransactionInput) (maps : List Map) → length maps ≡ length ins → list_all forms.has_no_script_sig ins ≡ true
    → AllByRecursion (λ fields. has_byte (field IN_FINAL_SCRIPTSIG fields) ≡ false) maps → final_inputs ins maps ≡ ins
same_inputs [] [] same bare none = refl
same_inputs [] (fields ∷ maps) same bare none = absurd (omega (arith, same))
same_inputs (input ∷ ins) [] same bare none = absurd (omega (arith, same))
same_inputs (input ∷ ins) (fields ∷ maps) same bare none =
    let parts = and_parts (forms.has_no_script_sig input) (list_all forms.has_no_script_sig ins) bare in
    let own : input.script_sig ≡ [] = nil_from_length input.script_sig (omega (arith, leb-true (length input.script_sig) 0 parts.0)) in
    let new = no_byte (field IN_FINAL_SCRIPTSIG fields) none.0 in
    ap (λ (sig : Bytes). record input { script_sig = sig } ∷ final_inputs ins maps) (new ∙ sym own)
    ∙ ap (λ l. input ∷ l) (same_inputs ins maps (omega (arith, same)) parts.1 none.1)

bare_fields : (inputs : List Map) → list_all forms.has_no_script_sig (map input_of inputs) ≡ true
bare_fields [] = refl
bare_fields (fields ∷ inputs) = bare_fields inputs

pub bare_inputs : (psbt : Psbt) → IsSound psbt → list_all forms.has_no_script_sig psbt.transaction.inputs ≡ true
bare_inputs psbt sound =
    subst (λ (t : Transaction). list_all forms.has_no_script_sig t.inputs ≡ true) (sym sound.transaction) (go (version_of psbt.global) sound.outline sound.said)
  where
    go : (version : PsbtVersion) (outline : Outline) → outline_in version psbt.global ≡ Some outline
        → list_all forms.has_no_script_sig (transaction_by outline psbt.global psbt.inputs psbt.outputs).inputs ≡ true
    go version.Zero (given transaction) said =
        unsigned_in transaction psbt.global (shapes global_form [] psbt.global sound.global) (given_is (transaction_in psbt.global) transaction said)
    go version.Two (given transaction) said = absurd (not_given psbt.global transaction said)
    go version (counted inputs outputs) said = bare_fields psbt.inputs

pub id_stays : EachIsSound → IdStays
id_stays law source psbt fits e none =
    let whole = law source psbt fits e in
    let sound = whole.sound in
    let bare = bare_inputs psbt sound in
    let same = same_inputs psbt.transaction.inputs psbt.inputs (as_many_inputs psbt sound) bare
    (recursion_from_All (λ fields. has_byte (field IN_FINAL_SCRIPTSIG fields) ≡ false) psbt.inputs none) in
    ap (λ ins. id_of (record psbt.transaction { inputs = ins })) same
