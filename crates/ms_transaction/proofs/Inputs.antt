-- Inputs without scriptSigs have 41 bytes each.
use Rattle.std.proofs.Common.{◌≡◌, ℕ, zero, suc, ◌+◌, ◌*◌, ◌^◌, ◌<◌, ◌≤◌, ◌&&◌, nat_le, not, Bool, true, false, cond, List, [], ◌∷◌, ◌++◌, length, length-append, take, drop, Some, None, refl, sym, ap, subst, ◌∙◌, append_assoc, arith}
use Rattle.std.proofs.lemmas.Bool.{leb-true}
use Rattle.std.proofs.lemmas.List.{append-nil, take_at, drop_at, drop-drop, nil_from_length}
use Rattle.std.proofs.lemmas.List.Concat.{flat_map-cons}
use Rattle.std.proofs.lemmas.List.Elements.{All-from_recursion}
use Rattle.std.specs.Int.{w32, to_le_bytes, from_le_bytes}
use Rattle.std.specs.List.{flat_map, list_all, All, AllByRecursion}
use Rattle.std.specs.Prelude.{slice_get}
use Rattle.def_script.specs.Bytes.{Bytes, IsBytes}
use Rattle.def_script.specs.Sizes.{size_bytes}
use Rattle.def_script.specs.Witness.{sized}
use Rattle.def_psbt.specs.Forms.{has_no_script_sig, outpoint_texts, stands_twice, is_unsigned}
use Rattle.def_psbt.specs.Part.{◌>>=◌, first_number, first_list, whole}
use Rattle.def_psbt.specs.Transaction.{TransactionInput, TransactionOutput, Transaction, outpoint_text, input_text}
use Rattle.def_psbt.specs.TransactionReading.{first_input, first_output, first_sides, transaction_of}
use Rattle.ms_transaction.specs.Parts.{inputs_in, input_or_none, input_in}
use Rattle.ms_transaction.specs.Unsigned.{IsUnsigned}
use Rattle.ms_transaction.specs.Scaffolding.Spelled.{IsInput, AreInputs, IsEmptyInput}
use Rattle.ms_transaction.proofs.Fronts.{bind_some, some_is, u32_spelled, list_spelled}
use Rattle.ms_transaction.proofs.Spelling.{input_spelled, input_back, inputs_back}

-- ---- one input

pub input_is : (bytes : Bytes) → (h : IsEmptyInput bytes) → input_in bytes ≡ h.input
input_is bytes h = ap input_or_none (ap first_input (h.text ∙ sym (append-nil (input_text h.input))) ∙ input_back h.input [] h.spelled)

-- its bytes: the id, the number, the size 0, the sequence number
parts_of : (input : TransactionInput) → IsUnsigned input → input_text input ≡ input.outpoint.id ++ (to_le_bytes w32 input.outpoint.index ++ (0x00 ∷ to_le_bytes w32 input.sequence))
unfolding size_bytes
parts_of input h =
    ap (λ (x : Bytes). outpoint_text input.outpoint ++ (sized x ++ to_le_bytes w32 input.sequence)) h.script_sig
    ∙ append_assoc input.outpoint.id (to_le_bytes w32 input.outpoint.index) (0x00 ∷ to_le_bytes w32 input.sequence)

pub input_long : (input : TransactionInput) → IsUnsigned input → length (input_text input) ≡ 41
input_long input h =
    let id = h.id in
    let long : length (input_text input) ≡ length input.outpoint.id + 9 = ap length (parts_of input h)
    ∙ length-append input.outpoint.id (to_le_bytes w32 input.outpoint.index ++ (0x00 ∷ to_le_bytes w32 input.sequence)) in
    omega arith

pub text_is : (bytes : Bytes) → (h : IsEmptyInput bytes) → bytes ≡ input_text (input_in bytes)
text_is bytes h = h.text ∙ ap input_text (sym (input_is bytes h))

pub bytes_long : (bytes : Bytes) → IsEmptyInput bytes → length bytes ≡ 41
bytes_long bytes h = ap length h.text ∙ input_long h.input h.unsigned

pub unsigned_is : (bytes : Bytes) → IsEmptyInput bytes → IsUnsigned (input_in bytes)
unsigned_is bytes h = subst IsUnsigned (sym (input_is bytes h)) h.unsigned

pub id_is : (bytes : Bytes) → IsEmptyInput bytes → take 32 (drop 0 bytes) ≡ (input_in bytes).outpoint.id
id_is bytes h =
    ap (take 32) (h.text ∙ parts_of h.input h.unsigned) ∙ take_at h.input.outpoint.id (to_le_bytes w32 h.input.outpoint.index ++ (0x00 ∷ to_le_bytes w32 h.input.sequence)) 32 h.unsigned.id
    ∙ ap (λ (i : TransactionInput). i.outpoint.id) (sym (input_is bytes h))

pub index_is : (bytes : Bytes) → IsEmptyInput bytes → from_le_bytes w32 (take 4 (drop 32 bytes)) ≡ (input_in bytes).outpoint.index
index_is bytes h =
    let behind : drop 32 bytes ≡ to_le_bytes w32 h.input.outpoint.index ++ (0x00 ∷ to_le_bytes w32 h.input.sequence) =
    ap (drop 32) (h.text ∙ parts_of h.input h.unsigned) ∙ drop_at h.input.outpoint.id (to_le_bytes w32 h.input.outpoint.index ++ (0x00 ∷ to_le_bytes w32 h.input.sequence)) 32 h.unsigned.id in
    let number : take 4 (drop 32 bytes) ≡ to_le_bytes w32 h.input.outpoint.index = ap (take 4) behind in
    ap (from_le_bytes w32) number ∙ h.spelled.index ∙ ap (λ (i : TransactionInput). i.outpoint.index) (sym (input_is bytes h))

pub sequence_is : (bytes : Bytes) → IsEmptyInput bytes → from_le_bytes w32 (take 4 (drop 37 bytes)) ≡ (input_in bytes).sequence
sequence_is bytes h =
    let behind : drop 32 bytes ≡ to_le_bytes w32 h.input.outpoint.index ++ (0x00 ∷ to_le_bytes w32 h.input.sequence) =
    ap (drop 32) (h.text ∙ parts_of h.input h.unsigned) ∙ drop_at h.input.outpoint.id (to_le_bytes w32 h.input.outpoint.index ++ (0x00 ∷ to_le_bytes w32 h.input.sequence)) 32 h.unsigned.id in
    let last : drop 37 bytes ≡ to_le_bytes w32 h.input.sequence = sym (drop-drop 5 32 bytes) ∙ ap (drop 5) behind in
    ap (λ (x : Bytes). from_le_bytes w32 (take 4 x)) last ∙ h.spelled.sequence ∙ ap (λ (i : TransactionInput). i.sequence) (sym (input_is bytes h))

-- ---- the input with a number

pub record InputAt (bytes : Bytes) (inputs : List TransactionInput) (number : ℕ) : Type 0 where
  pub input : TransactionInput
  pub is : slice_get inputs number ≡ Some input
  pub inside : 41 * number + 41 ≤ length bytes
  pub text : take 41 (drop (41 * number) bytes) ≡ input_text input
  pub spelled : IsInput input
  pub unsigned : IsUnsigned input

input_at : (inputs : List TransactionInput) (number : ℕ) → number < length inputs → AllByRecursion IsInput inputs → All IsUnsigned inputs → InputAt (flat_map input_text inputs) inputs number
input_at [] number inside each unsigned = absurd (omega arith)
input_at (input ∷ inputs) zero inside each unsigned =
    let one : IsUnsigned input = unsigned 0 input (omega arith) in
    let long : length (input_text input) ≡ 41 = input_long input one in
    let cons : flat_map input_text (input ∷ inputs) ≡ input_text input ++ flat_map input_text inputs = flat_map-cons input_text input inputs in
    record {
      input = input;
      is = refl;
      inside = omega (arith, ap length cons, length-append (input_text input) (flat_map input_text inputs));
      text = ap (take 41) cons ∙ take_at (input_text input) (flat_map input_text inputs) 41 long;
      spelled = each.0;
      unsigned = one;
    }
input_at (input ∷ inputs) (suc number) inside each unsigned =
    let one : IsUnsigned input = unsigned 0 input (omega arith) in
    let long : length (input_text input) ≡ 41 = input_long input one in
    let cons : flat_map input_text (input ∷ inputs) ≡ input_text input ++ flat_map input_text inputs = flat_map-cons input_text input inputs in
    let others = input_at inputs number (omega arith) each.1 (λ k d less. unsigned (suc k) d (omega arith)) in
    let inside_others = others.inside in
    let further : 41 * suc number ≡ 41 + 41 * number = omega arith in
    let behind : drop (41 * suc number) (flat_map input_text (input ∷ inputs)) ≡ drop (41 * number) (flat_map input_text inputs) =
    ap (λ (n : ℕ). drop n (flat_map input_text (input ∷ inputs))) further ∙ sym (drop-drop (41 * number) 41 (flat_map input_text (input ∷ inputs)))
    ∙ ap (λ (x : Bytes). drop (41 * number) (drop 41 x)) cons ∙ ap (drop (41 * number)) (drop_at (input_text input) (flat_map input_text inputs) 41 long) in
    record {
      input = others.input;
      is = others.is;
      inside = omega (arith, ap length cons, length-append (input_text input) (flat_map input_text inputs));
      text = ap (take 41) behind ∙ others.text;
      spelled = others.spelled;
      unsigned = others.unsigned;
    }

pub input_cut : (bytes : Bytes) (number : ℕ) → AreInputs bytes → number < length (inputs_in bytes) → All IsUnsigned (inputs_in bytes) → InputAt bytes (inputs_in bytes) number
input_cut bytes number h less unsigned =
    let are : inputs_in bytes ≡ h.inputs = inputs_back bytes h.inputs h.text h.each in
    let at = input_at h.inputs number (subst (λ (xs : List TransactionInput). number < length xs) are less) h.each (subst (λ (xs : List TransactionInput). All IsUnsigned xs) are unsigned) in
    subst (λ (b : Bytes). InputAt b (inputs_in bytes) number) (sym h.text) (subst (λ (xs : List TransactionInput). InputAt (flat_map input_text h.inputs) xs number) (sym are) at)

pub cut_is_empty : (bytes text : Bytes) (inputs : List TransactionInput) (number : ℕ) → InputAt bytes inputs number → text ≡ take 41 (drop (41 * number) bytes) → IsEmptyInput text
cut_is_empty bytes text inputs number at e = record { input = at.input; text = e ∙ at.text; spelled = at.spelled; unsigned = at.unsigned }

pub cut_is : (bytes text : Bytes) (inputs : List TransactionInput) (number : ℕ) → InputAt bytes inputs number → text ≡ take 41 (drop (41 * number) bytes)
    → slice_get inputs number ≡ Some (input_in text)
cut_is bytes text inputs number at e =
    let empty : IsEmptyInput text = record { input = at.input; text = e ∙ at.text; spelled = at.spelled; unsigned = at.unsigned } in
    at.is ∙ ap (λ (i : TransactionInput). Some i) (sym (input_is text empty))

-- ---- the inputs of a transaction that isn't signed

-- each input of a transaction that is read has an id of 32 bytes
each_input : (bytes : Bytes) (transaction : Transaction) → length bytes < 2 ^ 64 → IsBytes bytes → transaction_of bytes ≡ Some transaction → AllByRecursion IsInput transaction.inputs
unfolding transaction_of first_sides whole
each_input bytes transaction small fits e =
    let v = bind_some (first_number w32 bytes) (λ version. first_sides version.1 >>= λ sides. first_number w32 sides.1
    >>= λ lock_time. whole (Some (record { version = version.0; inputs = sides.0.0; outputs = sides.0.1; lock_time = lock_time.0 }, lock_time.1))) transaction e in
    let version = u32_spelled bytes v.0 fits v.1 in
    let shorter : length bytes ≡ length (to_le_bytes w32 v.0.0) + length v.0.1 = ap length version.is ∙ length-append (to_le_bytes w32 v.0.0) v.0.1 in
    let s = bind_some (first_sides v.0.1) (λ sides. first_number w32 sides.1
    >>= λ lock_time. whole (Some (record { version = v.0.0; inputs = sides.0.0; outputs = sides.0.1; lock_time = lock_time.0 }, lock_time.1))) transaction v.2 in
    let i = bind_some (first_list first_input v.0.1) (λ inputs. first_list first_output inputs.1 >>= λ outputs. Some ((inputs.0, outputs.0), outputs.1)) s.0 s.1 in
    let o = bind_some (first_list first_output i.0.1) (λ outputs. Some ((i.0.0, outputs.0), outputs.1)) s.0 i.2 in
    let t = bind_some (first_number w32 s.0.1) (λ lock_time. whole (Some (record { version = v.0.0; inputs = s.0.0.0; outputs = s.0.0.1; lock_time = lock_time.0 }, lock_time.1))) transaction s.2 in
    let l = list_spelled first_input input_text IsInput input_spelled v.0.1 i.0 (omega arith) version.fits i.1 in
    let sides_are : i.0.0 ≡ s.0.0.0 = ap (λ (p : (List TransactionInput × List TransactionOutput) × Bytes). p.0.0) (some_is ((i.0.0, o.0.0), o.0.1) s.0 o.2) in
    let made : Transaction = record { version = v.0.0; inputs = s.0.0.0; outputs = s.0.0.1; lock_time = t.0.0 } in
    let same : made ≡ transaction = all_of (nat_le (length t.0.1) 0) made transaction t.2 in
    subst (λ (x : Transaction). AllByRecursion IsInput x.inputs) same (subst (λ (xs : List TransactionInput). AllByRecursion IsInput xs) sides_are l.3.each)
  where
    all_of : (b : Bool) (x y : Transaction) → cond b (Some x) None ≡ Some y → x ≡ y
    all_of true x y e = some_is x y e
    all_of false x y e = absurd cc

both_true : (a b : Bool) → (a && b) ≡ true → (a ≡ true) × (b ≡ true)
both_true true true e = (refl, refl)
both_true true false e = (refl, e)
both_true false b e = absurd cc

each_unsigned : (inputs : List TransactionInput) → AllByRecursion IsInput inputs → list_all has_no_script_sig inputs ≡ true → AllByRecursion IsUnsigned inputs
each_unsigned [] each e = tt
each_unsigned (input ∷ inputs) each e =
    let b = both_true (has_no_script_sig input) (list_all has_no_script_sig inputs) e in
    let none : length input.script_sig ≤ 0 = leb-true _ _ b.0 in
    (record { id = each.0.id; script_sig = nil_from_length input.script_sig (omega arith) }, each_unsigned inputs each.1 b.1)

pub all_unsigned : (bytes : Bytes) (transaction : Transaction) → length bytes < 2 ^ 64 → IsBytes bytes → transaction_of bytes ≡ Some transaction
    → is_unsigned (Some transaction) ≡ true → All IsUnsigned transaction.inputs
all_unsigned bytes transaction small fits e unsigned =
    let b = both_true (list_all has_no_script_sig transaction.inputs) (not (stands_twice (outpoint_texts transaction.inputs))) unsigned in
    All-from_recursion IsUnsigned transaction.inputs (each_unsigned transaction.inputs (each_input bytes transaction small fits e) b.0)
