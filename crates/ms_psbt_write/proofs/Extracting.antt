-- The network transaction, input by input.
use Rattle.std.proofs.Common.{◌≡◌, ℕ, suc, ◌+◌, ◌||◌, Bool, true, false, List, [], ◌∷◌, ◌++◌, length, drop, map, Option, Some, None, refl, sym, ap, ◌∙◌, append_assoc, arith}
use Rattle.std.proofs.lemmas.List.{drop_more}
use Rattle.std.proofs.lemmas.Option.{slice_get_within, get_or_from_slice_get}
use Rattle.std.specs.List.{flat_map, list_any}
use Rattle.std.specs.Prelude.{slice_get, unwrap_or}
use Rattle.def_script.specs.Bytes.{Bytes}
use Rattle.def_script.specs.Sizes.{size_bytes}
use Rattle.def_psbt.specs.Map.{Map}
use Rattle.def_psbt.specs.Transaction.{TransactionInput, TransactionOutput, input_text, output_text, inputs_text, outputs_text}
use Rattle.def_psbt.specs.Types.{IN_FINAL_SCRIPTSIG}
use Rattle.def_spend.specs.Fields.{field}
use Rattle.def_spend.specs.Finalized.{final_inputs, final_witness}
use Rattle.def_spend.specs.Reading.{has_item}

-- the element at a place, and those behind it
here : {A : Type 0} (xs : List A) (k : ℕ) (x : A) → slice_get xs k ≡ Some x → drop k xs ≡ x ∷ drop (k + 1) xs
here xs k x e = drop_more xs k x (slice_get_within xs k x e) ∙ ap (λ y. y ∷ drop (k + 1) xs) (get_or_from_slice_get xs k x x e)

-- ---- whether one passes

pub any_here : (p : Map → Bool) (xs : List Map) (k : ℕ) (x : Map) (total : Bool) → slice_get xs k ≡ Some x → p x ≡ true → list_any p (drop k xs) ≡ total → true ≡ total
any_here p xs k x total e passes all = let at : drop k xs ≡ x ∷ drop (k + 1) xs = here xs k x e in sym (ap (λ b. b || list_any p (drop (k + 1) xs)) passes) ∙ ap (list_any p) (sym at) ∙ all

pub any_next : (p : Map → Bool) (xs : List Map) (k : ℕ) (x : Map) (total : Bool) → slice_get xs k ≡ Some x → p x ≡ false → list_any p (drop k xs) ≡ total → list_any p (drop (k + 1) xs) ≡ total
any_next p xs k x total e fails all = let at : drop k xs ≡ x ∷ drop (k + 1) xs = here xs k x e in sym (ap (λ b. b || list_any p (drop (k + 1) xs)) fails) ∙ ap (list_any p) (sym at) ∙ all

-- a witness that isn't there has no item
pub item_in : (value : Option Bytes) → has_item (Some (unwrap_or value (0x00 ∷ []))) ≡ has_item value
item_in (Some value) = refl
item_in None = refl

-- ---- one more

pub witness_next : (maps : List Map) (k : ℕ) (fields : Map) (witness before after total : Bytes) → slice_get maps k ≡ Some fields → witness ≡ final_witness fields → after ≡ before ++ witness
    → before ++ flat_map (λ witness. witness) (map final_witness (drop k maps)) ≡ total → after ++ flat_map (λ witness. witness) (map final_witness (drop (k + 1) maps)) ≡ total
witness_next maps k fields witness before after total e w a all =
    let rest = flat_map (λ (x : Bytes). x) (map final_witness (drop (k + 1) maps)) in
    ap (λ (x : Bytes). x ++ flat_map (λ (x : Bytes). x) (map final_witness (drop (k + 1) maps))) (a ∙ ap (λ (x : Bytes). before ++ x) w)
    ∙ append_assoc before (final_witness fields) (flat_map (λ (x : Bytes). x) (map final_witness (drop (k + 1) maps)))
    ∙ ap (λ (xs : List Map). before ++ flat_map (λ (x : Bytes). x) (map final_witness xs)) (sym (here maps k fields e)) ∙ all

pub input_next : (inputs : List TransactionInput) (maps : List Map) (k : ℕ) (input : TransactionInput) (fields : Map) (script_sig before after total : Bytes)
    → slice_get inputs k ≡ Some input → slice_get maps k ≡ Some fields → script_sig ≡ unwrap_or (field IN_FINAL_SCRIPTSIG fields) [] → after ≡ before
    ++ input_text (record input { script_sig = script_sig })
    → before ++ flat_map input_text (final_inputs (drop k inputs) (drop k maps)) ≡ total → after ++ flat_map input_text (final_inputs (drop (k + 1) inputs) (drop (k + 1) maps)) ≡ total
input_next inputs maps k input fields script_sig before after total i m s a all =
    ap (λ (x : Bytes). x ++ flat_map input_text (final_inputs (drop (k + 1) inputs) (drop (k + 1) maps))) (a ∙ ap (λ (x : Bytes). before ++ input_text (record input { script_sig = x })) s)
    ∙ append_assoc before (input_text (record input { script_sig = unwrap_or (field IN_FINAL_SCRIPTSIG fields) [] })) (flat_map input_text (final_inputs (drop (k + 1) inputs) (drop (k + 1) maps)))
    ∙ ap (λ (xs : List TransactionInput). before ++ flat_map input_text (final_inputs xs (fields ∷ drop (k + 1) maps))) (sym (here inputs k input i))
    ∙ ap (λ (xs : List Map). before ++ flat_map input_text (final_inputs (drop k inputs) xs)) (sym (here maps k fields m)) ∙ all

-- ---- as many inputs as there were

pub as_many : (inputs : List TransactionInput) (maps : List Map) → length maps ≡ length inputs → length (final_inputs inputs maps) ≡ length inputs
as_many [] maps e = refl
as_many (input ∷ inputs) [] e = absurd (omega arith)
as_many (input ∷ inputs) (fields ∷ maps) e = ap suc (as_many inputs maps (omega arith))

-- ---- the pieces together

pub sides_joined : (before size inputs count outputs a b c after : Bytes) → a ≡ before ++ size → b ≡ a ++ inputs → c ≡ b ++ count → after ≡ c ++ outputs
    → after ≡ before ++ ((size ++ inputs) ++ (count ++ outputs))
sides_joined before size inputs count outputs a b c after p q r s =
    s ∙ ap (λ (x : Bytes). x ++ outputs) (r ∙ ap (λ (x : Bytes). x ++ count) (q ∙ ap (λ (x : Bytes). x ++ inputs) p)) ∙ simp append_assoc

-- ---- the inputs and the outputs

pub sides_are : (inputs : List TransactionInput) (maps : List Map) (outputs : List TransactionOutput) (n m : ℕ) (before a b c after : Bytes) → n ≡ length maps → n ≡ length inputs → m ≡ length outputs
    → a ≡ before ++ size_bytes n → b ≡ a ++ flat_map input_text (final_inputs inputs maps) → c ≡ b ++ size_bytes m → after ≡ c ++ flat_map output_text outputs
    → after ≡ before ++ (inputs_text (final_inputs inputs maps) ++ outputs_text outputs)
sides_are inputs maps outputs n m before a b c after nm ni mo p q r s =
    let many : n ≡ length (final_inputs inputs maps) = ni ∙ sym (as_many inputs maps (sym nm ∙ ni)) in
    sides_joined before (size_bytes (length (final_inputs inputs maps))) (flat_map input_text (final_inputs inputs maps)) (size_bytes (length outputs)) (flat_map output_text outputs) a b c after
    (p ∙ ap (λ (k : ℕ). before ++ size_bytes k) many) q (r ∙ ap (λ (k : ℕ). b ++ size_bytes k) mo) s
