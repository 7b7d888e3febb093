-- The bytes of a transaction, written from fields.
use Rattle.std.proofs.Common.{◌≡◌, ℕ, List, [], ◌∷◌, ◌++◌, length, map, Some, refl, sym, ap, ◌∙◌, append_assoc}
use Rattle.std.proofs.lemmas.List.{length-map, append-nil}
use Rattle.std.proofs.lemmas.List.Concat.{flat_map-cons}
use Rattle.std.specs.Int.{w32, w64, to_le_bytes, from_le_bytes}
use Rattle.std.specs.List.{flat_map}
use Rattle.def_script.specs.Bytes.{Bytes}
use Rattle.def_script.specs.Sizes.{size_bytes}
use Rattle.def_script.specs.Witness.{sized}
use Rattle.def_psbt.specs.Map.{Map, value_of_type}
use Rattle.def_psbt.specs.Fields.{value_in, number_or, input_of, output_of}
use Rattle.def_psbt.specs.Transaction.{input_text, output_text}

pub input_is : (old id a b c new : Bytes) (index sequence : ℕ) (fields : Map) → id ≡ value_in 0x0e fields → index ≡ from_le_bytes w32 (value_in 0x0f fields)
    → sequence ≡ number_or 0xffffffff (value_of_type 0x10 fields) → a ≡ old ++ id → b ≡ a ++ to_le_bytes w32 index → c ≡ b ++ 0x00 ∷ [] → new ≡ c ++ to_le_bytes w32 sequence
    → new ≡ old ++ input_text (input_of fields)
unfolding size_bytes
input_is old id a b c new index sequence fields i x s p q r t =
    t ∙ ap (λ (b : Bytes). b ++ to_le_bytes w32 sequence) (r ∙ ap (λ (b : Bytes). b ++ 0x00 ∷ []) (q ∙ ap (λ (b : Bytes). b ++ to_le_bytes w32 index) p))
    ∙ joined old id (to_le_bytes w32 index) (to_le_bytes w32 sequence)
    ∙ ap (λ (b : Bytes). old ++ ((b ++ to_le_bytes w32 index) ++ (0x00 ∷ to_le_bytes w32 sequence))) i
    ∙ ap (λ (n : ℕ). old ++ ((value_in 0x0e fields ++ to_le_bytes w32 n) ++ (0x00 ∷ to_le_bytes w32 sequence))) x
    ∙ ap (λ (n : ℕ). old ++ ((value_in 0x0e fields ++ to_le_bytes w32 (from_le_bytes w32 (value_in 0x0f fields))) ++ (0x00 ∷ to_le_bytes w32 n))) s
  where
    joined : (old id x y : Bytes) → (((old ++ id) ++ x) ++ 0x00 ∷ []) ++ y ≡ old ++ ((id ++ x) ++ (0x00 ∷ y))
    joined old id x y = simp append_assoc

pub output_is : (old script a new : Bytes) (amount : ℕ) (fields : Map) → amount ≡ from_le_bytes w64 (value_in 0x03 fields) → script ≡ value_in 0x04 fields
    → a ≡ old ++ to_le_bytes w64 amount → new ≡ a ++ sized script → new ≡ old ++ output_text (output_of fields)
output_is old script a new amount fields x s p q =
    q ∙ ap (λ (b : Bytes). b ++ sized script) p ∙ append_assoc old (to_le_bytes w64 amount) (sized script)
    ∙ ap (λ (n : ℕ). old ++ (to_le_bytes w64 n ++ sized script)) x
    ∙ ap (λ (b : Bytes). old ++ (to_le_bytes w64 (from_le_bytes w64 (value_in 0x03 fields)) ++ sized b)) s

-- the number of a field that has to be there
pub number_there : (type : ℕ) (fields : Map) (value : Bytes) → value_of_type type fields ≡ Some value → number_or 0 (value_of_type type fields) ≡ from_le_bytes w32 (value_in type fields)
number_there type fields value e = rw e refl

pub amount_there : (type : ℕ) (fields : Map) (value : Bytes) → value_of_type type fields ≡ Some value → from_le_bytes w64 value ≡ from_le_bytes w64 (value_in type fields)
amount_there type fields value e = rw e refl

-- the parts of a transaction together
pub transaction_is : (version lock_time : ℕ) (inputs outputs a b c new : Bytes) → a ≡ [] ++ to_le_bytes w32 version → b ≡ a ++ inputs → c ≡ b ++ outputs → new ≡ c ++ to_le_bytes w32 lock_time
    → new ≡ to_le_bytes w32 version ++ (inputs ++ (outputs ++ to_le_bytes w32 lock_time))
transaction_is version lock_time inputs outputs a b c new p q r s =
    s ∙ ap (λ (x : Bytes). x ++ to_le_bytes w32 lock_time) (r ∙ ap (λ (x : Bytes). x ++ outputs) (q ∙ ap (λ (x : Bytes). x ++ inputs) p))
    ∙ joined (to_le_bytes w32 version) (to_le_bytes w32 lock_time)
  where
    joined : (v l : Bytes) → ((v ++ inputs) ++ outputs) ++ l ≡ v ++ (inputs ++ (outputs ++ l))
    joined v l = simp append_assoc

-- ---- one more of them

pub more_text : {A : Type 0} (text : A → Bytes) (part : Map → A) (old new : Bytes) (fields : Map) (rest : List Map) (total : Bytes) → new ≡ old ++ text (part fields)
    → old ++ flat_map text (map part (fields ∷ rest)) ≡ total → new ++ flat_map text (map part rest) ≡ total
more_text text part old new fields rest total is e =
    ap (λ (b : Bytes). b ++ flat_map text (map part rest)) is ∙ append_assoc old (text (part fields)) (flat_map text (map part rest))
    ∙ ap (λ (b : Bytes). old ++ b) (sym (flat_map-cons text (part fields) (map part rest))) ∙ e

pub all_texts : {A : Type 0} (text : A → Bytes) (part : Map → A) (before after now : Bytes) (n : ℕ) (maps : List Map) → after ≡ before ++ size_bytes n → n ≡ length maps
    → now ++ [] ≡ after ++ flat_map text (map part maps) → now ≡ before ++ (size_bytes (length (map part maps)) ++ flat_map text (map part maps))
all_texts text part before after now n maps size many e =
    sym (append-nil now) ∙ e ∙ ap (λ (b : Bytes). b ++ flat_map text (map part maps)) size ∙ append_assoc before (size_bytes n) (flat_map text (map part maps))
    ∙ ap (λ (k : ℕ). before ++ (size_bytes k ++ flat_map text (map part maps))) (many ∙ sym (length-map maps part))
