-- The bytes of a transaction are spelled in one way.
use Rattle.std.proofs.Common.{◌≡◌, ℕ, ◌^◌, ◌<◌, ◌≤◌, nat_le, Bool, true, false, List, [], ◌∷◌, ◌++◌, length, Some, Result, Ok, inl, inr, refl, sym, ap, subst, ◌∙◌, append_assoc, length-append, arith}
use Rattle.std.specs.List.{flat_map}
use Rattle.std.specs.Int.{w32, to_le_bytes}
use Rattle.std.specs.Str.{bytes_eq}
use Rattle.std.proofs.lemmas.Bool.{cases_Bool, leb-true, false_from_ne_true, false≢true}
use Rattle.std.proofs.lemmas.Slice.Eq.{bytes_eq-Decides}
use Rattle.std.proofs.lemmas.List.{append-nil}
use Rattle.def_script.specs.Bytes.{Bytes, IsBytes}
use Rattle.def_script.specs.Sizes.{size_bytes}
use Rattle.def_psbt.specs.declared.Refusal.{Refusal}
use Rattle.def_psbt.specs.Laws.{IsSound}
use Rattle.def_psbt.specs.Map.{Psbt, psbt_text}
use Rattle.def_psbt.specs.Reading.{read_psbt}
use Rattle.def_psbt.specs.Part.{Part, ◌>>=◌, first_number, first_list, whole}
use Rattle.def_psbt.specs.Transaction.{TransactionInput, TransactionOutput, Transaction, input_text, output_text, inputs_text, outputs_text, transaction_text}
use Rattle.def_psbt.specs.TransactionReading.{first_input, first_output, first_sides, transaction_of}
use Rattle.ms_transaction.specs.Scaffolding.Spelled.{IsInput, IsOutput}
use Rattle.ms_transaction.proofs.Fronts.{bind_some, some_is, SpellsShort, u32_spelled, list_spelled}
use Rattle.ms_combine.specs.Scaffolding.Again.{SameOrNot, SaysTransaction}
use Rattle.ms_transaction.proofs.Spelling.{input_spelled, output_spelled}

-- a list behind its number, and the rest
record IsListed {A : Type 0} (text : A → Bytes) (bytes : Bytes) (part : List A × Bytes) : Type 0 where
  is : bytes ≡ (size_bytes (length part.0) ++ flat_map text part.0) ++ part.1
  fits : IsBytes part.1
  short : length part.1 ≤ length bytes

listed : {A : Type 0} (first : Bytes → Part A) (text : A → Bytes) (good : A → Type 0) → SpellsShort first text good → (bytes : Bytes) (part : List A × Bytes) → length bytes < 2 ^ 64
    → IsBytes bytes → first_list first bytes ≡ Some part → IsListed text bytes part
listed first text good spells bytes part small fits e =
    let l = list_spelled first text good spells bytes part small fits e in
    let many = l.3 in
    let is : bytes ≡ (size_bytes (length part.0) ++ flat_map text part.0) ++ part.1 =
    l.2 ∙ ap (λ (n : ℕ). size_bytes n ++ l.0.1) (sym many.number) ∙ ap (λ (x : Bytes). size_bytes (length part.0) ++ x) many.is
    ∙ sym (append_assoc (size_bytes (length part.0)) (flat_map text part.0) part.1) in
    let long = ap length is ∙ length-append (size_bytes (length part.0) ++ flat_map text part.0) part.1 in
    record { is = is; fits = many.fits; short = omega (arith, long) }

whole_is : {A : Type 0} (x y : A) (rest : Bytes) → whole (Some (x, rest)) ≡ Some y → (x ≡ y) × (rest ≡ [])
unfolding whole
whole_is x y [] e = (some_is x y e, refl)
whole_is x y (b ∷ rest) e = elim (cases_Bool (nat_le (length (b ∷ rest)) 0)) [
  | inl fits ↦ (let less = leb-true (length (b ∷ rest)) 0 fits in absurd (omega (arith, less)))
  | inr other ↦ (let none = rw other at e in absurd cc)
]

pub transaction_spelled : (bytes : Bytes) (t : Transaction) → length bytes < 2 ^ 64 → IsBytes bytes → transaction_of bytes ≡ Some t → bytes ≡ transaction_text t
unfolding transaction_of first_sides
transaction_spelled bytes t small fits e =
    let v = bind_some (first_number w32 bytes) (λ version. first_sides version.1 >>= λ sides. first_number w32 sides.1 >>= λ lock_time.
    whole (Some (record { version = version.0; inputs = sides.0.0; outputs = sides.0.1; lock_time = lock_time.0 }, lock_time.1))) t e in
    let s = bind_some (first_sides v.0.1) (λ sides. first_number w32 sides.1 >>= λ lock_time.
    whole (Some (record { version = v.0.0; inputs = sides.0.0; outputs = sides.0.1; lock_time = lock_time.0 }, lock_time.1))) t v.2 in
    let k = bind_some (first_number w32 s.0.1) (λ lock_time.
    whole (Some (record { version = v.0.0; inputs = s.0.0.0; outputs = s.0.0.1; lock_time = lock_time.0 }, lock_time.1))) t s.2 in
    let i = bind_some (first_list first_input v.0.1) (λ inputs. first_list first_output inputs.1 >>= λ outputs. Some ((inputs.0, outputs.0), outputs.1)) s.0 s.1 in
    let o = bind_some (first_list first_output i.0.1) (λ outputs. Some ((i.0.0, outputs.0), outputs.1)) s.0 i.2 in
    let sides : ((i.0.0, o.0.0), o.0.1) ≡ s.0 = some_is ((i.0.0, o.0.0), o.0.1) s.0 o.2 in
    let version = u32_spelled bytes v.0 fits v.1 in
    let long = ap length version.is ∙ length-append (to_le_bytes w32 v.0.0) v.0.1 in
    let ins = listed first_input input_text IsInput input_spelled v.0.1 i.0 (omega (arith, small, long)) version.fits i.1 in
    let ins_short = ins.short in
    let outs = listed first_output output_text IsOutput output_spelled i.0.1 o.0 (omega (arith, small, long, ins_short)) ins.fits o.1 in
    let lock = u32_spelled s.0.1 k.0 (subst (λ (p : (List TransactionInput × List TransactionOutput) × Bytes). IsBytes p.1) sides outs.fits) k.1 in
    let end = whole_is (record { version = v.0.0; inputs = s.0.0.0; outputs = s.0.0.1; lock_time = k.0.0 }) t k.0.1 k.2 in
    version.is
    ∙ ap (λ (x : Bytes). to_le_bytes w32 v.0.0 ++ x) (ins.is ∙ ap (λ (x : Bytes). inputs_text i.0.0 ++ x) outs.is)
    ∙ ap (λ (p : (List TransactionInput × List TransactionOutput) × Bytes). to_le_bytes w32 v.0.0 ++ (inputs_text p.0.0 ++ (outputs_text p.0.1 ++ p.1))) sides
    ∙ ap (λ (x : Bytes). to_le_bytes w32 v.0.0 ++ (inputs_text s.0.0.0 ++ (outputs_text s.0.0.1 ++ x))) (lock.is ∙ ap (λ
    (x : Bytes). to_le_bytes w32 k.0.0 ++ x) end.1 ∙ append-nil (to_le_bytes w32 k.0.0))
    ∙ ap transaction_text end.0

-- ---- bytes of transactions are the same where they are

pub same_texts : (own wanted : Bytes) (t u : Transaction) → length own < 2 ^ 64 → IsBytes own → length wanted < 2 ^ 64 → IsBytes wanted → transaction_of own ≡ Some t → transaction_of wanted ≡ Some u
    → bytes_eq own wanted ≡ bytes_eq (transaction_text u) (transaction_text t)
same_texts own wanted t u small fits few good e f =
    ap (λ (l : Bytes). bytes_eq l wanted) (transaction_spelled own t small fits e) ∙ ap (bytes_eq (transaction_text t)) (transaction_spelled wanted u few good f)
    ∙ bytes_eq_swap (transaction_text t) (transaction_text u)
  where
    bytes_eq_swap : (a b : Bytes) → bytes_eq a b ≡ bytes_eq b a
    bytes_eq_swap a b = elim (cases_Bool (bytes_eq a b)) [
      | inl same ↦ same ∙ sym ((bytes_eq-Decides b a).1 (sym ((bytes_eq-Decides a b).0 same)))
      | inr other ↦ other ∙ sym (false_from_ne_true (bytes_eq b a) (λ same. false≢true (sym other ∙ (bytes_eq-Decides a b).1 (sym ((bytes_eq-Decides b a).0 same)))))
    ]

pub same_or_not : (own wanted : Bytes) (t u : Transaction) → length own < 2 ^ 64 → IsBytes own → length wanted < 2 ^ 64 → IsBytes wanted → transaction_of own ≡ Some t → transaction_of wanted ≡ Some u
    → SameOrNot (bytes_eq own wanted) t u
same_or_not own wanted t u small fits few good e f = go (bytes_eq own wanted) refl
  where
    go : (b : Bool) → bytes_eq own wanted ≡ b → SameOrNot b t u
    go true same = some_is t u (sym e ∙ ap transaction_of ((bytes_eq-Decides own wanted).0 same) ∙ f)
    go false other = λ same.
        let equal : own ≡ wanted = transaction_spelled own t small fits e ∙ ap transaction_text same ∙ sym (transaction_spelled wanted u few good f) in
        false≢true (sym other ∙ (bytes_eq-Decides own wanted).1 equal)

pub says : (bytes : Bytes) (psbt : Psbt) (t : Transaction) (b : Bool) → IsSound psbt → bytes ≡ psbt_text psbt.global psbt.inputs psbt.outputs → read_psbt bytes ≡ Ok psbt
    → SameOrNot b psbt.transaction t → SaysTransaction bytes t b
says bytes psbt t true sound text read same = record { psbt = psbt; sound = sound; text = text; same = same }
says bytes psbt t false sound text read other = λ again is same. other (ap (λ (p : Psbt). p.transaction) (ok_is psbt again (sym read ∙ is)) ∙ same)
  where
    ok_is : (x y : Psbt) → ◌≡◌ {A = Result Psbt Refusal} (Ok x) (Ok y) → x ≡ y
    ok_is x y e = cc
