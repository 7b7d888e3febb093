-- Where inputs have empty scriptSigs, their outpoints stand each 41 bytes behind the one before.
use Rattle.std.proofs.Common.{◌≡◌, ℕ, zero, suc, ◌+◌, ◌-◌, ◌*◌, ◌<◌, ◌≤◌, ◌⊎◌, inl, inr, ◌==◌, ◌&&◌, ◌||◌, not, nat_le, Bool, true, false, cond, is_some, is_none, List, [], ◌∷◌, ◌++◌, length, map, take, drop, get_or, Option, Some, None, option_map, Result, Ok, Err, refl, sym, ap, subst, ◌∙◌, append_assoc, arith}
use Rattle.std.proofs.lemmas.Bool.{cases_Bool, eqb-true, eqb-false}
use Rattle.std.proofs.lemmas.List.{length-drop, length-take-le, take-append-drop, take-take, drop-take, drop-drop, get_or-drop, append-nil}
use Rattle.std.proofs.lemmas.List.Folds.{list_any-append}
use Rattle.std.proofs.lemmas.Nat.{le_bytes_4}
use Rattle.std.proofs.lemmas.Slice.Eq.{bytes_eq-Decides}
use Rattle.std.specs.Int.{Width, byte_len, w32, from_le_bytes}
use Rattle.std.specs.List.{list_any, list_all}
use Rattle.std.specs.Prelude.{IfOk, IfSome}
use Rattle.std.specs.Str.{bytes_eq}
use Rattle.def_script.specs.declared.SizeFault.{SizeFault}
use Rattle.def_script.specs.Bytes.{Bytes, IsBytes}
use Rattle.def_script.specs.Sizes.{read_size}
use Rattle.def_psbt.specs.Transaction.{Outpoint, TransactionInput, Transaction, outpoint_text}
use Rattle.def_psbt.specs.Part.{first_bytes, first_number, first_size, first_string, first_many, first_list, whole}
use Rattle.def_psbt.specs.TransactionReading.{first_outpoint, first_input, first_sides, transaction_of}
use Rattle.def_psbt.specs.Forms.{has_no_script_sig, outpoint_texts, stands_twice, is_unsigned}
use Rattle.ms_psbt.specs.declared.repeats.Keys.{Keys}
use Rattle.ms_psbt.specs.declared.repeats.Keys.TheVariants as keys
use Rattle.ms_psbt.specs.Scaffolding.Repeats.{key_at, repeat_in}
use Rattle.ms_psbt.specs.Scaffolding.Outpoints.{Places, first_read, first_at, is_empty_input, empties}
use Rattle.ms_script.specs.SizeReads.{size_at}
use Rattle.ms_psbt.proofs.Sizes.{read_is, place_within}

-- ---- parts that are there

number_some : (width : Width) (bytes : Bytes) (part : ℕ × Bytes) → first_number width bytes ≡ Some part
    → (byte_len width ≤ length bytes) × ((from_le_bytes width (take (byte_len width) bytes), drop (byte_len width) bytes) ≡ part)
unfolding first_number first_bytes
number_some width bytes part e = grind arith

outpoint_some : (bytes : Bytes) (part : Outpoint × Bytes) → IsBytes bytes → first_outpoint bytes ≡ Some part → (36 ≤ length bytes) × (outpoint_text part.0 ≡ take 36 bytes) × (part.1 ≡ drop 36 bytes)
unfolding first_outpoint first_bytes first_number
outpoint_some bytes part fits e =
    let small : (i : ℕ) → get_or (take 4 (drop 32 bytes)) i 0 < 256 = taken_fits 4 (drop 32 bytes) (λ k. rw get_or-drop (fits (32 + k))) in
    let back = le_bytes_4 (take 4 (drop 32 bytes)) in
    let split : take 32 bytes ++ take 4 (drop 32 bytes) ≡ take 36 bytes = grind
    (arith, take-append-drop 32 (take 36 bytes), take-take 32 36 bytes, drop-take 32 4 bytes) in
    grind (arith, length-drop 32 bytes, length-take-le 4 (drop 32 bytes), split, drop-drop 4 32 bytes, back, small)
  where
    taken_fits : (n : ℕ) (xs : Bytes) → IsBytes xs → (i : ℕ) → get_or (take n xs) i 0 < 256
    taken_fits zero xs h i = omega arith
    taken_fits (suc n) [] h i = omega arith
    taken_fits (suc n) (x ∷ xs) h zero = h 0
    taken_fits (suc n) (x ∷ xs) h (suc i) = taken_fits n xs (λ k. h (suc k)) i

string_zero : (bytes : Bytes) (part : Bytes × Bytes) → get_or bytes 0 0 ≡ 0 → first_string bytes ≡ Some part → ([], drop 1 bytes) ≡ part
unfolding first_string first_size first_bytes read_size
string_zero bytes part z e = grind arith

string_other : (bytes : Bytes) (part : Bytes × Bytes) → (get_or bytes 0 0 ≡ 0 → ⊥) → first_string bytes ≡ Some part → nat_le (length part.0) 0 ≡ false
unfolding first_string first_size first_bytes
string_other bytes part other e = grind (arith, some, length-take-le {A = ℕ})
  where
    some : (read : ℕ × ℕ) → read_size bytes ≡ Ok read → 0 < read.0
    some read e = read_is (λ read. 0 < read.0) bytes read e (λ there. grind arith) (λ width size there low. omega arith)

-- ---- an input, by the byte of the size of its scriptSig

-- what the size 0 makes of an input, and any other
abbrev Shape : (bytes : Bytes) → (size : ℕ) → TransactionInput × Bytes → Type 0
Shape bytes size part =
    ((size ≡ 0) × (41 ≤ length bytes) × (part.1 ≡ drop 41 bytes) × (has_no_script_sig part.0 ≡ true) × (outpoint_text part.0.outpoint ≡ take 36 bytes))
    ⊎ ((size ≡ 0 → ⊥) × (has_no_script_sig part.0 ≡ false))

input_parts : (bytes : Bytes) (part : TransactionInput × Bytes) → first_input bytes ≡ Some part
    → (o : Outpoint × Bytes) × (s : Bytes × Bytes) × (n : ℕ × Bytes) × (first_outpoint bytes ≡ Some o) × (first_string o.1 ≡ Some s)
    × (first_number w32 s.1 ≡ Some n)
    × ((record { outpoint = o.0; script_sig = s.0; sequence = n.0 }, n.1) ≡ part)
unfolding first_input
input_parts bytes part e = grind arith

input_shape : (bytes : Bytes) (part : TransactionInput × Bytes) → IsBytes bytes → first_input bytes ≡ Some part → Shape bytes (get_or bytes 36 0) part
input_shape bytes part fits e =
    let p = input_parts bytes part e in
    let o = outpoint_some bytes p.0 fits p.3 in
    let n = number_some w32 p.1.1 p.2 p.5 in
    let first : get_or p.0.1 0 0 ≡ get_or bytes 36 0 = ap (λ xs. get_or xs 0 0) o.2 ∙ get_or-drop 36 bytes 0 0 in
    subst (Shape bytes (get_or bytes 36 0)) p.6 (elim (cases_Bool (get_or bytes 36 0 == 0)) [
      | inl is ↦
          let z : get_or bytes 36 0 ≡ 0 = eqb-true _ _ is in
          let s = string_zero p.0.1 p.1 (first ∙ z) p.4 in
          let after : p.1.1 ≡ drop 37 bytes = ap (λ (q : Bytes × Bytes). q.1) (sym s) ∙ ap (drop 1) o.2 ∙ drop-drop 1 36 bytes in
          let room : 4 ≤ length (drop 37 bytes) = subst (λ xs. 4 ≤ length xs) after n.0 in
          inl (
            z,
            omega (arith, length-drop 37 bytes),
            ap (λ (q : ℕ × Bytes). q.1) (sym n.1) ∙ ap (drop 4) after
                ∙ drop-drop 4 37 bytes,
            ap (λ (q : Bytes × Bytes). nat_le (length q.0) 0) (sym s),
            o.1,
          )
      | inr is ↦
          let other : get_or bytes 36 0 ≡ 0 → ⊥ = eqb-false _ _ is in
          inr (other, string_other p.0.1 p.1 (λ z. other (sym first ∙ z)) p.4)
    ])

-- ---- inputs, one after the other

-- the inputs have empty scriptSigs, and these are the places of their outpoints; or one hasn't
abbrev Stands : (key : ℕ → Bytes) → List TransactionInput → Option (List ℕ) → Type 0
Stands key inputs (Some places) = (list_all has_no_script_sig inputs ≡ true) × (map key places ≡ outpoint_texts inputs)
Stands key inputs None = list_all has_no_script_sig inputs ≡ false

stand : (bytes : Bytes) → IsBytes bytes → (count at : ℕ) → IfSome (first_many first_input count (drop at bytes))
    (λ part. Stands (key_at keys.Outpoints bytes) part.0 (empties bytes count at))
unfolding first_many empties
stand bytes fits zero at = (refl, refl)
stand bytes fits (suc count) at =
    let again : IfSome (first_many first_input count (drop 41 (drop at bytes)))
    (λ part. Stands (key_at keys.Outpoints bytes) part.0 (empties bytes count (at + 41))) =
    rw (drop-drop 41 at bytes) (stand bytes fits count (at + 41)) in
    more (drop at bytes) (drop 41 (drop at bytes)) (get_or (drop at bytes) 36 0) (key_at keys.Outpoints bytes) (empties bytes count (at + 41)) again
    (λ part e. input_shape (drop at bytes) part (λ i. rw get_or-drop (fits (at + i))) e)
  where
    more : (rest behind : Bytes) (size : ℕ) (key : ℕ → Bytes) (o : Option (List ℕ)) → IfSome (first_many first_input count behind) (λ part. Stands key part.0 o)
        → ((part : TransactionInput × Bytes) → first_input rest ≡ Some part
        → ((size ≡ 0) × (41 ≤ length rest) × (part.1 ≡ behind) × (has_no_script_sig part.0 ≡ true) × (outpoint_text part.0.outpoint ≡ key at))
        ⊎ ((size ≡ 0 → ⊥) × (has_no_script_sig part.0 ≡ false)))
        → IfSome (first_many first_input (suc count) rest) (λ part. Stands key part.0
        (cond (nat_le 41 (length rest) && (size == 0)) (option_map (λ places. at ∷ places) o) None))
    more rest behind size key o again shape = grind arith

-- the places rise
empties_rise : (bytes : Bytes) (count at : ℕ) (places : List ℕ) → empties bytes count at ≡ Some places → (k : ℕ) → k < length places
    → get_or places k 0 ≡ at + 41 * k
unfolding empties
empties_rise bytes zero at places e k inside = grind arith
empties_rise bytes (suc count) at places e zero inside = grind arith
empties_rise bytes (suc count) at places e (suc k) inside = let again = empties_rise bytes count (at + 41) in grind (arith, again)

-- ---- the places of a transaction's outpoints

-- what holds of the inputs that are read behind the version and a size holds of those of the transaction
inputs_of : (P : List TransactionInput → Type 0) (bytes : Bytes) (read : ℕ × ℕ) → read_size (drop 4 bytes) ≡ Ok read
    → IfSome (first_many first_input read.0 (drop (4 + read.1) bytes)) (λ part. P part.0) → IfSome (transaction_of bytes) (λ transaction. P transaction.inputs)
unfolding transaction_of first_sides first_list whole first_size
inputs_of P bytes read is h = grind (arith, drop-drop read.1 4 bytes, number_some w32 bytes)

pub places_ok : (bytes : Bytes) → IsBytes bytes → (read : ℕ × ℕ) → 4 ≤ length bytes → Ok read ≡ size_at 4 (read_size (drop 4 bytes)) → (places : Option (List ℕ))
    → (read.1 ≤ length bytes → places ≡ empties bytes read.0 read.1) → Places bytes (transaction_of bytes) places
places_ok bytes fits read long e places h =
    let same : places ≡ empties bytes read.0 read.1 = h (place_within bytes 4 read long e).1 in
    elim (read_size (drop 4 bytes)) as (λ reading. read_size (drop 4 bytes) ≡ reading → Ok read ≡ size_at 4 reading
    → Places bytes (transaction_of bytes) places) [
      | Ok r ↦ λ is e.
          let stands = inputs_of (λ inputs. Stands (key_at keys.Outpoints bytes) inputs (empties bytes r.0 (4 + r.1))) bytes r is
          (stand bytes fits r.0 (4 + r.1)) in
          let rise = empties_rise bytes r.0 (4 + r.1) in
          placed (4 + r.1) (transaction_of bytes) places (empties bytes r.0 (4 + r.1)) (cc) stands rise (sym (ap first_read is))
      | Err fault ↦ λ is e. absurd cc
    ] refl e
  where
    placed : (at : ℕ) (t : Option Transaction) (places o : Option (List ℕ)) → places ≡ o
        → IfSome t (λ transaction. Stands (key_at keys.Outpoints bytes) transaction.inputs o)
        → ((places : List ℕ) → o ≡ Some places → (k : ℕ) → k < length places → get_or places k 0 ≡ at + 41 * k) → at ≡ first_at bytes → Places bytes t places
    placed at None places o e h rise first = tt
    placed at (Some transaction) (Some places) o e h rise first =
        let s : Stands (key_at keys.Outpoints bytes) transaction.inputs (Some places) = rw (← e) at h in
        record {
          empty = s.0;
          texts = s.1;
          up = λ k inside. omega (arith, rise places (sym e) k (omega arith), rise places (sym e) (k + 1) inside);
          row = λ k inside. rise places (sym e) k inside ∙ ap (λ (n : ℕ). n + 41 * k) first;
        }
    placed at (Some transaction) None o e h rise first = rw (← e) at h

-- no transaction is cut inside its version or inside the number of its inputs
pub places_short : (bytes : Bytes) (places : Option (List ℕ)) → length bytes < 4 → Places bytes (transaction_of bytes) places
unfolding transaction_of
places_short bytes places short = grind (arith, number_some w32)

pub places_err : (bytes : Bytes) (fault : SizeFault) → Err fault ≡ size_at 4 (read_size (drop 4 bytes)) → Places bytes (transaction_of bytes) None
unfolding transaction_of first_sides first_list first_size
places_err bytes fault e = grind (arith, number_some w32)

-- ---- outpoints that stand twice

-- some keys, of which one stands in a list
abbrev pub any_in : (before : List Bytes) → List Bytes → Bool
any_in before = list_any (λ (key : Bytes). list_any (bytes_eq key) before)

pub any_more : (before : List Bytes) (new : Bytes) (others : List Bytes) → any_in (before ++ new ∷ []) others ≡ (any_in before others || list_any (bytes_eq new) others)
any_more before new [] = refl
any_more before new (key ∷ others) =
    let again = any_more before new others in
    let flip : bytes_eq key new ≡ bytes_eq new key = grind (arith, bytes_eq-Decides key new, bytes_eq-Decides new key) in
    grind (arith, again, flip, list_any-append (bytes_eq key) before (new ∷ []))

twice_seen : (keys : Keys) (bytes : Bytes) (before : List Bytes) (places : List ℕ)
    → is_some (repeat_in keys bytes before places) ≡ (any_in before (map (key_at keys bytes) places) || stands_twice (map (key_at keys bytes) places))
unfolding repeat_in
twice_seen keys bytes before [] = refl
twice_seen keys bytes before (place ∷ places) =
    let again = twice_seen keys bytes (before ++ key_at keys bytes place ∷ []) places in
    grind (arith, again, any_more before (key_at keys bytes place) (map (key_at keys bytes) places))

pub none_before : (keys : List Bytes) → any_in [] keys ≡ false
none_before [] = refl
none_before (key ∷ keys) = none_before keys

pub unsigned_is : (bytes : Bytes) (o : Option Transaction) (places : List ℕ) (r : Option ℕ) → is_some o ≡ true → Places bytes o (Some places) → r ≡ repeat_in keys.Outpoints bytes [] places
    → is_none r ≡ is_unsigned o
unsigned_is bytes o places r some h e =
    let seen = ap is_some e ∙ twice_seen keys.Outpoints bytes [] places in
    grind (arith, seen, none_before (map (key_at keys.Outpoints bytes) places))

-- a transaction that was counted is there
pub counted_some : {A B : Type 0} (f : A → B) (o : Option A) (r : Option B) → r ≡ option_map f o → is_some r ≡ true → is_some o ≡ true
counted_some f o r e there = grind arith

-- none, as a call tells it
pub none_is : {A : Type 0} (r : Option A) (b : Bool) → is_some r ≡ not b → b ≡ is_none r
none_is r b e = grind arith

pub if_ok : {A E : Type 0} (r : Result A E) (P Q : A → Type 0) → IfOk r P → ((x : A) → P x → Q x) → IfOk r Q
if_ok (Ok x) P Q h f = f x h
if_ok (Err e) P Q h f = tt

pub empty_within : (bytes : Bytes) (at : ℕ) → is_empty_input bytes at ≡ true → at ≤ length bytes → at + 41 ≤ length bytes
empty_within bytes at e inside = grind (arith, length-drop at bytes)

-- ---- a loop over inputs

pub empties_on : (bytes : Bytes) (count i at : ℕ) (places : List ℕ) (total : Option (List ℕ)) → i < count → is_empty_input bytes at ≡ true
    → option_map (λ rest. places ++ rest) (empties bytes (count - i) at) ≡ total → option_map (λ rest. (places ++ at ∷ []) ++ rest) (empties bytes (count - (i + 1)) (at + 41)) ≡ total
unfolding empties
empties_on bytes count i at places total more is so_far =
    let one_more : count - i ≡ suc (count - (i + 1)) = omega arith in
    let one = rw (one_more, is) at so_far in
    grind (arith, one, append_assoc places (at ∷ []))

pub empties_none : (bytes : Bytes) (count i at : ℕ) (places : List ℕ) (total : Option (List ℕ)) → i < count → is_empty_input bytes at ≡ false
    → option_map (λ rest. places ++ rest) (empties bytes (count - i) at) ≡ total → None ≡ total
unfolding empties
empties_none bytes count i at places total more is so_far = let one_more : count - i ≡ suc (count - (i + 1)) = omega arith in rw (one_more, is) at so_far

pub empties_done : (bytes : Bytes) (count i at : ℕ) (places : List ℕ) (total : Option (List ℕ)) → count ≤ i
    → option_map (λ rest. places ++ rest) (empties bytes (count - i) at) ≡ total → Some places ≡ total
unfolding empties
empties_done bytes count i at places total none so_far = let no_more : count - i ≡ 0 = omega arith in rw (no_more, append-nil places) at so_far

-- ---- which input it is

pub transaction_long : (bytes : Bytes) (transaction : Transaction) → transaction_of bytes ≡ Some transaction → 4 ≤ length bytes
unfolding transaction_of
transaction_long bytes transaction e = grind (arith, number_some w32 bytes)
