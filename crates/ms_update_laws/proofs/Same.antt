-- Maps that differ by pairs of some types alone.
use Rattle.std.proofs.Common.{◌≡◌, ℕ, ◌+◌, ◌<◌, ◌==◌, ◌&&◌, ◌||◌, Bool, true, false, cond, List, [], ◌∷◌, length, map, Option, Some, None, inl, inr, ◌⊎◌, refl, ap, ◌∙◌, arith}
use Rattle.std.specs.Prelude.{⊤, max}
use Rattle.std.specs.List.{AllByRecursion, list_any}
use Rattle.std.specs.Option.{option_map}
use Rattle.std.proofs.lemmas.Bool.{ne_eqb}
use Rattle.def_psbt.specs.declared.PsbtVersion.{PsbtVersion}
use Rattle.def_psbt.specs.declared.PsbtVersion.TheVariants as version
use Rattle.def_psbt.specs.Map.{Pair, Map, type_of, pair_of_type, value_of_type, has_types, map_text}
use Rattle.def_psbt.specs.Fields.{number_or, has_time_alone, has_height_alone, has_lock, greatest, lock_time_of, outpoint_in, input_of, output_of}
use Rattle.def_psbt.specs.Listed.{Form}
use Rattle.def_psbt.specs.Transaction.{Outpoint}
use Rattle.def_psbt.specs.declared.PsbtFault.TheVariants.{RepeatedOutpoint, LockTime}
use Rattle.def_psbt.specs.Reading.{repeated_at, Outline, given, counted, transaction_by, unserved_at, or_else, unjoined, at_place, needed_input, needed_output}
use Rattle.def_combine.specs.Joined.{joined_map, joined_maps}
use Rattle.def_spend.specs.Utxo.{utxo_of}
use Rattle.def_spend.specs.Reading.{has_final}
use Rattle.ms_combine_laws.proofs.Found.{joined_type}
use Rattle.ms_combine_laws.proofs.Kept.{repeated_same}
use Rattle.ms_update_laws.proofs.Own.{IsShaped, IsOwn}

-- ---- a map and another one that has the same pair of each type outside two numbers

abbrev pub IsOutside : (low high type : ℕ) → Type 0
IsOutside low high type = (type < low) ⊎ (high < type)

pub record AreSame (low high : ℕ) (a b : Map) : Type 0 where
  pub pair : (type : ℕ) → IsOutside low high type → pair_of_type type b ≡ pair_of_type type a

none_between : (forms : ℕ → Form) (low high type : ℕ) (own : Map) → AllByRecursion (IsShaped forms low high) own → IsOutside low high type → pair_of_type type own ≡ None
none_between forms low high type [] all out = refl
none_between forms low high type (pair ∷ own) all out =
    let from = all.0.from in
    let to = all.0.to in
    let other : (type_of pair.key == type) ≡ false = ne_eqb (type_of pair.key) type (λ e. elim out [ inl below ↦ omega (arith, e, from, below) | inr above ↦ omega (arith, e, to, above) ]) in
    rw other (none_between forms low high type own all.1 out)

none_else : (o : Option Pair) → or_else o None ≡ o
none_else (Some pair) = refl
none_else None = refl

joined_same : (forms : ℕ → Form) (low high : ℕ) (a own : Map) → IsOwn forms low high own → AreSame low high a (joined_map a own)
joined_same forms low high a own h = record {
  pair = λ type out. joined_type type a own ∙ (ap (λ (o : Option Pair). or_else (pair_of_type type a) o) (none_between forms low high type own h.shaped out) ∙ none_else (pair_of_type type a));
}

-- ---- as many maps, each the same

abbrev pub AllSame : (low high : ℕ) → (before after : List Map) → Type 0
AllSame low high [] [] = ⊤
AllSame low high [] (b ∷ after) = ⊥
AllSame low high (a ∷ before) [] = ⊥
AllSame low high (a ∷ before) (b ∷ after) = AreSame low high a b × AllSame low high before after

itself : (low high : ℕ) (maps : List Map) → AllSame low high maps maps
itself low high [] = tt
itself low high (a ∷ maps) = (record { pair = λ type out. refl }, itself low high maps)

pub all_same : (forms : ℕ → Form) (low high : ℕ) (maps owns : List Map) → AllByRecursion (IsOwn forms low high) owns → AllSame low high maps (joined_maps maps owns)
all_same forms low high [] owns all = tt
all_same forms low high (a ∷ maps) [] all = itself low high (a ∷ maps)
all_same forms low high (a ∷ maps) (own ∷ owns) all = (joined_same forms low high a own all.0, all_same forms low high maps owns all.1)

-- ---- what is the same of each map is the same of all

pub each_same : {B : Type 0} (low high : ℕ) (f : Map → B) → ((a b : Map) → AreSame low high a b → f b ≡ f a) → (before after : List Map) → AllSame low high before after → map f after ≡ map f before
each_same low high f same [] [] h = refl
each_same low high f same [] (b ∷ after) h = absurd h
each_same low high f same (a ∷ before) [] h = absurd h
each_same {B} low high f same (a ∷ before) (b ∷ after) h =
    ap (λ (x : B). x ∷ map f after) (same a b h.0) ∙ ap (λ (xs : List B). f a ∷ xs) (each_same low high f same before after h.1)

any_same : (low high : ℕ) (p : Map → Bool) → ((a b : Map) → AreSame low high a b → p b ≡ p a) → (before after : List Map) → AllSame low high before after → list_any p after ≡ list_any p before
any_same low high p same [] [] h = refl
any_same low high p same [] (b ∷ after) h = absurd h
any_same low high p same (a ∷ before) [] h = absurd h
any_same low high p same (a ∷ before) (b ∷ after) h =
    ap (λ (x : Bool). x || list_any p after) (same a b h.0) ∙ ap (λ (x : Bool). p a || x) (any_same low high p same before after h.1)

pub as_many : (low high : ℕ) (before after : List Map) → AllSame low high before after → length after ≡ length before
as_many low high [] [] h = refl
as_many low high [] (b ∷ after) h = absurd h
as_many low high (a ∷ before) [] h = absurd h
as_many low high (a ∷ before) (b ∷ after) h = let rest = as_many low high before after h.1 in omega (arith, rest)

-- ---- the fields of a transaction

module _ {a b : Map} (h : AreSame 4 6 a b) where
  input_field : (type : ℕ) → 6 < type → pair_of_type type b ≡ pair_of_type type a
  input_field type above = h.pair type (inr above)

  same_lock : has_lock b ≡ has_lock a
  same_lock =
      let time = input_field 0x11 (omega arith) in
      let height = input_field 0x12 (omega arith) in
      rw (time, height) refl

  same_time : has_time_alone b ≡ has_time_alone a
  same_time =
      let time = input_field 0x11 (omega arith) in
      let height = input_field 0x12 (omega arith) in
      rw (time, height) refl

  same_height : has_height_alone b ≡ has_height_alone a
  same_height =
      let time = input_field 0x11 (omega arith) in
      let height = input_field 0x12 (omega arith) in
      rw (time, height) refl

  same_outpoint : outpoint_in b ≡ outpoint_in a
  same_outpoint =
      let id = input_field 0x0e (omega arith) in
      let index = input_field 0x0f (omega arith) in
      rw (id, index) refl

  same_input : input_of b ≡ input_of a
  same_input =
      let id = input_field 0x0e (omega arith) in
      let index = input_field 0x0f (omega arith) in
      let sequence = input_field 0x10 (omega arith) in
      rw (id, index, sequence) refl

  pub same_needed_input : (v : PsbtVersion) → has_types (needed_input v) b ≡ has_types (needed_input v) a
  same_needed_input version.Zero = refl
  same_needed_input version.Two =
      let id = input_field 0x0e (omega arith) in
      let index = input_field 0x0f (omega arith) in
      rw (id, index) refl

  -- the output that is spent, and what is final
  pub same_utxo : (outpoint : Outpoint) → utxo_of outpoint b ≡ utxo_of outpoint a
  same_utxo outpoint =
      let previous = h.pair 0x00 (inl (omega arith)) in
      let output = h.pair 0x01 (inl (omega arith)) in
      rw (previous, output) refl

  pub same_final : has_final b ≡ has_final a
  same_final =
      let script_sig = input_field 0x07 (omega arith) in
      let witness = input_field 0x08 (omega arith) in
      rw (script_sig, witness) refl

module _ {a b : Map} (h : AreSame 0 2 a b) where
  same_output : output_of b ≡ output_of a
  same_output =
      let amount = h.pair 0x03 (inr (omega arith)) in
      let script = h.pair 0x04 (inr (omega arith)) in
      rw (amount, script) refl

  pub same_needed_output : (v : PsbtVersion) → has_types (needed_output v) b ≡ has_types (needed_output v) a
  same_needed_output version.Zero = refl
  same_needed_output version.Two =
      let amount = h.pair 0x03 (inr (omega arith)) in
      let script = h.pair 0x04 (inr (omega arith)) in
      rw (amount, script) refl

-- ---- the lock time

greatest_same : (type : ℕ) → 6 < type → (before after : List Map) → AllSame 4 6 before after → greatest type after ≡ greatest type before
greatest_same type above [] [] h = refl
greatest_same type above [] (b ∷ after) h = absurd h
greatest_same type above (a ∷ before) [] h = absurd h
greatest_same type above (a ∷ before) (b ∷ after) h =
    ap (λ (o : Option Pair). max (number_or 0 (option_map (λ (pair : Pair). pair.value) o)) (greatest type after)) (input_field h.0 type above)
    ∙ ap (λ (n : ℕ). max (number_or 0 (value_of_type type a)) n) (greatest_same type above before after h.1)

lock_time_same : (fallback : ℕ) (before after : List Map) → AllSame 4 6 before after → lock_time_of fallback after ≡ lock_time_of fallback before
lock_time_same fallback before after h =
    let lock = any_same 4 6 has_lock (λ a b s. same_lock s) before after h in
    let time = any_same 4 6 has_time_alone (λ a b s. same_time s) before after h in
    let times = greatest_same 0x11 (omega arith) before after h in
    let heights = greatest_same 0x12 (omega arith) before after h in
    go (list_any has_lock after) (list_any has_lock before) (list_any has_time_alone after) (list_any has_time_alone before) lock time times heights
  where
    go : (x y s t : Bool) → x ≡ y → s ≡ t → greatest 0x11 after ≡ greatest 0x11 before → greatest 0x12 after ≡ greatest 0x12 before
        → cond x (greatest (cond s 0x11 0x12) after) fallback ≡ cond y (greatest (cond t 0x11 0x12) before) fallback
    go x y s t e f times heights =
        ap (λ (z : Bool). cond z (greatest (cond s 0x11 0x12) after) fallback) e
        ∙ (ap (λ (z : Bool). cond y (greatest (cond z 0x11 0x12) after) fallback) f ∙ ap (λ (n : ℕ). cond y n fallback) (by t))
      where
        by : (z : Bool) → greatest (cond z 0x11 0x12) after ≡ greatest (cond z 0x11 0x12) before
        by true = times
        by false = heights

pub transaction_same : (outline : Outline) (global : Map) (inputs new_inputs outputs new_outputs : List Map) → AllSame 4 6 inputs new_inputs → AllSame 0 2 outputs new_outputs
    → transaction_by outline global new_inputs new_outputs ≡ transaction_by outline global inputs outputs
transaction_same (given transaction) global inputs new_inputs outputs new_outputs h k = refl
transaction_same (counted input_number output_number) global inputs new_inputs outputs new_outputs h k =
    let ins = each_same 4 6 input_of (λ a b s. same_input s) inputs new_inputs h in
    let outs = each_same 0 2 output_of (λ a b s. same_output s) outputs new_outputs k in
    let lock = lock_time_same (number_or 0 (value_of_type 0x03 global)) inputs new_inputs h in
    rw (ins, outs, lock) refl

-- ---- that the inputs go together

unserved_same : (time height : Bool) (i j : ℕ) (before after : List Map) → AllSame 4 6 before after → unserved_at time height i before ≡ None → unserved_at time height j after ≡ None
unserved_same time height i j [] [] h e = refl
unserved_same time height i j [] (b ∷ after) h e = absurd h
unserved_same time height i j (a ∷ before) [] h e = absurd h
unserved_same time height i j (a ∷ before) (b ∷ after) h e =
    let times = same_time h.0 in
    let heights = same_height h.0 in
    rw (times, heights) (go ((time || has_time_alone a) && (height || has_height_alone a))
    (unserved_same (time || has_time_alone a) (height || has_height_alone a) (i + length (map_text a)) (j + length (map_text b)) before after h.1) e)
  where
    go : (x : Bool)
        → (unserved_at (time || has_time_alone a) (height || has_height_alone a) (i + length (map_text a)) before ≡ None
        → unserved_at (time || has_time_alone a) (height || has_height_alone a) (j + length (map_text b)) after ≡ None)
        → cond x (Some i) (unserved_at (time || has_time_alone a) (height || has_height_alone a) (i + length (map_text a)) before) ≡ None
        → cond x (Some j) (unserved_at (time || has_time_alone a) (height || has_height_alone a) (j + length (map_text b)) after) ≡ None
    go true rest f = absurd cc
    go false rest f = rest f

pub unjoined_same : (v : PsbtVersion) (i j : ℕ) (before after : List Map) → AllSame 4 6 before after → unjoined v i before ≡ None → unjoined v j after ≡ None
unjoined_same version.Zero i j before after h e = refl
unjoined_same version.Two i j before after h e =
    let outpoints = each_same 4 6 outpoint_in (λ a b s. same_outpoint s) before after h in
    let parts = neither (repeated_at [] i before) (unserved_at false false i before) e in
    let repeated : repeated_at [] j after ≡ None = repeated_same [] i j before after outpoints parts.0 in
    let unserved : unserved_at false false j after ≡ None = unserved_same false false i j before after h parts.1 in
    rw (repeated, unserved) refl
  where
    neither : (o p : Option ℕ) → or_else (at_place RepeatedOutpoint o) (at_place LockTime p) ≡ None → (o ≡ None) × (p ≡ None)
    neither None None e = (refl, refl)
    neither None (Some p) e = absurd cc
    neither (Some o) p e = absurd cc
