-- The inputs of version 2 together, and the transaction that was written.
use Rattle.std.proofs.Common.{◌≡◌, ℕ, suc, ◌+◌, ◌^◌, ◌<◌, ◌&&◌, ◌||◌, not, Bool, true, false, cond, is_some, List, [], ◌∷◌, ◌++◌, length, map, drop, get_or, Option, Some, None, option_map, Ok, Err, refl, sym, ap, subst, ◌∙◌, arith}
use Rattle.std.proofs.lemmas.Bool.{and_parts}
use Rattle.std.proofs.lemmas.List.Elements.{recursion_from_All}
use Rattle.std.proofs.lemmas.Nat.{le_bytes_4}
use Rattle.std.specs.Int.{w32, from_le_bytes}
use Rattle.std.specs.List.{AllByRecursion, list_any, list_all}
use Rattle.std.specs.Str.{bytes_eq}
use Rattle.def_script.specs.Bytes.{Bytes, IsBytes}
use Rattle.def_psbt.specs.declared.PsbtFault.TheVariants.{RepeatedOutpoint, LockTime}
use Rattle.def_psbt.specs.declared.PsbtVersion.{PsbtVersion}
use Rattle.def_psbt.specs.declared.PsbtVersion.TheVariants as version
use Rattle.def_psbt.specs.declared.Refusal.{Refusal}
use Rattle.def_psbt.specs.Fields.{value_in, outpoint_in, input_of, transaction_of_fields}
use Rattle.def_psbt.specs.Forms.{has_no_script_sig, outpoint_texts, stands_twice, is_unsigned}
use Rattle.def_psbt.specs.Laws.{IsSoundMap, IsWholeMap}
use Rattle.def_psbt.specs.Listed.{global_form, input_form, shape_fault}
use Rattle.def_psbt.specs.Map.{Pair, Map, type_of, map_text, pair_of_type, has_types}
use Rattle.def_psbt.specs.Reading.{Rules, map_at, input_rules, output_rules, Outline, given, counted, transaction_in_pair, transaction_in, outline_in, transaction_by, at_place, or_else, repeated_at, unserved_at, unjoined, unless}
use Rattle.def_psbt.specs.Transaction.{Transaction, outpoint_text, transaction_text}
use Rattle.def_psbt.specs.TransactionReading.{transaction_of}
use Rattle.def_psbt.proofs.Reading.{whole_from, pairs_from}
use Rattle.ms_given_laws.specs.Given.{IsMapOfBytes}
use Rattle.ms_given_laws.proofs.BytesOf.{front, dropped}
use Rattle.ms_given_laws.proofs.Later.{IsPairOfBytes, needed_has, value_fits, given_is, not_counted, not_given, later_transaction}
use Rattle.ms_given_laws.proofs.Maps.{map_bytes}
use Rattle.ms_given_laws.proofs.TransactionBack.{transaction_back}
use Rattle.ms_psbt.specs.Scaffolding.Maps.{IsMapAt, Placed, InputsAt, OutputsAt}
use Rattle.ms_psbt.specs.Scaffolding.Outpoints.{first_repeated}
use Rattle.ms_psbt.proofs.Placing.{sound_of_type, unsigned_value}
use Rattle.ms_psbt.proofs.Unsigned.{any_in, any_more, none_before}

-- ---- maps at their places are whole, and consist of bytes

module _ (rules : Rules) (psbt : Bytes) (fits : IsBytes psbt) (small : length psbt < 2 ^ 64) where
  map_fits : (place : ℕ) (map : Map) → IsMapAt rules psbt place map → IsWholeMap rules map × IsMapOfBytes map
  map_fits place map here =
      let w = whole_from rules psbt place (map, here.end) fits small here.read in
      (w.1, map_bytes map (front (map_text map) (drop here.end psbt) (subst IsBytes w.0.parts (dropped place psbt fits))))

  maps_fit : (at : ℕ) (places : List ℕ) (maps : List Map) → Placed rules psbt at places maps → AllByRecursion (IsWholeMap rules) maps × AllByRecursion IsMapOfBytes maps
  maps_fit at [] [] placed = (tt, tt)
  maps_fit at [] (map ∷ maps) placed = absurd placed
  maps_fit at (place ∷ places) [] placed = absurd placed
  maps_fit at (place ∷ places) (map ∷ maps) placed =
      let m = map_fits place map placed.1 in
      let rest = maps_fit (at + length (map_text map)) places maps placed.2 in
      ((m.0, rest.0), (m.1, rest.1))

-- the global map too
global_fits : (psbt : Bytes) (global : Map × ℕ) → IsBytes psbt → length psbt < 2 ^ 64 → map_at global_form psbt 5 ≡ Ok global → IsSoundMap global_form [] global.0 × IsMapOfBytes global.0
global_fits psbt global fits small e =
    let w = pairs_from global_form psbt (suc (length psbt)) [] 5 global fits small e in
    (w.1, map_bytes global.0 (front (map_text global.0) (drop global.1 psbt) (subst IsBytes w.0.parts (dropped 5 psbt fits))))

-- ---- outpoints

index_four : (pair : Pair) → type_of pair.key ≡ 0x0f → shape_fault (input_form version.Two) pair ≡ None → length pair.value ≡ 4
unfolding shape_fault input_form
index_four pair t e = grind arith

outpoint_same : (fields : Map) → IsWholeMap (input_rules version.Two) fields → IsMapOfBytes fields → outpoint_text (input_of fields).outpoint ≡ outpoint_in fields
outpoint_same fields whole fits =
    let all = recursion_from_All IsPairOfBytes fields fits in
    let form = input_form version.Two in
    let there : is_some (pair_of_type 0x0f fields) ≡ true =
    (and_parts (is_some (pair_of_type 0x0f fields)) true ((and_parts (is_some (pair_of_type 0x0e fields)) (is_some (pair_of_type 0x0f fields) && true) whole.needed).1)).0 in
    let long : length (value_in 0x0f fields) ≡ 4 = needed_has form 0x0f fields whole.sound all (λ v. length v ≡ 4) there (λ pair f. index_four pair f.type_is f.sound) in
    ap (λ (b : Bytes). value_in 0x0e fields ++ b)
    (le_bytes_4 (value_in 0x0f fields) (from_le_bytes w32 (value_in 0x0f fields)) long (value_fits form 0x0f fields whole.sound all) refl)

pub no_script_sigs : (inputs : List Map) → list_all has_no_script_sig (map input_of inputs) ≡ true
no_script_sigs [] = refl
no_script_sigs (fields ∷ inputs) = no_script_sigs inputs

-- the first input whose outpoint is that of one before it, by its number and by its place
pub repeated_is : (psbt : Bytes) → IsBytes psbt → length psbt < 2 ^ 64 → (before : List Bytes) (at : ℕ) (places : List ℕ) (inputs : List Map) → InputsAt psbt at places inputs
    → option_map (λ (n : ℕ). get_or places n 0) (first_repeated before (outpoint_texts (map input_of inputs))) ≡ repeated_at before at inputs
repeated_is psbt fits small before at [] [] placed = refl
repeated_is psbt fits small before at [] (fields ∷ inputs) placed = absurd placed
repeated_is psbt fits small before at (place ∷ places) [] placed = absurd placed
repeated_is psbt fits small before at (place ∷ places) (fields ∷ inputs) placed =
    let m = map_fits (input_rules version.Two) psbt fits small place fields placed.1 in
    let same = outpoint_same fields m.0 m.1 in
    let again = repeated_is psbt fits small (before ++ outpoint_in fields ∷ []) (at + length (map_text fields)) places inputs placed.2 in
    subst (λ (t : Bytes). option_map (λ (n : ℕ). get_or (place ∷ places) n 0)
    (cond (list_any (bytes_eq t) before) (Some 0) (option_map suc (first_repeated (before ++ t ∷ []) (outpoint_texts (map input_of inputs)))))
    ≡ repeated_at before at (fields ∷ inputs)) (sym same)
    (go place at places placed.0 (list_any (bytes_eq (outpoint_in fields)) before) (first_repeated (before ++ outpoint_in fields ∷ []) (outpoint_texts (map input_of inputs)))
    (repeated_at (before ++ outpoint_in fields ∷ []) (at + length (map_text fields)) inputs) again)
  where
    go : (place at : ℕ) (places : List ℕ) → place ≡ at → (b : Bool) (o r : Option ℕ) → option_map (λ (n : ℕ). get_or places n 0) o ≡ r
        → option_map (λ (n : ℕ). get_or (place ∷ places) n 0) (cond b (Some 0) (option_map suc o)) ≡ cond b (Some at) r
    go place at places here true o r e = ap Some here
    go place at places here false None r e = e
    go place at places here false (Some n) r e = e

-- what is wrong, by both places
pub unjoined_is : (at : ℕ) (inputs : List Map) (repeated lacking : Option ℕ) → repeated ≡ repeated_at [] at inputs → lacking ≡ unserved_at false false at inputs
    → or_else (at_place RepeatedOutpoint repeated) (at_place LockTime lacking) ≡ unjoined version.Two at inputs
unjoined_is at inputs repeated lacking p q =
    ap (λ (o : Option ℕ). or_else (at_place RepeatedOutpoint o) (at_place LockTime lacking)) p
    ∙ ap (λ (o : Option ℕ). or_else (at_place RepeatedOutpoint (repeated_at [] at inputs)) (at_place LockTime o)) q

-- ---- no outpoint stands twice

twice_first : (before texts : List Bytes) → is_some (first_repeated before texts) ≡ (any_in before texts || stands_twice texts)
twice_first before [] = refl
twice_first before (text ∷ texts) =
    let again = twice_first (before ++ text ∷ []) texts in
    grind (arith, again, any_more before text texts)

no_repeat : (at : ℕ) (inputs : List Map) → unjoined version.Two at inputs ≡ None → repeated_at [] at inputs ≡ None
no_repeat at inputs e = go (repeated_at [] at inputs) e
  where
    go : (o : Option ℕ) → or_else (at_place RepeatedOutpoint o) (at_place LockTime (unserved_at false false at inputs)) ≡ None → o ≡ None
    go None e = refl
    go (Some place) e = absurd cc

no_number : (places : List ℕ) (o : Option ℕ) → option_map (λ (n : ℕ). get_or places n 0) o ≡ None → o ≡ None
no_number places None e = refl
no_number places (Some n) e = absurd cc

once : (psbt : Bytes) → IsBytes psbt → length psbt < 2 ^ 64 → (at : ℕ) (places : List ℕ) (inputs : List Map) → InputsAt psbt at places inputs → unjoined version.Two at inputs ≡ None
    → stands_twice (outpoint_texts (map input_of inputs)) ≡ false
once psbt fits small at places inputs placed e =
    let texts = outpoint_texts (map input_of inputs) in
    let none = no_number places (first_repeated [] texts) (repeated_is psbt fits small [] at places inputs placed ∙ no_repeat at inputs e) in
    let seen : (any_in [] texts || stands_twice texts) ≡ false = sym (twice_first [] texts) ∙ ap is_some none in
    sym (ap (λ b. b || stands_twice texts) (none_before texts)) ∙ seen

fields_unsigned : (psbt : Bytes) → IsBytes psbt → length psbt < 2 ^ 64 → (at : ℕ) (places : List ℕ) (global : Map) (inputs outputs : List Map) → InputsAt psbt at places inputs
    → unjoined version.Two at inputs ≡ None → is_unsigned (Some (transaction_of_fields global inputs outputs)) ≡ true
fields_unsigned psbt fits small at places global inputs outputs placed e =
    let twice = once psbt fits small at places inputs placed e in
    ap (λ b. b && not (stands_twice (outpoint_texts (map input_of inputs)))) (no_script_sigs inputs) ∙ ap not twice

-- ---- the transaction that was written is read back

pub counted_needs : (global : Map) (o : Outline) → outline_in version.Two global ≡ Some o → has_types (0x02 ∷ []) global ≡ true
counted_needs global o e = grind arith

pub fields_read : (psbt : Bytes) → IsBytes psbt → length psbt < 2 ^ 64 → (global : Map × ℕ) (at middle : ℕ) (ins outs : List ℕ) (inputs outputs : List Map) (input_number output_number : ℕ)
    → map_at global_form psbt 5 ≡ Ok global → outline_in version.Two global.0 ≡ Some (counted input_number output_number)
    → InputsAt psbt at ins inputs → length inputs ≡ input_number → OutputsAt psbt middle outs outputs → length outputs ≡ output_number
    → transaction_of (transaction_text (transaction_of_fields global.0 inputs outputs)) ≡ Some (transaction_of_fields global.0 inputs outputs)
fields_read psbt fits small global at middle ins outs inputs outputs input_number output_number e said placed many others many_others =
    let g = global_fits psbt global fits small e in
    let i = maps_fit (input_rules version.Two) psbt fits small at ins inputs placed in
    let o = maps_fit (output_rules version.Two) psbt fits small middle outs outputs others in
    transaction_back (transaction_of_fields global.0 inputs outputs)
    (later_transaction global.0 inputs outputs input_number output_number g.0 (recursion_from_All IsPairOfBytes global.0 g.1) said i.0 i.1 many o.0 o.1 many_others)

-- ---- the transaction that was given

pub given_zero : (global : Map) (t : Transaction) → (v : PsbtVersion) → outline_in v global ≡ Some (given t) → v ≡ version.Zero
given_zero global t version.Zero e = refl
given_zero global t version.Two e = absurd (not_given global t e)

pub counted_two : (global : Map) (inputs outputs : ℕ) → (v : PsbtVersion) → outline_in v global ≡ Some (counted inputs outputs) → v ≡ version.Two
counted_two global inputs outputs version.Zero e = absurd (not_counted (transaction_in global) inputs outputs e)
counted_two global inputs outputs version.Two e = refl

given_unsigned : (psbt : Bytes) (global : Map × ℕ) (t : Transaction) → IsBytes psbt → length psbt < 2 ^ 64 → map_at global_form psbt 5 ≡ Ok global → outline_in version.Zero global.0 ≡ Some (given t)
    → is_unsigned (Some t) ≡ true
given_unsigned psbt global t fits small e said = go (pair_of_type 0x00 global.0) refl (given_is (transaction_in global.0) t said)
  where
    go : (o : Option Pair) → pair_of_type 0x00 global.0 ≡ o → transaction_in_pair o ≡ Some t → is_unsigned (Some t) ≡ true
    go (Some pair) is read =
        let s = sound_of_type global_form 0x00 [] global.0 pair (global_fits psbt global fits small e).0 is in
        sym (ap is_unsigned read) ∙ unsigned_value pair s.0 s.1
    go None is read = absurd cc

-- ---- both

-- nothing stands before what follows
pub next_is : {A : Type 0} (o : Option Refusal) (x : A) → o ≡ None → unless o (Ok x) ≡ Ok x
next_is None x e = refl
next_is (Some refusal) x e = absurd cc

-- what stands before, stands before anything
pub before_is : {A B : Type 0} (o : Option Refusal) (x : A) (y : B) (refusal : Refusal) → unless o (Ok x) ≡ Err refusal → unless o (Ok y) ≡ Err refusal
before_is None x y refusal e = absurd cc
before_is (Some found) x y refusal e = cc

pub before_none : {A : Type 0} (o : Option Refusal) (x y : A) → unless o (Ok x) ≡ Ok y → (o ≡ None) × (x ≡ y)
before_none None x y e = (refl, cc)
before_none (Some found) x y e = absurd cc

pub by_unsigned : (psbt : Bytes) → IsBytes psbt → length psbt < 2 ^ 64 → (global : Map × ℕ) (said : Outline) (places : List ℕ) (inputs outputs : List Map) → map_at global_form psbt 5 ≡ Ok global
    → (v : PsbtVersion) → outline_in v global.0 ≡ Some said → Placed (input_rules v) psbt global.1 places inputs → unjoined v global.1 inputs ≡ None
    → is_unsigned (Some (transaction_by said global.0 inputs outputs)) ≡ true
by_unsigned psbt fits small global (given t) places inputs outputs e version.Zero told placed none = given_unsigned psbt global t fits small e told
by_unsigned psbt fits small global (given t) places inputs outputs e version.Two told placed none = absurd (not_given global.0 t told)
by_unsigned psbt fits small global (counted a b) places inputs outputs e version.Zero told placed none = absurd (not_counted (transaction_in global.0) a b told)
by_unsigned psbt fits small global (counted a b) places inputs outputs e version.Two told placed none = fields_unsigned psbt fits small global.1 places global.0 inputs outputs placed none
