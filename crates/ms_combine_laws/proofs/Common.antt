-- What all PSBTs of one version and one transaction have in common, and what is put together of them.
use Rattle.std.proofs.Common.{◌≡◌, ℕ, ◌+◌, ◌<◌, ◌==◌, ◌&&◌, Bool, true, false, cond, is_some, List, [], ◌∷◌, ◌++◌, length, filter, map, Option, Some, None, inl, inr, refl, sym, ap, subst, ◌∙◌}
use Rattle.std.specs.Prelude.{nat_le}
use Rattle.std.specs.List.{AllByRecursion, list_any}
use Rattle.std.specs.Int.{w32, from_le_bytes}
use Rattle.std.specs.Option.{option_map}
use Rattle.std.proofs.lemmas.Bool.{cases_Bool, and_parts, or_from, ne_eqb, true≢false, false_from_ne_true, both_ways}
use Rattle.std.proofs.lemmas.Option.{cond_some}
use Rattle.std.proofs.lemmas.List.Elements.{All-from_recursion, recursion_from_All}
use Rattle.def_psbt.specs.declared.PsbtVersion.{PsbtVersion}
use Rattle.def_psbt.specs.declared.PsbtVersion.TheVariants as version
use Rattle.def_psbt.specs.declared.PsbtFault.{PsbtFault}
use Rattle.def_psbt.specs.declared.PsbtFault.TheVariants.{Excluded, Version, RepeatedOutpoint, LockTime}
use Rattle.def_script.specs.Bytes.{Bytes}
use Rattle.def_psbt.specs.Part.{first_size}
use Rattle.def_psbt.specs.Transaction.{Transaction}
use Rattle.def_psbt.specs.Map.{Pair, Map, Psbt, type_of, pair_of_type, value_of_type, has_types, map_text, pair_text}
use Rattle.def_psbt.specs.Fields.{has_field, size_read, size_in, value_in, number_or, version_number, version_of, has_time_alone, has_height_alone, input_of, output_of, transaction_of_fields}
use Rattle.def_psbt.specs.Forms.{LOCKTIME_THRESHOLD}
use Rattle.def_psbt.specs.Laws.{IsSoundMap, IsWholeMap, IsSound}
use Rattle.def_psbt.specs.Listed.{global_form}
use Rattle.def_psbt.specs.Reading.{Rules, input_rules, output_rules, place_of, at_place, misplaced, Outline, given, counted, outline_in, transaction_in, transaction_in_pair, input_count, output_count, transaction_by, or_else, repeated_at, unserved_at, unjoined}
use Rattle.def_psbt.proofs.Counting.{as_many_inputs, as_many_outputs}
use Rattle.def_combine.specs.Joined.{is_new, joined_map, joined_maps, joined, joined_all}
use Rattle.ms_given_laws.specs.Given.{IsMapOfBytes, IsWhole}
use Rattle.ms_given_laws.proofs.Later.{IsPairOfBytes}
use Rattle.ms_combine_laws.proofs.Found.{kept_type, joined_has}
use Rattle.ms_combine_laws.proofs.Kept.{kept_value, kept_number, kept_inputs, kept_outpoints, kept_outputs, joined_length, repeated_same}
use Rattle.ms_combine_laws.proofs.Sounding.{sound_joined, kept_types, all_whole_joined}
use Rattle.ms_combine_laws.proofs.Locking.{heights_joined, low_lock, both_served}

-- ---- types that don't stand in a map

abbrev pub IsOutside : (first last : ℕ) → Pair → Type 0
IsOutside first last pair = (nat_le first (type_of pair.key) && nat_le (type_of pair.key) last) ≡ false

nowhere : (first last at : ℕ) (map : Map) → place_of first last at map ≡ None → AllByRecursion (IsOutside first last) map
nowhere first last at [] e = tt
nowhere first last at (pair ∷ map) e = elim (cases_Bool (nat_le first (type_of pair.key) && nat_le (type_of pair.key) last)) [
  | inl is ↦ (let no = rw is at e in absurd cc)
  | inr other ↦ (other, nowhere first last (at + length (pair_text pair)) map (rw other at e))
]

pub no_place : (first last at : ℕ) (map : Map) → AllByRecursion (IsOutside first last) map → place_of first last at map ≡ None
no_place first last at [] h = refl
no_place first last at (pair ∷ map) h = let other = h.0 in rw other (no_place first last (at + length (pair_text pair)) map h.1)

pub all_both : (P : Pair → Type 0) (a b : Map) → AllByRecursion P a → AllByRecursion P b → AllByRecursion P (a ++ b)
all_both P [] b h k = k
all_both P (pair ∷ a) b h k = (h.0, all_both P a b h.1 k)

pub all_kept : (P : Pair → Type 0) (test : Pair → Bool) (a : Map) → AllByRecursion P a → AllByRecursion P (filter test a)
all_kept P test [] h = tt
all_kept P test (pair ∷ a) h =
    let rest = all_kept P test a h.1 in
    elim (cases_Bool (test pair)) [ inl e ↦ rw e (h.0, rest) | inr e ↦ rw e rest ]

pub all_joined : (P : Pair → Type 0) (a b : Map) → AllByRecursion P a → AllByRecursion P b → AllByRecursion P (joined_map a b)
all_joined P a b h k = all_both P a (filter (is_new a) b) h (all_kept P (is_new a) b k)

-- ---- what is common

-- in version 0 the transaction stands in the global map, and no type of version 2
pub record IsZero (transaction : Transaction) (psbt : Psbt) : Type 0 where
  pub given : transaction_in psbt.global ≡ Some transaction
  pub earlier : AllByRecursion (IsOutside 0x02 0x06) psbt.global

-- in version 2 its fields stand in all maps, and not the transaction
pub record IsTwo (transaction : Transaction) (psbt : Psbt) : Type 0 where
  pub not_given : has_field 0x00 psbt.global ≡ false
  pub needed : has_types (0x02 ∷ 0x04 ∷ 0x05 ∷ []) psbt.global ≡ true
  pub each_input : size_in 0x04 psbt.global ≡ length transaction.inputs
  pub each_output : size_in 0x05 psbt.global ≡ length transaction.outputs
  pub version : from_le_bytes w32 (value_in 0x02 psbt.global) ≡ transaction.version
  pub inputs : map input_of psbt.inputs ≡ transaction.inputs
  pub outputs : map output_of psbt.outputs ≡ transaction.outputs
  pub once : (at : ℕ) → repeated_at [] at psbt.inputs ≡ None
  pub low : list_any has_height_alone psbt.inputs ≡ true → transaction.lock_time < LOCKTIME_THRESHOLD

abbrev pub IsOwn : PsbtVersion → Transaction → Psbt → Type 0
IsOwn version.Zero transaction psbt = IsZero transaction psbt
IsOwn version.Two transaction psbt = IsTwo transaction psbt

pub record IsCommon (n : ℕ) (v : PsbtVersion) (t : Transaction) (psbt : Psbt) : Type 0 where
  pub number : version_number psbt.global ≡ n
  pub version : version_of psbt.global ≡ v
  pub transaction : psbt.transaction ≡ t
  pub global : IsSoundMap global_form [] psbt.global
  pub inputs : AllByRecursion (IsWholeMap (input_rules v)) psbt.inputs
  pub outputs : AllByRecursion (IsWholeMap (output_rules v)) psbt.outputs
  pub each_input : length psbt.inputs ≡ length t.inputs
  pub each_output : length psbt.outputs ≡ length t.outputs
  pub global_bytes : AllByRecursion IsPairOfBytes psbt.global
  pub input_bytes : AllByRecursion IsMapOfBytes psbt.inputs
  pub output_bytes : AllByRecursion IsMapOfBytes psbt.outputs
  pub own : IsOwn v t psbt

-- ---- of a PSBT that was read

placed_none : (fault : PsbtFault) (o : Option ℕ) → at_place fault o ≡ None → o ≡ None
placed_none fault None e = refl
placed_none fault (Some place) e = absurd cc

-- version 2 has the pair that says so
absent : (global : Map) → AllByRecursion (IsOutside 0xfb 0xfb) global → pair_of_type 0xfb global ≡ None
absent [] h = refl
absent (pair ∷ global) h = let other = differs (type_of pair.key) h.0 in rw other (absent global h.1)
  where
    differs : (type : ℕ) → (nat_le 0xfb type && nat_le type 0xfb) ≡ false → (type == 0xfb) ≡ false
    differs type h = ne_eqb type 0xfb (λ same. true≢false (subst (λ (n : ℕ). (nat_le 0xfb n && nat_le n 0xfb) ≡ false) same h))

unversioned : (global : Map) → pair_of_type 0xfb global ≡ None → version_of global ≡ version.Zero
unversioned global none = rw none refl

not_given_in : (global : Map) → version_of global ≡ version.Two → cond (has_field 0x00 global) (place_of 0xfb 0xfb 5 global) None ≡ None → has_field 0x00 global ≡ false
not_given_in global two e = false_from_ne_true (has_field 0x00 global) (λ has.
    let none : place_of 0xfb 0xfb 5 global ≡ None = rw has at e in
    let zero = unversioned global (absent global (nowhere 0xfb 0xfb 5 global none)) in
    absurd (other (sym zero ∙ two)))
  where
    other : version.Zero ≡ version.Two → ⊥
    other e = absurd cc

given_here : (o : Option Transaction) (outline : Outline) (transaction : Transaction) (global : Map) (inputs outputs : List Map) → option_map given o ≡ Some outline
    → transaction ≡ transaction_by outline global inputs outputs → o ≡ Some transaction
given_here None outline transaction global inputs outputs e is = absurd cc
given_here (Some found) outline transaction global inputs outputs e is =
    let same : given found ≡ outline = cc in
    ap Some (sym (is ∙ ap (λ (x : Outline). transaction_by x global inputs outputs) (sym same)))

neither_placed : (o p : Option ℕ) → or_else (at_place RepeatedOutpoint o) (at_place LockTime p) ≡ None → (o ≡ None) × (p ≡ None)
neither_placed None None e = (refl, refl)
neither_placed None (Some place) e = absurd cc
neither_placed (Some place) p e = absurd cc

zero_of : (part : Psbt) → IsSound part → version_of part.global ≡ version.Zero → IsZero part.transaction part
zero_of part sound zero =
    let said : outline_in version.Zero part.global ≡ Some sound.outline = subst (λ (v : PsbtVersion). outline_in v part.global ≡ Some sound.outline) zero sound.said in
    let allowed : misplaced version.Zero part.global ≡ None = subst (λ (v : PsbtVersion). misplaced v part.global ≡ None) zero sound.allowed in
    record {
      given = given_here (transaction_in part.global) sound.outline part.transaction part.global part.inputs part.outputs said sound.transaction;
      earlier = nowhere 0x02 0x06 5 part.global (placed_none Excluded (place_of 0x02 0x06 5 part.global) allowed);
    }

two_of : (part : Psbt) → IsSound part → version_of part.global ≡ version.Two → AllByRecursion (IsWholeMap (input_rules version.Two)) part.inputs → IsTwo part.transaction part
two_of part sound two whole =
    let said : outline_in version.Two part.global ≡ Some sound.outline = subst (λ (v : PsbtVersion). outline_in v part.global ≡ Some sound.outline) two sound.said in
    let allowed : misplaced version.Two part.global ≡ None = subst (λ (v : PsbtVersion). misplaced v part.global ≡ None) two sound.allowed in
    let at : ℕ = 5 + length (map_text part.global) in
    let wrong : unjoined version.Two (5 + length (map_text part.global)) part.inputs ≡ None =
    subst (λ (v : PsbtVersion). unjoined v (5 + length (map_text part.global)) part.inputs ≡ None) two sound.joined in
    let counts = cond_some (has_types (0x02 ∷ 0x04 ∷ 0x05 ∷ []) part.global) (counted (size_in 0x04 part.global) (size_in 0x05 part.global)) sound.outline said in
    let fields : part.transaction ≡ transaction_of_fields part.global part.inputs part.outputs =
    sound.transaction ∙ ap (λ (o : Outline). transaction_by o part.global part.inputs part.outputs) (sym counts.1) in
    let none = neither_placed (repeated_at [] at part.inputs) (unserved_at false false at part.inputs) wrong in
    record {
      not_given = not_given_in part.global two (placed_none Version (cond (has_field 0x00 part.global) (place_of 0xfb 0xfb 5 part.global) None) allowed);
      needed = counts.0;
      each_input = ap input_count counts.1 ∙ sym sound.each_input ∙ as_many_inputs part sound;
      each_output = ap output_count counts.1 ∙ sym sound.each_output ∙ as_many_outputs part sound;
      version = ap (λ (t : Transaction). t.version) (sym fields);
      inputs = ap (λ (t : Transaction). t.inputs) (sym fields);
      outputs = ap (λ (t : Transaction). t.outputs) (sym fields);
      once = λ place. repeated_same [] at place part.inputs part.inputs refl none.0;
      low = λ any.
          let both = both_served false false at part.inputs refl none.1 in
          let none_alone : list_any has_time_alone part.inputs ≡ false = alone (list_any has_time_alone part.inputs) (list_any has_height_alone part.inputs) both any in
          subst (λ (t : Transaction). t.lock_time < LOCKTIME_THRESHOLD) (sym fields) (low_lock (number_or 0 (value_of_type 0x03 part.global)) part.inputs whole any none_alone);
    }
  where
    alone : (a b : Bool) → (a && b) ≡ false → b ≡ true → a ≡ false
    alone true b e h = absurd (both_ways b e h)
    alone false b e h = refl

own_of : (v : PsbtVersion) (part : Psbt) → IsSound part → version_of part.global ≡ v → AllByRecursion (IsWholeMap (input_rules v)) part.inputs → IsOwn v part.transaction part
own_of version.Zero part sound e whole = zero_of part sound e
own_of version.Two part sound e whole = two_of part sound e whole

pub common_of : (part : Psbt) → IsWhole part → IsCommon (version_number part.global) (version_of part.global) part.transaction part
common_of part whole =
    let sound = whole.sound in
    let inputs = recursion_from_All (IsWholeMap (input_rules (version_of part.global))) part.inputs sound.inputs in
    record {
      number = refl;
      version = refl;
      transaction = refl;
      global = sound.global;
      inputs = inputs;
      outputs = recursion_from_All (IsWholeMap (output_rules (version_of part.global))) part.outputs sound.outputs;
      each_input = as_many_inputs part sound;
      each_output = as_many_outputs part sound;
      global_bytes = recursion_from_All IsPairOfBytes part.global whole.global;
      input_bytes = recursion_from_All IsMapOfBytes part.inputs whole.inputs;
      output_bytes = recursion_from_All IsMapOfBytes part.outputs whole.outputs;
      own = own_of (version_of part.global) part sound refl inputs;
    }

-- ---- of two that are put together

each_needed : (types : List ℕ) (rules : Rules) → rules.needed ≡ types → (maps : List Map) → AllByRecursion (IsWholeMap rules) maps → AllByRecursion (λ map. has_types types map ≡ true) maps
each_needed types rules e [] h = tt
each_needed types rules e (map ∷ maps) h = (subst (λ (l : List ℕ). has_types l map ≡ true) e h.0.needed, each_needed types rules e maps h.1)

all_maps_joined : (P : Map → Type 0) → ((a b : Map) → P a → P b → P (joined_map a b)) → (xs ys : List Map) → AllByRecursion P xs → AllByRecursion P ys → AllByRecursion P (joined_maps xs ys)
all_maps_joined P one [] ys h k = tt
all_maps_joined P one (a ∷ xs) [] h k = h
all_maps_joined P one (a ∷ xs) (b ∷ ys) h k = (one a b h.0 k.0, all_maps_joined P one xs ys h.1 k.1)

bytes_joined : (a b : Map) → IsMapOfBytes a → IsMapOfBytes b → IsMapOfBytes (joined_map a b)
bytes_joined a b h k =
    All-from_recursion IsPairOfBytes (joined_map a b)
    (all_joined IsPairOfBytes a b (recursion_from_All IsPairOfBytes a h) (recursion_from_All IsPairOfBytes b k))

has_given : (o : Option Pair) (transaction : Transaction) → transaction_in_pair o ≡ Some transaction → is_some o ≡ true
has_given (Some pair) transaction e = refl
has_given None transaction e = absurd cc

zero_joined : (t : Transaction) (a b : Psbt) → IsZero t a → IsZero t b → IsZero t (joined a b)
zero_joined t a b h k =
    let kept = kept_type 0x00 a.global b.global (has_given (pair_of_type 0x00 a.global) t h.given) in
    record {
      given = ap transaction_in_pair kept ∙ h.given;
      earlier = all_joined (IsOutside 0x02 0x06) a.global b.global h.earlier k.earlier;
    }

-- a field that stands in the global map
has_needed : (a : Map) → has_types (0x02 ∷ 0x04 ∷ 0x05 ∷ []) a ≡ true → (has_field 0x02 a ≡ true) × (has_field 0x04 a ≡ true) × (has_field 0x05 a ≡ true)
has_needed a e =
    let first = and_parts (has_field 0x02 a) (has_field 0x04 a && (has_field 0x05 a && true)) e in
    let second = and_parts (has_field 0x04 a) (has_field 0x05 a && true) first.1 in
    (first.0, second.0, (and_parts (has_field 0x05 a) true second.1).0)

two_joined : (t : Transaction) (a b : Psbt) → AllByRecursion (IsWholeMap (input_rules version.Two)) a.inputs → AllByRecursion (IsWholeMap (output_rules version.Two)) a.outputs
    → IsTwo t a → IsTwo t b → IsTwo t (joined a b)
two_joined t a b inputs outputs h k =
    let has = has_needed a.global h.needed in
    let outpoints = each_needed (0x0e ∷ 0x0f ∷ []) (input_rules version.Two) refl a.inputs inputs in
    let amounts = each_needed (0x03 ∷ 0x04 ∷ []) (output_rules version.Two) refl a.outputs outputs in
    record {
      not_given = joined_has 0x00 a.global b.global ∙ or_from (has_field 0x00 a.global) (has_field 0x00 b.global) h.not_given k.not_given;
      needed = kept_types (0x02 ∷ 0x04 ∷ 0x05 ∷ []) a.global b.global h.needed;
      each_input = ap (λ (v : Bytes). size_read (first_size v)) (kept_value 0x04 a.global b.global has.1) ∙ h.each_input;
      each_output = ap (λ (v : Bytes). size_read (first_size v)) (kept_value 0x05 a.global b.global has.2) ∙ h.each_output;
      version = ap (from_le_bytes w32) (kept_value 0x02 a.global b.global has.0) ∙ h.version;
      inputs = kept_inputs a.inputs b.inputs outpoints (h.inputs ∙ sym k.inputs) ∙ h.inputs;
      outputs = kept_outputs a.outputs b.outputs amounts ∙ h.outputs;
      once = λ at. repeated_same [] 0 at a.inputs (joined_maps a.inputs b.inputs) (kept_outpoints a.inputs b.inputs outpoints) (h.once 0);
      low = λ any. elim (heights_joined a.inputs b.inputs any) [ inl first ↦ h.low first | inr second ↦ k.low second ];
    }

own_joined : (v : PsbtVersion) (t : Transaction) (a b : Psbt) → AllByRecursion (IsWholeMap (input_rules v)) a.inputs → AllByRecursion (IsWholeMap (output_rules v)) a.outputs
    → IsOwn v t a → IsOwn v t b → IsOwn v t (joined a b)
own_joined version.Zero t a b inputs outputs h k = zero_joined t a b h k
own_joined version.Two t a b inputs outputs h k = two_joined t a b inputs outputs h k

pub common_joined : (n : ℕ) (v : PsbtVersion) (t : Transaction) (a b : Psbt) → IsCommon n v t a → IsCommon n v t b → IsCommon n v t (joined a b)
common_joined n v t a b h k =
    let number : version_number (joined_map a.global b.global) ≡ version_number a.global = kept_number 0 0xfb a.global b.global (h.number ∙ sym k.number) in
    record {
      number = number ∙ h.number;
      version = ap (λ (m : ℕ). cond (m == 2) version.Two version.Zero) number ∙ h.version;
      transaction = h.transaction;
      global = sound_joined global_form a.global b.global h.global k.global;
      inputs = all_whole_joined (input_rules v) a.inputs b.inputs h.inputs k.inputs;
      outputs = all_whole_joined (output_rules v) a.outputs b.outputs h.outputs k.outputs;
      each_input = joined_length a.inputs b.inputs ∙ h.each_input;
      each_output = joined_length a.outputs b.outputs ∙ h.each_output;
      global_bytes = all_joined IsPairOfBytes a.global b.global h.global_bytes k.global_bytes;
      input_bytes = all_maps_joined IsMapOfBytes bytes_joined a.inputs b.inputs h.input_bytes k.input_bytes;
      output_bytes = all_maps_joined IsMapOfBytes bytes_joined a.outputs b.outputs h.output_bytes k.output_bytes;
      own = own_joined v t a b h.inputs h.outputs h.own k.own;
    }

pub common_all : (n : ℕ) (v : PsbtVersion) (t : Transaction) (first : Psbt) (others : List Psbt) → IsCommon n v t first → AllByRecursion (IsCommon n v t) others
    → IsCommon n v t (joined_all first others)
common_all n v t first [] h k = h
common_all n v t first (other ∷ others) h k = common_all n v t (joined first other) others (common_joined n v t first other h k.0) k.1
