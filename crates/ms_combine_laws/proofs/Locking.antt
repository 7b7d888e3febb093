-- The lock time of joined maps: no input needs a time alone and another one a height alone.
use Rattle.std.proofs.Common.{◌≡◌, ◌⊎◌, ℕ, ◌+◌, ◌<◌, ◌≤◌, ◌==◌, ◌&&◌, ◌||◌, not, Bool, true, false, is_some, List, [], ◌∷◌, length, Option, Some, None, inl, inr, refl, sym, ap, subst, ◌∙◌, arith}
use Rattle.std.specs.List.{AllByRecursion, list_any}
use Rattle.std.specs.Int.{w32, from_le_bytes}
use Rattle.std.proofs.lemmas.Bool.{cases_Bool, and_parts, or_cases, or_left, or_right, eqb-true, leb-true, ltb-true}
use Rattle.def_script.specs.Bytes.{Bytes}
use Rattle.def_psbt.specs.declared.PsbtVersion.TheVariants as version
use Rattle.def_psbt.specs.Map.{Pair, Map, type_of, data_of, pair_of_type, value_of_type, map_text}
use Rattle.def_psbt.specs.Fields.{has_field, number_or, has_time_alone, has_height_alone, has_lock, greatest, lock_time_of}
use Rattle.def_psbt.specs.Forms.{LOCKTIME_THRESHOLD, is_time, is_height}
use Rattle.def_psbt.specs.Laws.{IsWholeMap}
use Rattle.def_psbt.specs.Listed.{input_form}
use Rattle.def_psbt.specs.Reading.{input_rules, unserved_at}
use Rattle.def_combine.specs.Joined.{joined_map, joined_maps}
use Rattle.ms_given_laws.proofs.Held.{HasShape, shapes, form_of, passed}
use Rattle.ms_combine_laws.proofs.Found.{joined_has}

-- ---- a height alone

one_alone : (a b c d : Bool) → ((a || b) && not (c || d)) ≡ true → ((a && not c) ≡ true) ⊎ ((b && not d) ≡ true)
one_alone true b true d e = absurd cc
one_alone true b false true e = absurd cc
one_alone true b false false e = inl refl
one_alone false true true d e = absurd cc
one_alone false true false true e = absurd cc
one_alone false true false false e = inr refl
one_alone false false c d e = absurd cc

height_joined : (a b : Map) → has_height_alone (joined_map a b) ≡ true → (has_height_alone a ≡ true) ⊎ (has_height_alone b ≡ true)
height_joined a b e =
    one_alone (has_field 0x12 a) (has_field 0x12 b) (has_field 0x11 a) (has_field 0x11 b)
    (subst (λ (x : Bool). (x && not (has_field 0x11 a || has_field 0x11 b)) ≡ true) (joined_has 0x12 a b)
    (subst (λ (x : Bool). (has_field 0x12 (joined_map a b) && not x) ≡ true) (joined_has 0x11 a b) e))

pub heights_joined : (xs ys : List Map) → list_any has_height_alone (joined_maps xs ys) ≡ true
    → (list_any has_height_alone xs ≡ true) ⊎ (list_any has_height_alone ys ≡ true)
heights_joined [] ys e = absurd cc
heights_joined (a ∷ xs) [] e = inl e
heights_joined (a ∷ xs) (b ∷ ys) e = elim (or_cases (has_height_alone (joined_map a b)) (list_any has_height_alone (joined_maps xs ys)) e) [
  | inl one ↦ elim (height_joined a b one) [
    | inl first ↦ inl (or_left (has_height_alone a) (list_any has_height_alone xs) first)
    | inr second ↦ inr (or_left (has_height_alone b) (list_any has_height_alone ys) second)
  ]
  | inr more ↦ elim (heights_joined xs ys more) [
    | inl first ↦ inl (or_right (has_height_alone a) (list_any has_height_alone xs) first)
    | inr second ↦ inr (or_right (has_height_alone b) (list_any has_height_alone ys) second)
  ]
]

-- ---- the forms of times and heights

-- the pair of a type in a whole map has the form of the type
found_shape : (type : ℕ) (fields : Map) (pair : Pair) → AllByRecursion (HasShape (input_form version.Two)) fields → pair_of_type type fields ≡ Some pair
    → HasShape (input_form version.Two) pair × ((type_of pair.key == type) ≡ true)
found_shape type [] pair shapes e = absurd cc
found_shape type (p ∷ fields) pair shapes e = elim (cases_Bool (type_of p.key == type)) [
  | inl is ↦ (let same : p ≡ pair = cc (rw is at e) in (subst (λ (x : Pair). HasShape (input_form version.Two) x) same shapes.0, ap (λ (x : Pair). type_of x.key == type) (sym same) ∙ is))
  | inr other ↦ found_shape type fields pair shapes.1 (rw other at e)
]

time_form : (pair : Pair) → HasShape (input_form version.Two) pair → (type_of pair.key == 0x11) ≡ true → is_time pair.value ≡ true
unfolding input_form
time_form pair shape is =
    passed (is_time pair.value)
    (subst (λ (n : ℕ). (input_form version.Two n).value (data_of pair.key) pair.value ≡ None) (eqb-true (type_of pair.key) 0x11 is) (form_of (input_form version.Two) pair shape).1)

height_form : (pair : Pair) → HasShape (input_form version.Two) pair → (type_of pair.key == 0x12) ≡ true → is_height pair.value ≡ true
unfolding input_form
height_form pair shape is =
    passed (is_height pair.value)
    (subst (λ (n : ℕ). (input_form version.Two n).value (data_of pair.key) pair.value ≡ None) (eqb-true (type_of pair.key) 0x12 is) (form_of (input_form version.Two) pair shape).1)

is_late : (value : Bytes) → is_time value ≡ true → LOCKTIME_THRESHOLD ≤ from_le_bytes w32 value
is_late value e = leb-true LOCKTIME_THRESHOLD (from_le_bytes w32 value) (and_parts (length value == 4) _ e).1

is_low : (value : Bytes) → is_height value ≡ true → from_le_bytes w32 value < LOCKTIME_THRESHOLD
is_low value e = ltb-true (from_le_bytes w32 value) LOCKTIME_THRESHOLD (and_parts _ _ e).1

-- ---- the greatest of them

abbrev AreWhole : List Map → Type 0
AreWhole maps = AllByRecursion (IsWholeMap (input_rules version.Two)) maps

a_time : (fields : Map) → IsWholeMap (input_rules version.Two) fields → has_field 0x11 fields ≡ true → LOCKTIME_THRESHOLD ≤ number_or 0 (value_of_type 0x11 fields)
a_time fields whole has = go (pair_of_type 0x11 fields) refl has
  where
    go : (o : Option Pair) → pair_of_type 0x11 fields ≡ o → is_some o ≡ true → LOCKTIME_THRESHOLD ≤ number_or 0 (value_of_type 0x11 fields)
    go None e h = absurd cc
    go (Some pair) e h =
        let found = found_shape 0x11 fields pair (shapes (input_form version.Two) [] fields whole.sound) e in
        rw e (is_late pair.value (time_form pair found.0 found.1))

low_height : (fields : Map) → IsWholeMap (input_rules version.Two) fields → number_or 0 (value_of_type 0x12 fields) < LOCKTIME_THRESHOLD
low_height fields whole = go (pair_of_type 0x12 fields) refl
  where
    go : (o : Option Pair) → pair_of_type 0x12 fields ≡ o → number_or 0 (value_of_type 0x12 fields) < LOCKTIME_THRESHOLD
    go None e = rw e (omega arith)
    go (Some pair) e =
        let found = found_shape 0x12 fields pair (shapes (input_form version.Two) [] fields whole.sound) e in
        rw e (is_low pair.value (height_form pair found.0 found.1))

low_heights : (maps : List Map) → AreWhole maps → greatest 0x12 maps < LOCKTIME_THRESHOLD
low_heights [] whole = omega arith
low_heights (fields ∷ maps) whole = let one = low_height fields whole.0 in let rest = low_heights maps whole.1 in omega (arith, one, rest)

late_times : (maps : List Map) → AreWhole maps → list_any has_time_alone maps ≡ true → LOCKTIME_THRESHOLD ≤ greatest 0x11 maps
late_times [] whole e = absurd cc
late_times (fields ∷ maps) whole e = elim (or_cases (has_time_alone fields) (list_any has_time_alone maps) e) [
  | inl one ↦ (let late = a_time fields whole.0 (and_parts (has_field 0x11 fields) _ one).0 in omega (arith, late))
  | inr more ↦ (let rest = late_times maps whole.1 more in omega (arith, rest))
]

-- ---- the lock time

locked : (test : Map → Bool) → ((fields : Map) → test fields ≡ true → has_lock fields ≡ true) → (maps : List Map) → list_any test maps ≡ true → list_any has_lock maps ≡ true
locked test one [] e = absurd cc
locked test one (fields ∷ maps) e = elim (or_cases (test fields) (list_any test maps) e) [
  | inl h ↦ or_left (has_lock fields) (list_any has_lock maps) (one fields h)
  | inr h ↦ or_right (has_lock fields) (list_any has_lock maps) (locked test one maps h)
]

pub late_lock : (fallback : ℕ) (maps : List Map) → AreWhole maps → list_any has_time_alone maps ≡ true → LOCKTIME_THRESHOLD ≤ lock_time_of fallback maps
late_lock fallback maps whole any =
    let lock = locked has_time_alone (λ fields h. or_left (has_field 0x11 fields) (has_field 0x12 fields) (and_parts (has_field 0x11 fields) _ h).0) maps any in
    rw (lock, any) (late_times maps whole any)

pub low_lock : (fallback : ℕ) (maps : List Map) → AreWhole maps → list_any has_height_alone maps ≡ true → list_any has_time_alone maps ≡ false
    → lock_time_of fallback maps < LOCKTIME_THRESHOLD
low_lock fallback maps whole any none =
    let lock = locked has_height_alone (λ fields h. or_right (has_field 0x11 fields) (has_field 0x12 fields) (and_parts (has_field 0x12 fields) _ h).0) maps any in
    rw (lock, none) (low_heights maps whole)

-- ---- nothing is unserved

either : (a b c d e f : Bool) → ((a || (b || c)) && (d || (e || f))) ≡ (((a || b) || c) && ((d || e) || f))
either true b c true e f = refl
either true b c false true f = refl
either true b c false false f = refl
either false true c true e f = refl
either false true c false true f = refl
either false true c false false f = refl
either false false c true e f = refl
either false false c false true f = refl
either false false c false false f = refl

-- where neither stood before, or not both
pub served : (time height : Bool) (at : ℕ) (maps : List Map) → (time && height) ≡ false
    → ((time || list_any has_time_alone maps) && (height || list_any has_height_alone maps)) ≡ false → unserved_at time height at maps ≡ None
served time height at [] before e = refl
served time height at (fields ∷ maps) before e =
    let later : (((time || has_time_alone fields) || list_any has_time_alone maps) && ((height || has_height_alone fields) || list_any has_height_alone maps)) ≡ false =
    sym (either time (has_time_alone fields) (list_any has_time_alone maps) height (has_height_alone fields) (list_any has_height_alone maps)) ∙ e in
    let now = less (time || has_time_alone fields) (list_any has_time_alone maps) (height || has_height_alone fields) (list_any has_height_alone maps) later in
    let rest = served (time || has_time_alone fields) (height || has_height_alone fields) (at + length (map_text fields)) maps now later in
    rw now rest
  where
    less : (a b c d : Bool) → ((a || b) && (c || d)) ≡ false → (a && c) ≡ false
    less true b true d e = e
    less true b false d e = refl
    less false b c d e = refl

pub both_served : (time height : Bool) (at : ℕ) (maps : List Map) → (time && height) ≡ false → unserved_at time height at maps ≡ None
    → ((time || list_any has_time_alone maps) && (height || list_any has_height_alone maps)) ≡ false
both_served time height at [] before e = go time height before
  where
    go : (a b : Bool) → (a && b) ≡ false → ((a || false) && (b || false)) ≡ false
    go true true e = e
    go true false e = refl
    go false b e = refl
both_served time height at (fields ∷ maps) before e = elim (cases_Bool ((time || has_time_alone fields) && (height || has_height_alone fields))) [
  | inl both ↦ (let no = rw both at e in absurd cc)
  | inr now ↦
      either time (has_time_alone fields) (list_any has_time_alone maps) height (has_height_alone fields) (list_any has_height_alone maps)
      ∙ both_served (time || has_time_alone fields) (height || has_height_alone fields) (at + length (map_text fields)) maps now (rw now at e)
]
