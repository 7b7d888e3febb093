-- What the PSBTs of a source are put together to, and whether it keeps their transaction.
use Rattle.std.proofs.Common.{◌≡◌, ℕ, suc, ◌+◌, ◌<◌, ◌≤◌, ◌==◌, nat_lt, Bool, true, false, cond, List, [], ◌∷◌, ◌++◌, length, map, filter, take, drop, Option, Some, Result, Ok, Err, inl, inr, refl, sym, ap, subst, ◌∙◌, append_assoc, length-append, arith}
use Rattle.std.specs.List.{flat_map, AllByRecursion}
use Rattle.std.proofs.lemmas.Bool.{cases_Bool, eq-eqb, le-ltb, lt-ltb}
use Rattle.std.proofs.lemmas.List.{take_at, drop_at}
use Rattle.std.proofs.lemmas.List.Concat.{flat_map-cons}
use Rattle.std.proofs.lemmas.List.Elements.{recursion_from_All}
use Rattle.std.proofs.lemmas.Grind.{flat_map-append}
use Rattle.def_script.specs.Bytes.{Bytes, IsBytes}
use Rattle.def_psbt.specs.declared.PsbtVersion.{PsbtVersion}
use Rattle.def_psbt.specs.declared.PsbtVersion.TheVariants as version
use Rattle.def_psbt.specs.Laws.{IsSoundMap, IsWholeMap, IsSound, WrittenIsReadBack}
use Rattle.def_psbt.specs.Listed.{Form, global_form}
use Rattle.def_psbt.specs.Map.{Pair, Map, Psbt, pair_text, map_text, magic}
use Rattle.def_psbt.specs.Fields.{version_number, version_of}
use Rattle.def_psbt.specs.Reading.{Rules, input_rules, output_rules, Outline, given, counted, outline_in, transaction_by}
use Rattle.def_psbt.specs.Source.{MAX_SOURCE_SIZE}
use Rattle.def_psbt.specs.Transaction.{Transaction}
use Rattle.def_psbt.proofs.Counting.{as_many_inputs, as_many_outputs}
use Rattle.def_combine.specs.declared.CombineRefusal.{CombineRefusal}
use Rattle.def_combine.specs.declared.CombineRefusal.TheVariants as refusal
use Rattle.def_combine.specs.Combine.{Line, lines, lines_from, ◌>>=◌, Parts, line_parts, parts_of, combined, combined_of}
use Rattle.def_combine.specs.Joined.{is_new, joined_map, joined_maps, joined, joined_all, lock_time_in, keeps_lock_time}
use Rattle.ms_given_laws.specs.Given.{EachIsSound, IsWhole}
use Rattle.ms_given_laws.proofs.Held.{fault_none}
use Rattle.ms_given_laws.proofs.Later.{not_given}
use Rattle.ms_combine_laws.proofs.Kept.{joined_length}
use Rattle.ms_combine_laws.proofs.Common.{IsCommon, common_of, common_all}
use Rattle.ms_combine_laws.proofs.Whole.{whole_common}
use Rattle.ms_combine_laws.proofs.Given.{parts_whole, all_common}
use Rattle.ms_psbt.specs.Pairs.{first_pair}
use Rattle.ms_psbt.specs.Scaffolding.Pairs.{IsSpelled}
use Rattle.ms_psbt.proofs.Pairing.{pair_back, map_cons, sound_spelled}
use Rattle.ms_combine.specs.Scaffolding.Again.{IsReadWith, SaysTransaction}
use Rattle.ms_combine.specs.Scaffolding.Kept.{bytes_of, AreKept}
use Rattle.ms_combine.specs.Scaffolding.Rows.{maps_of, IsApart, IsPlain, rows_joined, AreRows}
use Rattle.ms_combine.specs.Outcome.{CombinesOr}
use Rattle.ms_combine.specs.declared.stop.CombineStop.{CombineStop}
use Rattle.ms_combine.specs.declared.stop.CombineStop.TheVariants as stop
use Rattle.ms_combine.specs.declared.parts.Parts as held
use Rattle.ms_combine.proofs.Keeping.{maps_text, placed}
use Rattle.ms_combine.proofs.Spots.{end_here}

-- ---- rows of maps are those of PSBTs

apart_of : (forms : ℕ → Form) (before fields : Map) → IsSoundMap forms before fields → IsApart before fields
apart_of forms before [] h = tt
apart_of forms before (pair ∷ fields) h = ((fault_none forms before pair h.0.fault).0, apart_of forms (before ++ pair ∷ []) fields h.1)

plain_of : (forms : ℕ → Form) (fields : Map) → IsSoundMap forms [] fields → IsPlain fields
plain_of forms fields h = record { spelled = sound_spelled forms [] fields h; apart = apart_of forms [] fields h }

plain_maps : (rules : Rules) (maps : List Map) → AllByRecursion (IsWholeMap rules) maps → AllByRecursion IsPlain maps
plain_maps rules [] h = tt
plain_maps rules (fields ∷ maps) h = (plain_of rules.forms fields h.0.sound, plain_maps rules maps h.1)

all_both : {A : Type 0} (P : A → Type 0) (xs ys : List A) → AllByRecursion P xs → AllByRecursion P ys → AllByRecursion P (xs ++ ys)
all_both P [] ys h k = k
all_both P (x ∷ xs) ys h k = (h.0, all_both P xs ys h.1 k)

psbt_plain : (n : ℕ) (v : PsbtVersion) (t : Transaction) (psbt : Psbt) → IsCommon n v t psbt → AllByRecursion IsPlain (maps_of psbt)
psbt_plain n v t psbt h =
    (plain_of global_form psbt.global h.global, all_both IsPlain psbt.inputs psbt.outputs (plain_maps (input_rules v) psbt.inputs h.inputs) (plain_maps (output_rules v) psbt.outputs h.outputs))

rows_plain : (n : ℕ) (v : PsbtVersion) (t : Transaction) (psbts : List Psbt) → AllByRecursion (IsCommon n v t) psbts → AllByRecursion (AllByRecursion IsPlain) (map maps_of psbts)
rows_plain n v t [] h = tt
rows_plain n v t (psbt ∷ psbts) h = (psbt_plain n v t psbt h.0, rows_plain n v t psbts h.1)

maps_long : (n : ℕ) (v : PsbtVersion) (t : Transaction) (psbt : Psbt) → IsCommon n v t psbt → length (maps_of psbt) ≡ suc (length t.inputs + length t.outputs)
maps_long n v t psbt h =
    let inputs = h.each_input in
    let outputs = h.each_output in
    let both = length-append psbt.inputs psbt.outputs in
    omega (arith, inputs, outputs, both)

rows_same : (n : ℕ) (v : PsbtVersion) (t : Transaction) (first : Psbt) (psbts : List Psbt) → IsCommon n v t first → AllByRecursion (IsCommon n v t) psbts
    → AllByRecursion (λ (other : List Map). length other ≡ length (maps_of first)) (map maps_of psbts)
rows_same n v t first [] h k = tt
rows_same n v t first (psbt ∷ psbts) h k = (maps_long n v t psbt k.0 ∙ sym (maps_long n v t first h), rows_same n v t first psbts h k.1)

both_joined : (xs ys us vs : List Map) → length xs ≡ length us → joined_maps (xs ++ ys) (us ++ vs) ≡ joined_maps xs us ++ joined_maps ys vs
both_joined [] ys [] vs e = refl
both_joined [] ys (u ∷ us) vs e = absurd (omega (arith, e))
both_joined (x ∷ xs) ys [] vs e = absurd (omega (arith, e))
both_joined (x ∷ xs) ys (u ∷ us) vs e = ap (λ (l : List Map). joined_map x u ∷ l) (both_joined xs ys us vs (omega (arith, e)))

abbrev HasInputs : ℕ → Psbt → Type 0
HasInputs count psbt = length psbt.inputs ≡ count

rows_are : (count : ℕ) (first : Psbt) (others : List Psbt) → HasInputs count first → AllByRecursion (HasInputs count) others
    → rows_joined (maps_of first) (map maps_of others) ≡ maps_of (joined_all first others)
rows_are count first [] h k = refl
rows_are count first (other ∷ others) h k =
    ap (λ (l : List Map). rows_joined (joined_map first.global other.global ∷ l) (map maps_of others))
    (both_joined first.inputs first.outputs other.inputs other.outputs (h ∙ sym k.0))
    ∙ rows_are count (joined first other) others (joined_length first.inputs other.inputs ∙ h) k.1

each_has : (n : ℕ) (v : PsbtVersion) (t : Transaction) (psbts : List Psbt) → AllByRecursion (IsCommon n v t) psbts → AllByRecursion (HasInputs (length t.inputs)) psbts
each_has n v t [] h = tt
each_has n v t (psbt ∷ psbts) h = (h.0.each_input, each_has n v t psbts h.1)

-- ---- no more bytes than all have

kept_size : (test : Pair → Bool) (fields : Map) → length (flat_map pair_text (filter test fields)) ≤ length (flat_map pair_text fields)
kept_size test [] = omega arith
kept_size test (pair ∷ fields) =
    let rest = kept_size test fields in
    let long = ap length (flat_map-cons pair_text pair fields) ∙ length-append (pair_text pair) (flat_map pair_text fields) in
    let few = ap length (flat_map-cons pair_text pair (filter test fields)) ∙ length-append (pair_text pair) (flat_map pair_text (filter test fields)) in
    go (test pair) rest long few
  where
    go : (b : Bool) → length (flat_map pair_text (filter test fields)) ≤ length (flat_map pair_text fields)
        → length (flat_map pair_text (pair ∷ fields)) ≡ length (pair_text pair) + length (flat_map pair_text fields)
        → length (flat_map pair_text (pair ∷ filter test fields)) ≡ length (pair_text pair) + length (flat_map pair_text (filter test fields))
        → length (flat_map pair_text (cond b (pair ∷ filter test fields) (filter test fields))) ≤ length (flat_map pair_text (pair ∷ fields))
    go true rest long few = omega (arith, rest, long, few)
    go false rest long few = omega (arith, rest, long)

map_size : (a b : Map) → length (map_text (joined_map a b)) ≤ length (map_text a) + length (map_text b)
map_size a b =
    let few = kept_size (is_new a) b in
    let both = ap length (flat_map-append pair_text a (filter (is_new a) b)) ∙ length-append (flat_map pair_text a) (flat_map pair_text (filter (is_new a) b)) in
    let one = length-append (flat_map pair_text (joined_map a b)) (0x00 ∷ []) in
    let two = length-append (flat_map pair_text a) (0x00 ∷ []) in
    let three = length-append (flat_map pair_text b) (0x00 ∷ []) in
    omega (arith, few, both, one, two, three)

maps_size : (xs ys : List Map) → length (flat_map map_text (joined_maps xs ys)) ≤ length (flat_map map_text xs) + length (flat_map map_text ys)
maps_size [] ys = omega arith
maps_size (x ∷ xs) [] = omega arith
maps_size (x ∷ xs) (y ∷ ys) =
    let one = map_size x y in
    let rest = maps_size xs ys in
    let a = ap length (flat_map-cons map_text x xs) ∙ length-append (map_text x) (flat_map map_text xs) in
    let b = ap length (flat_map-cons map_text y ys) ∙ length-append (map_text y) (flat_map map_text ys) in
    let c = ap length (flat_map-cons map_text (joined_map x y) (joined_maps xs ys)) ∙ length-append (map_text (joined_map x y)) (flat_map map_text (joined_maps xs ys)) in
    omega (arith, one, rest, a, b, c)

bytes_long : (psbt : Psbt) → length (bytes_of psbt) ≡ 5 + (length (map_text psbt.global) + (length (flat_map map_text psbt.inputs) + length (flat_map map_text psbt.outputs)))
bytes_long psbt =
    let a = length-append (map_text psbt.global) (flat_map map_text psbt.inputs ++ flat_map map_text psbt.outputs) in
    let b = length-append (flat_map map_text psbt.inputs) (flat_map map_text psbt.outputs) in
    omega (arith, a, b)

joined_size : (first : Psbt) (others : List Psbt) → length (bytes_of (joined_all first others)) ≤ length (flat_map bytes_of (first ∷ others))
joined_size first [] = let long = ap length (flat_map-cons bytes_of first []) ∙ length-append (bytes_of first) [] in omega (arith, long)
joined_size first (other ∷ others) =
    let rest = joined_size (joined first other) others in
    let a = ap length (flat_map-cons bytes_of first (other ∷ others)) ∙ length-append (bytes_of first) (flat_map bytes_of (other ∷ others)) in
    let b = ap length (flat_map-cons bytes_of other others) ∙ length-append (bytes_of other) (flat_map bytes_of others) in
    let c = ap length (flat_map-cons bytes_of (joined first other) others) ∙ length-append (bytes_of (joined first other)) (flat_map bytes_of others) in
    let global = map_size first.global other.global in
    let inputs = maps_size first.inputs other.inputs in
    let outputs = maps_size first.outputs other.outputs in
    let d = bytes_long first in
    let e = bytes_long other in
    let f = bytes_long (joined first other) in
    omega (arith, rest, a, b, c, global, inputs, outputs, d, e, f)

-- ---- bytes are those of one PSBT alone

same_some : {A : Type 0} (x y : A) → ◌≡◌ {A = Option A} (Some x) (Some y) → x ≡ y
same_some x y e = cc

one_map : (a b : Map) (r s : Bytes) → AllByRecursion IsSpelled a → AllByRecursion IsSpelled b → map_text a ++ r ≡ map_text b ++ s → (a ≡ b) × (r ≡ s)
one_map [] [] r s h k e = (refl, ap (drop 1) e)
one_map [] (q ∷ b) r s h k e =
    let read = ap first_pair (ap (λ (l : Bytes). l ++ s) (map_cons q b) ∙ append_assoc (pair_text q) (map_text b) s) ∙ pair_back q (map_text b ++ s) k.0 in
    let none = end_here r in
    let no_end = sym none ∙ ap first_pair e ∙ read in
    absurd cc
one_map (p ∷ a) [] r s h k e =
    let read = ap first_pair (ap (λ (l : Bytes). l ++ r) (map_cons p a) ∙ append_assoc (pair_text p) (map_text a) r) ∙ pair_back p (map_text a ++ r) h.0 in
    let none = end_here s in
    let no_end = sym none ∙ ap first_pair (sym e) ∙ read in
    absurd cc
one_map (p ∷ a) (q ∷ b) r s h k e =
    let one = ap first_pair (ap (λ (l : Bytes). l ++ r) (map_cons p a) ∙ append_assoc (pair_text p) (map_text a) r) ∙ pair_back p (map_text a ++ r) h.0 in
    let two = ap first_pair (ap (λ (l : Bytes). l ++ s) (map_cons q b) ∙ append_assoc (pair_text q) (map_text b) s) ∙ pair_back q (map_text b ++ s) k.0 in
    let both : (p, map_text a ++ r) ≡ (q, map_text b ++ s) = same_some (p, map_text a ++ r) (q, map_text b ++ s) (sym one ∙ ap first_pair e ∙ two) in
    let rest = one_map a b r s h.1 k.1 (ap (λ (x : Pair × Bytes). x.1) both) in
    (ap (λ (x : Pair × Bytes). x.0 ∷ a) both ∙ ap (λ (l : Map). q ∷ l) rest.0, rest.1)

one_list : (xs ys : List Map) → AllByRecursion IsPlain xs → AllByRecursion IsPlain ys → length xs ≡ length ys → flat_map map_text xs ≡ flat_map map_text ys → xs ≡ ys
one_list [] [] h k long e = refl
one_list [] (y ∷ ys) h k long e = absurd (omega (arith, long))
one_list (x ∷ xs) [] h k long e = absurd (omega (arith, long))
one_list (x ∷ xs) (y ∷ ys) h k long e =
    let cut = one_map x y (flat_map map_text xs) (flat_map map_text ys) h.0.spelled k.0.spelled (sym (flat_map-cons map_text x xs) ∙ e ∙ flat_map-cons map_text y ys) in
    ap (λ (m : Map). m ∷ xs) cut.0 ∙ ap (λ (l : List Map). y ∷ l) (one_list xs ys h.1 k.1 (omega (arith, long)) cut.1)

-- ---- the transaction of a PSBT with nothing wrong is that of its maps

sound_keeps : (psbt : Psbt) → IsSound psbt → keeps_lock_time psbt ≡ true
sound_keeps psbt sound =
    eq-eqb (lock_time_in (version_of psbt.global) psbt) psbt.transaction.lock_time (go (version_of psbt.global) sound.outline sound.said sound.transaction)
  where
    go : (v : PsbtVersion) (outline : Outline) → outline_in v psbt.global ≡ Some outline → psbt.transaction ≡ transaction_by outline psbt.global psbt.inputs psbt.outputs
        → lock_time_in v psbt ≡ psbt.transaction.lock_time
    go version.Zero outline said is = refl
    go version.Two (given transaction) said is = absurd (not_given psbt.global transaction said)
    go version.Two (counted inputs outputs) said is = sym (ap (λ (t : Transaction). t.lock_time) is)

-- ---- what was put together

-- all that is known of PSBTs that go together, and what they are put together to
pub record AreTogether (n : ℕ) (v : PsbtVersion) (t : Transaction) (parts : Parts) : Type 0 where
  pub first : IsCommon n v t parts.first
  pub others : AllByRecursion (IsCommon n v t) parts.others
  pub whole : IsCommon n v t (joined_all parts.first parts.others)

abbrev pub Together : Parts → Type 0
Together parts = AreTogether (version_number parts.first.global) (version_of parts.first.global) parts.first.transaction parts × IsWhole parts.first

pub together : EachIsSound → (source : Bytes) (parts : Parts) → IsBytes source → parts_of source ≡ Ok parts → Together parts
together law source parts fits e =
    let h = parts_whole law source parts fits e in
    let first = common_of parts.first h.first in
    let others = all_common parts.first parts.others h.first h.others in (
      record {
        first = first;
        others = others;
        whole = common_all (version_number parts.first.global) (version_of parts.first.global) parts.first.transaction parts.first parts.others first others;
      },
      h.first,
    )

pub rows_of : (kept : held.Parts) (parts : Parts) → AreKept kept parts.first parts.others → Together parts
    → AreRows kept.bytes.items kept.first_end kept.places.items (maps_of parts.first) (map maps_of parts.others)
rows_of kept parts h k =
    let p = placed kept parts.first parts.others h in
    let n = version_number parts.first.global in
    let v = version_of parts.first.global in
    record {
      at = p.at;
      last = p.last;
      same = rows_same n v parts.first.transaction parts.first parts.others k.0.first k.0.others;
      plain = rows_plain n v parts.first.transaction (parts.first ∷ parts.others) (k.0.first, k.0.others);
    }

pub text_is : (parts : Parts) → Together parts → magic ++ flat_map map_text (rows_joined (maps_of parts.first) (map maps_of parts.others)) ≡ bytes_of (joined_all parts.first parts.others)
text_is parts k =
    let n = version_number parts.first.global in
    let v = version_of parts.first.global in
    ap (λ (l : List Map). magic ++ flat_map map_text l)
    (rows_are (length parts.first.transaction.inputs) parts.first parts.others k.0.first.each_input (each_has n v parts.first.transaction parts.others k.0.others))
    ∙ sym (maps_text (joined_all parts.first parts.others))

pub text_short : (kept : held.Parts) (parts : Parts) → AreKept kept parts.first parts.others → length kept.bytes.items ≤ MAX_SOURCE_SIZE
    → length (bytes_of (joined_all parts.first parts.others)) ≤ MAX_SOURCE_SIZE
text_short kept parts h short =
    let size = joined_size parts.first parts.others in
    let long = ap length h.bytes in
    omega (arith, size, long, short)

-- version 0 keeps the lock time
keeps_zero : (n : ℕ) (v : PsbtVersion) (t : Transaction) (psbt : Psbt) → IsCommon n v t psbt → (n == 2) ≡ false → keeps_lock_time psbt ≡ true
keeps_zero n v t psbt h other =
    let zero : version_of psbt.global ≡ version.Zero = ap (λ (m : ℕ). cond (m == 2) version.Two version.Zero) h.number ∙ ap (λ (b : Bool). cond b version.Two version.Zero) other in
    eq-eqb (lock_time_in (version_of psbt.global) psbt) psbt.transaction.lock_time (ap (λ (w : PsbtVersion). lock_time_in w psbt) zero)

abbrev with_all : Map → Transaction → (inputs outputs : List Map) → Psbt
with_all global transaction inputs outputs = record { global = global; transaction = transaction; inputs = inputs; outputs = outputs }

-- what is read with the transaction is what was put together
keeps_read : (n : ℕ) (v : PsbtVersion) (t : Transaction) (whole psbt : Psbt) → IsCommon n v t whole → IsSound psbt → bytes_of whole ≡ bytes_of psbt → psbt.transaction ≡ t
    → keeps_lock_time whole ≡ true
keeps_read n v t whole psbt h sound text same =
    let maps : flat_map map_text (maps_of whole) ≡ flat_map map_text (maps_of psbt) = ap (drop 5) (sym (maps_text whole) ∙ text ∙ maps_text psbt) in
    let inputs = recursion_from_All (IsWholeMap (input_rules (version_of psbt.global))) psbt.inputs sound.inputs in
    let outputs = recursion_from_All (IsWholeMap (output_rules (version_of psbt.global))) psbt.outputs sound.outputs in
    let plain : AllByRecursion IsPlain (maps_of psbt) = (
      plain_of global_form psbt.global sound.global,
      all_both IsPlain psbt.inputs psbt.outputs
          (plain_maps (input_rules (version_of psbt.global)) psbt.inputs inputs) (plain_maps (output_rules (version_of psbt.global)) psbt.outputs outputs),
    ) in
    let many : length psbt.inputs ≡ length whole.inputs = as_many_inputs psbt sound ∙ ap (λ (x : Transaction). length x.inputs) same ∙ sym h.each_input in
    let most : length psbt.outputs ≡ length whole.outputs = as_many_outputs psbt sound ∙ ap (λ (x : Transaction). length x.outputs) same ∙ sym h.each_output in
    let long : length (maps_of whole) ≡ length (maps_of psbt) =
    (let a = length-append whole.inputs whole.outputs in let b = length-append psbt.inputs psbt.outputs in omega (arith, a, b, many, most)) in
    let one : maps_of whole ≡ maps_of psbt = one_list (maps_of whole) (maps_of psbt) (psbt_plain n v t whole h) plain long maps in
    let rest : whole.inputs ++ whole.outputs ≡ psbt.inputs ++ psbt.outputs = ap (drop 1) one in
    let ins : whole.inputs ≡ psbt.inputs = sym (take_at whole.inputs whole.outputs (length whole.inputs) refl) ∙ ap (take (length whole.inputs)) rest
    ∙ take_at psbt.inputs psbt.outputs (length whole.inputs) many in
    let outs : whole.outputs ≡ psbt.outputs = sym (drop_at whole.inputs whole.outputs (length whole.inputs) refl) ∙ ap (drop (length whole.inputs)) rest
    ∙ drop_at psbt.inputs psbt.outputs (length whole.inputs) many in
    let global : whole.global ≡ psbt.global = ap (first_map whole.global) one in
    let psbts : whole ≡ psbt = ap (λ (g : Map). with_all g whole.transaction whole.inputs whole.outputs) global
    ∙ ap (λ (x : Transaction). with_all psbt.global x whole.inputs whole.outputs) (h.transaction ∙ sym same)
    ∙ ap (λ (l : List Map). with_all psbt.global psbt.transaction l whole.outputs) ins
    ∙ ap (λ (l : List Map). with_all psbt.global psbt.transaction psbt.inputs l) outs in
    ap keeps_lock_time psbts ∙ sound_keeps psbt sound
  where
    first_map : Map → List Map → Map
    first_map none [] = none
    first_map none (m ∷ maps) = m

-- ---- the outcome

pub source_long : (source : Bytes) → MAX_SOURCE_SIZE < length source → combined_of source ≡ Err refusal.TooLong
unfolding combined_of parts_of
source_long source long =
    ap (λ (b : Bool). cond b (Err refusal.TooLong) (line_parts (lines_from 1 (lines source))) >>= combined) (lt-ltb MAX_SOURCE_SIZE (length source) long)

pub source_refused : (source : Bytes) (why : CombineRefusal) → length source ≤ MAX_SOURCE_SIZE → line_parts (lines_from 1 (lines source)) ≡ Err why → combined_of source ≡ Err why
unfolding combined_of parts_of
source_refused source why short e =
    let room : nat_lt MAX_SOURCE_SIZE (length source) ≡ false = le-ltb MAX_SOURCE_SIZE (length source) short in
    ap (λ (b : Bool). cond b (Err refusal.TooLong) (line_parts (lines_from 1 (lines source))) >>= combined) room ∙ ap (λ (r : Result Parts CombineRefusal). r >>= combined) e

pub source_given : (source : Bytes) (parts : Parts) → length source ≤ MAX_SOURCE_SIZE → line_parts (lines_from 1 (lines source)) ≡ Ok parts → parts_of source ≡ Ok parts
unfolding parts_of
source_given source parts short e =
    let room : nat_lt MAX_SOURCE_SIZE (length source) ≡ false = le-ltb MAX_SOURCE_SIZE (length source) short in
    ap (λ (b : Bool). cond b (Err refusal.TooLong) (line_parts (lines_from 1 (lines source)))) room ∙ e

outcome : (source : Bytes) (parts : Parts) (keeps : Bool) → parts_of source ≡ Ok parts → keeps_lock_time (joined_all parts.first parts.others) ≡ keeps
    → combined_of source ≡ cond keeps (Ok (joined_all parts.first parts.others)) (Err refusal.OtherTransaction)
unfolding combined_of combined
outcome source parts keeps e k =
    ap (λ (r : Result Parts CombineRefusal). r >>= combined) e
    ∙ ap (λ (b : Bool). cond b (Ok (joined_all parts.first parts.others)) (Err refusal.OtherTransaction)) k

pub given_zero : (source : Bytes) (parts : Parts) → parts_of source ≡ Ok parts → Together parts → (version_number parts.first.global == 2) ≡ false
    → combined_of source ≡ Ok (joined_all parts.first parts.others)
given_zero source parts e k other =
    outcome source parts true e
    (keeps_zero (version_number parts.first.global) (version_of parts.first.global) parts.first.transaction (joined_all parts.first parts.others) k.0.whole other)

pub given_same : (source : Bytes) (parts : Parts) → parts_of source ≡ Ok parts → Together parts
    → IsReadWith (bytes_of (joined_all parts.first parts.others)) parts.first.transaction → combined_of source ≡ Ok (joined_all parts.first parts.others)
given_same source parts e k h =
    outcome source parts true e
    (keeps_read (version_number parts.first.global) (version_of parts.first.global) parts.first.transaction (joined_all parts.first parts.others) h.psbt k.0.whole h.sound h.text h.same)

pub given_other : WrittenIsReadBack → (source : Bytes) (parts : Parts) → parts_of source ≡ Ok parts → Together parts
    → SaysTransaction (bytes_of (joined_all parts.first parts.others)) parts.first.transaction false → combined_of source ≡ Err refusal.OtherTransaction
given_other back source parts e k says =
    let whole : Psbt = joined_all parts.first parts.others in
    elim (cases_Bool (keeps_lock_time (joined_all parts.first parts.others))) [
      | inr other ↦ outcome source parts false e other
      | inl keeps ↦
          let is = whole_common (version_number parts.first.global) (version_of parts.first.global) parts.first.transaction (joined_all parts.first parts.others)
          k.1.transaction k.0.whole keeps in
          absurd (says (joined_all parts.first parts.others) (back (joined_all parts.first parts.others) is.sound) k.0.whole.transaction)
    ]

-- ---- what a source gives, kept and put together

pub record Known (source : Bytes) (kept : held.Parts) (parts : Parts) : Type 0 where
  pub given_parts : parts_of source ≡ Ok parts
  pub all_together : Together parts
  pub are_kept : AreKept kept parts.first parts.others

pub known : EachIsSound → (source : Bytes) → IsBytes source → length source ≤ MAX_SOURCE_SIZE → (texts : List Line) → texts ≡ lines_from 1 (lines source) → (kept : held.Parts)
    → ((x : Parts) × (line_parts texts ≡ Ok x) × AreKept kept x.first x.others) → (x : Parts) × Known source kept x
known law source fits short texts is kept h =
    let e = source_given source h.0 short (ap line_parts (sym is) ∙ h.1) in
    (h.0, record { given_parts = e; all_together = together law source h.0 fits e; are_kept = h.2 })

pub joined_is : (source : Bytes) (kept : held.Parts) (parts : Parts) (bytes text : Bytes) → Known source kept parts → bytes ≡ kept.bytes.items
    → ((row : List Map) (rows : List (List Map)) → AreRows bytes kept.first_end kept.places.items row rows → text ≡ magic ++ flat_map map_text (rows_joined row rows))
    → text ≡ bytes_of (joined_all parts.first parts.others)
joined_is source kept parts bytes text h e each =
    each (maps_of parts.first) (map maps_of parts.others)
    (subst (λ (b : Bytes). AreRows b kept.first_end kept.places.items (maps_of parts.first) (map maps_of parts.others)) (sym e) (rows_of kept parts h.are_kept h.all_together))
    ∙ text_is parts h.all_together

pub refused_so : {U V : Type 0} (P : U → Parts → Type 0) (Q : V → Psbt → Type 0) (why : CombineStop) (source : Bytes) (texts : List Line) → length source ≤ MAX_SOURCE_SIZE
    → texts ≡ lines_from 1 (lines source) → CombinesOr P (Err why) (line_parts texts) → CombinesOr Q (Err why) (combined_of source)
refused_so P Q (stop.Refused refusal) source texts short is h = source_refused source refusal short (ap line_parts (sym is) ∙ h)
refused_so P Q stop.Memory source texts short is h = tt
