-- What was combined is read again; combined with its parts again it stays as it is.
use Rattle.std.proofs.Common.{◌≡◌, ℕ, ◌≤◌, true, false, List, [], ◌∷◌, ◌++◌, length, replicate, filter, None, Ok, inl, inr, refl, sym, ap, subst, ◌∙◌, append_assoc, arith}
use Rattle.std.specs.Prelude.{⊤}
use Rattle.std.specs.List.{AllByRecursion}
use Rattle.std.specs.Str.{bytes_eq}
use Rattle.std.proofs.lemmas.Bool.{cases_Bool, or_left, or_right, not_from_true, eq-eqb}
use Rattle.std.proofs.lemmas.List.{length-append, append-nil}
use Rattle.std.proofs.lemmas.List.Elements.{All-from_recursion}
use Rattle.std.proofs.lemmas.Slice.Eq.{bytes_eq-Decides}
use Rattle.base64.specs.Rfc4648.{encode_symbols, padding_len}
use Rattle.base64.specs.Engines.{standard}
use Rattle.base64.specs.GeneralPurpose.{decode_of, encode_of}
use Rattle.base64.proofs.RoundTrip.{length-encode_symbols}
use Rattle.base64.proofs.EngineFacts.{decode_of-encode_of}
use Rattle.def_script.specs.Bytes.{Bytes}
use Rattle.def_psbt.specs.Transaction.{transaction_text}
use Rattle.def_psbt.specs.Map.{Pair, Map, Psbt, psbt_text}
use Rattle.def_psbt.specs.Fields.{version_number, version_of}
use Rattle.def_psbt.specs.Listed.{stands}
use Rattle.def_psbt.specs.Reading.{read_psbt}
use Rattle.def_psbt.specs.Source.{MAX_SOURCE_SIZE, has_magic}
use Rattle.def_psbt.specs.Laws.{WrittenIsReadBack, ReadIsWritten}
use Rattle.def_combine.specs.Combine.{◌>>=◌, Line, text_psbt, line_psbt, other_fault, other_psbts, Parts, line_parts, whole_of, combined}
use Rattle.def_combine.specs.Joined.{is_new, joined_map, joined_maps, joined, joined_all, same_version, same_transaction, keeps_lock_time}
use Rattle.ms_given_laws.specs.Given.{EachIsSound}
use Rattle.ms_combine_laws.specs.Combined.{all_parts, IsReadAgain, OneIsItself, HoldsEachPart, GoesOn}
use Rattle.ms_combine_laws.proofs.Found.{joined_stands}
use Rattle.ms_combine_laws.proofs.Common.{IsCommon}
use Rattle.ms_combine_laws.proofs.Given.{IsText, source_texts, bind_is, ok_same, at_line_is, source_lines, combined_is, are_combined}

pub is_read_again : EachIsSound → WrittenIsReadBack → IsReadAgain
is_read_again law back source parts whole fits e c =
    let h = are_combined law source parts whole fits e c in
    (h.is_whole, back whole h.is_whole.sound)

-- ---- a map that holds another one's keys stays as it is

abbrev IsHeld : (whole map : Map) → Type 0
IsHeld whole map = AllByRecursion (λ (pair : Pair). stands pair.key whole ≡ true) map

none_new : (whole map : Map) → IsHeld whole map → filter (is_new whole) map ≡ []
none_new whole [] h = refl
none_new whole (pair ∷ map) h = let old : is_new whole pair ≡ false = not_from_true (stands pair.key whole) h.0 in rw old (none_new whole map h.1)

stays : (whole map : Map) → IsHeld whole map → joined_map whole map ≡ whole
stays whole map h = ap (λ (l : Map). whole ++ l) (none_new whole map h) ∙ append-nil whole

held_by_self : (before map : Map) → IsHeld (before ++ map) map
held_by_self before [] = tt
held_by_self before (pair ∷ map) = (there before, subst (λ (l : Map). IsHeld l map) (append_assoc before (pair ∷ []) map) (held_by_self (before ++ pair ∷ []) map))
  where
    there : (before : Map) → stands pair.key (before ++ pair ∷ map) ≡ true
    there [] = or_left (bytes_eq pair.key pair.key) (stands pair.key map) ((bytes_eq-Decides pair.key pair.key).1 refl)
    there (p ∷ before) = or_right (bytes_eq pair.key p.key) (stands pair.key (before ++ pair ∷ map)) (there before)

held_first : (a b map : Map) → IsHeld a map → IsHeld (joined_map a b) map
held_first a b [] h = tt
held_first a b (pair ∷ map) h = (joined_stands pair.key a b ∙ or_left (stands pair.key a) (stands pair.key b) h.0, held_first a b map h.1)

held_second : (a b map : Map) → IsHeld b map → IsHeld (joined_map a b) map
held_second a b [] h = tt
held_second a b (pair ∷ map) h = (joined_stands pair.key a b ∙ or_right (stands pair.key a) (stands pair.key b) h.0, held_second a b map h.1)

-- ---- maps

abbrev AreHeld : (whole maps : List Map) → Type 0
AreHeld [] maps = ⊤
AreHeld (whole ∷ wholes) [] = ⊤
AreHeld (whole ∷ wholes) (map ∷ maps) = IsHeld whole map × AreHeld wholes maps

all_stay : (wholes maps : List Map) → AreHeld wholes maps → joined_maps wholes maps ≡ wholes
all_stay [] maps h = refl
all_stay (whole ∷ wholes) [] h = refl
all_stay (whole ∷ wholes) (map ∷ maps) h =
    ap (λ (x : Map). x ∷ joined_maps wholes maps) (stays whole map h.0) ∙ ap (λ (l : List Map). whole ∷ l) (all_stay wholes maps h.1)

all_held_by_self : (maps : List Map) → AreHeld maps maps
all_held_by_self [] = tt
all_held_by_self (map ∷ maps) = (held_by_self [] map, all_held_by_self maps)

all_held_first : (xs ys maps : List Map) → AreHeld xs maps → AreHeld (joined_maps xs ys) maps
all_held_first [] ys maps h = tt
all_held_first (a ∷ xs) [] maps h = h
all_held_first (a ∷ xs) (b ∷ ys) [] h = tt
all_held_first (a ∷ xs) (b ∷ ys) (map ∷ maps) h = (held_first a b map h.0, all_held_first xs ys maps h.1)

all_held_second : (xs ys : List Map) → AreHeld (joined_maps xs ys) ys
all_held_second [] ys = tt
all_held_second (a ∷ xs) [] = tt
all_held_second (a ∷ xs) (b ∷ ys) = (held_second a b b (held_by_self [] b), all_held_second xs ys)

-- ---- PSBTs

record Holds (whole part : Psbt) : Type 0 where
  global : IsHeld whole.global part.global
  inputs : AreHeld whole.inputs part.inputs
  outputs : AreHeld whole.outputs part.outputs

holds_self : (psbt : Psbt) → Holds psbt psbt
holds_self psbt = record { global = held_by_self [] psbt.global; inputs = all_held_by_self psbt.inputs; outputs = all_held_by_self psbt.outputs }

holds_first : (a b part : Psbt) → Holds a part → Holds (joined a b) part
holds_first a b part h = record {
  global = held_first a.global b.global part.global h.global;
  inputs = all_held_first a.inputs b.inputs part.inputs h.inputs;
  outputs = all_held_first a.outputs b.outputs part.outputs h.outputs;
}

holds_second : (a b : Psbt) → Holds (joined a b) b
holds_second a b = record {
  global = held_second a.global b.global b.global (held_by_self [] b.global);
  inputs = all_held_second a.inputs b.inputs;
  outputs = all_held_second a.outputs b.outputs;
}

goes_on_holding : (first part : Psbt) (others : List Psbt) → Holds first part → Holds (joined_all first others) part
goes_on_holding first part [] h = h
goes_on_holding first part (other ∷ others) h = goes_on_holding (joined first other) part others (holds_first first other part h)

holds_others : (first : Psbt) (others : List Psbt) → AllByRecursion (Holds (joined_all first others)) others
holds_others first [] = tt
holds_others first (other ∷ others) = (goes_on_holding (joined first other) other others (holds_second first other), holds_others (joined first other) others)

abbrev with_maps : Psbt → (global : Map) → (inputs outputs : List Map) → Psbt
with_maps psbt global inputs outputs = record psbt { global = global; inputs = inputs; outputs = outputs }

joined_stays : (whole part : Psbt) → Holds whole part → joined whole part ≡ whole
joined_stays whole part h =
    ap (λ (g : Map). with_maps whole g (joined_maps whole.inputs part.inputs) (joined_maps whole.outputs part.outputs)) (stays whole.global part.global h.global)
    ∙ ap (λ (l : List Map). with_maps whole whole.global l (joined_maps whole.outputs part.outputs)) (all_stay whole.inputs part.inputs h.inputs)
    ∙ ap (λ (l : List Map). with_maps whole whole.global whole.inputs l) (all_stay whole.outputs part.outputs h.outputs)

-- ---- with a part behind it

together : (n : ℕ) (whole part : Psbt) → version_number whole.global ≡ n → version_number part.global ≡ n → part.transaction ≡ whole.transaction → other_fault whole part ≡ None
together n whole part e f t =
    let version : same_version whole part ≡ true = eq-eqb (version_number whole.global) (version_number part.global) (e ∙ sym f) in
    let transaction : same_transaction whole part ≡ true =
    (bytes_eq-Decides (transaction_text whole.transaction) (transaction_text part.transaction)).1 (ap transaction_text (sym t)) in
    rw (version, transaction) refl

again : (whole part : Psbt) → keeps_lock_time whole ≡ true → Holds whole part → combined (record { first = whole; others = part ∷ [] }) ≡ Ok whole
unfolding combined
again whole part keeps h = ap whole_of (joined_stays whole part h) ∙ kept
  where
    kept : whole_of whole ≡ Ok whole
    kept = rw keeps refl

abbrev IsAgain : (whole part : Psbt) → Type 0
IsAgain whole part = (other_fault whole part ≡ None) × (combined (record { first = whole; others = part ∷ [] }) ≡ Ok whole)

each_again : (first whole : Psbt) (parts : List Psbt) → keeps_lock_time whole ≡ true → IsCommon (version_number first.global) (version_of first.global) first.transaction whole
    → AllByRecursion (IsCommon (version_number first.global) (version_of first.global) first.transaction) parts → AllByRecursion (Holds whole) parts → AllByRecursion (IsAgain whole) parts
each_again first whole [] keeps h k l = tt
each_again first whole (part ∷ parts) keeps h k l = (
  (together (version_number first.global) whole part h.number k.0.number (k.0.transaction ∙ sym h.transaction), again whole part keeps l.0),
  each_again first whole parts keeps h k.1 l.1,
)

pub holds_each_part : EachIsSound → HoldsEachPart
holds_each_part law source parts whole fits e c =
    let h = are_combined law source parts whole fits e c in
    let held : AllByRecursion (Holds (joined_all parts.first parts.others)) (parts.first ∷ parts.others) =
    (goes_on_holding parts.first parts.first parts.others (holds_self parts.first), holds_others parts.first parts.others) in
    All-from_recursion (IsAgain whole) (all_parts parts)
    (each_again parts.first whole (parts.first ∷ parts.others) h.keeps h.common h.each (subst (λ (x : Psbt). AllByRecursion (Holds x) (parts.first ∷ parts.others)) h.is held))

-- ---- some first

joined_behind : (first : Psbt) (some others : List Psbt) → joined_all first (some ++ others) ≡ joined_all (joined_all first some) others
joined_behind first [] others = refl
joined_behind first (one ∷ some) others = joined_behind (joined first one) some others

pub goes_on : GoesOn
unfolding combined
goes_on first whole some others e =
    let is = combined_is (record { first = first; others = some }) whole e in
    ap whole_of (ap (λ (x : Psbt). joined_all x others) (sym is.0) ∙ sym (joined_behind first some others))

-- ---- one part alone

shorter : (bytes : Bytes) → length bytes ≤ length (encode_of standard bytes)
shorter bytes =
    let both = length-append (encode_symbols standard.encode_table bytes) (replicate (padding_len (length bytes)) standard.padding.value) in
    let symbols = length-encode_symbols standard.encode_table bytes in
    omega (arith, both, symbols)

read_as : (text bytes : Bytes) (psbt : Psbt) → decode_of standard text ≡ Ok bytes → text_psbt text ≡ Ok psbt → (has_magic bytes ≡ true) × (read_psbt bytes ≡ Ok psbt)
read_as text bytes psbt is e = elim (cases_Bool (has_magic bytes)) [
  | inl h ↦ (h, rw (is, h) at e)
  | inr h ↦ (let no = rw (is, h) at e in absurd cc)
]

pub one_is_itself : ReadIsWritten → OneIsItself
unfolding other_psbts
one_is_itself law source bytes number parts whole fits own ls e c =
    let line : Line = record { number = number; text = encode_of standard bytes } in
    let l = source_lines source parts e in
    let one : line_parts (record { number = number; text = encode_of standard bytes } ∷ []) ≡ Ok parts = ap line_parts (sym ls) ∙ l.1 in
    let read = bind_is (line_psbt line) (λ first. other_psbts first [] >>= λ others. Ok (record { first = first; others = others })) parts one in
    let same : record { first = read.0; others = [] } ≡ parts = ok_same (record { first = read.0; others = [] }) parts read.2 in
    let is = combined_is parts whole c in
    let first : read.0 ≡ whole = ap (λ (p : Parts). joined_all p.first p.others) same ∙ is.0 in
    let text = at_line_is number (text_psbt (encode_of standard bytes)) read.0 read.1 in
    let back = decode_of-encode_of standard bytes refl own in
    let xs = read_as (encode_of standard bytes) bytes read.0 back text in
    let texts : AllByRecursion (IsText MAX_SOURCE_SIZE) (line ∷ []) = subst (λ (x : List Line). AllByRecursion (IsText MAX_SOURCE_SIZE) x) ls (source_texts source fits l.0) in
    let few = texts.0.short in
    let less = shorter bytes in
    let written = law bytes read.0 own (omega (arith, few, less)) xs.0 xs.1 in (
      sym same ∙ ap (λ (x : Psbt). record { first = x; others = [] }) first,
      ap (λ (x : Psbt). psbt_text x.global x.inputs x.outputs) (sym first) ∙ sym written.1,
    )
