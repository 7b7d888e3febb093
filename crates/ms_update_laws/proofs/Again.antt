-- What was updated, updated once more.
use Rattle.std.proofs.Common.{◌≡◌, ℕ, ◌+◌, ◌&&◌, not, Bool, true, false, cond, List, [], ◌∷◌, ◌++◌, length, filter, map, Option, Some, None, inl, inr, refl, sym, ap, ◌∙◌}
use Rattle.std.specs.List.{AllByRecursion}
use Rattle.std.specs.Option.{option_and_then}
use Rattle.std.specs.Str.{bytes_eq}
use Rattle.std.proofs.lemmas.Bool.{cases_Bool, and_left, and_right, and_cases, or_parts, or_from, or_left, or_right, not_from_true, not-false}
use Rattle.std.proofs.lemmas.List.{append-nil}
use Rattle.std.proofs.lemmas.Slice.Eq.{bytes_eq-Decides}
use Rattle.def_script.specs.Bytes.{Bytes}
use Rattle.def_psbt.specs.Map.{Pair, Map, pair_text, map_text}
use Rattle.def_psbt.specs.Listed.{stands}
use Rattle.def_psbt.specs.Reading.{or_else}
use Rattle.def_psbt.specs.Transaction.{TransactionInput}
use Rattle.def_combine.specs.Joined.{is_new, joined_map, joined_maps}
use Rattle.def_spend.specs.Utxo.{Utxo}
use Rattle.def_spend.specs.Reading.{has_final}
use Rattle.def_update.specs.Known.{Known, INPUT, pairs_by, known_by}
use Rattle.def_update.specs.Updated.{spent_script, known_of_input, each_input, input_pairs, conflicts, conflict_in, conflict_among}
use Rattle.ms_combine_laws.proofs.Found.{joined_stands}
use Rattle.ms_update_laws.specs.Updated.{value_of_key}
use Rattle.ms_update_laws.proofs.Own.{IsOther, IsOnce}
use Rattle.ms_update_laws.proofs.Same.{AreSame, AllSame, same_utxo, same_final}
use Rattle.ms_update_laws.proofs.Sound.{turned}

-- ---- no pair that belongs conflicts with one

abbrev conflict_with : (pair own : Pair) → Bool
conflict_with pair own = bytes_eq pair.key own.key && not (bytes_eq pair.value own.value)

abbrev Free : (own : Map) → Pair → Type 0
Free own pair = conflicts own pair ≡ false

others_free : (pair : Pair) (own : Map) → IsOther pair own → conflicts own pair ≡ false
others_free pair [] other = refl
others_free pair (q ∷ own) other =
    or_from (conflict_with pair q) (conflicts own pair) (and_left (bytes_eq pair.key q.key) (not (bytes_eq pair.value q.value)) other.0) (others_free pair own other.1)

itself_free : (pair : Pair) → conflict_with pair pair ≡ false
itself_free pair =
    and_right (bytes_eq pair.key pair.key) (not (bytes_eq pair.value pair.value)) (not_from_true (bytes_eq pair.value pair.value) ((bytes_eq-Decides pair.value pair.value).1 refl))

one_more_free : (pair : Pair) (own rest : Map) → IsOther pair rest → AllByRecursion (Free own) rest → AllByRecursion (Free (pair ∷ own)) rest
one_more_free pair own [] other free = tt
one_more_free pair own (q ∷ rest) other free = (
  or_from (conflict_with q pair) (conflicts own q) (and_left (bytes_eq q.key pair.key) (not (bytes_eq q.value pair.value)) (turned pair.key q.key other.0)) free.0,
  one_more_free pair own rest other.1 free.1,
)

own_free : (own : Map) → IsOnce own → AllByRecursion (Free own) own
own_free [] once = tt
own_free (pair ∷ own) once = (
  or_from (conflict_with pair pair) (conflicts own pair) (itself_free pair) (others_free pair own once.0),
  one_more_free pair own own once.0 (own_free own once.1),
)

-- ---- a map in which no pair conflicts

pub none_conflicts : (own : Map) (at : ℕ) (map : Map) → conflict_in own at map ≡ None → AllByRecursion (Free own) map
none_conflicts own at [] e = tt
none_conflicts own at (pair ∷ map) e = go (conflicts own pair) refl (none_conflicts own (at + length (pair_text pair)) map) e
  where
    go : (b : Bool) → conflicts own pair ≡ b → (conflict_in own (at + length (pair_text pair)) map ≡ None → AllByRecursion (Free own) map)
        → cond b (Some at) (conflict_in own (at + length (pair_text pair)) map) ≡ None → AllByRecursion (Free own) (pair ∷ map)
    go true is rest f = absurd cc
    go false is rest f = (is, rest f)

no_conflict : (own : Map) (at : ℕ) (map : Map) → AllByRecursion (Free own) map → conflict_in own at map ≡ None
no_conflict own at [] free = refl
no_conflict own at (pair ∷ map) free = let is = free.0 in rw is (no_conflict own (at + length (pair_text pair)) map free.1)

joined_free : (own first second : Map) → AllByRecursion (Free own) first → AllByRecursion (Free own) second → AllByRecursion (Free own) (first ++ second)
joined_free own [] second h k = k
joined_free own (pair ∷ first) second h k = (h.0, joined_free own first second h.1 k)

kept_free : (own : Map) (test : Pair → Bool) (map : Map) → AllByRecursion (Free own) map → AllByRecursion (Free own) (filter test map)
kept_free own test [] free = tt
kept_free own test (pair ∷ map) free =
    let rest = kept_free own test map free.1 in
    elim (cases_Bool (test pair)) [ inl e ↦ rw e (free.0, rest) | inr e ↦ rw e rest ]

still_free : (own map : Map) (at next : ℕ) → IsOnce own → conflict_in own at map ≡ None → conflict_in own next (joined_map map own) ≡ None
still_free own map at next once e =
    no_conflict own next (joined_map map own) (joined_free own map (filter (is_new map) own) (none_conflicts own at map e) (kept_free own (is_new map) own (own_free own once)))

parts_none : (o p : Option ℕ) → or_else o p ≡ None → (o ≡ None) × (p ≡ None)
parts_none None p e = (refl, e)
parts_none (Some x) p e = absurd cc

pub none_among : (owns maps : List Map) (at next : ℕ) → AllByRecursion IsOnce owns → conflict_among owns at maps ≡ None → conflict_among owns next (joined_maps maps owns) ≡ None
none_among owns [] at next once e = refl
none_among [] (map ∷ maps) at next once e = refl
none_among (own ∷ owns) (map ∷ maps) at next once e =
    let parts = parts_none (conflict_in own at map) (conflict_among owns (at + length (map_text map)) maps) e in
    let first : conflict_in own next (joined_map map own) ≡ None = still_free own map at next once.0 parts.0 in
    ap (λ (o : Option ℕ). or_else o (conflict_among owns (next + length (map_text (joined_map map own))) (joined_maps maps owns))) first
    ∙ none_among owns maps (at + length (map_text map)) (next + length (map_text (joined_map map own))) once.1 parts.1

-- ---- nothing is added twice

old_filtered : (whole own : Map) → AllByRecursion (λ (pair : Pair). stands pair.key whole ≡ true) own → filter (is_new whole) own ≡ []
old_filtered whole [] all = refl
old_filtered whole (pair ∷ own) all = let old : is_new whole pair ≡ false = not_from_true (stands pair.key whole) all.0 in rw old (old_filtered whole own all.1)

own_stand : (whole own : Map) → ((key : Bytes) → stands key own ≡ true → stands key whole ≡ true) → AllByRecursion (λ (pair : Pair). stands pair.key whole ≡ true) own
own_stand whole [] held = tt
own_stand whole (pair ∷ own) held = (
  held pair.key (or_left (bytes_eq pair.key pair.key) (stands pair.key own) ((bytes_eq-Decides pair.key pair.key).1 refl)),
  own_stand whole own (λ key e. held key (or_right (bytes_eq key pair.key) (stands key own) e)),
)

stays : (map own : Map) → joined_map (joined_map map own) own ≡ joined_map map own
stays map own =
    let held = own_stand (joined_map map own) own (λ key e. joined_stands key map own ∙ or_right (stands key map) (stands key own) e) in
    ap (λ (added : Map). joined_map map own ++ added) (old_filtered (joined_map map own) own held) ∙ append-nil (joined_map map own)

pub all_stay : (maps owns : List Map) → joined_maps (joined_maps maps owns) owns ≡ joined_maps maps owns
all_stay [] owns = refl
all_stay (map ∷ maps) [] = refl
all_stay (map ∷ maps) (own ∷ owns) =
    ap (λ (m : Map). m ∷ joined_maps (joined_maps maps owns) owns) (stays map own) ∙ ap (λ (ms : List Map). joined_map map own ∷ ms) (all_stay maps owns)

-- ---- the same belongs

known_same : (known : List Known) (input : TransactionInput) (a b : Map) → AreSame 4 6 a b → known_of_input known input b ≡ known_of_input known input a
known_same known input a b same = ap (λ (u : Utxo). option_and_then (known_by known) (spent_script u)) (same_utxo same input.outpoint)

pairs_same : (known : List Known) (input : TransactionInput) (a b : Map) → AreSame 4 6 a b → input_pairs known input b ≡ input_pairs known input a
pairs_same known input a b same =
    ap (λ (x : Bool). cond x [] (pairs_by INPUT (known_of_input known input b))) (same_final same)
    ∙ ap (λ (o : Option Known). cond (has_final a) [] (pairs_by INPUT o)) (known_same known input a b same)

each_input_same : {B : Type 0} (of : TransactionInput → Map → B) → ((input : TransactionInput) (a b : Map) → AreSame 4 6 a b → of input b ≡ of input a) → (inputs : List TransactionInput)
    (before after : List Map) → AllSame 4 6 before after → each_input of inputs after ≡ each_input of inputs before
each_input_same of same [] before after h = refl
each_input_same of same (input ∷ inputs) [] [] h = refl
each_input_same of same (input ∷ inputs) [] (b ∷ after) h = absurd h
each_input_same of same (input ∷ inputs) (a ∷ before) [] h = absurd h
each_input_same {B} of same (input ∷ inputs) (a ∷ before) (b ∷ after) h =
    ap (λ (x : B). x ∷ each_input of inputs after) (same input a b h.0) ∙ ap (λ (xs : List B). of input a ∷ xs) (each_input_same of same inputs before after h.1)

pub inputs_pairs_same : (known : List Known) (inputs : List TransactionInput) (before after : List Map) → AllSame 4 6 before after
    → each_input (input_pairs known) inputs after ≡ each_input (input_pairs known) inputs before
inputs_pairs_same known inputs before after h = each_input_same (input_pairs known) (pairs_same known) inputs before after h

pub inputs_known_same : (known : List Known) (inputs : List TransactionInput) (before after : List Map) → AllSame 4 6 before after
    → each_input (known_of_input known) inputs after ≡ each_input (known_of_input known) inputs before
inputs_known_same known inputs before after h = each_input_same (known_of_input known) (known_same known) inputs before after h

-- ---- each pair that belongs has its value

-- a pair with the key of one that belongs has its value
free_value : (own pair : Pair) → conflict_with pair own ≡ false → bytes_eq pair.key own.key ≡ true → pair.value ≡ own.value
free_value own pair free same = elim (and_cases (bytes_eq pair.key own.key) (not (bytes_eq pair.value own.value)) free) [
  | inl other ↦ (let no : true ≡ false = sym same ∙ other in absurd cc)
  | inr value ↦ (bytes_eq-Decides pair.value own.value).0 (not-false (bytes_eq pair.value own.value) value)
]

-- of a key the first pair, where none conflicts with one that belongs
found_value : (own : Pair) (map : Map) → AllByRecursion (λ (pair : Pair). conflict_with pair own ≡ false) map → stands own.key map ≡ true → value_of_key own.key map ≡ Some own.value
found_value own [] free there = absurd cc
found_value own (pair ∷ map) free there = elim (cases_Bool (bytes_eq own.key pair.key)) [
  | inl e ↦ rw e (ap Some (free_value own pair free.0 ((bytes_eq-Decides pair.key own.key).1 (sym ((bytes_eq-Decides own.key pair.key).0 e)))))
  | inr e ↦ rw e (found_value own map free.1 (let later : stands own.key map ≡ true = rw e at there in later))
]

-- what is free of all that belongs is free of each
abbrev FreeOf : (own : Pair) → Map → Type 0
FreeOf own map = AllByRecursion (λ (pair : Pair). conflict_with pair own ≡ false) map

first_free : (own : Pair) (rest map : Map) → AllByRecursion (Free (own ∷ rest)) map → FreeOf own map
first_free own rest [] free = tt
first_free own rest (pair ∷ map) free = ((or_parts (conflict_with pair own) (conflicts rest pair) free.0).0, first_free own rest map free.1)

rest_free : (own : Pair) (rest map : Map) → AllByRecursion (Free (own ∷ rest)) map → AllByRecursion (Free rest) map
rest_free own rest [] free = tt
rest_free own rest (pair ∷ map) free = ((or_parts (conflict_with pair own) (conflicts rest pair) free.0).1, rest_free own rest map free.1)

each_value : (own map : Map) → AllByRecursion (Free own) map → AllByRecursion (λ (pair : Pair). stands pair.key map ≡ true) own
    → AllByRecursion (λ (pair : Pair). value_of_key pair.key map ≡ Some pair.value) own
each_value [] map free there = tt
each_value (pair ∷ own) map free there = (found_value pair map (first_free pair own map free) there.0, each_value own map (rest_free pair own map free) there.1)

pub holds_own : (own map : Map) (at : ℕ) → IsOnce own → conflict_in own at map ≡ None → AllByRecursion (λ (pair : Pair). value_of_key pair.key (joined_map map own) ≡ Some pair.value) own
holds_own own map at once e =
    each_value own (joined_map map own)
    (joined_free own map (filter (is_new map) own) (none_conflicts own at map e) (kept_free own (is_new map) own (own_free own once)))
    (own_stand (joined_map map own) own (λ key f. joined_stands key map own ∙ or_right (stands key map) (stands key own) f))
