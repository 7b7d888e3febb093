-- What is read of a descriptor's tokens is printed: key expressions.
use Rattle.std.proofs.Common.{◌≡◌, inl, inr, ℕ, zero, suc, ◌-◌, ◌==◌, ◌<◌, Bool, true, false, List, [], ◌∷◌, ◌++◌, length, take, drop, slice_index, codes, arith, refl, sym, subst, cond, Option, Some, None, Result, Ok, Err}
use Rattle.std.specs.Prelude.{◌&&◌, ◌||◌, nat_le, nat_eq, nat_lt, not, if◌then◌else◌}
use Rattle.std.specs.Char.{is_ascii_digit}
use Rattle.std.specs.List.{list_any, AllPass}
use Rattle.std.specs.Option.{option_and_then, option_map}
use Rattle.std.specs.Str.{all_ascii_digits, bytes_eq}
use Rattle.std.specs.Str.Parse.{digits_value}
use Rattle.std.proofs.lemmas.Bool.{and_parts, or_cases, eqb-true}
use Rattle.std.proofs.lemmas.List.Elements.{All-head}
use Rattle.std.proofs.lemmas.Slice.Eq.{bytes_eq-Decides}
use Rattle.hex.specs.Hex.{decode_of, is_hex_digit}
use Rattle.hex.proofs.HexLemmas.{decode_of-ok}
use Rattle.def_script.specs.Bytes.{Bytes}
use Rattle.def_tree.specs.Tree.{Key}
use Rattle.def_text.specs.Word.{is_number, number_of, key_of}
use Rattle.def_descriptor.specs.declared.DescriptorFault.{DescriptorFault}
use Rattle.def_descriptor.specs.declared.DescriptorFault.TheVariants.{Hardened}
use Rattle.def_descriptor.specs.Token.{Token, token, starts, place}
use Rattle.def_descriptor.specs.Expression.{Way, index}
use Rattle.def_descriptor.specs.Steps.{HARDENED, MOST_STEPS, MOST_BRANCHES, Step, step_number, step_of, marked, read_step, read_steps, plain as plain_step, read_plain, read_numbers, fits, read_index, read_ways}
use Rattle.def_descriptor.specs.ReadKey.{print_of, origin_by, read_print, read_origin}
use Rattle.ms_key_laws.proofs.Words.{decoded, key_size, key_digits}
use Rattle.ms_key_laws.proofs.Clean.{is_printed, IsClean, AreGood, Reaches, here, still_good, past_printed, past_mark, ReachesBy, from_further, reach_then, reach_if, reach_behind}

-- ---- words that begin with a printed character

abbrev pub StartsPrinted : Bytes → Type 0
StartsPrinted [] = ⊥
StartsPrinted (b ∷ word) = is_printed b ≡ true

pub past_word : (at : ℕ) (word : Bytes) {ts rest : List Token} → AreGood (token at word ∷ ts) → StartsPrinted word → Reaches ts rest → Reaches (token at word ∷ ts) rest
past_word at [] good h r = absurd h
past_word at (b ∷ word) good h r = past_printed at b word good h r

digit_printed : (b : ℕ) → is_ascii_digit b ≡ true → is_printed b ≡ true
digit_printed b h = grind arith

hex_printed : (b : ℕ) → is_hex_digit b ≡ true → is_printed b ≡ true
hex_printed b h = grind arith

number_starts : (b : ℕ) (word : Bytes) → is_number (b ∷ word) ≡ true → is_printed b ≡ true
number_starts b word h = elim (or_cases (bytes_eq (b ∷ word) (codes "0"))
    (all_ascii_digits (b ∷ word) && nat_le 1 (length (b ∷ word)) && nat_le (length (b ∷ word)) 10 && not (slice_index (b ∷ word) 0 == 48)) h) [
      | inl lone ↦ let e : b ∷ word ≡ codes "0" = (bytes_eq-Decides (b ∷ word) (codes "0")).0 lone in let z : b ≡ 48 = cc in subst (λ (n : ℕ). is_printed n ≡ true) (sym z) refl
      | inr digits ↦
          let (sized, first) = and_parts (all_ascii_digits (b ∷ word) && nat_le 1 (length (b ∷ word)) && nat_le (length (b ∷ word)) 10) (not (slice_index (b ∷ word) 0 == 48)) digits in
          let (some, most) = and_parts (all_ascii_digits (b ∷ word) && nat_le 1 (length (b ∷ word))) (nat_le (length (b ∷ word)) 10) sized in
          let (all, one) = and_parts (all_ascii_digits (b ∷ word)) (nat_le 1 (length (b ∷ word))) some in
          digit_printed b (and_parts (is_ascii_digit b) (all_ascii_digits word) all).0
    ]

if_true : {A : Type 0} (b : Bool) (x y : A) → (if b then Some x else None) ≡ Some y → b ≡ true
if_true true x y e = refl
if_true false x y e = absurd (cc)

number_first : (word : Bytes) (n : ℕ) → number_of word ≡ Some n → StartsPrinted word
number_first [] n e = cc e
number_first (b ∷ word) n e = number_starts b word (if_true (is_number (b ∷ word)) (digits_value 10 (b ∷ word)) n e)

pub some_before : {A B : Type 0} (f : A → Option B) (o : Option A) (y : B) → option_and_then f o ≡ Some y → (x : A) × (o ≡ Some x)
some_before f None y e = absurd (cc)
some_before f (Some x) y e = (x, refl)

pub some_mapped : {A B : Type 0} (f : A → B) (o : Option A) (y : B) → option_map f o ≡ Some y → (x : A) × (o ≡ Some x)
some_mapped f None y e = absurd (cc)
some_mapped f (Some x) y e = (x, refl)

starts_take : (k : ℕ) (word : Bytes) → StartsPrinted (take k word) → StartsPrinted word
starts_take zero word h = absurd h
starts_take (suc k) [] h = absurd h
starts_take (suc k) (b ∷ word) h = h

step_number_first : (word : Bytes) (n : ℕ) → step_number word ≡ Some n → StartsPrinted word
step_number_first word n e = let (m, own) = some_before (λ n. if nat_lt n HARDENED then Some n else None) (number_of word) n e in number_first word m own

step_by : (b : Bool) (word : Bytes) (s : Step)
    → (if b then option_map (λ n. (n, true)) (step_number (take (length word - 1) word)) else option_map (λ n. (n, false)) (step_number word)) ≡ Some s → StartsPrinted word
step_by true word s e =
    let (n, own) = some_mapped (λ n. (n, true)) (step_number (take (length word - 1) word)) s e in
    starts_take (length word - 1) word (step_number_first (take (length word - 1) word) n own)
step_by false word s e = let (n, own) = some_mapped (λ n. (n, false)) (step_number word) s e in step_number_first word n own

step_first : (word : Bytes) (s : Step) → step_of word ≡ Some s → StartsPrinted word
step_first word s e = step_by (bytes_eq (drop (length word - 1) word) (codes "h")) word s e

hex_first : (word : Bytes) → AllPass is_hex_digit word → 0 < length word → StartsPrinted word
hex_first [] h some = omega arith
hex_first (b ∷ word) h some = hex_printed b (All-head (λ x. is_hex_digit x ≡ true) b word h)

pub key_first : (word : Bytes) (key : Key) → key_of word ≡ Some key → StartsPrinted word
key_first word key e = let long = key_size word key e in hex_first word (key_digits word key e) (omega arith)

pub print_first : (word print : Bytes) → print_of word ≡ Some print → StartsPrinted word
print_first word print e =
    let (ok, passed) = decoded (λ bytes. length bytes == 4) (decode_of word) print e in
    let parts = decode_of-ok word print ok in
    let size : length print ≡ 4 = eqb-true (length print) 4 passed in
    let twice = parts.2 in
    hex_first word parts.1 (omega arith)

-- ---- steps

reach_marked : (at : ℕ) (word : Bytes) (o : Option Step) (ts : List Token) → step_of word ≡ o → AreGood (token at word ∷ ts) → ReachesBy (token at word ∷ ts) (marked at o ts)
reach_marked at word None ts e good = tt
reach_marked at word (Some (n, true)) ts e good = past_word at word good (step_first word (n, true) e) here
reach_marked at word (Some (n, false)) ts e good =
    reach_if (token at word ∷ ts) (starts (codes "'") ts) (Ok ((n, true), drop 1 ts)) (Ok ((n, false), ts))
    (λ s. past_word at word good (step_first word (n, false) e) (past_mark (codes "'") ts refl s)) (past_word at word good (step_first word (n, false) e) here)

reach_step : (ts : List Token) → AreGood ts → ReachesBy ts (read_step ts)
reach_step [] good = tt
reach_step (token at word ∷ ts) good = reach_marked at word (step_of word) ts refl good

-- behind a token that is known, or something else
pub reach_mark : {A : Type 0} (mark : Bytes) (ts : List Token) (r s : Result (A × List Token) DescriptorFault) → IsClean mark → AreGood ts
    → (AreGood (drop 1 ts) → ReachesBy (drop 1 ts) r) → ReachesBy ts s → ReachesBy ts (cond (starts mark ts) r s)
reach_mark mark ts r s clean good h k =
    reach_if ts (starts mark ts) r s (λ e. from_further r (past_mark mark ts clean e) (h (still_good (past_mark mark ts clean e) good))) k

reach_steps : (most : ℕ) (ts : List Token) → AreGood ts → ReachesBy ts (read_steps most ts)
unfolding read_steps
reach_steps zero ts good =
    reach_mark (codes "/") ts _ _ refl good (λ g. reach_then (drop 1 ts) (read_step (drop 1 ts)) _ g (reach_step (drop 1 ts) g) (λ step rest l. tt)) here
reach_steps (suc most) ts good =
    reach_mark (codes "/") ts _ _ refl good
    (λ g. reach_then (drop 1 ts) (read_step (drop 1 ts)) _ g (reach_step (drop 1 ts) g)
    (λ step rest l. reach_then rest (read_steps most rest) _ l (reach_steps most rest l) (λ steps end m. here)))
    here

reach_plain_by : (at : ℕ) (step : Step) (ts : List Token) → ReachesBy ts (plain_step at step ts)
reach_plain_by at (n, true) ts = tt
reach_plain_by at (n, false) ts = here

reach_plain : (ts : List Token) → AreGood ts → ReachesBy ts (read_plain ts)
reach_plain ts good = reach_then ts (read_step ts) (plain_step (place ts)) good (reach_step ts good) (λ step rest l. reach_plain_by (place ts) step rest)

reach_numbers : (most : ℕ) (before : List ℕ) (ts : List Token) → AreGood ts → ReachesBy ts (read_numbers most before ts)
unfolding read_numbers
reach_numbers zero before ts good = reach_then ts (read_plain ts) _ good (reach_plain ts good) (λ n rest l. tt)
reach_numbers (suc most) before ts good =
    reach_then ts (read_plain ts) _ good (reach_plain ts good)
    (λ n rest l. reach_if rest (list_any (nat_eq n) before) _ _ (λ e. tt)
    (reach_mark (codes ";") rest _ _ refl l (λ g. reach_numbers most (before ++ n ∷ []) (drop 1 rest) g)
    (reach_if rest (starts (codes ">") rest && nat_lt 0 (length before)) _ _
    (λ e. past_mark (codes ">") rest refl (and_parts (starts (codes ">") rest) (nat_lt 0 (length before)) e).0) tt)))

reach_index : (ts : List Token) → starts (codes "*") ts ≡ true → ReachesBy ts (read_index ts)
reach_index ts e =
    reach_if {A = List Way} ts (starts (codes "h") (drop 1 ts) || starts (codes "'") (drop 1 ts)) (Err (Hardened (place ts))) (Ok (index ∷ [], drop 1 ts)) (λ f. tt)
    (past_mark (codes "*") ts refl e)

pub reach_ways : (most : ℕ) (fixed : Option ℕ) (had : Bool) (ts : List Token) → AreGood ts → ReachesBy ts (read_ways most fixed had ts)
unfolding read_ways
reach_ways zero fixed had ts good =
    reach_mark (codes "/") ts _ _ refl good
    (λ g. reach_if (drop 1 ts) (starts (codes "*") (drop 1 ts) || starts (codes "<") (drop 1 ts)) _ _ (λ e. tt)
    (reach_then (drop 1 ts) (read_step (drop 1 ts)) _ g (reach_step (drop 1 ts) g) (λ step rest k. tt)))
    here
reach_ways (suc most) fixed had ts good =
    let rest = drop 1 ts in
    reach_mark (codes "/") ts _ _ refl good
    (λ g. reach_if rest (starts (codes "*") rest) _ _ (reach_index rest)
    (reach_mark (codes "<") rest _ _ refl g
    (λ k. reach_if (drop 1 rest) had _ _ (λ e. tt)
    (reach_then (drop 1 rest) (read_numbers MOST_BRANCHES [] (drop 1 rest)) _ k (reach_numbers MOST_BRANCHES [] (drop 1 rest) k)
    (λ ns end l. reach_if end (fits fixed (length ns)) _ _
    (λ e. reach_then end (read_ways most fixed true end) _ l (reach_ways most fixed true end l) (λ ways last m. here)) tt)))
    (reach_then rest (read_plain rest) _ g (reach_plain rest g)
    (λ n end l. reach_then end (read_ways most fixed had end) _ l (reach_ways most fixed had end l) (λ ways last m. here)))))
    here

-- ---- the origin

reach_origin_by : (at : ℕ) (word : Bytes) (print : Option Bytes) (ts : List Token) → print_of word ≡ print → AreGood (token at word ∷ ts)
    → ReachesBy (token at word ∷ ts) (origin_by at print ts)
reach_origin_by at word None ts e good = tt
reach_origin_by at word (Some print) ts e good =
    from_further (origin_by at (Some print) ts) (past_word at word good (print_first word print e) here)
    (reach_then ts (read_steps MOST_STEPS ts) _ good.1 (reach_steps MOST_STEPS ts good.1)
    (λ steps rest l. reach_behind (codes "]") rest _ refl l (λ end m. here)))

reach_print : (ts : List Token) → AreGood ts → ReachesBy ts (read_print ts)
reach_print [] good = tt
reach_print (token at word ∷ ts) good = reach_origin_by at word (print_of word) ts refl good

pub reach_origin : (ts : List Token) → AreGood ts → ReachesBy ts (read_origin ts)
reach_origin ts good = reach_mark (codes "[") ts (read_print (drop 1 ts)) (Ok (None, ts)) refl good (reach_print (drop 1 ts)) here
