-- The source of a question is a string of JSON, and so what a text in UTF-8 can hold.
use Rattle.std.proofs.Common.{ℕ, ◌≡◌, ◌+◌, ◌*◌, ◌<◌, ◌≤◌, ◌==◌, ◌&&◌, ◌||◌, Bool, true, false, List, [], ◌∷◌, Option, Some, None, refl, arith, rules, subst, cond}
use Rattle.std.specs.Prelude.{⊤, nat_lt, nat_le, option_and_then}
use Rattle.std.specs.Char.{digit_value, is_digit, encode_utf8, IsScalar}
use Rattle.std.specs.Str.{is_utf8, encode_utf8_all, all_scalars}
use Rattle.std.proofs.lemmas.Bool.{and_parts}
use Rattle.std.proofs.lemmas.Str.{IsUtf8-from_is_utf8}
use Rattle.json.specs.Ascii as ascii
use Rattle.json.specs.Text.{Within, plain, after_backslash, after_u, after_high, code_unit, short_escape, is_high_surrogate, is_low_surrogate, surrogate_pair, prepend, content}
use Rattle.def_script.specs.Bytes.{Bytes}
use Rattle.def_lines.proofs.Lists.{Every, every_joined}

-- a byte below f5, as those of UTF-8 are
abbrev pub IsLow : ℕ → Type 0
IsLow byte = byte < 0xf5

abbrev pub AreLow : Bytes → Type 0
AreLow bytes = Every IsLow bytes

-- ---- characters

lt_of : (n m : ℕ) → nat_lt n m ≡ true → n < m
lt_of n m e = search rules

le_of : (n m : ℕ) → nat_le n m ≡ true → n ≤ m
le_of n m e = search rules

-- what is chosen by a test
either : (b : Bool) (x y : Bytes) → (b ≡ true → AreLow x) → (b ≡ false → AreLow y) → AreLow (cond b x y)
either true x y p q = p refl
either false x y p q = q refl

pub encoded_low : (c : ℕ) → c < 0x110000 → AreLow (encode_utf8 c)
unfolding encode_utf8
encoded_low c small =
    either (nat_lt c 128) _ _ (λ e. let low = lt_of c 128 e in (omega (arith, low), tt))
    (λ e. either (nat_lt c 2048) _ _ (λ e. let low = lt_of c 2048 e in (omega (arith, low), (omega arith, tt)))
    (λ e. either (nat_lt c 65536) _ _ (λ e. let low = lt_of c 65536 e in (omega (arith, low), (omega arith, (omega arith, tt))))
    (λ e. (omega (arith, small), (omega arith, (omega arith, (omega arith, tt)))))))

scalar_low : (c : ℕ) → IsScalar c → c < 0x110000
scalar_low c e = search rules

characters_low : (cs : List ℕ) → all_scalars cs ≡ true → AreLow (encode_utf8_all cs)
characters_low [] e = tt
characters_low (c ∷ cs) e =
    let p = and_parts _ (all_scalars cs) e in
    every_joined IsLow (encode_utf8 c) (encode_utf8_all cs) (encoded_low c (scalar_low c p.0)) (characters_low cs p.1)

pub utf8_low : (bytes : Bytes) → is_utf8 bytes ≡ true → AreLow bytes
utf8_low bytes e = let is = IsUtf8-from_is_utf8 bytes e in subst AreLow is.1.1 (characters_low is.0 is.1.0)

-- ---- the content of a string

abbrev pub IsLowIfAny : Option Bytes → Type 0
IsLowIfAny None = ⊤
IsLowIfAny (Some bytes) = AreLow bytes

chosen : (b : Bool) (x y : Option Bytes) → (b ≡ true → IsLowIfAny x) → (b ≡ false → IsLowIfAny y) → IsLowIfAny (cond b x y)
chosen true x y p q = p refl
chosen false x y p q = q refl

prepended : (bytes : Bytes) (rest : Option Bytes) → AreLow bytes → IsLowIfAny rest → IsLowIfAny (prepend bytes rest)
prepended bytes None p q = tt
prepended bytes (Some rest) p q = every_joined IsLow bytes rest p q

-- four digits are below 2^16
unit_small : (a b c d : ℕ) → (is_digit a 16 && is_digit b 16 && is_digit c 16 && is_digit d 16) ≡ true
    → digit_value a * 4096 + digit_value b * 256 + digit_value c * 16 + digit_value d < 65536
unit_small a b c d e =
    let p = and_parts (is_digit a 16 && is_digit b 16 && is_digit c 16) (is_digit d 16) e in
    let q = and_parts (is_digit a 16 && is_digit b 16) (is_digit c 16) p.0 in
    let r = and_parts (is_digit a 16) (is_digit b 16) q.0 in
    let i = lt_of (digit_value a) 16 r.0 in
    let j = lt_of (digit_value b) 16 r.1 in
    let k = lt_of (digit_value c) 16 q.1 in
    let l = lt_of (digit_value d) 16 p.1 in
    omega (arith, i, j, k, l)

-- what comes behind a code unit
with_unit : (a b c d : ℕ) (next : ℕ → Option Bytes) → ((u : ℕ) → u < 65536 → IsLowIfAny (next u)) → IsLowIfAny (option_and_then next (code_unit a b c d))
unfolding code_unit
with_unit a b c d next h = by (is_digit a 16 && is_digit b 16 && is_digit c 16 && is_digit d 16) refl
  where
    by : (t : Bool) → (is_digit a 16 && is_digit b 16 && is_digit c 16 && is_digit d 16) ≡ t
        → IsLowIfAny (option_and_then next (cond t (Some (digit_value a * 4096 + digit_value b * 256 + digit_value c * 16 + digit_value d)) None))
    by true e = h (digit_value a * 4096 + digit_value b * 256 + digit_value c * 16 + digit_value d) (unit_small a b c d e)
    by false e = tt

-- what a short escape stands for
abbrev IsLowByte : Option ℕ → Type 0
IsLowByte None = ⊤
IsLowByte (Some byte) = IsLow byte

escape_test : (b : Bool) (x y : Option ℕ) → IsLowByte x → IsLowByte y → IsLowByte (cond b x y)
escape_test true x y p q = p
escape_test false x y p q = q

escape_low : (x : ℕ) → IsLow x → IsLowByte (short_escape x)
unfolding short_escape
escape_low x low =
    escape_test ((x == ascii.quote) || (x == ascii.backslash) || (x == ascii.slash)) (Some x) _ low
    (escape_test (x == ascii.lower_b) _ _ (omega arith)
    (escape_test (x == ascii.lower_f) _ _ (omega arith)
    (escape_test (x == ascii.lower_n) _ _ (omega arith)
    (escape_test (x == ascii.lower_r) _ _ (omega arith)
    (escape_test (x == ascii.lower_t) _ _ (omega arith) tt)))))

with_escape : (o : Option ℕ) (rest : Option Bytes) → IsLowByte o → IsLowIfAny rest → IsLowIfAny (option_and_then (λ c. prepend (c ∷ []) rest) o)
with_escape None rest p q = tt
with_escape (Some c) rest p q = prepended (c ∷ []) rest (p, tt) q

-- a surrogate that was read is a high one
abbrev IsInside : Within → Type 0
IsInside plain = ⊤
IsInside after_backslash = ⊤
IsInside after_u = ⊤
IsInside (after_high h) = is_high_surrogate h ≡ true

pair_small : (h l : ℕ) → is_high_surrogate h ≡ true → is_low_surrogate l ≡ true → surrogate_pair h l < 0x110000
pair_small h l high low =
    let a = lt_of h 0xdc00 (and_parts (nat_le 0xd800 h) (nat_lt h 0xdc00) high).1 in
    let b = lt_of l 0xe000 (and_parts (nat_le 0xdc00 l) (nat_lt l 0xe000) low).1 in
    omega (arith, a, b)

pub content_low : (within : Within) (text : Bytes) → IsInside within → AreLow text → IsLowIfAny (content within text)
unfolding content
content_low plain [] i h = tt
content_low plain (x ∷ xs) i h =
    chosen (x == ascii.quote) (Some []) _ (λ e. tt)
    (λ e. chosen (x == ascii.backslash) (content after_backslash xs) _ (λ e. content_low after_backslash xs tt h.1)
    (λ e. chosen (nat_lt x ascii.space) None (prepend (x ∷ []) (content plain xs)) (λ e. tt)
    (λ e. prepended (x ∷ []) (content plain xs) (h.0, tt) (content_low plain xs tt h.1))))
content_low after_backslash [] i h = tt
content_low after_backslash (x ∷ xs) i h =
    chosen (x == ascii.lower_u) (content after_u xs) _ (λ e. content_low after_u xs tt h.1)
    (λ e. with_escape (short_escape x) (content plain xs) (escape_low x h.0) (content_low plain xs tt h.1))
content_low after_u [] i h = tt
content_low after_u (a ∷ []) i h = tt
content_low after_u (a ∷ b ∷ []) i h = tt
content_low after_u (a ∷ b ∷ c ∷ []) i h = tt
content_low after_u (a ∷ b ∷ c ∷ d ∷ xs) i h =
    let rest = content_low plain xs tt h.1.1.1.1 in
    let highs : (u : ℕ) → is_high_surrogate u ≡ true → IsLowIfAny (content (after_high u) xs) = λ u e. content_low (after_high u) xs e h.1.1.1.1 in
    with_unit a b c d _
    (λ u small. chosen (is_high_surrogate u) (content (after_high u) xs) _ (highs u)
    (λ e. chosen (is_low_surrogate u) None (prepend (encode_utf8 u) (content plain xs)) (λ e. tt)
    (λ e. prepended (encode_utf8 u) (content plain xs) (encoded_low u (omega (arith, small))) rest)))
content_low (after_high s) [] i h = tt
content_low (after_high s) (a ∷ []) i h = tt
content_low (after_high s) (a ∷ b ∷ []) i h = tt
content_low (after_high s) (a ∷ b ∷ c ∷ []) i h = tt
content_low (after_high s) (a ∷ b ∷ c ∷ d ∷ []) i h = tt
content_low (after_high s) (a ∷ b ∷ c ∷ d ∷ e ∷ []) i h = tt
content_low (after_high s) (a ∷ b ∷ c ∷ d ∷ e ∷ f ∷ xs) i h =
    let rest = content_low plain xs tt h.1.1.1.1.1.1 in
    chosen ((a == ascii.backslash) && (b == ascii.lower_u)) _ None
    (λ same. with_unit c d e f _
    (λ l small. chosen (is_low_surrogate l) (prepend (encode_utf8 (surrogate_pair s l)) (content plain xs)) None
    (λ low. prepended (encode_utf8 (surrogate_pair s l)) (content plain xs) (encoded_low (surrogate_pair s l) (pair_small s l i low)) rest) (λ no. tt)))
    (λ no. tt)
