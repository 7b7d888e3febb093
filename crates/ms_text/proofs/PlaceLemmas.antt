-- The first token at a place, and what a state makes of it.
use Rattle.std.proofs.Common.{inl, inr, ◌≡◌, ◌≢◌, ℕ, zero, suc, ◌-◌, ◌+◌, ◌==◌, ◌<◌, ◌≤◌, Bool, true, false, List, [], ◌∷◌, ◌++◌, length, drop, take, get_or, Option, Some, None, refl, sym, ap, ◌∙◌, subst, arith, drop-cons, add-one, length-drop}
use Rattle.std.specs.Option.{option_map}
use Rattle.std.specs.List.{list_all}
use Rattle.std.specs.Str.{byte}
use Rattle.std.proofs.lemmas.List.{drop_all, drop-drop, take-append-drop, length-take, get_or-drop}
use Rattle.std.proofs.lemmas.Bool.{and_parts, cases_lt, eq-eqb}
use Rattle.def_text.proofs.Cut as cut
use Rattle.def_text.proofs.PrintedWords.{word_byte}
use Rattle.std.proofs.lemmas.Bool.{eqb-true}
use Rattle.std.proofs.lemmas.Str.{IsCharBoundary-after_ascii}
use Rattle.ms_text.specs.declared.tokens.Separator.{Separator}
use Rattle.ms_text.specs.declared.tokens.Separator.TheVariants as separator
use Rattle.def_script.specs.Bytes.{Bytes}
use Rattle.def_text.specs.Token.{Token, word, opening, closing, comma, colon, other, end, offset, is_word_byte, goes_on, word_before, byte_before, tokens_from}
use Rattle.def_text.specs.Scaffolding.Reader.{State, step, syntax_outcome, next_outcome, outcome}
use Rattle.ms_text.specs.declared.tokens.Mark.{Mark}
use Rattle.ms_text.specs.declared.tokens.Mark.TheVariants as mark
use Rattle.ms_text.proofs.StateLemmas.{end_read}
use Rattle.ms_text.specs.Scaffolding.Marks.{starts_word, begins_with, mark_code, mark_token, mark_read, separator_read}
use Rattle.ms_text.specs.Scaffolding.Place.{IsPlace, rest, machine_from, Takes, word_read, is_word, NoWord, FirstWord}

-- ---- what a state makes of a token

takes : {A : Type 0} (read : Token → Option A) (s : State) (next : A → State) (t : Token) (ts : List Token) (o : Option A) → Takes read s next → read t ≡ o →
    outcome s (t ∷ ts) ≡ next_outcome false (offset t) (option_map next o) (λ n. outcome n ts)
takes read s next t ts o h e =
    ap (λ b. next_outcome b (offset t) (step s t) (λ n. outcome n ts)) (h.shallow t)
    ∙ ap (λ q. next_outcome false (offset t) q (λ n. outcome n ts)) (h.steps t ∙ ap (option_map next) e)

pub goes : {A : Type 0} (read : Token → Option A) (s : State) (next : A → State) (t : Token) (ts us : List Token) (v : A) → Takes read s next → ts ≡ t ∷ us → read t ≡ Some v →
    outcome s ts ≡ outcome (next v) us
goes read s next t ts us v h is e = ap (outcome s) is ∙ takes read s next t us (Some v) h e

pub stops : {A : Type 0} (read : Token → Option A) (s : State) (next : A → State) (t : Token) (ts us : List Token) (at : ℕ) → Takes read s next → ts ≡ t ∷ us →
    offset t ≡ at → read t ≡ None → outcome s ts ≡ syntax_outcome at
stops read s next t ts us at h is there e = ap (outcome s) is ∙ (takes read s next t us None h e ∙ ap syntax_outcome there)

-- ---- the first token at a place

-- what a byte that begins a character makes of the tokens behind it
data First (at b : ℕ) (ts : List Token) : Type 0 where
  first_word : is_word_byte b ≡ true → (w : Bytes) → (later : List Token) → byte_before at b ts ≡ word at w ∷ later → First at b ts
  first_mark : (m : Mark) → b ≡ mark_code m → byte_before at b ts ≡ mark_token m at ∷ ts → is_word_byte b ≡ false → First at b ts
  first_other : byte_before at b ts ≡ other at ∷ ts → is_word_byte b ≡ false → First at b ts

word_first : (at b : ℕ) (ts us : List Token) → us ≡ word_before at b ts → (w : Bytes) × (later : List Token) × (us ≡ word at w ∷ later)
word_first at b (word n w ∷ ts) us e = (b ∷ w, ts, e)
word_first at b ts us e = (b ∷ [], ts, e)

first_by : (at b : ℕ) (ts : List Token) (c d e f g : Bool) → is_word_byte b ≡ c → (b == byte "(") ≡ d → (b == byte ")") ≡ e → (b == byte ",") ≡ f →
    (b == byte ":") ≡ g → goes_on b ≡ false → First at b ts
first_by at b ts true d e f g hc hd he hf hg hh =
    let (w, later, is) = word_first at b ts (byte_before at b ts) (rw hc refl) in first_word hc w later is
first_by at b ts false true e f g hc hd he hf hg hh = first_mark mark.Open (eqb-true b 40 hd) (rw (hc, hd) refl) hc
first_by at b ts false false true f g hc hd he hf hg hh = first_mark mark.Close (eqb-true b 41 he) (rw (hc, hd, he) refl) hc
first_by at b ts false false false true g hc hd he hf hg hh = first_mark mark.Comma (eqb-true b 44 hf) (rw (hc, hd, he, hf) refl) hc
first_by at b ts false false false false true hc hd he hf hg hh = first_mark mark.Colon (eqb-true b 58 hg) (rw (hc, hd, he, hf, hg) refl) hc
first_by at b ts false false false false false hc hd he hf hg hh = first_other (rw (hc, hd, he, hf, hg, hh) refl) hc

first_at : (at b : ℕ) (ts : List Token) → goes_on b ≡ false → First at b ts
first_at at b ts h = first_by at b ts (is_word_byte b) (b == byte "(") (b == byte ")") (b == byte ",") (b == byte ":") refl refl refl refl refl h

-- the tokens at a place begin with the one of its byte
pub rest_cons : (text : Bytes) (at : ℕ) → at < length text → rest text at ≡ byte_before at (get_or text at 0) (rest text (at + 1))
rest_cons text at h = rw (drop-cons text at 0 h, add-one) refl

pub rest_end : (text : Bytes) (at : ℕ) → length text ≤ at → rest text at ≡ end at ∷ []
rest_end text at h = ap (tokens_from at) (drop_all at text h)

begins : (text : Bytes) (at : ℕ) → IsPlace text at → at < length text → goes_on (get_or text at 0) ≡ false
begins text at p h = grind (arith, p.boundary)

-- ---- marks

pub mark_here : (text : Bytes) (at : ℕ) (m : Mark) → at < length text → get_or text at 0 ≡ mark_code m → rest text at ≡ mark_token m at ∷ rest text (at + 1)
mark_here text at m h e = rest_cons text at h ∙ (ap (λ b. byte_before at b (rest text (at + 1))) e ∙ marked m)
  where
    marked : (m : Mark) → byte_before at (mark_code m) (rest text (at + 1)) ≡ mark_token m at ∷ rest text (at + 1)
    marked mark.Open = refl
    marked m = refl

-- the tokens begin with one that isn't read
pub record Elsewhere {A : Type 0} (read : Token → Option A) (ts : List Token) (at : ℕ) : Type 0 where
  pub token : Token
  pub later : List Token
  pub is : ts ≡ token ∷ later
  pub there : offset token ≡ at
  pub none : read token ≡ None

pub elsewhere_stops : {A : Type 0} (read : Token → Option A) (s : State) (next : A → State) (ts : List Token) (at : ℕ) → Takes read s next →
    Elsewhere read ts at → outcome s ts ≡ syntax_outcome at
elsewhere_stops read s next ts at h e = stops read s next e.token ts e.later at h e.is e.there e.none

-- no read of a token that begins with a byte succeeds
by_first : {A : Type 0} (read : Token → Option A) (at b : ℕ) (ts : List Token) →
    ((w : Bytes) → is_word_byte b ≡ true → read (word at w) ≡ None) → ((m : Mark) → b ≡ mark_code m → read (mark_token m at) ≡ None) → read (other at) ≡ None →
    First at b ts → Elsewhere read (byte_before at b ts) at
by_first read at b ts words marks others (first_word h w later is) = record { token = word at w; later = later; is = is; there = refl; none = words w h }
by_first read at b ts words marks others (first_mark mark.Open h is n) = record { token = opening at; later = ts; is = is; there = refl; none = marks mark.Open h }
by_first read at b ts words marks others (first_mark mark.Close h is n) = record { token = closing at; later = ts; is = is; there = refl; none = marks mark.Close h }
by_first read at b ts words marks others (first_mark mark.Comma h is n) = record { token = comma at; later = ts; is = is; there = refl; none = marks mark.Comma h }
by_first read at b ts words marks others (first_mark mark.Colon h is n) = record { token = colon at; later = ts; is = is; there = refl; none = marks mark.Colon h }
by_first read at b ts words marks others (first_other is n) = record { token = other at; later = ts; is = is; there = refl; none = others }

by_place : {A : Type 0} (read : Token → Option A) (text : Bytes) (at : ℕ) → IsPlace text at →
    (at < length text → Elsewhere read (byte_before at (get_or text at 0) (rest text (at + 1))) at) → read (end at) ≡ None →
    Elsewhere read (rest text at) at
by_place read text at p inside outside = elim (cases_lt at (length text)) [
  | inl h ↦ subst (λ ts. Elsewhere read ts at) (sym (rest_cons text at h)) (inside h)
  | inr h ↦ record { token = end at; later = []; is = rest_end text at h; there = refl; none = outside }
]

other_mark : (m n : Mark) (at b : ℕ) → b ≢ mark_code m → b ≡ mark_code n → mark_read m (mark_token n at) ≡ None
other_mark m n at b differs is = grind arith

no_word_read : (m : Mark) (at : ℕ) (w : Bytes) → mark_read m (word at w) ≡ None
no_word_read m at w = grind arith

no_other_read : (m : Mark) (at : ℕ) → (mark_read m (other at) ≡ None) × (mark_read m (end at) ≡ None)
no_other_read m at = (grind arith, grind arith)

pub mark_elsewhere : (text : Bytes) (at : ℕ) (m : Mark) → IsPlace text at → (at < length text → get_or text at 0 ≢ mark_code m) → Elsewhere (mark_read m) (rest text at) at
mark_elsewhere text at m p differs =
    by_place (mark_read m) text at p
    (λ h. by_first (mark_read m) at (get_or text at 0) (rest text (at + 1)) (λ w _. no_word_read m at w) (λ n. other_mark m n at (get_or text at 0) (differs h)) (no_other_read m at).0
    (first_at at (get_or text at 0) (rest text (at + 1)) (begins text at p h)))
    (no_other_read m at).1

other_separator : (n : Mark) (at b : ℕ) → b ≢ 44 → b ≢ 41 → b ≡ mark_code n → separator_read (mark_token n at) ≡ None
other_separator n at b f g is = grind arith

pub separator_elsewhere : (text : Bytes) (at : ℕ) → IsPlace text at → (at < length text → get_or text at 0 ≢ 44) → (at < length text → get_or text at 0 ≢ 41)
    → Elsewhere separator_read (rest text at) at
separator_elsewhere text at p f g =
    by_place separator_read text at p
    (λ h. by_first separator_read at (get_or text at 0) (rest text (at + 1)) (λ w _. refl) (λ n. other_separator n at (get_or text at 0) (f h) (g h)) refl
    (first_at at (get_or text at 0) (rest text (at + 1)) (begins text at p h)))
    refl

mark_same : (m : Mark) (at : ℕ) → mark_read m (mark_token m at) ≡ Some tt
mark_same m at = grind arith

pub mark_goes : (text : Bytes) (at : ℕ) (m : Mark) (s n : State) → at < length text → get_or text at 0 ≡ mark_code m → Takes (mark_read m) s (λ u. n) →
    machine_from s text at ≡ machine_from n text (at + 1)
mark_goes text at m s n h e t = goes (mark_read m) s (λ u. n) (mark_token m at) (rest text at) (rest text (at + 1)) tt t (mark_here text at m h e) (mark_same m at)

pub comma_goes : (text : Bytes) (at : ℕ) (s : State) (next : Separator → State) → at < length text → get_or text at 0 ≡ 44 → Takes separator_read s next →
    machine_from s text at ≡ machine_from (next separator.Comma) text (at + 1)
comma_goes text at s next h e t = goes separator_read s next (comma at) (rest text at) (rest text (at + 1)) separator.Comma t (mark_here text at mark.Comma h e) refl

pub close_goes : (text : Bytes) (at : ℕ) (s : State) (next : Separator → State) → at < length text → get_or text at 0 ≡ 41 → Takes separator_read s next →
    machine_from s text at ≡ machine_from (next separator.Close) text (at + 1)
close_goes text at s next h e t = goes separator_read s next (closing at) (rest text at) (rest text (at + 1)) separator.Close t (mark_here text at mark.Close h e) refl

mark_is_ascii : (m : Mark) → mark_code m < 128
mark_is_ascii m = grind arith

-- the place behind an ASCII character
pub place_behind : (text : Bytes) (at : ℕ) → IsPlace text at → at < length text → get_or text at 0 < 128 → IsPlace text (at + 1)
place_behind text at p h ascii = record { utf8 = p.utf8; short = p.short; boundary = IsCharBoundary-after_ascii text at p.utf8 h ascii }

pub place_behind_mark : (text : Bytes) (at : ℕ) (m : Mark) → IsPlace text at → at < length text → get_or text at 0 ≡ mark_code m → IsPlace text (at + 1)
place_behind_mark text at m p h e = place_behind text at p h (omega (arith, e, mark_is_ascii m))

-- ---- a byte at a place

pub byte_at : (text : Bytes) (at b : ℕ) → begins_with b (drop at text) ≡ true → (at < length text) × (get_or text at 0 ≡ b)
byte_at text at b h = elim (cases_lt at (length text)) [
  | inl l ↦ (l, eqb-true (get_or text at 0) b (ap (begins_with b) (sym (drop-cons text at 0 l)) ∙ h))
  | inr none ↦ (let out : begins_with b (drop at text) ≡ false = ap (begins_with b) (drop_all at text none) in absurd (cc))
]

pub no_byte_at : (text : Bytes) (at b : ℕ) → begins_with b (drop at text) ≡ false → at < length text → get_or text at 0 ≢ b
no_byte_at text at b h l is =
    let here : begins_with b (drop at text) ≡ (get_or text at 0 == b) = ap (begins_with b) (drop-cons text at 0 l) in
    cc (eq-eqb (get_or text at 0) b is)

-- ---- words

pub word_is_ascii : (b : ℕ) → is_word_byte b ≡ true → b < 128
word_is_ascii b h = grind arith

pub starts_at : (text : Bytes) (at : ℕ) → starts_word (drop at text) ≡ true → (at < length text) × (is_word_byte (get_or text at 0) ≡ true)
starts_at text at h = elim (cases_lt at (length text)) [
  | inl l ↦ (l, ap starts_word (sym (drop-cons text at 0 l)) ∙ h)
  | inr none ↦ (let out : starts_word (drop at text) ≡ false = ap starts_word (drop_all at text none) in absurd (cc))
]

pub all_more : (xs : Bytes) (k : ℕ) → k < length xs → list_all is_word_byte (take k xs) ≡ true → is_word_byte (get_or xs k 0) ≡ true →
    list_all is_word_byte (take (suc k) xs) ≡ true
all_more [] k l all here = absurd (omega arith)
all_more (x ∷ xs) zero l all here = rw here refl
all_more (x ∷ xs) (suc k) l all here =
    let (first, others) = and_parts (is_word_byte x) (list_all is_word_byte (take k xs)) all in
    rw (first, all_more xs k (omega arith) others here) refl

same_word : (t : Token) → is_word t ≡ cut.is_word t
same_word t = grind arith

-- bytes of a word are one token
one_word : (w r : Bytes) (at n : ℕ) → n ≡ at + length w → list_all is_word_byte w ≡ true → 0 < length w → cut.starts_word (tokens_from n r) ≡ false →
    tokens_from at (w ++ r) ≡ word at w ∷ tokens_from n r
one_word [] r at n e all some none = absurd (omega arith)
one_word (b ∷ []) r at n e all some none =
    let (first, others) = and_parts (is_word_byte b) true all in
    let next : n ≡ at + 1 = omega arith in
    rw next (word_byte at b (tokens_from (at + 1) r) first ∙ cut.alone at b (tokens_from (at + 1) r) (ap (λ m. cut.starts_word (tokens_from m r)) (sym next) ∙ none))
one_word (b ∷ c ∷ w) r at n e all some none =
    let (first, others) = and_parts (is_word_byte b) (list_all is_word_byte (c ∷ w)) all in
    word_byte at b (tokens_from (at + 1) ((c ∷ w) ++ r)) first
    ∙ ap (word_before at b) (one_word (c ∷ w) r (at + 1) n (omega (arith, e)) others (omega arith) none)

no_word_mark : (m : Mark) (at : ℕ) → (is_word (mark_token m at) ≡ false) × (offset (mark_token m at) ≡ at)
no_word_mark m at = (grind arith, grind arith)

no_word_by : (at b : ℕ) (ts : List Token) → is_word_byte b ≡ false → First at b ts → NoWord (byte_before at b ts) at
no_word_by at b ts f (first_word h w later is) = absurd (cc)
no_word_by at b ts f (first_mark m h is _) =
    record { token = mark_token m at; later = ts; is = is; there = (no_word_mark m at).1; other = (no_word_mark m at).0 }
no_word_by at b ts f (first_other is _) = record { token = other at; later = ts; is = is; there = refl; other = refl }

-- no word stands where no byte of a word does
no_word : (text : Bytes) (at : ℕ) → IsPlace text at → starts_word (drop at text) ≡ false → NoWord (rest text at) at
no_word text at p h = elim (cases_lt at (length text)) [
  | inl l ↦
      let f : is_word_byte (get_or text at 0) ≡ false = ap starts_word (sym (drop-cons text at 0 l)) ∙ h in
      subst (λ ts. NoWord ts at) (sym (rest_cons text at l))
      (no_word_by at (get_or text at 0) (rest text (at + 1)) f (first_at at (get_or text at 0) (rest text (at + 1)) (begins text at p l)))
  | inr out ↦ record { token = end at; later = []; is = rest_end text at out; there = refl; other = refl }
]

no_start : (ts : List Token) (at : ℕ) → NoWord ts at → cut.starts_word ts ≡ false
no_start ts at n = ap cut.starts_word n.is ∙ (sym (same_word n.token) ∙ n.other)

first_word_by : (text : Bytes) (at n : ℕ) (w : Bytes) → n ≡ at + length w → drop at text ≡ w ++ drop n text → list_all is_word_byte w ≡ true → NoWord (rest text n) n →
    FirstWord text at w
first_word_by text at n [] e split all none = let same : n ≡ at = omega arith in subst (λ m. NoWord (rest text m) m) same none
first_word_by text at n (b ∷ w) e split all none =
    let whole : tokens_from at (drop at text) ≡ word at (b ∷ w) ∷ tokens_from n (drop n text) =
    ap (tokens_from at) split ∙ one_word (b ∷ w) (drop n text) at n e all (omega arith) (no_start (rest text n) n none) in
    subst (λ m. rest text at ≡ word at (b ∷ w) ∷ rest text m) e whole

pub word_length : (text : Bytes) (at n : ℕ) → at ≤ n → IsPlace text n → at + length (take (n - at) (drop at text)) ≡ n
word_length text at n h p = simp (length-take, length-drop) (omega (arith, h, p.boundary.0))

-- the bytes of a word, up to where it ends
pub word_found : (text : Bytes) (at n : ℕ) → at ≤ n → IsPlace text n → list_all is_word_byte (take (n - at) (drop at text)) ≡ true →
    starts_word (drop n text) ≡ false → FirstWord text at (take (n - at) (drop at text))
word_found text at n h p all none =
    let m : at + (n - at) ≡ n = omega arith in
    first_word_by text at n (take (n - at) (drop at text)) (sym (word_length text at n h p))
    (sym (take-append-drop (n - at) (drop at text)) ∙ ap (λ r. take (n - at) (drop at text) ++ r) (drop-drop (n - at) at text ∙ ap (λ k. drop k text) m))
    all (no_word text n p none)

-- one more byte
pub word_more : (text : Bytes) (at n : ℕ) → at ≤ n → list_all is_word_byte (take (n - at) (drop at text)) ≡ true → starts_word (drop n text) ≡ true →
    list_all is_word_byte (take (n + 1 - at) (drop at text)) ≡ true
word_more text at n h all here =
    let (l, b) = starts_at text n here in
    let e : n + 1 - at ≡ suc (n - at) = omega arith in
    let m : at + (n - at) ≡ n = omega arith in
    let within : n - at < length (drop at text) = simp length-drop (omega arith) in
    let byte_is : get_or (drop at text) (n - at) 0 ≡ get_or text n 0 = get_or-drop at text (n - at) 0 ∙ ap (λ k. get_or text k 0) m in
    rw e (all_more (drop at text) (n - at) within all (ap is_word_byte byte_is ∙ b))

pub word_place_more : (text : Bytes) (n : ℕ) → IsPlace text n → starts_word (drop n text) ≡ true → IsPlace text (n + 1)
word_place_more text n p here = let (l, b) = starts_at text n here in place_behind text n p l (word_is_ascii (get_or text n 0) b)

-- ---- what a state makes of a word

no_word_value : {A : Type 0} (value : Bytes → Option A) (t : Token) → is_word t ≡ false → word_read value t ≡ None
no_word_value value (word a w) h = absurd (cc)
no_word_value value t h = refl

pub word_goes : {A : Type 0} (value : Bytes → Option A) (text : Bytes) (at : ℕ) (w : Bytes) (s : State) (next : A → State) (v : A) → value [] ≡ None → FirstWord text at w →
    value w ≡ Some v → Takes (word_read value) s next → machine_from s text at ≡ machine_from (next v) text (at + length w)
word_goes value text at [] s next v empty first e t = absurd (cc)
word_goes value text at (b ∷ w) s next v empty first e t =
    goes (word_read value) s next (word at (b ∷ w)) (rest text at) (rest text (at + length (b ∷ w))) v t first e

pub word_stops : {A : Type 0} (value : Bytes → Option A) (text : Bytes) (at : ℕ) (w : Bytes) (s : State) (next : A → State) → FirstWord text at w →
    value w ≡ None → Takes (word_read value) s next → machine_from s text at ≡ syntax_outcome at
word_stops value text at [] s next first e t =
    stops (word_read value) s next first.token (rest text at) first.later at t first.is first.there (no_word_value value first.token first.other)
word_stops value text at (b ∷ w) s next first e t =
    stops (word_read value) s next (word at (b ∷ w)) (rest text at) (rest text (at + length (b ∷ w))) at t first refl e

pub word_some : {A : Type 0} (value : Bytes → Option A) (w : Bytes) (v : A) → value [] ≡ None → value w ≡ Some v → 0 < length w
word_some value [] v empty e = absurd (cc)
word_some value (b ∷ w) v empty e = omega arith

-- what stands before the end of a text isn't the end
end_mark : (m : Mark) (at : ℕ) → end_read (mark_token m at) ≡ None
end_mark m at = grind arith

pub not_the_end : (text : Bytes) (at : ℕ) → IsPlace text at → at < length text → Elsewhere end_read (rest text at) at
not_the_end text at p h =
    subst (λ ts. Elsewhere end_read ts at) (sym (rest_cons text at h))
    (by_first end_read at (get_or text at 0) (rest text (at + 1)) (λ w _. refl) (λ m _. end_mark m at) refl
    (first_at at (get_or text at 0) (rest text (at + 1)) (begins text at p h)))
