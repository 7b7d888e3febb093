-- A descriptor's text with its checksum behind it is the same descriptor.
use Rattle.std.proofs.Common.{◌≡◌, ◌⊎◌, inl, inr, ℕ, zero, suc, ◌+◌, ◌/◌, ◌%◌, ◌<◌, ◌≤◌, arith, Bool, true, false, List, [], ◌∷◌, ◌++◌, length, length-append, append_assoc, take, drop, slice_index, codes, refl, sym, ap, ◌∙◌, subst, cond, Option, Some, None, Result, Ok, Err}
use Rattle.std.specs.Prelude.{IsUtf8}
use Rattle.std.specs.Option.{option_map}
use Rattle.std.specs.Str.{bytes_eq}
use Rattle.std.proofs.lemmas.Bool.{cases_Bool, agree_below_at}
use Rattle.std.proofs.lemmas.List.{map-append}
use Rattle.std.proofs.lemmas.Slice.Eq.{bytes_eq-Decides}
use Rattle.def_script.specs.Bytes.{Bytes}
use Rattle.def_text.specs.Token.{is_word_byte, goes_on}
use Rattle.def_text.specs.Refusal.{MOST_BYTES, TextReads}
use Rattle.def_address.specs.Digits.{fixed_digits, spelled, read_digits}
use Rattle.def_address.specs.Bech32.{bech32_alphabet}
use Rattle.def_address.specs.DescriptorSum.{descriptor_alphabet, sum_of_places, descriptor_sum}
use Rattle.def_descriptor.specs.declared.DescriptorFault.{DescriptorFault}
use Rattle.def_descriptor.specs.declared.DescriptorFault.TheVariants.{Syntax, Checksum}
use Rattle.def_descriptor.specs.Token.{Token, token, belongs, byte_before, tokens_from, tokens, starts, behind, mapped}
use Rattle.def_descriptor.specs.Parts.{Body, miniscript, sorted, single, Found, is_sum, read_sum, read_tail, read_parts}
use Rattle.def_descriptor.specs.Answer.{Descriptor, sample, stop, pieces_of, IsRead, Answers, right_parts}
use Rattle.def_descriptor.proofs.Tokens.{first_length, first_of, first_token}
use Rattle.ms_key_laws.proofs.Clean.{is_printed}
use Rattle.ms_key_laws.proofs.Passed.{IsBegun, NoneRefused}
use Rattle.ms_key_laws.proofs.Read.{descriptor_read}
use Rattle.ms_key_laws.proofs.Printed.{if_then, drop_both, text_ends, text_front, not_refused, good}
use Rattle.ms_key_laws.proofs.Again.{Parallel, ends, more}
use Rattle.ms_key_laws.proofs.AgainParts.{SameFound, PartsSame, parts_same}

-- ---- the tokens

-- nothing belongs to a `#` behind it
no_joining : (c : ℕ) → belongs c (codes "#") ≡ false
no_joining c = elim (cases_Bool (is_word_byte c)) [
  | inl w ↦ rw w refl
  | inr w ↦ rw w refl
]

module _ (n : ℕ) (sum : List Token) where
  one_before : (at c : ℕ) {ts us : List Token} → at < n → Parallel n sum ts us → Parallel n sum (byte_before at c ts) (byte_before at c us)
  one_before at c l ends =
      subst (λ (t : Bool). Parallel n sum (cond t (token at (c ∷ codes "#") ∷ sum) (token at (c ∷ []) ∷ token n (codes "#") ∷ sum)) (token at (c ∷ []) ∷ token n [] ∷ []))
      (sym (no_joining c)) (more at c [] l ends)
  one_before at c l (more m d bytes {ts = ts} {us = us} k p) = go (belongs c (d ∷ bytes))
    where
      go : (t : Bool) → Parallel n sum (cond t (token at (c ∷ d ∷ bytes) ∷ ts) (token at (c ∷ []) ∷ token m (d ∷ bytes) ∷ ts))
          (cond t (token at (c ∷ d ∷ bytes) ∷ us) (token at (c ∷ []) ∷ token m (d ∷ bytes) ∷ us))
      go true = more at c (d ∷ bytes) l p
      go false = more at c [] l (more m d bytes k p)

  parallel : (bytes behind : Bytes) (at : ℕ) → n ≡ at + length bytes → tokens_from n (codes "#" ++ behind) ≡ token n (codes "#") ∷ sum
      → Parallel n sum (tokens_from at (bytes ++ codes "#" ++ behind)) (tokens_from at bytes)
  parallel [] behind at e h =
      let same : n ≡ at = omega arith in
      subst (λ (z : ℕ). Parallel n sum (tokens_from z (codes "#" ++ behind)) (token z [] ∷ [])) same (subst (λ (z : List Token). Parallel n sum z (token n [] ∷ [])) (sym h) ends)
  parallel (c ∷ bytes) behind at e h = one_before at c (omega arith) (parallel bytes behind (at + 1) (omega arith) h)

printed_alone : (c : ℕ) → is_printed c ≡ true → goes_on c ≡ false
printed_alone c h = grind arith

-- a `#` before a printed character, or before the end, is a token of its own
hash_token : (n : ℕ) (behind : Bytes) → IsBegun behind → (sum : List Token) × (tokens_from n (codes "#" ++ behind) ≡ token n (codes "#") ∷ sum)
hash_token n [] h = (token (n + 1) [] ∷ [], refl)
hash_token n (c ∷ behind) h =
    let k : ℕ = cond (belongs c behind) (first_length behind) 0 in (
      first_of (n + 1) c k behind,
      ap (byte_before n 35) (first_token (n + 1) c behind)
          ∙ ap
          (λ (t : Bool). cond t (token n (35 ∷ take (suc k) (c ∷ behind)) ∷ tokens_from (n + 1 + suc k) (drop (suc k) (c ∷ behind))) (token n (35 ∷ []) ∷ first_of (n + 1) c k behind))
          (printed_alone c h),
    )

-- ---- the bytes of a checksum

digit_printed : (d : ℕ) → d < 32 → is_printed (slice_index bech32_alphabet d) ≡ true
digit_printed d l = agree_below_at (λ d. is_printed (slice_index bech32_alphabet d)) (λ d. true) 32 d refl l

begun_both : (xs ys : Bytes) → IsBegun xs → IsBegun ys → IsBegun (xs ++ ys)
begun_both [] ys h g = g
begun_both (x ∷ xs) ys h g = h

digits_begun : (count number : ℕ) → IsBegun (spelled bech32_alphabet (fixed_digits 32 count number))
unfolding fixed_digits
digits_begun zero number = tt
digits_begun (suc count) number =
    subst IsBegun (sym (map-append (λ digit. slice_index bech32_alphabet digit) (fixed_digits 32 count (number / 32)) (number % 32 ∷ [])))
    (begun_both (spelled bech32_alphabet (fixed_digits 32 count (number / 32))) (slice_index bech32_alphabet (number % 32) ∷ []) (digits_begun count (number / 32))
    (digit_printed (number % 32) (omega arith)))

mapped_begun : (o : Option (List ℕ)) (sum : Bytes) → option_map sum_of_places o ≡ Some sum → IsBegun sum
mapped_begun None sum e = absurd (cc)
mapped_begun (Some places) sum e = let same : sum_of_places places ≡ sum = cc in subst IsBegun same (digits_begun 8 _)

sum_begun : (bytes sum : Bytes) → descriptor_sum bytes ≡ Some sum → IsBegun sum
unfolding descriptor_sum
sum_begun bytes sum e = mapped_begun (read_digits descriptor_alphabet bytes) sum e

-- ---- what stands at the place of a token

ends_there : (c : ℕ) (bytes : Bytes) (rest : List Token) → tokens_from c bytes ≡ token c [] ∷ rest → bytes ≡ []
ends_there c [] rest e = refl
ends_there c (b ∷ bytes) rest e = absurd (cc (sym (first_token c b bytes) ∙ e))

hash_there : (c : ℕ) (bytes : Bytes) (rest : List Token) → tokens_from c bytes ≡ token c (codes "#") ∷ rest → (later : Bytes) × (bytes ≡ 35 ∷ later)
hash_there c [] rest e = absurd (cc e)
hash_there c (b ∷ bytes) rest e = let first : b ≡ 35 = cc (sym (first_token c b bytes) ∙ e) in (bytes, ap (λ (z : ℕ). z ∷ bytes) first)

all_taken : (n : ℕ) (xs : Bytes) → drop n xs ≡ [] → (take n xs ≡ xs) × (length xs ≤ n)
all_taken zero xs e = (sym e, let l : length xs ≡ length {A = ℕ} [] = ap length e in omega arith)
all_taken (suc n) [] e = (refl, omega arith)
all_taken (suc n) (x ∷ xs) e = let rest = all_taken n xs e in let short = rest.1 in (ap (λ (z : Bytes). x ∷ z) rest.0, omega arith)

both_parts : (n : ℕ) (xs : Bytes) → take n xs ++ drop n xs ≡ xs
both_parts zero xs = refl
both_parts (suc n) [] = refl
both_parts (suc n) (x ∷ xs) = ap (λ (z : Bytes). x ∷ z) (both_parts n xs)

one_further : (n : ℕ) (xs rest : Bytes) (x : ℕ) → drop n xs ≡ x ∷ rest → drop (n + 1) xs ≡ rest
one_further n xs rest x e = drop_both n 1 (n + 1) xs refl ∙ ap (drop 1) e

taken_front : (xs ys : Bytes) → take (length xs) (xs ++ ys) ≡ xs
taken_front [] ys = refl
taken_front (x ∷ xs) ys = ap (λ (z : Bytes). x ∷ z) (taken_front xs ys)

dropped_front : (xs ys : Bytes) → drop (length xs) (xs ++ ys) ≡ ys
dropped_front [] ys = refl
dropped_front (x ∷ xs) ys = dropped_front xs ys

-- ---- what stands behind the body

is_right : (o : Option Bytes) (sum : Bytes) → o ≡ Some sum → is_sum o sum ≡ true
is_right None sum e = absurd (cc)
is_right (Some own) sum e = let same : own ≡ sum = cc in (bytes_eq-Decides own sum).1 same

right_is : (o : Option Bytes) (sum found : Bytes) → o ≡ Some sum → is_sum o found ≡ true → sum ≡ found
right_is None sum found e h = absurd (cc)
right_is (Some own) sum found e h = let same : own ≡ sum = cc in sym same ∙ (bytes_eq-Decides own found).0 h

module _ (n : ℕ) (sum : List Token) (text other : Bytes) (right : is_sum (descriptor_sum (take n other)) (drop (n + 1) other) ≡ true) where
  sum_same : {ts us : List Token} → Parallel n sum ts us → read_sum text us ≡ Ok n → read_sum other ts ≡ Ok n
  sum_same ends e = ap (λ (t : Bool). cond t (Ok n) (Err (Checksum n))) right
  sum_same (more at b bytes l p) e =
      let (mark, inner) = if_then (bytes_eq (b ∷ bytes) (codes "#")) _ n _ e in
      let (good, found) = if_then (is_sum (descriptor_sum (take at text)) (drop (at + 1) text)) (Ok at) n _ inner in
      let same : at ≡ n = cc in
      absurd (omega arith)

  behind_same : {ts us : List Token} (next last : List Token → Result ℕ DescriptorFault) → Parallel n sum ts us
      → ((rs ss : List Token) → Parallel n sum rs ss → next ss ≡ Ok n → last rs ≡ Ok n) → behind (codes ")") us next ≡ Ok n → behind (codes ")") ts last ≡ Ok n
  behind_same next last ends go e = absurd (cc)
  behind_same next last (more at b bytes {ts = ts} {us = us} l p) go e =
      let (mark, rest) = if_then (bytes_eq (b ∷ bytes) (codes ")")) (next us) n _ e in
      ap (λ (t : Bool). cond t (last ts) (Err (Syntax at))) mark ∙ go ts us p rest

  tail_same : (under : Bool) {ts us : List Token} → Parallel n sum ts us → read_tail text under us ≡ Ok n → read_tail other under ts ≡ Ok n
  unfolding read_tail
  tail_same false p e = behind_same (read_sum text) (read_sum other) p (λ rs ss q f. sum_same q f) e
  tail_same true p e =
      behind_same (λ rest. behind (codes ")") rest (read_sum text)) (λ rest. behind (codes ")") rest (read_sum other)) p
      (λ rs ss q f. behind_same (read_sum text) (read_sum other) q (λ vs ws k g. sum_same k g) f) e

closes_by : (ts : List Token) (next : List Token → Result ℕ DescriptorFault) (n : ℕ) → behind (codes ")") ts next ≡ Ok n → starts (codes ")") ts ≡ true
closes_by [] next n e = absurd (cc)
closes_by (token at own ∷ ts) next n e = (if_then (bytes_eq own (codes ")")) (next ts) n _ e).0

tail_closes : (text : Bytes) (under : Bool) (ts : List Token) (n : ℕ) → read_tail text under ts ≡ Ok n → starts (codes ")") ts ≡ true
unfolding read_tail
tail_closes text false ts n e = closes_by ts (read_sum text) n e
tail_closes text true ts n e = closes_by ts _ n e

-- ---- the miniscript

same_refusal : (f g : Found) → f.refused ≡ None → (f.refused ≡ None → g.refused ≡ None) → f.refused ≡ g.refused
same_refusal f g none h = none ∙ sym (h none)

read_there : (body : Body) (f g : Found) → NoneRefused body f.refused → (f.refused ≡ None → g.refused ≡ None) → IsRead (pieces_of body) f → IsRead (pieces_of body) g
read_there (miniscript ps) f g none h read =
    (read.0, read.1, subst (λ z. TextReads (sample ps ++ stop z) read.0 read.1) (same_refusal f g none h) read.2)
read_there (sorted ps) f g none h read =
    (read.0, read.1, subst (λ z. TextReads (sample ps ++ stop z) read.0 read.1) (same_refusal f g none h) read.2)
read_there (single expression) f g none h read = tt

-- ---- the whole

parts_there : (n : ℕ) (sum : List Token) (r s : Result (Bool × Found) DescriptorFault) (under : Bool) (f : Found) → PartsSame n sum r s → r ≡ Ok (under, f)
    → NoneRefused f.body f.refused → starts (codes ")") f.rest ≡ true → (g : Found) × (s ≡ Ok (under, g)) × SameFound n sum f g
parts_there n sum r s under f h e none closes =
    let own : PartsSame n sum (Ok (under, f)) s = subst (λ (z : Result (Bool × Found) DescriptorFault). PartsSame n sum z s) e h in own none closes

answers_by : (text : Bytes) (under : Bool) (g : Found) (own : Descriptor) → length text ≤ MOST_BYTES → read_parts text ≡ Ok (under, g) → IsRead (pieces_of g.body) g
    → read_tail text under g.rest ≡ Ok own.length → under ≡ own.under → g.body ≡ own.body → Answers text (Ok own)
answers_by text under g own short parts read tail same body =
    let whole : ℕ → Descriptor = λ count. record { under = under; body = g.body; length = count } in
    let found : Answers text (Ok (whole own.length)) = subst (λ (z : Result ℕ DescriptorFault). Answers text (mapped whole z)) tail (right_parts short parts read) in
    subst (λ (z : Body). Answers text (Ok (record { under = own.under; body = z; length = own.length }))) body
    (subst (λ (z : Bool). Answers text (Ok (record { under = z; body = g.body; length = own.length }))) same found)

module _ (text : Bytes) (own : Descriptor) (utf8 : IsUtf8 text) (answers : Answers text (Ok own)) (sum : Bytes) (is : descriptor_sum (take own.length text) ≡ Some sum) where
  -- the checksum stood there
  had_sum : (rest : List Token) → tokens_from own.length (drop own.length text) ≡ token own.length (codes "#") ∷ rest
      → is_sum (descriptor_sum (take own.length text)) (drop (own.length + 1) text) ≡ true → take own.length text ++ codes "#" ++ sum ≡ text
  had_sum rest e right =
      let (later, there) = hash_there own.length (drop own.length text) rest e in
      let same : sum ≡ later = right_is (descriptor_sum (take own.length text)) sum (drop (own.length + 1) text) is right ∙ one_further own.length text later 35 there in
      append_assoc (take own.length text) (codes "#") sum
      ∙ (ap (λ (z : Bytes). take own.length text ++ 35 ∷ z) same
      ∙ (ap (λ (z : Bytes). take own.length text ++ z) (sym there) ∙ both_parts own.length text))

  -- it didn't
  no_sum : (n : ℕ) → n ≡ own.length → n ≡ length text → descriptor_sum text ≡ Some sum → length (text ++ codes "#" ++ sum) ≤ MOST_BYTES → Answers (text ++ codes "#" ++ sum) (Ok own)
  no_sum n length_is long sum_is short =
      let other : Bytes = text ++ codes "#" ++ sum in
      let d = descriptor_read text own answers in
      let (later, alone) = hash_token n sum (sum_begun text sum sum_is) in
      let p : Parallel n later (tokens other) (tokens text) = parallel n later text sum 0 (omega arith) alone in
      let none = not_refused text own utf8 answers d.found.body d.found.refused (λ ps e. subst (λ z. IsRead z d.found) e d.read) in
      let tail : read_tail text d.under d.found.rest ≡ Ok n = d.tail ∙ ap (λ (z : ℕ). Ok z) (sym length_is) in
      let size : length other ≡ length (text ++ codes "#") + length sum = length-append (text ++ codes "#") sum in
      let front_size : length (text ++ codes "#") ≡ length text + 1 = length-append text (codes "#") in
      let (g, parts, same) =
      parts_there n later (read_parts text) (read_parts other) d.under d.found (parts_same n later text other p (good text utf8) (omega arith)) d.parts none
      (tail_closes text d.under d.found.rest n tail) in
      let joined : other ≡ text ++ (35 ∷ sum) = append_assoc text (codes "#") sum in
      let front : take n other ≡ text = ap (λ (z : ℕ). take z other) long ∙ (ap (take (length text)) joined ∙ taken_front text (35 ∷ sum)) in
      let back : drop (n + 1) other ≡ sum =
      one_further n other sum 35 (ap (λ (z : ℕ). drop z other) long ∙ (ap (drop (length text)) joined ∙ dropped_front text (35 ∷ sum))) in
      let right : is_sum (descriptor_sum (take n other)) (drop (n + 1) other) ≡ true =
      ap (λ (z : Bytes). is_sum (descriptor_sum z) (drop (n + 1) other)) front
      ∙ (ap (is_sum (descriptor_sum text)) back ∙ is_right (descriptor_sum text) sum sum_is) in
      answers_by other d.under g own short parts
      (subst (λ (z : Body). IsRead (pieces_of z) g) (sym same.body) (read_there d.found.body d.found g none same.refused d.read))
      (tail_same n later text other right d.under same.rest tail ∙ ap (λ (z : ℕ). Ok z) length_is) d.same (same.body ∙ d.body)

  by_kind : (w : Bytes) (rest : List Token) → tokens_from own.length (drop own.length text) ≡ token own.length w ∷ rest → own.length ≤ length text
      → (w ≡ []) ⊎ ((w ≡ codes "#") × (is_sum (descriptor_sum (take own.length text)) (drop (own.length + 1) text) ≡ true))
      → length (take own.length text ++ codes "#" ++ sum) ≤ MOST_BYTES → Answers (take own.length text ++ codes "#" ++ sum) (Ok own)
  by_kind w rest e within (inl none) short =
      let empty : drop own.length text ≡ [] = ends_there own.length (drop own.length text) rest (e ∙ ap (λ (z : Bytes). token own.length z ∷ rest) none) in
      let (taken, few) = all_taken own.length text empty in
      subst (λ (z : Bytes). Answers (z ++ codes "#" ++ sum) (Ok own)) (sym taken)
      (no_sum own.length refl (omega arith) (subst (λ (z : Bytes). descriptor_sum z ≡ Some sum) taken is)
      (subst (λ (z : Bytes). length (z ++ codes "#" ++ sum) ≤ MOST_BYTES) taken short))
  by_kind w rest e within (inr (hash, right)) short =
      subst (λ (z : Bytes). Answers z (Ok own)) (sym (had_sum rest (e ∙ ap (λ (z : Bytes). token own.length z ∷ rest) hash) right)) answers

  pub read_again : length (take own.length text ++ codes "#" ++ sum) ≤ MOST_BYTES → Answers (take own.length text ++ codes "#" ++ sum) (Ok own)
  read_again short =
      let f = text_front text own utf8 answers in
      let there = f.there in
      let within = f.within in
      let size : f.size ≡ own.length = omega arith in
      by_kind (text_ends text own utf8 answers).bytes (text_ends text own utf8 answers).more (ap (λ (z : ℕ). tokens_from own.length (drop z text)) (sym size) ∙ f.token) (omega arith)
      (text_ends text own utf8 answers).kind short
