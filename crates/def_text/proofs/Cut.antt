-- Where a text is cut before one of its tokens: what stands before the cut, and what may follow it in the rest's place.
use Rattle.std.proofs.Common.{◌≡◌, inl, inr, ℕ, ◌+◌, ◌==◌, ◌≤◌, Bool, true, false, ◌&&◌, List, [], ◌∷◌, ◌++◌, length, slice_index, refl, sym, ap, ◌∙◌, subst, arith, append-nil, length-append}
use Rattle.std.proofs.Math.Seq.{get_or-append_seam, take-append_seam}
use Rattle.std.specs.Prelude.{⊤}
use Rattle.std.specs.Str.{IsUtf8, IsCharBoundary}
use Rattle.std.proofs.lemmas.Str.{IsUtf8-take}
use Rattle.std.proofs.lemmas.Bool.{cases_Bool}
use Rattle.std.proofs.lemmas.Bool.Decides.{nat_tests}
use Rattle.def_script.specs.Bytes.{Bytes}
use Rattle.def_text.specs.Token.{Token, word, opening, closing, comma, colon, other, end, offset, is_word_byte, goes_on, word_before, byte_before, tokens_from}

abbrev pub is_word : Token → Bool
is_word (word a w) = true
is_word t = false

abbrev pub is_end : Token → Bool
is_end (end a) = true
is_end t = false

abbrev pub starts_word : List Token → Bool
starts_word [] = false
starts_word (t ∷ ts) = is_word t

abbrev pub ends_word : List Token → Bool
ends_word [] = false
ends_word (t ∷ []) = is_word t
ends_word (t ∷ u ∷ ts) = ends_word (u ∷ ts)

-- no token is the end
abbrev pub NoEnd : List Token → Type 0
NoEnd [] = ⊤
NoEnd (t ∷ ts) = (is_end t ≡ false) × NoEnd ts

-- the bytes begin no character in its midst
abbrev pub StartsCharacter : Bytes → Type 0
StartsCharacter [] = ⊤
StartsCharacter (b ∷ bs) = goes_on b ≡ false

-- bytes, of which the first has an offset, are cut before a token
pub record Cut (at : ℕ) (bytes : Bytes) (us : List Token) (t : Token) : Type 0 where
  pub front : Bytes
  pub rest : Bytes
  pub split : bytes ≡ front ++ rest
  pub character : StartsCharacter rest
  pub no_end : NoEnd us
  -- other bytes may follow, where no word joins another
  pub same : (later : Bytes) → (ends_word us && starts_word (tokens_from (offset t) later)) ≡ false →
      tokens_from at (front ++ later) ≡ us ++ tokens_from (offset t) later

-- what a byte does to the tokens behind it
pub data ByteKind (at b : ℕ) : Type 0 where
  word_kind : goes_on b ≡ false → ((ts : List Token) → byte_before at b ts ≡ word_before at b ts) → ByteKind at b
  single_kind : goes_on b ≡ false → (s : Token) → offset s ≡ at → is_word s ≡ false → is_end s ≡ false →
      ((ts : List Token) → byte_before at b ts ≡ s ∷ ts) → ByteKind at b
  skip_kind : ((ts : List Token) → byte_before at b ts ≡ ts) → ByteKind at b

-- a word's byte is ASCII
word_byte_is_ascii : (b : ℕ) → is_word_byte b ≡ true → goes_on b ≡ false
word_byte_is_ascii b h = grind arith

pub kind_of : (at b : ℕ) → ByteKind at b
kind_of at b = elim (cases_Bool (is_word_byte b)) [
  | inl w ↦ word_kind (word_byte_is_ascii b w) (λ ts. rw w)
  | inr w ↦ elim (cases_Bool (b == 40)) [
    | inl o ↦ single_kind (grind (arith, nat_tests)) (opening at) refl refl refl (λ ts. rw (w, o))
    | inr o ↦ elim (cases_Bool (b == 41)) [
      | inl c ↦ single_kind (grind (arith, nat_tests)) (closing at) refl refl refl (λ ts. rw (w, o, c))
      | inr c ↦ elim (cases_Bool (b == 44)) [
        | inl d ↦ single_kind (grind (arith, nat_tests)) (comma at) refl refl refl (λ ts. rw (w, o, c, d))
        | inr d ↦ elim (cases_Bool (b == 58)) [
          | inl e ↦ single_kind (grind (arith, nat_tests)) (colon at) refl refl refl (λ ts. rw (w, o, c, d, e))
          | inr e ↦ elim (cases_Bool (goes_on b)) [
            | inl g ↦ skip_kind (λ ts. rw (w, o, c, d, e, g))
            | inr g ↦ single_kind g (other at) refl refl refl (λ ts. rw (w, o, c, d, e, g))
          ]
        ]
      ]
    ]
  ]
]

-- ---- the cut

pub nothing_behind : (us : List Token) (t : Token) (after : List Token) → [] ≡ us ++ t ∷ after → ⊥
nothing_behind [] t after h = cc
nothing_behind (u ∷ us) t after h = cc

-- the token at the front is the one before which the bytes are cut
here : (at : ℕ) (bytes : Bytes) (t : Token) → offset t ≡ at → StartsCharacter bytes → Cut at bytes [] t
here at bytes t e c = record {
  front = [];
  rest = bytes;
  split = refl;
  character = c;
  no_end = tt;
  same = λ later j. ap (λ n. tokens_from n later) (sym e);
}

-- what joins the tokens behind the first joins them all
inner_join : (u : Token) (us : List Token) (q : Bool) → (ends_word (u ∷ us) && q) ≡ false → (ends_word us && q) ≡ false
inner_join u us q j = grind arith

other_first : (u v : Token) (us : List Token) (q : Bool) → is_word u ≡ is_word v → (ends_word (u ∷ us) && q) ≡ false →
    (ends_word (v ∷ us) && q) ≡ false
other_first u v us q e j = grind arith

-- whether a word begins the tokens
data FirstWord (ts : List Token) : Type 0 where
  word_first : (n : ℕ) → (w : Bytes) → (later : List Token) → ts ≡ word n w ∷ later → FirstWord ts
  not_first : starts_word ts ≡ false → FirstWord ts

first_word : (ts : List Token) → FirstWord ts
first_word (word n w ∷ ts) = word_first n w ts refl
first_word ts = not_first refl

pub alone : (at b : ℕ) (ts : List Token) → starts_word ts ≡ false → word_before at b ts ≡ word at (b ∷ []) ∷ ts
alone at b ts = grind arith

-- no word begins what follows a word of one byte
unjoined : (at b : ℕ) (u : Token) (us ts later : List Token) → word at (b ∷ []) ≡ u → starts_word ts ≡ false →
    (t : Token) (after : List Token) →
    ts ≡ us ++ t ∷ after → (ends_word (u ∷ us) && starts_word later) ≡ false → starts_word (us ++ later) ≡ false
unjoined at b u [] ts later e f t after h j = rw (← e) at j
unjoined at b u (v ∷ vs) ts later e f t after h j = sym (ap starts_word h) ∙ f

module _ (at b : ℕ) (bs : Bytes) (inner : (us : List Token) (t : Token) (after : List Token) → tokens_from (at + 1) bs ≡ us ++ t ∷ after →
    Cut (at + 1) bs us t) where
  -- one byte more in front of a cut
  further : (vs us : List Token) (t : Token) (c : Cut (at + 1) bs vs t) → NoEnd us →
      ((later : Bytes) → (ends_word us && starts_word (tokens_from (offset t) later)) ≡ false →
      tokens_from at (b ∷ (c.front ++ later)) ≡ us ++ tokens_from (offset t) later) → Cut at (b ∷ bs) us t
  further vs us t c none same = record {
    front = b ∷ c.front;
    rest = c.rest;
    split = ap (λ r. b ∷ r) c.split;
    character = c.character;
    no_end = none;
    same = same;
  }

  cut_single : (s : Token) → goes_on b ≡ false → offset s ≡ at → is_end s ≡ false →
      ((ts : List Token) → byte_before at b ts ≡ s ∷ ts) → (us : List Token) (t : Token) (after : List Token) →
      s ∷ tokens_from (at + 1) bs ≡ us ++ t ∷ after → Cut at (b ∷ bs) us t
  cut_single s g o n same [] t after h = let e : s ≡ t = cc in here at (b ∷ bs) t (ap offset (sym e) ∙ o) g
  cut_single s g o n same (u ∷ us) t after h =
      let e : s ≡ u = cc in
      let c : Cut (at + 1) bs us t = inner us t after (cc) in
      further us (u ∷ us) t c (rw (← e) n, c.no_end)
      (λ later j. cc (same (tokens_from (at + 1) (c.front ++ later)), c.same later (inner_join u us (starts_word (tokens_from (offset t) later)) j)))

  cut_joined : (n : ℕ) (w : Bytes) (ts : List Token) → tokens_from (at + 1) bs ≡ word n w ∷ ts → goes_on b ≡ false →
      ((ts : List Token) → byte_before at b ts ≡ word_before at b ts) → (us : List Token) (t : Token) (after : List Token) →
      word at (b ∷ w) ∷ ts ≡ us ++ t ∷ after → Cut at (b ∷ bs) us t
  cut_joined n w ts k g same [] t after h =
      let e : word at (b ∷ w) ≡ t = cc in here at (b ∷ bs) t (ap offset (sym e)) g
  cut_joined n w ts k g same (u ∷ us) t after h =
      let e : word at (b ∷ w) ≡ u = cc in
      let tail : ts ≡ us ++ t ∷ after = cc in
      let c : Cut (at + 1) bs (word n w ∷ us) t = inner (word n w ∷ us) t after (k ∙ ap (λ r. word n w ∷ r) tail) in
      further (word n w ∷ us) (u ∷ us) t c (ap is_end (sym e), c.no_end.1)
      (λ later j. cc (
        same (tokens_from (at + 1) (c.front ++ later)),
        c.same later (other_first u (word n w) us (starts_word (tokens_from (offset t) later)) (ap is_word (sym e)) j),
      ))

  cut_alone : starts_word (tokens_from (at + 1) bs) ≡ false → goes_on b ≡ false →
      ((ts : List Token) → byte_before at b ts ≡ word_before at b ts) → (us : List Token) (t : Token) (after : List Token) →
      word at (b ∷ []) ∷ tokens_from (at + 1) bs ≡ us ++ t ∷ after → Cut at (b ∷ bs) us t
  cut_alone f g same [] t after h =
      let e : word at (b ∷ []) ≡ t = cc in here at (b ∷ bs) t (ap offset (sym e)) g
  cut_alone f g same (u ∷ us) t after h =
      let e : word at (b ∷ []) ≡ u = cc in
      let tail : tokens_from (at + 1) bs ≡ us ++ t ∷ after = cc in
      let c : Cut (at + 1) bs us t = inner us t after tail in
      further us (u ∷ us) t c (ap is_end (sym e), c.no_end)
      (λ later j. cc (
        same (tokens_from (at + 1) (c.front ++ later)),
        c.same later (inner_join u us (starts_word (tokens_from (offset t) later)) j),
        alone at b (us ++ tokens_from (offset t) later) (unjoined at b u us (tokens_from (at + 1) bs) (tokens_from (offset t) later) e f t after tail j),
      ))

  cut_word : FirstWord (tokens_from (at + 1) bs) → goes_on b ≡ false →
      ((ts : List Token) → byte_before at b ts ≡ word_before at b ts) → (us : List Token) (t : Token) (after : List Token) →
      word_before at b (tokens_from (at + 1) bs) ≡ us ++ t ∷ after → Cut at (b ∷ bs) us t
  cut_word (word_first n w ts k) g same us t after h = cut_joined n w ts k g same us t after (ap (word_before at b) (sym k) ∙ h)
  cut_word (not_first f) g same us t after h = cut_alone f g same us t after (sym (alone at b (tokens_from (at + 1) bs) f) ∙ h)

  cut_skip : ((ts : List Token) → byte_before at b ts ≡ ts) → (us : List Token) (t : Token) (after : List Token) →
      tokens_from (at + 1) bs ≡ us ++ t ∷ after → Cut at (b ∷ bs) us t
  cut_skip same us t after h =
      let c : Cut (at + 1) bs us t = inner us t after h in
      further us us t c c.no_end (λ later j. same (tokens_from (at + 1) (c.front ++ later)) ∙ c.same later j)

  cut_by_kind : ByteKind at b → (us : List Token) (t : Token) (after : List Token) →
      byte_before at b (tokens_from (at + 1) bs) ≡ us ++ t ∷ after → Cut at (b ∷ bs) us t
  cut_by_kind (word_kind g same) us t after h =
      cut_word (first_word (tokens_from (at + 1) bs)) g same us t after (sym (same (tokens_from (at + 1) bs)) ∙ h)
  cut_by_kind (single_kind g s o w n same) us t after h =
      cut_single s g o n same us t after (sym (same (tokens_from (at + 1) bs)) ∙ h)
  cut_by_kind (skip_kind same) us t after h = cut_skip same us t after (sym (same (tokens_from (at + 1) bs)) ∙ h)

pub cut : (bytes : Bytes) (at : ℕ) (us : List Token) (t : Token) (after : List Token) → tokens_from at bytes ≡ us ++ t ∷ after →
    Cut at bytes us t
cut [] at [] t after h = let e : end at ≡ t = cc in here at [] t (ap offset (sym e)) tt
cut [] at (u ∷ us) t after h = absurd (nothing_behind us t after (cc))
cut (b ∷ bs) at us t after h = cut_by_kind at b bs (cut bs (at + 1)) (kind_of at b) us t after h

-- ---- the front is a text

boundary_byte : (b : ℕ) → goes_on b ≡ false → 128 ≤ b → 192 ≤ b
boundary_byte b h low = grind arith

boundary_of : (front rest : Bytes) → StartsCharacter rest → IsCharBoundary (front ++ rest) (length front)
boundary_of front [] c =
    let e : length (front ++ []) ≡ length front = ap length (append-nil front) in
    (omega arith, λ h. absurd (omega arith))
boundary_of front (b ∷ rest) c =
    let n : length (front ++ b ∷ rest) ≡ length front + length (b ∷ rest) = length-append front (b ∷ rest) in
    let e : slice_index (front ++ b ∷ rest) (length front) ≡ b = get_or-append_seam front b rest 0 in
    (omega arith, λ h low. let k : 192 ≤ b = boundary_byte b c (rw (← e) low) in rw e k)

-- the front of a text before one of its tokens is a text
pub front_is_utf8 : {at : ℕ} {bytes : Bytes} {us : List Token} {t : Token} → (c : Cut at bytes us t) → IsUtf8 bytes →
    IsUtf8 c.front
front_is_utf8 c h =
    let whole : IsUtf8 (c.front ++ c.rest) = subst IsUtf8 c.split h in
    subst IsUtf8 (take-append_seam c.front c.rest)
    (IsUtf8-take (c.front ++ c.rest) (length c.front) whole (boundary_of c.front c.rest c.character))
