-- All characters of a descriptor's text are of BIP 380's set.
use Rattle.std.proofs.Common.{◌≡◌, ◌⊎◌, inl, inr, ℕ, zero, suc, ◌+◌, ◌==◌, ◌≤◌, Bool, true, false, List, [], ◌∷◌, ◌++◌, length, take, drop, get_or, replicate, codes, arith, refl, sym, ap, ◌∙◌, subst, cond, length-drop, Option, Some, None, Result, Ok, Err}
use Rattle.std.specs.Prelude.{◌&&◌, ◌||◌, not, ⊤, nat_le, IsUtf8, IsCharBoundary}
use Rattle.std.specs.List.{list_all, position}
use Rattle.std.specs.Option.{option_map, is_some}
use Rattle.std.specs.Str.{bytes_eq}
use Rattle.std.proofs.lemmas.Bool.{and_parts, agree_below_at, eqb-true, leb-true}
use Rattle.std.proofs.lemmas.Slice.Eq.{bytes_eq-Decides}
use Rattle.std.proofs.lemmas.Str.{IsUtf8-nil, IsUtf8-take, IsUtf8-drop, IsCharBoundary-start}
use Rattle.def_script.specs.Bytes.{Bytes}
use Rattle.def_tree.specs.Tree.{Tree}
use Rattle.def_text.specs.Token.{is_word_byte, goes_on}
use Rattle.def_text.specs.Token as text
use Rattle.def_text.specs.Refusal.{TextReads}
use Rattle.def_text.specs.Scaffolding.Reader.{START}
use Rattle.def_text.proofs.Complete.{complete_text}
use Rattle.def_text.proofs.Cut.{kind_of}
use Rattle.def_address.specs.Digits.{with_digit, read_digits}
use Rattle.def_address.specs.DescriptorSum.{descriptor_alphabet, sum_of_places, descriptor_sum}
use Rattle.def_descriptor.specs.declared.DescriptorFault.{DescriptorFault}
use Rattle.def_descriptor.specs.Token.{Token, token, belongs, tokens_from, tokens, behind}
use Rattle.def_descriptor.specs.Pieces.{Piece, plain, key, text_with}
use Rattle.def_descriptor.specs.Parts.{Body, miniscript, sorted, single, is_sum, read_sum, read_tail}
use Rattle.def_descriptor.specs.Answer.{Descriptor, ANY_KEY, sample, stop, pieces_of, IsRead, Answers}
use Rattle.def_descriptor.specs.Gives.{pieces_in}
use Rattle.def_descriptor.proofs.Pieces.{PiecesUtf8}
use Rattle.def_descriptor.proofs.Tokens.{first_length, first_token, first_within, first_apart}
use Rattle.ms_key_laws.proofs.Clean.{is_printed, word_printed, goes_on_bounds, IsClean, AreGood, AreChains, chains, Reaches, here, past, further, past_mark}
use Rattle.ms_key_laws.proofs.Stop.{HasOther, byte_other, never, none_refused}
use Rattle.ms_key_laws.proofs.Passed.{IsBegun, AreBegun, NoneRefused, found_reaches}
use Rattle.ms_key_laws.proofs.Read.{PiecesRead, pieces_read, descriptor_read}

-- ---- the tokens of a text in UTF-8

leading : (c : ℕ) → goes_on c ≡ false → 128 ≤ c → 192 ≤ c
leading c h low = go (nat_le c 0xbf) refl
  where
    both : (x y : Bool) → x ≡ true → (x && y) ≡ false → y ≡ false
    both true y e h = h
    both false y e h = absurd (cc)

    go : (t : Bool) → nat_le c 0xbf ≡ t → 192 ≤ c
    go true e = absurd (cc (both (nat_le 0x80 c) (nat_le c 0xbf) (search (arith, low)) h, e))
    go false e = search (arith, e)

abbrev AllUtf8 : List Token → Type 0
AllUtf8 [] = ⊤
AllUtf8 (token at bytes ∷ ts) = IsUtf8 bytes × AllUtf8 ts

all_from : (most at : ℕ) (bytes : Bytes) → length bytes ≤ most → IsUtf8 bytes → AllUtf8 (tokens_from at bytes)
unfolding first_length
all_from most at [] short h = (IsUtf8-nil, tt)
all_from zero at (b ∷ bytes) short h = absurd (omega (arith, short))
all_from (suc most) at (b ∷ bytes) short h =
    let n : ℕ = cond (belongs b bytes) (first_length bytes) 0 in
    let edge : IsCharBoundary (b ∷ bytes) (suc n) =
    (first_within (b ∷ bytes), λ inside. leading (get_or (b ∷ bytes) (first_length (b ∷ bytes)) 0) (first_apart (b ∷ bytes) inside)) in
    let left : length (drop (suc n) (b ∷ bytes)) ≤ most = omega (arith, length-drop (suc n) (b ∷ bytes), short) in
    subst AllUtf8 (sym (first_token at b bytes))
    (IsUtf8-take (b ∷ bytes) (suc n) h edge, all_from most (at + suc n) (drop (suc n) (b ∷ bytes)) left (IsUtf8-drop (b ∷ bytes) (suc n) h edge))

both_good : (ts : List Token) → AllUtf8 ts → AreChains ts → AreGood ts
both_good [] h g = tt
both_good (token at bytes ∷ ts) h g = ((h.0, g.0), both_good ts h.1 g.1)

pub good : (text : Bytes) → IsUtf8 text → AreGood (tokens text)
good text h = both_good (tokens text) (all_from (length text) 0 text (omega arith) h) (chains text 0)

-- ---- what stands behind a body

-- the token at which the text ends but for a checksum stands behind printed tokens
pub record Ends (text : Bytes) (ts : List Token) (count : ℕ) : Type 0 where
  pub bytes : Bytes
  pub more : List Token
  pub reaches : Reaches ts (token count bytes ∷ more)
  -- it is the end, or a `#` with the checksum behind it
  pub kind : (bytes ≡ []) ⊎ ((bytes ≡ codes "#") × (is_sum (descriptor_sum (take count text)) (drop (count + 1) text) ≡ true))

-- what a test lets through
pub if_then : {A : Type 0} (b : Bool) (r : Result A DescriptorFault) (y : A) (why : DescriptorFault) → cond b r (Err why) ≡ Ok y → (b ≡ true) × (r ≡ Ok y)
if_then true r y why e = (refl, e)
if_then false r y why e = absurd (cc)

sum_ends : (text : Bytes) (ts : List Token) (count : ℕ) → read_sum text ts ≡ Ok count → Ends text ts count
sum_ends text [] count e = absurd (cc)
sum_ends text (token at [] ∷ ts) count e =
    let same : at ≡ count = cc in
    record { bytes = []; more = ts; reaches = subst (λ (z : ℕ). Reaches (token at [] ∷ ts) (token z [] ∷ ts)) same here; kind = inl refl }
sum_ends text (token at (b ∷ bytes) ∷ ts) count e =
    let (mark, inner) = if_then (bytes_eq (b ∷ bytes) (codes "#")) _ count _ e in
    let (right, found) = if_then (is_sum (descriptor_sum (take at text)) (drop (at + 1) text)) (Ok at) count _ inner in
    let same : at ≡ count = cc in
    record {
      bytes = b ∷ bytes;
      more = ts;
      reaches = subst (λ (z : ℕ). Reaches (token at (b ∷ bytes) ∷ ts) (token z (b ∷ bytes) ∷ ts)) same here;
      kind =
          inr (
            (bytes_eq-Decides (b ∷ bytes) (codes "#")).0 mark,
            subst (λ (z : ℕ). is_sum (descriptor_sum (take z text)) (drop (z + 1) text) ≡ true) same right,
          );
    }

behind_ends : (text mark : Bytes) (ts : List Token) (next : List Token → Result ℕ DescriptorFault) (count : ℕ) → IsClean mark
    → ((rest : List Token) → next rest ≡ Ok count → Ends text rest count) → behind mark ts next ≡ Ok count → Ends text ts count
behind_ends text mark [] next count clean go e = absurd (cc)
behind_ends text mark (token at own ∷ ts) next count clean go e =
    let (same, rest) = if_then (bytes_eq own mark) (next ts) count _ e in
    let ends = go ts rest in
    record { bytes = ends.bytes; more = ends.more; reaches = further (past_mark mark (token at own ∷ ts) clean same) ends.reaches; kind = ends.kind }

tail_ends : (text : Bytes) (under : Bool) (ts : List Token) (count : ℕ) → read_tail text under ts ≡ Ok count → Ends text ts count
unfolding read_tail
tail_ends text false ts count e = behind_ends text (codes ")") ts (read_sum text) count refl (λ rest f. sum_ends text rest count f) e
tail_ends text true ts count e =
    behind_ends text (codes ")") ts _ count refl (λ rest f. behind_ends text (codes ")") rest (read_sum text) count refl (λ last g. sum_ends text last count g) f) e

-- ---- the bytes before a token

clean_both : (xs ys : Bytes) → IsClean xs → IsClean ys → IsClean (xs ++ ys)
clean_both [] ys h g = g
clean_both (x ∷ xs) ys h g =
    let parts = and_parts (is_printed x) (list_all is_printed xs) h in rw (parts.0, clean_both xs ys parts.1 g) refl

take_both : (m n k : ℕ) (xs : Bytes) → k ≡ m + n → m ≤ length xs → take k xs ≡ take m xs ++ take n (drop m xs)
take_both zero n k xs e h = let same : k ≡ n = omega arith in ap (λ (z : ℕ). take z xs) same
take_both (suc m) n zero xs e h = absurd (omega arith)
take_both (suc m) n (suc k) [] e h = absurd (omega arith)
take_both (suc m) n (suc k) (x ∷ xs) e h = ap (λ (z : Bytes). x ∷ z) (take_both m n k xs (omega arith) (omega arith))

pub drop_both : (m n k : ℕ) (xs : Bytes) → k ≡ m + n → drop k xs ≡ drop n (drop m xs)
drop_both zero n k xs e = let same : k ≡ n = omega arith in ap (λ (z : ℕ). drop z xs) same
drop_both (suc m) n zero xs e = absurd (omega arith)
drop_both (suc m) zero (suc k) [] e = refl
drop_both (suc m) (suc n) (suc k) [] e = refl
drop_both (suc m) n (suc k) (x ∷ xs) e = drop_both m n k xs (omega arith)

nothing_left : {ts rest : List Token} → Reaches ts rest → (count : ℕ) (w : Bytes) (more : List Token) → ts ≡ [] → rest ≡ token count w ∷ more → ⊥
nothing_left here count w more e f = cc
nothing_left (past clean h) count w more e f = cc

same_first : (at count : ℕ) (own w : Bytes) (us more ts : List Token) → ts ≡ token at own ∷ us → ts ≡ token count w ∷ more → count ≡ at
same_first at count own w us more ts e f = cc

-- bytes whose token at a place stands behind printed tokens are printed up to there
pub record Front (at : ℕ) (bytes : Bytes) (count : ℕ) (w : Bytes) (more : List Token) : Type 0 where
  pub size : ℕ
  pub there : count ≡ at + size
  pub within : size ≤ length bytes
  pub clean : IsClean (take size bytes)
  -- what stands there
  pub token : tokens_from count (drop size bytes) ≡ token count w ∷ more

front : {ts rest : List Token} → Reaches ts rest → (at : ℕ) (bytes : Bytes) (count : ℕ) (w : Bytes) (more : List Token) → ts ≡ tokens_from at bytes → rest ≡ token count w ∷ more
    → Front at bytes count w more
unfolding first_length
front here at [] count w more e f =
    let same : count ≡ at = same_first at count [] w [] more _ e f in
    record { size = 0; there = omega arith; within = omega arith; clean = refl; token = ap (λ (z : ℕ). tokens_from z []) same ∙ (sym e ∙ f) }
front here at (b ∷ bytes) count w more e f =
    let n : ℕ = cond (belongs b bytes) (first_length bytes) 0 in
    let same : count ≡ at = same_first at count _ w _ more _ (e ∙ first_token at b bytes) f in
    record { size = 0; there = omega arith; within = omega arith; clean = refl; token = ap (λ (z : ℕ). tokens_from z (b ∷ bytes)) same ∙ (sym e ∙ f) }
front (past clean h) at [] count w more e f = absurd (nothing_left h count w more (cc) f)
front (past {bytes = own} {ts = ts} clean h) at (b ∷ bytes) count w more e f =
    let n : ℕ = cond (belongs b bytes) (first_length bytes) 0 in
    let all : token _ own ∷ ts ≡ token at (take (suc n) (b ∷ bytes)) ∷ tokens_from (at + suc n) (drop (suc n) (b ∷ bytes)) = e ∙ first_token at b bytes in
    let first : own ≡ take (suc n) (b ∷ bytes) = cc in
    let left : ts ≡ tokens_from (at + suc n) (drop (suc n) (b ∷ bytes)) = cc in
    let inside : suc n ≤ length (b ∷ bytes) = first_within (b ∷ bytes) in
    let later = front h (at + suc n) (drop (suc n) (b ∷ bytes)) count w more left f in
    let there : count ≡ at + suc n + later.size = later.there in
    let within : later.size ≤ length (drop (suc n) (b ∷ bytes)) = later.within in
    record {
      size = suc n + later.size;
      there = omega arith;
      within = omega (arith, length-drop (suc n) (b ∷ bytes));
      clean =
          subst IsClean (sym (take_both (suc n) later.size (suc n + later.size) (b ∷ bytes) refl inside))
          (clean_both (take (suc n) (b ∷ bytes)) (take later.size (drop (suc n) (b ∷ bytes))) (subst IsClean first clean) later.clean);
      token = ap (tokens_from count) (drop_both (suc n) later.size (suc n + later.size) (b ∷ bytes) refl) ∙ later.token;
    }

-- ---- pieces of a text that is read begin with printed characters

no_mark : (b m : ℕ) → is_printed m ≡ true → is_printed b ≡ false → (b == m) ≡ false
no_mark b m h e = go (b == m) refl
  where
    go : (t : Bool) → (b == m) ≡ t → t ≡ false
    go false s = refl
    go true s = let same : b ≡ m = eqb-true b m s in let p : is_printed b ≡ true = subst (λ (z : ℕ). is_printed z ≡ true) (sym same) h in absurd (cc)

no_word : (b : ℕ) → is_printed b ≡ false → is_word_byte b ≡ false
no_word b e = go (is_word_byte b) refl
  where
    go : (t : Bool) → is_word_byte b ≡ t → t ≡ false
    go false s = refl
    go true s = let p : is_printed b ≡ true = word_printed b s in absurd (cc)

-- another character is a token that stands in no text
other_token : (at b : ℕ) (ts : List text.Token) → is_printed b ≡ false → goes_on b ≡ false → text.byte_before at b ts ≡ text.other at ∷ ts
other_token at b ts e g = rw (no_word b e, no_mark b 40 refl e, no_mark b 41 refl e, no_mark b 44 refl e, no_mark b 58 refl e, g)

other_behind : (bytes : Bytes) (at n : ℕ) (rest : Bytes) → n ≡ at + length bytes → HasOther (text.tokens_from n rest) → HasOther (text.tokens_from at (bytes ++ rest))
other_behind [] at n rest e h = let same : n ≡ at = omega arith in subst (λ (z : ℕ). HasOther (text.tokens_from z rest)) same h
other_behind (b ∷ bytes) at n rest e h =
    byte_other at b (text.tokens_from (at + 1) (bytes ++ rest)) (kind_of at b) (other_behind bytes (at + 1) n rest (omega arith) h)

-- no character goes on where one begins
no_goes_on : (b : ℕ) (bytes : Bytes) → IsUtf8 (b ∷ bytes) → goes_on b ≡ true → ⊥
no_goes_on b bytes utf8 h =
    let (least, most) = goes_on_bounds b h in
    let edge = (IsCharBoundary-start (b ∷ bytes) utf8).1 in
    let lead : 192 ≤ b = edge (omega arith) least in
    omega arith

begun_by : (b : ℕ) (bytes more : Bytes) (at : ℕ) (p g : Bool) → is_printed b ≡ p → goes_on b ≡ g → IsUtf8 (b ∷ bytes)
    → (HasOther (text.tokens_from at (b ∷ (bytes ++ more))) → ⊥) → is_printed b ≡ true
begun_by b bytes more at true g e f utf8 none = e
begun_by b bytes more at false true e f utf8 none = absurd (no_goes_on b bytes utf8 f)
begun_by b bytes more at false false e f utf8 none =
    absurd (none (subst HasOther (sym (other_token at b (text.tokens_from (at + 1) (bytes ++ more)) e f)) tt))

begun_first : (bytes more : Bytes) (at : ℕ) → IsUtf8 bytes → (HasOther (text.tokens_from at (bytes ++ more)) → ⊥) → IsBegun bytes
begun_first [] more at utf8 none = tt
begun_first (b ∷ bytes) more at utf8 none = begun_by b bytes more at (is_printed b) (goes_on b) refl refl utf8 none

begun : (ps : List Piece) (words : List Bytes) (at : ℕ) → PiecesUtf8 ps → (HasOther (text.tokens_from at (text_with words ps)) → ⊥) → AreBegun ps
begun [] words at utf8 none = tt
begun (plain place bytes ∷ ps) words at utf8 none = (
  begun_first bytes (text_with words ps) at utf8.0 none,
  begun ps words (at + length bytes) utf8.1 (λ h. none (other_behind bytes at (at + length bytes) (text_with words ps) refl h)),
)
begun (key expression ∷ ps) [] at utf8 none = begun ps [] at utf8 none
begun (key expression ∷ ps) (word ∷ words) at utf8 none =
    begun ps words (at + length word) utf8 (λ h. none (other_behind word at (at + length word) (text_with words ps) refl h))

sample_begun : (ps : List Piece) → PiecesRead ps → AreBegun ps
sample_begun ps p =
    begun ps (replicate (length ps) ANY_KEY) 0 p.utf8 (λ h. never (text.tokens (sample ps)) START _ h (complete_text p.reads.spelled))

-- ---- the text of a descriptor

module _ (all : Bytes) (own : Descriptor) (utf8 : IsUtf8 all) (answers : Answers all (Ok own)) where
  begun_body : (body : Body) → ((ps : List Piece) → pieces_of body ≡ Some ps → PiecesRead ps) → AreBegun (pieces_in body)
  begun_body (miniscript ps) h = sample_begun ps (h ps refl)
  begun_body (sorted ps) h = sample_begun ps (h ps refl)
  begun_body (single expression) h = tt

  pub not_refused : (body : Body) (refused : Option DescriptorFault)
      → ((ps : List Piece) → pieces_of body ≡ Some ps → (tree : Tree) × (offsets : List ℕ) × TextReads (sample ps ++ stop refused) tree offsets) → NoneRefused body refused
  not_refused (miniscript ps) refused h = let r = h ps refl in none_refused ps refused r.0 r.1 r.2
  not_refused (sorted ps) refused h = let r = h ps refl in none_refused ps refused r.0 r.1 r.2
  not_refused (single expression) refused h = tt

  pub text_ends : Ends all (descriptor_read all own answers).found.rest own.length
  text_ends = let d = descriptor_read all own answers in tail_ends all d.under d.found.rest own.length d.tail

  pub text_front : Front 0 all own.length text_ends.bytes text_ends.more
  text_front =
      let d = descriptor_read all own answers in
      let reached = found_reaches all d.under d.found (good all utf8) d.parts
      (not_refused d.found.body d.found.refused (λ ps e. subst (λ z. IsRead z d.found) e d.read))
      (subst (λ (z : Body). AreBegun (pieces_in z)) (sym d.body) (begun_body own.body (λ ps e. pieces_read all own ps utf8 answers e))) in
      front (further reached text_ends.reaches) 0 all own.length text_ends.bytes text_ends.more refl refl

  pub text_printed : IsClean (take own.length all)
  text_printed =
      let f = text_front in
      let same : f.size ≡ own.length = let e : own.length ≡ 0 + f.size = f.there in omega arith in
      subst (λ (z : ℕ). IsClean (take z all)) same f.clean

-- ---- its checksum

left_of : (x y : Bool) → (x || not y) ≡ true → y ≡ true → x ≡ true
left_of true y h e = refl
left_of false true h e = h
left_of false false h e = e

-- each printed character has a place in the set
printed_place : (b : ℕ) → is_printed b ≡ true → is_some (position (λ other. other == b) descriptor_alphabet) ≡ true
printed_place b h =
    let most : b ≤ 126 = leb-true b 126 (and_parts (nat_le 32 b) (nat_le b 126) h).1 in
    let table : (is_some (position (λ other. other == b) descriptor_alphabet) || not (is_printed b)) ≡ true =
    agree_below_at (λ b. is_some (position (λ other. other == b) descriptor_alphabet) || not (is_printed b)) (λ b. true) 127 b refl (omega arith) in
    left_of (is_some (position (λ other. other == b) descriptor_alphabet)) (is_printed b) table h

with_some : (o : Option ℕ) (p : Option (List ℕ)) (ds : List ℕ) → is_some o ≡ true → p ≡ Some ds → (es : List ℕ) × (with_digit o p ≡ Some es)
with_some None p ds h e = absurd (cc)
with_some (Some d) p ds h e = (d ∷ ds, ap (with_digit (Some d)) e)

printed_digits : (bytes : Bytes) → IsClean bytes → (ds : List ℕ) × (read_digits descriptor_alphabet bytes ≡ Some ds)
printed_digits [] h = ([], refl)
printed_digits (b ∷ bytes) h =
    let parts = and_parts (is_printed b) (list_all is_printed bytes) h in
    let (ds, e) = printed_digits bytes parts.1 in
    with_some (position (λ other. other == b) descriptor_alphabet) (read_digits descriptor_alphabet bytes) ds (printed_place b parts.0) e

printed_sum : (bytes : Bytes) → IsClean bytes → (sum : Bytes) × (descriptor_sum bytes ≡ Some sum)
unfolding descriptor_sum
printed_sum bytes h = let (ds, e) = printed_digits bytes h in (sum_of_places ds, ap (option_map sum_of_places) e)

pub texts_have_sums : (all : Bytes) (own : Descriptor) → IsUtf8 all → Answers all (Ok own) → (sum : Bytes) × (descriptor_sum (take own.length all) ≡ Some sum)
texts_have_sums all own utf8 answers = printed_sum (take own.length all) (text_printed all own utf8 answers)
