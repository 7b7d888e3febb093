-- Where a line ends.
use Rattle.memchr.specs.Find.{IsFirstByte, is_byte}
use Rattle.std.proofs.Common.{◌≡◌, ◌≢◌, ℕ, zero, suc, ◌+◌, ◌-◌, ◌^◌, ◌<◌, ◌≤◌, ◌==◌, nat_lt, true, false, List, [], ◌∷◌, length, take, drop, Option, Some, None, option_map, refl, sym, ap, subst, ◌∙◌, add-one, arith}
use Rattle.std.specs.Prelude.{slice_index, IfSome}
use Rattle.std.proofs.lemmas.Bool.{eqb-true, eq-eqb, ne_eqb, lt-ltb, le-ltb}
use Rattle.std.proofs.lemmas.List.{take_rest}
use Rattle.def_script.specs.Bytes.{Bytes}
use Rattle.def_psbt.specs.Source.{without_blanks}
use Rattle.def_combine.specs.Combine.{LF, byte_before, lines, lines_from}
use Rattle.ms_combine.specs.declared.lines.LinesLeft.{LinesLeft}
use Rattle.ms_combine.specs.Scaffolding.Left.{lines_in, rest_of, texts_left, most_lines, HasRoom}

lines_none : (bytes : Bytes) → ((j : ℕ) → j < length bytes → slice_index bytes j ≢ LF) → lines bytes ≡ bytes ∷ []
unfolding lines
lines_none [] h = refl
lines_none (x ∷ bytes) h =
    let other : (x == LF) ≡ false = ne_eqb x LF (h 0 (omega arith)) in
    let rest = lines_none bytes (λ j less. h (suc j) (omega (arith, less))) in
    rw other (ap (byte_before x) rest)

lines_at : (bytes : Bytes) (k : ℕ) → k < length bytes → slice_index bytes k ≡ LF → ((j : ℕ) → j < k → slice_index bytes j ≢ LF)
    → lines bytes ≡ take k bytes ∷ lines (drop (suc k) bytes)
unfolding lines
lines_at [] k less is h = absurd (omega (arith, less))
lines_at (x ∷ bytes) zero less is h =
    let yes : (x == LF) ≡ true = eq-eqb x LF is in
    rw yes refl
lines_at (x ∷ bytes) (suc k) less is h =
    let other : (x == LF) ≡ false = ne_eqb x LF (h 0 (omega arith)) in
    let rest = lines_at bytes k (omega (arith, less)) is (λ j few. h (suc j) (omega (arith, few))) in
    rw other (ap (byte_before x) rest)

pub line_alone : (bytes : Bytes) (r : Option ℕ) → r ≡ None → IsFirstByte (is_byte 10) bytes r → lines bytes ≡ bytes ∷ []
line_alone bytes r none first =
    let nowhere : IsFirstByte (is_byte 10) bytes None = subst (IsFirstByte (is_byte 10) bytes) none first in
    lines_none bytes (λ j few is. nowhere j (omega arith) few (eq-eqb _ 10 is))

pub line_found : (bytes : Bytes) (end : ℕ) (r : Option ℕ) → r ≡ Some end → IsFirstByte (is_byte 10) bytes r
    → lines bytes ≡ take end bytes ∷ lines (take (length bytes - (end + 1)) (drop (end + 1) bytes))
line_found bytes end r found first =
    let at : IsFirstByte (is_byte 10) bytes (Some end) = subst (IsFirstByte (is_byte 10) bytes) found first in
    let rest : take (length bytes - (end + 1)) (drop (end + 1) bytes) ≡ drop (suc end) bytes =
    take_rest bytes (end + 1) ∙ ap (λ n. drop n bytes) (add-one end) in
    rw rest (lines_at bytes end at.0.high (eqb-true _ 10 at.1) (λ j few is. at.0.before j (omega arith) few (eq-eqb _ 10 is)))

-- ---- the texts of lines

pub blank_passed : (number : ℕ) (rest line : Bytes) (behind : List Bytes) → lines rest ≡ line ∷ behind → length (without_blanks line) ≡ 0
    → lines_from number (lines rest) ≡ lines_from (number + 1) behind
unfolding lines_from
blank_passed number rest line behind e none = let small : nat_lt 0 (length (without_blanks line)) ≡ false = le-ltb 0 _ (omega (arith, none)) in rw (e, small) refl

pub text_first : (number : ℕ) (rest line : Bytes) (behind : List Bytes) → lines rest ≡ line ∷ behind → 0 < length (without_blanks line)
    → lines_from number (lines rest) ≡ record { number = number; text = without_blanks line } ∷ lines_from (number + 1) behind
unfolding lines_from
text_first number rest line behind e some = let big : nat_lt 0 (length (without_blanks line)) ≡ true = lt-ltb 0 _ some in rw (e, big) refl

-- ---- the lines that are left

pub left_is : (left : LinesLeft) (bytes : Bytes) → rest_of left ≡ Some bytes → texts_left left ≡ lines_from left.number (lines bytes)
left_is left bytes e = ap (λ (o : Option Bytes). lines_from left.number (lines_in o)) e

pub none_left : (left : LinesLeft) → rest_of left ≡ None → texts_left left ≡ []
unfolding lines_from
none_left left e = ap (λ (o : Option Bytes). lines_from left.number (lines_in o)) e

pub text_before : (number : ℕ) (rest line text : Bytes) (behind : List Bytes) → lines rest ≡ line ∷ behind → text ≡ without_blanks line → 0 < length text
    → lines_from number (lines rest) ≡ record { number = number; text = text } ∷ lines_from (number + 1) behind
text_before number rest line text behind e is some =
    text_first number rest line behind e (subst (λ (t : Bytes). 0 < length t) is some)
    ∙ ap (λ (t : Bytes). record { number = number; text = t } ∷ lines_from (number + 1) behind) (sym is)

pub none_before : (number : ℕ) (rest line text : Bytes) (behind : List Bytes) → lines rest ≡ line ∷ behind → text ≡ without_blanks line → length text ≡ 0
    → lines_from number (lines rest) ≡ lines_from (number + 1) behind
none_before number rest line text behind e is none = blank_passed number rest line behind e (subst (λ (t : Bytes). length t ≡ 0) is none)

pub room_left : {X : Type 0} (now : X → Bytes) (left : LinesLeft) (bytes : Bytes) (behind : Option X) → HasRoom left → rest_of left ≡ Some bytes
    → IfSome behind (λ x. length (now x) < length bytes) → left.number + 1 + most_lines (option_map now behind) ≤ 2 ^ 32
room_left {X} now left bytes behind room e shorter =
    go behind (subst (λ (o : Option Bytes). left.number + most_lines o ≤ 2 ^ 32) e room) shorter
  where
    go : (behind : Option X) → left.number + suc (length bytes) ≤ 2 ^ 32 → IfSome behind (λ x. length (now x) < length bytes) → left.number + 1 + most_lines (option_map now behind) ≤ 2 ^ 32
    go None room shorter = omega (arith, room)
    go (Some x) room shorter = omega (arith, room, shorter)
