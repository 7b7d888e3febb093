-- Where a line ends.
use Rattle.memchr.specs.Find.{IsFirstByte, is_byte}
use Rattle.std.proofs.Common.{◌+◌, ◌-◌, add-one, append-nil, length-append, eq-eqb, Option, None, Some, ◌≡◌, ◌≢◌, ℕ, zero, suc, ◌==◌, ◌<◌, ◌≤◌, Bool, true, false, [], ◌∷◌, ◌++◌, length, take, drop, refl, sym, ap, subst, ◌∙◌, append_assoc, arith}
use Rattle.std.proofs.Math.Seq.{take-length}
use Rattle.std.proofs.lemmas.Bool.{eqb-true}
use Rattle.std.proofs.lemmas.List.{take_rest}
use Rattle.std.specs.Prelude.{slice_index, codes, if◌then◌else◌}
use Rattle.def_script.specs.Bytes.{Bytes}
use Rattle.def_lines.specs.Lines.{Cut, byte_before, cut, LF}
use Rattle.def_lines.specs.Laws.{lines_before}
use Rattle.def_lines.specs.Answer.{escaped}
use Rattle.def_lines.proofs.Cuts.{before_is}
use Rattle.ms_lines.specs.Scaffolding.Feeds.{HasNoFeed, IsFirstLine}

-- ---- the first line feed

front_is_free : (bytes : Bytes) (k : ℕ) → k ≤ length bytes → ((j : ℕ) → j < k → slice_index bytes j ≢ LF) → HasNoFeed (take k bytes)
front_is_free bytes zero few none = tt
front_is_free [] (suc k) few none = tt
front_is_free (x ∷ bytes) (suc k) few none =
    (none 0 (omega arith), front_is_free bytes k (omega (arith, few)) (λ j more. none (suc j) (omega (arith, more))))

split_there : (bytes : Bytes) (k : ℕ) → k < length bytes → slice_index bytes k ≡ LF → bytes ≡ take k bytes ++ LF ∷ drop (suc k) bytes
split_there [] k few is = absurd (omega (arith, few))
split_there (x ∷ bytes) zero few is = ap (λ y. y ∷ bytes) is
split_there (x ∷ bytes) (suc k) few is = ap (λ l. x ∷ l) (split_there bytes k (omega (arith, few)) is)

pub no_feed : (bytes : Bytes) (r : Option ℕ) → r ≡ None → IsFirstByte (is_byte 10) bytes r → HasNoFeed bytes
no_feed bytes r none first =
    let nowhere : IsFirstByte (is_byte 10) bytes None = subst (IsFirstByte (is_byte 10) bytes) none first in
    subst HasNoFeed (take-length bytes)
    (front_is_free bytes (length bytes) (omega arith) (λ j few is. nowhere j (omega arith) few (eq-eqb _ 10 is)))

pub first_feed : (bytes : Bytes) (end : ℕ) (r : Option ℕ) → r ≡ Some end → IsFirstByte (is_byte 10) bytes r
    → IsFirstLine bytes (take end bytes) (drop (suc end) bytes)
first_feed bytes end r found first =
    let at : IsFirstByte (is_byte 10) bytes (Some end) = subst (IsFirstByte (is_byte 10) bytes) found first in
    let high = at.0.high in
    record {
      whole = split_there bytes end high (eqb-true _ 10 at.1);
      free = front_is_free bytes end (omega (arith, high)) (λ j few is. at.0.before j (omega arith) few (eq-eqb _ 10 is));
    }

-- with what comes behind as a range
pub first_line_found : (bytes : Bytes) (end : ℕ) (r : Option ℕ) → r ≡ Some end → IsFirstByte (is_byte 10) bytes r
    → IsFirstLine bytes (take end bytes) (take (length bytes - (end + 1)) (drop (end + 1) bytes))
first_line_found bytes end r found first =
    let rest : take (length bytes - (end + 1)) (drop (end + 1) bytes) ≡ drop (suc end) bytes =
    take_rest bytes (end + 1) ∙ ap (λ n. drop n bytes) (add-one end) in
    subst (λ (rest : Bytes). IsFirstLine bytes (take end bytes) rest) (sym rest) (first_feed bytes end r found first)

-- ---- what is free of them

not_feed : (b : Bool) (byte : ℕ) → byte ≢ LF → (byte == LF) ≡ b → b ≡ false
not_feed true byte other e = absurd (other (eqb-true byte 10 e))
not_feed false byte other e = refl

other_byte : (byte : ℕ) → byte ≢ LF → (byte == LF) ≡ false
other_byte byte other = not_feed (byte == LF) byte other refl

pub free_cut : (bytes : Bytes) → HasNoFeed bytes → cut bytes ≡ record { ended = []; rest = bytes }
unfolding cut
free_cut [] free = refl
free_cut (byte ∷ bytes) free =
    before_is false byte (cut bytes) (other_byte byte free.0)
    ∙ ap (λ (c : Cut). byte_before byte c.ended c.rest) (free_cut bytes free.1)

-- a line, a line feed, and what comes behind
pub line_cut : (line rest : Bytes) → HasNoFeed line → cut (line ++ LF ∷ rest) ≡ lines_before (line ∷ []) (cut rest)
unfolding cut
line_cut [] rest free = refl
line_cut (byte ∷ line) rest free =
    before_is false byte (cut (line ++ LF ∷ rest)) (other_byte byte free.0)
    ∙ ap (λ (c : Cut). byte_before byte c.ended c.rest) (line_cut line rest free.1)

pub free_escaped : (line rest : Bytes) → HasNoFeed line → escaped (line ++ rest) ≡ line ++ escaped rest
unfolding escaped
free_escaped [] rest free = refl
free_escaped (byte ∷ line) rest free =
    ap (λ b. (if b then codes "\\n" else byte ∷ []) ++ escaped (line ++ rest)) (other_byte byte free.0)
    ∙ ap (λ r. byte ∷ r) (free_escaped line rest free.1)

-- what comes behind the first line is shorter
pub behind_shorter : (bytes line rest : Bytes) → IsFirstLine bytes line rest → length rest < length bytes
behind_shorter bytes line rest first =
    let e : length bytes ≡ length line + suc (length rest) = ap length first.whole ∙ length-append line (LF ∷ rest) in omega (arith, e)

-- a report whose first line feed is written as JSON has it
pub line_escaped : (report line rest : Bytes) → IsFirstLine report line rest → escaped report ≡ (line ++ codes "\\n") ++ escaped rest
unfolding escaped
line_escaped report line rest first =
    ap escaped first.whole ∙ free_escaped line (LF ∷ rest) first.free
    ∙ sym (append_assoc line (codes "\\n") (escaped rest))

-- one without a line feed
pub rest_escaped : (report : Bytes) → HasNoFeed report → escaped report ≡ report
unfolding escaped
rest_escaped report free = ap escaped (sym (append-nil report)) ∙ free_escaped report [] free ∙ append-nil report

-- none is left
pub none_left : (rest : Bytes) (b : Bool) → b ≡ (length rest == 0) → b ≡ true → escaped rest ≡ []
unfolding escaped
none_left [] b is so = refl
none_left (byte ∷ rest) b is so = absurd (let none : length (byte ∷ rest) ≡ 0 = eqb-true _ 0 (sym is ∙ so) in omega (arith, none))
