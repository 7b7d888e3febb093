-- How the lines of bytes go on.
use Rattle.std.proofs.Common.{ℕ, ◌≡◌, ◌==◌, Bool, true, false, List, [], ◌∷◌, ◌++◌, append_assoc, append-nil, refl, sym, ◌∙◌, ap}
use Rattle.std.specs.Prelude.{if◌then◌else◌}
use Rattle.def_script.specs.Bytes.{Bytes}
use Rattle.def_lines.specs.Lines.{Cut, byte_before, cut_before, cut, last_line, lines, LF}
use Rattle.def_lines.specs.Laws.{lines_before}

-- one byte more, by whether it is a line feed
abbrev pub cut_when : Bool → ℕ → Cut → Cut
cut_when b byte c = if b then record { ended = [] ∷ c.ended; rest = c.rest } else byte_before byte c.ended c.rest

pub before_is : (b : Bool) (byte : ℕ) (c : Cut) → (byte == LF) ≡ b → cut_before byte c ≡ cut_when b byte c
before_is b byte c e = ap (λ b. cut_when b byte c) e

-- ---- bit by bit

step : (b : Bool) (byte : ℕ) (ended : List Bytes) (rest two : Bytes) → (byte == LF) ≡ b
    → cut_when b byte (lines_before ended (cut (rest ++ two)))
    ≡ lines_before (cut_when b byte (record { ended = ended; rest = rest })).ended
    (cut ((cut_when b byte (record { ended = ended; rest = rest })).rest ++ two))
unfolding cut
step true byte ended rest two e = refl
step false byte [] rest two e = sym (before_is false byte (cut (rest ++ two)) e)
step false byte (line ∷ ended) rest two e = refl

pub cuts_on : (one two : Bytes) → cut (one ++ two) ≡ lines_before (cut one).ended (cut ((cut one).rest ++ two))
unfolding cut
cuts_on [] two = refl
cuts_on (byte ∷ one) two =
    ap (λ c. cut_before byte c) (cuts_on one two) ∙ step (byte == LF) byte (cut one).ended (cut one).rest two refl

-- ---- at a line feed

abbrev EndsAt : Cut → Type 0
EndsAt c = (line : Bytes) × (ended : List Bytes) × (c ≡ record { ended = line ∷ ended; rest = [] })

ends_on : (b : Bool) (byte : ℕ) (c : Cut) → EndsAt c → EndsAt (cut_when b byte c)
ends_on true byte c (line, ended, e) = ([], line ∷ ended, ap (λ c. cut_when true byte c) e)
ends_on false byte c (line, ended, e) = (byte ∷ line, ended, ap (λ c. cut_when false byte c) e)

pub ends_at_feed : (one : Bytes) → EndsAt (cut (one ++ LF ∷ []))
unfolding cut
ends_at_feed [] = ([], [], refl)
ends_at_feed (byte ∷ one) = ends_on (byte == LF) byte (cut (one ++ LF ∷ [])) (ends_at_feed one)

pub nothing_left : (one : Bytes) → (cut (one ++ LF ∷ [])).rest ≡ []
nothing_left one = ap (λ c. c.rest) (ends_at_feed one).2

-- the lines of two parts, of which one ends with a line feed
pub cut_at_feed : (one two : Bytes) → cut (one ++ LF ∷ two) ≡ lines_before (cut (one ++ LF ∷ [])).ended (cut two)
cut_at_feed one two =
    ap cut (sym (append_assoc one (LF ∷ []) two)) ∙ cuts_on (one ++ LF ∷ []) two
    ∙ ap (λ rest. lines_before (cut (one ++ LF ∷ [])).ended (cut (rest ++ two))) (nothing_left one)

abbrev all_lines : Cut → List Bytes
all_lines c = c.ended ++ last_line c.rest

pub lines_alone : (one two : Bytes) → lines (one ++ LF ∷ two) ≡ lines (one ++ LF ∷ []) ++ lines two
lines_alone one two =
    ap all_lines (cut_at_feed one two)
    ∙ append_assoc (cut (one ++ LF ∷ [])).ended (cut two).ended (last_line (cut two).rest)
    ∙ ap (λ ls. ls ++ lines two)
    (sym (ap (λ rest. (cut (one ++ LF ∷ [])).ended ++ last_line rest) (nothing_left one) ∙ append-nil (cut (one ++ LF ∷ [])).ended))
