-- How a turn goes on from one line to the next.
use Rattle.std.proofs.Common.{eq-eqb, Option, None, Result, Ok, Err, ◌≡◌, ◌≢◌, inl, inr, ℕ, ◌+◌, ◌==◌, ◌<◌, ◌≤◌, Bool, true, false, List, [], ◌∷◌, ◌++◌, length, refl, sym, ap, subst, ◌∙◌, append_assoc, append-nil, length-append, arith}
use Rattle.std.specs.Prelude.{OnOk}
use Rattle.std.specs.Io.KnownBytes.{Appends}
use Rattle.std.proofs.KnownBytes.{Appends-nil}
use Rattle.def_script.specs.Bytes.{Bytes}
use Rattle.def_lines.specs.Lines.{Cut, byte_before, cut, last_line, LF}
use Rattle.def_lines.specs.Laws.{lines_before}
use Rattle.def_lines.specs.Question.{MOST_LINE}
use Rattle.def_lines.specs.Answer.{answer_line, NO_MEMORY}
use Rattle.def_lines.specs.Answers.{AnswersOf, AnswersLine, AnswersEach}
use Rattle.def_lines.proofs.Cuts.{cut_when}
use Rattle.def_lines.proofs.Each.{each_after, one_answer}
use Rattle.ms_io.specs.Moves.{AppendsPrefix}
use Rattle.ms_io.specs.Sides.{Side}
use Rattle.ms_lines.specs.Through.{PassesOrFails}
use Rattle.ms_lines.specs.Puts.{Puts, WritesSuch}
use Rattle.ms_lines.specs.Turns.{Beginning, kept, too_long, lost, IsOf, Begins, Turns, Finishes}
use Rattle.ms_lines.specs.Scaffolding.Feeds.{HasNoFeed, IsFirstLine}
use Rattle.ms_lines.specs.Scaffolding.Steps.{GoesOn, EndsLine, PutsTurn, TurnsSoFar}
use Rattle.ms_lines.proofs.FeedLemmas.{free_cut, line_cut}
use Rattle.ms_lines.proofs.ThroughLemmas.{joined, held_more, through_then, through_short}

-- ---- bytes without a line feed

free_both : (one two : Bytes) → HasNoFeed one → HasNoFeed two → HasNoFeed (one ++ two)
free_both [] two a b = b
free_both (byte ∷ one) two a b = (a.0, free_both one two a.1 b)

no_line_before : (byte : ℕ) (ended : List Bytes) (rest : Bytes) → (byte_before byte ended rest).ended ≡ [] → ended ≡ []
no_line_before byte [] rest none = refl
no_line_before byte (line ∷ ended) rest none = absurd (cc none)

no_feed_here : (byte : ℕ) → (byte == LF) ≡ false → byte ≢ LF
no_feed_here byte e is = let t : (byte == LF) ≡ true = eq-eqb byte LF is in absurd (cc (e, t))

front_free : (b : Bool) (byte : ℕ) (c : Cut) → (byte == LF) ≡ b → (cut_when b byte c).ended ≡ [] → (byte ≢ LF) × (c.ended ≡ [])
front_free true byte c e none = absurd (cc none)
front_free false byte c e none = (no_feed_here byte e, no_line_before byte c.ended c.rest none)

-- no line ends in these
pub cut_free : (bytes : Bytes) → (cut bytes).ended ≡ [] → HasNoFeed bytes
unfolding cut
cut_free [] none = tt
cut_free (byte ∷ bytes) none =
    let front = front_free (byte == LF) byte (cut bytes) refl none in
    (front.0, cut_free bytes front.1)

begins_free : (start : Beginning) (bytes : Bytes) → Begins start bytes → HasNoFeed bytes
begins_free start bytes begins = cut_free bytes (ap (λ (c : Cut). c.ended) begins.1)

-- ---- a line's beginning

pub goes_on_by_none : (start : Beginning) (bytes : Bytes) → bytes ≡ [] → GoesOn start start bytes
goes_on_by_none start bytes none begun is =
    subst (λ (b : Bytes). IsOf start b) (sym (ap (λ b. begun ++ b) none ∙ append-nil begun)) is

pub goes_on_too_long : (bytes : Bytes) → GoesOn too_long too_long bytes
goes_on_too_long bytes begun is = omega (arith, is, length-append begun bytes)

pub goes_on_lost : (bytes : Bytes) → GoesOn lost lost bytes
goes_on_lost bytes begun is = omega (arith, is, length-append begun bytes)

pub goes_too_long : (held bytes : Bytes) → length held ≤ MOST_LINE → MOST_LINE < length held + length bytes → GoesOn (kept held) too_long bytes
goes_too_long held bytes short over begun is = omega (arith, over, ap length is.0, length-append begun bytes)

pub goes_lost : (held bytes : Bytes) → 0 < length bytes → GoesOn (kept held) lost bytes
goes_lost held bytes some begun is = omega (arith, some, length-append begun bytes)

pub goes_kept : (held new bytes : Bytes) → new ≡ held ++ bytes → length held + length bytes ≤ MOST_LINE → GoesOn (kept held) (kept new) bytes
goes_kept held new bytes e few begun is = (
  e ∙ ap (λ h. h ++ bytes) is.0,
  omega (arith, few, ap length is.0, length-append begun bytes),
)

-- ---- answers that are there for every line

-- a line of which memory was wanting
pub lacks : (IsAnswer : AnswersOf) (line : Bytes) → AnswersLine IsAnswer line (answer_line None NO_MEMORY [])
lacks IsAnswer line = inr (None, inl refl, refl)

pub any_answers : (IsAnswer : AnswersOf) (lines : List Bytes) → (answers : Bytes) × AnswersEach IsAnswer lines answers
unfolding AnswersEach
any_answers IsAnswer [] = ([], refl)
any_answers IsAnswer (line ∷ lines) =
    let more = any_answers IsAnswer lines in
    (answer_line None NO_MEMORY [] ++ more.0, (answer_line None NO_MEMORY [], more.0, lacks IsAnswer line, more.1, refl))

-- ---- from line to line

-- nothing of the piece was looked at yet
pub starts_so_far : (IsAnswer : AnswersOf) (begun piece : Bytes) (start : Beginning) (told : Option Bytes) (count : ℕ) (held : Bytes) → Begins start begun
    → TurnsSoFar IsAnswer begun piece start piece (record { old = told; new = told; before = count; now = count }) held held
unfolding AnswersEach
starts_so_far IsAnswer begun piece start told count held begins = record {
  ended = [];
  line = begun;
  begins = begins;
  whole = refl;
  answers = [];
  are = refl;
  passed = held_more told held held [] (sym (append-nil held));
  later = omega arith;
}

-- the lines that are cut off once another one ended
cut_there : (IsAnswer : AnswersOf) (begun piece left line after : Bytes) (now : Beginning) (sink : Side) (held rest : Bytes)
    → (so : TurnsSoFar IsAnswer begun piece now left sink held rest) → IsFirstLine left line after
    → cut (begun ++ piece) ≡ lines_before (so.ended ++ (so.line ++ line) ∷ []) (cut after)
cut_there IsAnswer begun piece left line after now sink held rest so first =
    so.whole
    ∙ ap (λ l. lines_before so.ended (cut l)) (ap (λ l. so.line ++ l) first.whole ∙ sym (append_assoc so.line line (LF ∷ after)))
    ∙ ap (λ (c : Cut). lines_before so.ended c)
    (line_cut (so.line ++ line) after (free_both so.line line (begins_free now so.line so.begins) first.free))
    ∙ ap (λ ls. record { ended = ls; rest = (cut after).rest }) (sym (append_assoc so.ended ((so.line ++ line) ∷ []) (cut after).ended))

-- another line ended, and its answer was put
pub line_so_far : {E : Type 0} (IsAnswer : AnswersOf) (begun piece left line after : Bytes) (now new : Beginning) (first second : Side) (held mid rest : Bytes)
    → first.new ≡ second.old → first.now ≡ second.before → TurnsSoFar IsAnswer begun piece now left first held mid
    → IsFirstLine left line after → new ≡ kept [] → EndsLine {E = E} IsAnswer now line second mid rest (Ok tt)
    → TurnsSoFar IsAnswer begun piece new after (joined first second) held rest
unfolding cut
line_so_far {E} IsAnswer begun piece left line after now new first second held mid rest joins counted so part again ends =
    let put = ends so.line so.begins.0 in
    let both = through_then {E = E} {F = E} first second held mid rest so.answers put.0 (so.answers ++ put.0) (Ok tt) joins counted refl
    (so.passed, record { later = so.later; failed = tt }) put.2 in
    record {
      ended = so.ended ++ (so.line ++ line) ∷ [];
      line = [];
      begins = subst (λ (b : Beginning). Begins b []) (sym again) ((refl, omega arith), refl);
      whole = cut_there IsAnswer begun piece left line after now first held mid so part;
      answers = so.answers ++ put.0;
      are = each_after IsAnswer so.ended ((so.line ++ line) ∷ []) so.answers put.0 so.are (one_answer IsAnswer (so.line ++ line) put.0 put.1);
      passed = both.0;
      later = both.1.later;
    }

-- the sink failed at a line's answer
pub line_fails : {E F : Type 0} (IsAnswer : AnswersOf) (begun piece left line after : Bytes) (now : Beginning) (first second : Side) (held mid end rest : Bytes)
    (x : E) (y : F) → first.new ≡ second.old → first.now ≡ second.before → TurnsSoFar IsAnswer begun piece now left first held mid
    → IsFirstLine left line after → EndsLine IsAnswer now line second mid end (Err x)
    → Puts (AnswersEach IsAnswer (cut (begun ++ piece)).ended)
    (joined first second) held rest (Err y)
line_fails {E} {F} IsAnswer begun piece left line after now first second held mid end rest x y joins counted so part ends =
    let put = ends so.line so.begins.0 in
    let more = any_answers IsAnswer (cut after).ended in
    let front = so.answers ++ put.0 in
    let both = joined first second in
    let fails : PassesOrFails {E = E} both held end front (Err x) =
    through_then {E = E} {F = E} first second held mid end so.answers put.0 front (Err x) joins counted refl
    (so.passed, record { later = so.later; failed = tt }) put.2 in (
      front ++ more.0,
      subst (λ (ls : List Bytes). AnswersEach IsAnswer ls (front ++ more.0))
          (sym (ap (λ (c : Cut). c.ended) (cut_there IsAnswer begun piece left line after now first held mid so part)))
          (each_after IsAnswer (so.ended ++ (so.line ++ line) ∷ []) (cut after).ended front more.0
          (each_after IsAnswer so.ended ((so.line ++ line) ∷ []) so.answers put.0 so.are (one_answer IsAnswer (so.line ++ line) put.0 put.1)) more.1),
      through_short both held end rest front more.0 (front ++ more.0) x y refl fails,
    )

-- no more line ends in the piece
pub turn_done : {E : Type 0} (IsAnswer : AnswersOf) (begun piece left : Bytes) (now new : Beginning) (sink : Side) (held rest : Bytes)
    → TurnsSoFar IsAnswer begun piece now left sink held rest → HasNoFeed left → GoesOn now new left
    → Puts {E = E} (AnswersEach IsAnswer (cut (begun ++ piece)).ended) sink held rest (Ok tt) × Begins new (cut (begun ++ piece)).rest
turn_done {E} IsAnswer begun piece left now new sink held rest so free on =
    let free_cut_now = free_cut (so.line ++ left) (free_both so.line left (begins_free now so.line so.begins) free) in
    let all : cut (begun ++ piece) ≡ record { ended = so.ended; rest = so.line ++ left } =
    so.whole ∙ ap (λ (c : Cut). lines_before so.ended c) free_cut_now
    ∙ ap (λ ls. record { ended = ls; rest = so.line ++ left }) (append-nil so.ended) in (
      (
        so.answers,
        subst (λ (c : Cut). AnswersEach IsAnswer c.ended so.answers) (sym all) so.are,
        (so.passed, record { later = so.later; failed = tt }),
      ),
      subst (λ (c : Cut). Begins new c.rest) (sym all) (on so.line so.begins.0, free_cut_now),
    )

-- ---- what was put is written

on_ok : {E : Type 0} (r : Result Unit E) (P : Type 0) → P → OnOk r P
on_ok (Ok x) P p = p
on_ok (Err x) P p = tt

written : {E : Type 0} (IsSo : Bytes → Type 0) (sink : Side) (rest bytes : Bytes) (r : Result Unit E) → IsSo bytes → OnOk r (rest ≡ [])
    → PassesOrFails sink [] rest bytes r → WritesSuch IsSo sink r
written IsSo sink rest bytes (Ok x) is none p =
    (bytes, is, subst (λ (b : Bytes). Appends sink.old sink.new b) (sym (append-nil p.0.front) ∙ ap (λ r. p.0.front ++ r) (sym none) ∙ p.0.whole) p.0.written, p.1)
written IsSo sink rest bytes (Err x) is none p = (bytes, is, p.0, p.1)

-- what waited was written behind what had been put
put_and_flushed : {E F : Type 0} (IsSo : Bytes → Type 0) (first second : Side) (held mid rest : Bytes) (r : Result Unit F) → held ≡ []
    → first.new ≡ second.old → first.now ≡ second.before → Puts {E = E} IsSo first held mid (Ok tt) → PassesOrFails second mid rest [] r
    → OnOk r (rest ≡ []) → WritesSuch IsSo (joined first second) r
put_and_flushed {E} {F} IsSo first second held mid rest r none joins counted put flushed all =
    let both = joined first second in
    let passed : PassesOrFails both held rest put.0 r =
    through_then {E = E} {F = F} first second held mid rest put.0 [] put.0 r joins counted (sym (append-nil put.0)) put.2 flushed in
    written IsSo both rest put.0 r put.1 all (subst (λ (h : Bytes). PassesOrFails both h rest put.0 r) none passed)

put_failed : {E F : Type 0} (IsSo : Bytes → Type 0) (sink : Side) (held rest : Bytes) (x : E) (y : F) → held ≡ [] → Puts IsSo sink held rest (Err x)
    → WritesSuch IsSo sink (Err y)
put_failed IsSo sink held rest x y none put =
    (put.0, put.1, subst (λ (h : Bytes). AppendsPrefix sink.old sink.new (h ++ put.0)) none put.2.0, record { later = put.2.1.later; failed = put.2.1.failed })

-- ---- a turn

pub turn_written : {E F : Type 0} (IsAnswer : AnswersOf) (old new : Beginning) (piece : Bytes) (first second : Side) (held mid rest : Bytes) (r : Result Unit F)
    → held ≡ [] → first.new ≡ second.old → first.now ≡ second.before → PutsTurn {E = E} IsAnswer old new piece first held mid (Ok tt)
    → PassesOrFails second mid rest [] r → OnOk r (rest ≡ [])
    → Turns IsAnswer old new piece (joined first second) r
turn_written {E} IsAnswer old new piece first second held mid rest r none joins counted puts flushed all begun begins =
    let put = puts begun begins in (
      put_and_flushed {E = E} (AnswersEach IsAnswer (cut (begun ++ piece)).ended) first second held mid rest r none joins counted put.0 flushed all,
      on_ok r (Begins new (cut (begun ++ piece)).rest) put.1,
    )

pub turn_fails : {E F : Type 0} (IsAnswer : AnswersOf) (old mid new : Beginning) (piece : Bytes) (sink : Side) (held rest : Bytes) (x : E) (y : F)
    → held ≡ [] → PutsTurn IsAnswer old mid piece sink held rest (Err x) → Turns IsAnswer old new piece sink (Err y)
turn_fails IsAnswer old mid new piece sink held rest x y none puts begun begins =
    (put_failed (AnswersEach IsAnswer (cut (begun ++ piece)).ended) sink held rest x y none (puts begun begins).0, tt)

-- ---- the last line

last_line_is : (bytes : Bytes) → bytes ≢ [] → last_line bytes ≡ bytes ∷ []
last_line_is [] some = absurd (some refl)
last_line_is (byte ∷ bytes) some = refl

-- no byte of it came
pub finishes_empty : {E : Type 0} (IsAnswer : AnswersOf) (start : Beginning) (told : Option Bytes) (count : ℕ)
    → ((begun : Bytes) → IsOf start begun → begun ≡ [])
    → Finishes {E = E} IsAnswer start (record { old = told; new = told; before = count; now = count }) (Ok tt)
unfolding AnswersEach
finishes_empty IsAnswer start told count empty begun begins = (
  [],
  subst (λ (b : Bytes). AnswersEach IsAnswer (last_line b) []) (sym (empty begun begins.0)) refl,
  Appends-nil told,
  record { later = omega arith; failed = tt },
)

ended_last : {E : Type 0} (IsAnswer : AnswersOf) (start : Beginning) (sink : Side) (held rest : Bytes) (r : Result Unit E) (begun : Bytes) → begun ≢ [] → IsOf start begun
    → EndsLine IsAnswer start [] sink held rest r → Puts (AnswersEach IsAnswer (last_line begun)) sink held rest r
ended_last IsAnswer start sink held rest r begun some is ends =
    let put = ends begun is in (
      put.0,
      subst (λ (ls : List Bytes). AnswersEach IsAnswer ls put.0) (ap (λ b. b ∷ []) (append-nil begun) ∙ sym (last_line_is begun some))
          (one_answer IsAnswer (begun ++ []) put.0 put.1),
      put.2,
    )

pub finishes : {E F : Type 0} (IsAnswer : AnswersOf) (start : Beginning) (first second : Side) (held mid rest : Bytes) (r : Result Unit F)
    → held ≡ [] → first.new ≡ second.old → first.now ≡ second.before → ((begun : Bytes) → IsOf start begun → begun ≢ [])
    → EndsLine {E = E} IsAnswer start [] first held mid (Ok tt) → PassesOrFails second mid rest [] r → OnOk r (rest ≡ [])
    → Finishes IsAnswer start (joined first second) r
finishes {E} IsAnswer start first second held mid rest r none joins counted some ends flushed all begun begins =
    put_and_flushed {E = E} (AnswersEach IsAnswer (last_line begun)) first second held mid rest r none joins counted
    (ended_last {E = E} IsAnswer start first held mid (Ok tt) begun (some begun begins.0) begins.0 ends) flushed all

pub finish_fails : {E F : Type 0} (IsAnswer : AnswersOf) (start : Beginning) (sink : Side) (held rest : Bytes) (x : E) (y : F) → held ≡ []
    → ((begun : Bytes) → IsOf start begun → begun ≢ []) → EndsLine IsAnswer start [] sink held rest (Err x) → Finishes IsAnswer start sink (Err y)
finish_fails IsAnswer start sink held rest x y none some ends begun begins =
    put_failed (AnswersEach IsAnswer (last_line begun)) sink held rest x y none
    (ended_last IsAnswer start sink held rest (Err x) begun (some begun begins.0) begins.0 ends)
