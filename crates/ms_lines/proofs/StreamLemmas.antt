-- How the loop goes on from one piece to the next.
use Rattle.std.proofs.Common.{Option, None, Some, Result, Ok, Err, ◌≡◌, inl, inr, ℕ, ◌+◌, ◌<◌, ◌≤◌, [], ◌++◌, length, refl, sym, ap, subst, ◌∙◌, append-nil, length-append, arith}
use Rattle.std.specs.Io.KnownBytes.{Appends, Consumes, IsAtEnd, Keeps}
use Rattle.std.proofs.KnownBytes.{Appends-nil, Appends-trans, Consumes-nil, Consumes-trans, Consumes-kept}
use Rattle.def_script.specs.Bytes.{Bytes}
use Rattle.def_lines.specs.Lines.{Cut, cut, last_line}
use Rattle.def_lines.specs.Laws.{lines_before}
use Rattle.def_lines.specs.Answers.{AnswersOf, AnswersEach}
use Rattle.def_lines.proofs.Cuts.{cuts_on}
use Rattle.def_lines.proofs.Each.{each_after}
use Rattle.ms_io.specs.Sides.{Rose, LAST_COUNT}
use Rattle.ms_io.specs.Moves.{AppendsPrefix}
use Rattle.ms_io.specs.Sides.{Side}
use Rattle.ms_io.specs.Reads.{AreTold}
use Rattle.ms_lines.specs.Turns.{Beginning, kept, Begins, Turns, Finishes}
use Rattle.ms_lines.specs.Streams.{AnswersAll, StopsReading, StopsWriting}
use Rattle.ms_lines.specs.Scaffolding.Steps.{ReadsSoFar}
use Rattle.ms_lines.proofs.ThroughLemmas.{joined, prefix_more, prefix_behind, rose_later}
use Rattle.ms_lines.proofs.TurnLemmas.{any_answers}

-- nothing was read yet
pub reads_nothing : (IsAnswer : AnswersOf) (source sink : Option Bytes) (n m : ℕ)
    → ReadsSoFar IsAnswer 0 (kept []) (record { old = source; new = source; before = n; now = n }) (record { old = sink; new = sink; before = m; now = m })
unfolding cut AnswersEach
reads_nothing IsAnswer source sink n m = record {
  front = [];
  read = Consumes-nil source;
  long = omega arith;
  begins = ((refl, omega arith), refl);
  answers = [];
  are = refl;
  written = Appends-nil sink;
  source_later = omega arith;
  sink_later = omega arith;
}

-- the lines of what was read with one more piece
cut_on : (front piece : Bytes) → cut (front ++ piece) ≡ lines_before (cut front).ended (cut ((cut front).rest ++ piece))
cut_on = cuts_on

-- with one more piece
pub reads_on : {E : Type 0} (IsAnswer : AnswersOf) (count next : ℕ) (start new : Beginning) (source sink given put : Side) (piece : Bytes)
    → source.new ≡ given.old → source.now ≡ given.before → sink.new ≡ put.old → sink.now ≡ put.before → next ≡ count + 1
    → ReadsSoFar IsAnswer count start source sink → Consumes given.old given.new piece → given.before ≤ given.now → 0 < length piece
    → Turns {E = E} IsAnswer start new piece put (Ok tt) → ReadsSoFar IsAnswer next new (joined source given) (joined sink put)
reads_on IsAnswer count next start new source sink given put piece source_joins source_counted sink_joins sink_counted up so read later some turns =
    let turn = turns (cut so.front).rest so.begins in
    let on = cut_on so.front piece in
    record {
      front = so.front ++ piece;
      read = Consumes-trans source.old source.new given.new so.front piece so.read (subst (λ (told : Option Bytes). Consumes told given.new piece) (sym source_joins) read);
      long = omega (arith, so.long, some, length-append so.front piece, up);
      begins = subst (λ (c : Cut). Begins new c.rest) (sym on) turn.1;
      answers = so.answers ++ turn.0.0;
      are =
          subst (λ (c : Cut). AnswersEach IsAnswer c.ended (so.answers ++ turn.0.0)) (sym on)
          (each_after IsAnswer (cut so.front).ended (cut ((cut so.front).rest ++ piece)).ended so.answers turn.0.0 so.are turn.0.1);
      written = Appends-trans sink.old sink.new put.new so.answers turn.0.0 so.written (subst (λ (told : Option Bytes). Appends told put.new turn.0.0) (sym sink_joins) turn.0.2);
      source_later = let a = so.source_later in omega (arith, a, later, source_counted);
      sink_later = let a = so.sink_later in let b = turn.0.3.later in omega (arith, a, b, sink_counted);
    }

-- the sink failed in a turn
pub turn_stops : {E : Type 0} (IsAnswer : AnswersOf) (count : ℕ) (start new : Beginning) (source sink given put : Side) (piece : Bytes) (r : Result Unit E) (x : E) → r ≡ Err x
    → source.new ≡ given.old → source.now ≡ given.before → sink.new ≡ put.old → sink.now ≡ put.before
    → ReadsSoFar IsAnswer count start source sink → Consumes given.old given.new piece
    → Turns IsAnswer start new piece put r → StopsWriting IsAnswer (joined source given) (joined sink put)
turn_stops {E} IsAnswer count start new source sink given put piece r x failed source_joins source_counted sink_joins sink_counted so read turns =
    let turn = subst (λ (r : Result Unit E). Turns IsAnswer start new piece put r) failed turns (cut so.front).rest so.begins in
    let on = cut_on so.front piece in
    let last = any_answers IsAnswer (last_line (cut (so.front ++ piece)).rest) in
    let front = so.answers ++ turn.0.0 in
    record {
      front = so.front ++ piece;
      read = Consumes-trans source.old source.new given.new so.front piece so.read (subst (λ (told : Option Bytes). Consumes told given.new piece) (sym source_joins) read);
      cause = rose_later sink.before put.before put.now (let a = so.sink_later in omega (arith, a, sink_counted)) turn.0.3.failed;
      answers = front ++ last.0;
      are =
          each_after IsAnswer (cut (so.front ++ piece)).ended (last_line (cut (so.front ++ piece)).rest) front last.0
          (subst (λ (c : Cut). AnswersEach IsAnswer c.ended front) (sym on)
          (each_after IsAnswer (cut so.front).ended (cut ((cut so.front).rest ++ piece)).ended so.answers turn.0.0 so.are turn.0.1))
          last.1;
      written =
          prefix_more sink.old put.new front last.0 (front ++ last.0) refl
          (prefix_behind sink.old sink.new put.new so.answers turn.0.0 front refl so.written
          (subst (λ (told : Option Bytes). AppendsPrefix told put.new turn.0.0) (sym sink_joins) turn.0.2));
    }

-- the source failed
pub read_stops : (IsAnswer : AnswersOf) (count : ℕ) (start : Beginning) (source sink given : Side)
    → source.new ≡ given.old → source.now ≡ given.before → ReadsSoFar IsAnswer count start source sink → Keeps given.old given.new → Rose given.before given.now
    → StopsReading IsAnswer (joined source given) sink
read_stops IsAnswer count start source sink given joins counted so stayed rose = record {
  front = so.front;
  read = Consumes-kept source.old source.new given.new so.front so.read (subst (λ (told : Option Bytes). Keeps told given.new) (sym joins) stayed);
  cause = inl (rose_later source.before given.before given.now (let a = so.source_later in omega (arith, a, counted)) rose);
  answers = so.answers;
  are = so.are;
  written = so.written;
}

-- it gave too many pieces
pub pieces_stop : (IsAnswer : AnswersOf) (count : ℕ) (start : Beginning) (source sink : Side) → LAST_COUNT ≤ count → ReadsSoFar IsAnswer count start source sink
    → StopsReading IsAnswer source sink
pieces_stop IsAnswer count start source sink many so = record {
  front = so.front;
  read = so.read;
  cause = inr (let l = so.long in omega (arith, many, l));
  answers = so.answers;
  are = so.are;
  written = so.written;
}

all_told : (old new : Option Bytes) (front : Bytes) → Consumes old new front → IsAtEnd new → AreTold old front
all_told None new front given end = tt
all_told (Some told) None front given end = absurd given
all_told (Some told) (Some rest) front given end = given ∙ ap (λ r. front ++ r) end ∙ append-nil front

-- a read that gave nothing
consumed : (old mid new : Option Bytes) (front none : Bytes) → none ≡ [] → Consumes old mid front → Consumes mid new none → Consumes old new front
consumed old mid new front none e before last =
    subst (λ (b : Bytes). Consumes old new b) (ap (λ b. front ++ b) e ∙ append-nil front) (Consumes-trans old mid new front none before last)

-- the source was at its end
pub lines_done : {E : Type 0} (IsAnswer : AnswersOf) (count : ℕ) (start : Beginning) (source sink given put : Side) (none : Bytes) (r : Result Unit E) → r ≡ Ok tt
    → source.new ≡ given.old → sink.new ≡ put.old → ReadsSoFar IsAnswer count start source sink
    → none ≡ [] → Consumes given.old given.new none → IsAtEnd given.new → Finishes IsAnswer start put r
    → AnswersAll IsAnswer (joined source given) (joined sink put)
lines_done {E} IsAnswer count start source sink given put none r done source_joins sink_joins so no_more read end finishes =
    let last = subst (λ (r : Result Unit E). Finishes IsAnswer start put r) done finishes (cut so.front).rest so.begins in
    record {
      bytes = so.front;
      told =
          all_told source.old given.new so.front
          (consumed source.old source.new given.new so.front none no_more so.read (subst (λ (told : Option Bytes). Consumes told given.new none) (sym source_joins) read)) end;
      end = end;
      answers = so.answers ++ last.0;
      are = each_after IsAnswer (cut so.front).ended (last_line (cut so.front).rest) so.answers last.0 so.are last.1;
      written = Appends-trans sink.old sink.new put.new so.answers last.0 so.written (subst (λ (told : Option Bytes). Appends told put.new last.0) (sym sink_joins) last.2);
    }

-- the sink failed at the last line
pub finish_stops : {E : Type 0} (IsAnswer : AnswersOf) (count : ℕ) (start : Beginning) (source sink given put : Side) (none : Bytes) (r : Result Unit E) (x : E) → r ≡ Err x
    → source.new ≡ given.old → sink.new ≡ put.old → sink.now ≡ put.before → ReadsSoFar IsAnswer count start source sink
    → none ≡ [] → Consumes given.old given.new none → Finishes IsAnswer start put r
    → StopsWriting IsAnswer (joined source given) (joined sink put)
finish_stops {E} IsAnswer count start source sink given put none r x failed source_joins sink_joins sink_counted so no_more read finishes =
    let last = subst (λ (r : Result Unit E). Finishes IsAnswer start put r) failed finishes (cut so.front).rest so.begins in
    record {
      front = so.front;
      read = consumed source.old source.new given.new so.front none no_more so.read (subst (λ (told : Option Bytes). Consumes told given.new none) (sym source_joins) read);
      cause = rose_later sink.before put.before put.now (let a = so.sink_later in omega (arith, a, sink_counted)) last.3.failed;
      answers = so.answers ++ last.0;
      are = each_after IsAnswer (cut so.front).ended (last_line (cut so.front).rest) so.answers last.0 so.are last.1;
      written =
          prefix_behind sink.old sink.new put.new so.answers last.0 (so.answers ++ last.0) refl so.written
          (subst (λ (told : Option Bytes). AppendsPrefix told put.new last.0) (sym sink_joins) last.2);
    }
