-- A run, instruction after instruction, with the lines that were added.
use Rattle.std.proofs.Common.{◌≡◌, ℕ, zero, suc, ◌+◌, ◌<◌, ◌≤◌, List, [], ◌∷◌, ◌++◌, length, drop, Some, Result, Ok, Err, arith, refl, sym, ◌∙◌, ap, subst, append_assoc}
use Rattle.std.specs.Prelude.{reverse, slice_index}
use Rattle.std.proofs.lemmas.List.{append-nil, drop_all}
use Rattle.def_script.specs.declared.InstrFault.{InstrFault}
use Rattle.def_script.specs.Bytes.{Bytes}
use Rattle.def_script.specs.Item.{Item}
use Rattle.def_script.specs.Item as item
use Rattle.def_script.specs.Items.{ItemReading, first_item, items, items_after}
use Rattle.def_machine.specs.declared.ScriptFault.{ScriptFault}
use Rattle.def_machine.specs.Faults.{OrFault}
use Rattle.def_machine.specs.Machine.{Given, State, fault_of, step, carry_out}
use Rattle.def_machine.specs.Run.{Outcome, refused, leads, start, steps, ended, run as the_run}
use Rattle.def_trace.specs.Placed.{Placed, placed_by, placed_after, placed}
use Rattle.def_trace.specs.Trace.{line_of, then_lines, lines, trace as the_trace}
use Rattle.def_trace.specs.Written.{line_text, line_end, written}
use Rattle.ms_script.specs.declared.reading.InstrRef.{InstrRef}
use Rattle.ms_script.specs.Reads.{item_of, NextItem, next_item, seen, placed as placed_next}
use Rattle.ms_interp.specs.declared.report.RunReport.{RunReport}
use Rattle.ms_interp.specs.declared.report.RunStop.{RunStop}
use Rattle.ms_interp.specs.declared.report.RunStop.TheVariants.{Refused, Memory}
use Rattle.ms_interp.specs.declared.stepped.SteppedRun.{SteppedRun}
use Rattle.ms_interp.specs.Answering.{Answers}
use Rattle.ms_interp.specs.Stepping.{IsAt, open_of, StartsAs}
use Rattle.ms_trace.specs.Tracing.{Adds}
use Rattle.ms_trace.specs.Scaffolding.Brief.{unread_text}
use Rattle.ms_trace.specs.Scaffolding.Taking.{whole_line, Takes}
use Rattle.ms_trace.proofs.Lines.{unread_is}

-- ---- where the next instruction stands

at_end : (offset skipped : ℕ) → placed_after offset skipped [] ≡ placed_after (offset + skipped) 0 (drop skipped [])
unfolding placed_after
at_end offset zero = refl
at_end offset (suc skipped) = refl

tail_is : (b byte : ℕ) (bs rest : Bytes) → b ∷ bs ≡ byte ∷ rest → bs ≡ rest
tail_is b byte bs rest is = cc

skip_placed : (offset skipped : ℕ) (bytes : Bytes) → placed_after offset skipped bytes ≡ placed_after (offset + skipped) 0 (drop skipped bytes)
unfolding placed_after
skip_placed offset skipped [] = at_end offset skipped
skip_placed offset zero (byte ∷ bytes) = let same : offset + 0 ≡ offset = omega arith in rw same refl
skip_placed offset (suc skipped) (byte ∷ bytes) =
    let same : offset + 1 + skipped ≡ offset + suc skipped = omega arith in
    skip_placed (offset + 1) skipped bytes ∙ ap (λ (n : ℕ). placed_after n 0 (drop skipped bytes)) same

-- what a script has from a place on: nothing, or a byte and more
rest_behind : (script : Bytes) (from byte : ℕ) (rest : Bytes) → drop from script ≡ byte ∷ rest → (n : ℕ) → drop n rest ≡ drop (from + 1 + n) script
rest_behind [] zero byte rest is n = absurd cc
rest_behind [] (suc from) byte rest is n = absurd cc
rest_behind (b ∷ script) zero byte rest is n =
    let next : 0 + 1 + n ≡ suc n = omega arith in
    rw next (ap (λ (bs : Bytes). drop n bs) (sym (tail_is b byte script rest is)))
rest_behind (b ∷ script) (suc from) byte rest is n =
    let next : suc from + 1 + n ≡ suc (from + 1 + n) = omega arith in
    rw next (rest_behind script from byte rest is n)

-- the instruction that was read, and those behind it
pub record Begins (script : Bytes) (from next : ℕ) (i : Item) : Type 0 where
  pub first : ℕ
  pub whole : placed_after from 0 (drop from script) ≡ record { offset = from; first = first; item = i } ∷ placed_after next 0 (drop next script)

-- what was read, and where the next one begins
abbrev one_next : Item × ℕ → NextItem
one_next p = Ok (Some p)

pair_of : (a b : Item × ℕ) → one_next a ≡ one_next b → a ≡ b
pair_of a b is = cc

begins_by : (script : Bytes) (from next byte : ℕ) (rest : Bytes) (i : Item) (r : ItemReading) → drop from script ≡ byte ∷ rest → placed_next from r ≡ Ok (Some (i, next))
    → placed_by from byte r (λ taken. placed_after (from + 1) taken rest) ≡ record { offset = from; first = byte; item = i } ∷ placed_after next 0 (drop next script)
begins_by script from next byte rest i (Ok read) is found =
    let pair = pair_of (read.0, from + 1 + read.1) (i, next) found in
    let same : read.0 ≡ i = ap (λ (p : Item × ℕ). p.0) pair in
    let place : from + 1 + read.1 ≡ next = ap (λ (p : Item × ℕ). p.1) pair in
    ap (λ (j : Item). record { offset = from; first = byte; item = j } ∷ placed_after (from + 1) read.1 rest) same
    ∙ ap (λ (ps : List Placed). record { offset = from; first = byte; item = i } ∷ ps)
    (skip_placed (from + 1) read.1 rest ∙ ap (λ (bs : Bytes). placed_after (from + 1 + read.1) 0 bs) (rest_behind script from byte rest is read.1)
    ∙ ap (λ (n : ℕ). placed_after n 0 (drop n script)) place)
begins_by script from next byte rest i (Err e) is found = absurd cc

begins_at : (script : Bytes) (from next : ℕ) (i : Item) (bytes : Bytes) → drop from script ≡ bytes → Ok (Some (i, next)) ≡ next_item from bytes → Begins script from next i
unfolding placed_after
begins_at script from next i [] is found = absurd cc
begins_at script from next i (byte ∷ rest) is found =
    record {
      first = byte;
      whole = ap (λ (bs : Bytes). placed_after from 0 bs) is ∙ begins_by script from next byte rest i (first_item byte rest) is (sym found);
    }

pub begins : (script : Bytes) (from next : ℕ) (instr : InstrRef) → seen (Ok (Some (instr, next))) ≡ next_item from (drop from script)
    → Begins script from next (item_of instr)
begins script from next instr found = begins_at script from next (item_of instr) (drop from script) refl found

-- one that can't be read is the last
pub record Breaks (script : Bytes) (from : ℕ) (e : InstrFault) : Type 0 where
  pub first : ℕ
  pub rest : Bytes
  pub stands : drop from script ≡ first ∷ rest
  pub whole : placed_after from 0 (drop from script) ≡ record { offset = from; first = first; item = item.fault e } ∷ []

breaks_by : (from byte : ℕ) (rest : Bytes) (e : InstrFault) (r : ItemReading) → placed_next from r ≡ Err e
    → placed_by from byte r (λ taken. placed_after (from + 1) taken rest) ≡ record { offset = from; first = byte; item = item.fault e } ∷ []
breaks_by from byte rest e (Ok read) found = absurd cc
breaks_by from byte rest e (Err f) found = let same : f ≡ e = cc in ap (λ (g : InstrFault). record { offset = from; first = byte; item = item.fault g } ∷ []) same

breaks_at : (script : Bytes) (from : ℕ) (e : InstrFault) (bytes : Bytes) → drop from script ≡ bytes → Err e ≡ next_item from bytes → Breaks script from e
unfolding placed_after
breaks_at script from e [] is found = absurd cc
breaks_at script from e (byte ∷ rest) is found =
    record {
      first = byte;
      rest = rest;
      stands = is;
      whole = ap (λ (bs : Bytes). placed_after from 0 bs) is ∙ breaks_by from byte rest e (first_item byte rest) (sym found);
    }

pub breaks : (script : Bytes) (from : ℕ) (e : InstrFault) → seen (Err e) ≡ next_item from (drop from script) → Breaks script from e
breaks script from e found = breaks_at script from e (drop from script) refl found

-- ---- the loop

pub record KeepsTrace (given : Given) (script : Bytes) (stack : List Bytes) (places : List ℕ) (begun : Bytes) (from place : ℕ) (run : SteppedRun) (report : Bytes) : Type 0 where
  pub inside : from ≤ length script
  pub counted : place ≤ from
  pub deep : open_of run ≤ place
  pub state : State
  pub at : IsAt run state
  pub told : report ++ written (drop place places) (lines given (placed_after from 0 (drop from script)) state) ≡ begun ++ written places (the_trace given script stack)
  pub same : steps given (items (drop from script)) place state ended ≡ the_run given script stack

pub begun : (given : Given) (script : Bytes) (stack : List Bytes) (places : List ℕ) (report : Bytes) (run : SteppedRun)
    → StartsAs (Ok run) (start script (reverse stack)) → open_of run ≡ 0 → KeepsTrace given script stack places report 0 0 run report
unfolding the_trace the_run
begun given script stack places report run starts none =
    record {
      inside = omega arith;
      counted = omega arith;
      deep = omega arith;
      state = starts.0;
      at = starts.1;
      told = ap (λ (r : OrFault State). report ++ written places (then_lines r (λ s. lines given (placed script) s))) (sym starts.2);
      same = ap (λ (r : OrFault State). leads r 0 (λ s. steps given (items script) 0 s ended)) (sym starts.2);
    }

-- a run that isn't started has no line
pub not_started : (given : Given) (script : Bytes) (stack : List Bytes) (places : List ℕ) (report : Bytes) (stop : RunStop)
    → StartsAs (Err stop) (start script (reverse stack))
    → Answers (Err stop) (the_run given script stack) × Adds {X = RunReport} (Err stop) report report (written places (the_trace given script stack))
unfolding the_trace the_run written
not_started given script stack places report (Refused e at) starts = (
  ap (λ (r : OrFault State). leads r 0 (λ s. steps given (items script) 0 s ended)) starts.0 ∙ ap (λ (n : ℕ). refused e n) (sym starts.1),
  sym (append-nil report) ∙ ap (λ (r : OrFault State). report ++ written places (then_lines r (λ s. lines given (placed script) s))) (sym starts.0),
)
not_started given script stack places report Memory starts = (tt, tt)

-- the lines from an instruction on
lines_from : (given : Given) (p : Placed) (ps all : List Placed) (s : State) (next : OrFault State) (places : List ℕ) → all ≡ p ∷ ps → step given p.item s ≡ next
    → written places (lines given all s) ≡ whole_line places p s next ++ written (drop 1 places) (then_lines next (λ t. lines given ps t))
unfolding lines written
lines_from given p ps all s next places is steps_to = rw (is, steps_to) refl

steps_from : (given : Given) (i : Item) (rest all : List Item) (place : ℕ) (s : State) (next : OrFault State) → all ≡ i ∷ rest → step given i s ≡ next
    → steps given all place s ended ≡ leads next place (λ t. steps given rest (place + 1) t ended)
unfolding steps
steps_from given i rest all place s next is steps_to = rw (is, steps_to) refl

pub next_place : (places : List ℕ) (place : ℕ) → drop 1 (drop place places) ≡ drop (place + 1) places
next_place [] zero = refl
next_place [] (suc place) = let same : suc place + 1 ≡ suc (place + 1) = omega arith in rw same refl
next_place (p ∷ places) zero = refl
next_place (p ∷ places) (suc place) =
    let same : suc place + 1 ≡ suc (place + 1) = omega arith in
    rw same (next_place places place)

-- an instruction more
pub goes_on : (given : Given) (script : Bytes) (stack : List Bytes) (places : List ℕ) (start_text : Bytes) (from place next : ℕ) (i : Item) (old new : SteppedRun) (before after : Bytes)
    → (k : KeepsTrace given script stack places start_text from place old before) → (b : Begins script from next i)
    → from < next → next ≤ length script → items (drop from script) ≡ i ∷ items (drop next script)
    → Takes {X = Unit {0}} (Ok tt) new place before after (drop place places) (record { offset = from; first = b.first; item = i }) k.state (step given i k.state)
    → open_of new ≤ open_of old + 1
    → KeepsTrace given script stack places start_text next (place + 1) new after
goes_on given script stack places start_text from place next i old new before after k b on within split takes deep =
    let counted = k.counted in
    let depth = k.deep in
    let p : Placed = record { offset = from; first = b.first; item = i } in
    let t = takes.0 in
    let line = whole_line (drop place places) p k.state (step given i k.state) in
    let rest = lines given (placed_after next 0 (drop next script)) t in
    let whole : written (drop place places) (lines given (placed_after from 0 (drop from script)) k.state) ≡ line ++ written (drop (place + 1) places) rest =
    lines_from given p (placed_after next 0 (drop next script)) _ k.state (step given i k.state) (drop place places) b.whole refl
    ∙ ap (λ (r : OrFault State). line ++ written (drop 1 (drop place places)) (then_lines r (λ u. lines given (placed_after next 0 (drop next script)) u))) takes.2
    ∙ ap (λ (ns : List ℕ). line ++ written ns rest) (next_place places place)
    in
    record {
      inside = within;
      counted = omega arith;
      deep = omega arith;
      state = t;
      at = takes.1;
      told =
          ap (λ (bs : Bytes). bs ++ written (drop (place + 1) places) rest) takes.3 ∙ append_assoc before line (written (drop (place + 1) places) rest)
          ∙ ap (λ (bs : Bytes). before ++ bs) (sym whole) ∙ k.told;
      same = sym (steps_from given i (items (drop next script)) _ place k.state (Ok t) split takes.2) ∙ k.same;
    }

-- the end
no_more : (given : Given) (script : Bytes) (from place : ℕ) (places : List ℕ) (s : State) (rest : Bytes) → rest ≡ []
    → (written places (lines given (placed_after from 0 rest) s) ≡ []) × (steps given (items rest) place s ended ≡ ended place s)
unfolding lines written steps items_after placed_after
no_more given script from place places s rest none = rw none (refl, refl)

pub finishes : (given : Given) (script : Bytes) (stack : List Bytes) (places : List ℕ) (start_text : Bytes) (from place : ℕ) (run : SteppedRun) (report : Bytes)
    (result : Result RunReport RunStop) → (k : KeepsTrace given script stack places start_text from place run report) → from ≡ length script
    → Answers result (ended place k.state)
    → Answers result (the_run given script stack) × (report ≡ start_text ++ written places (the_trace given script stack))
finishes given script stack places start_text from place run report result k end answers =
    let past : length script ≤ from = omega arith in
    let none = no_more given script from place (drop place places) k.state (drop from script) (drop_all from script past) in
    let P : Outcome → Type 0 = λ o. Answers result o in
    (subst P (sym none.1 ∙ k.same) answers, sym (append-nil report) ∙ ap (λ (bs : Bytes). report ++ bs) (sym none.0) ∙ k.told)

pub adds : {X : Type 0} (result : Result X RunStop) (before after added : Bytes) → after ≡ before ++ added → Adds result before after added
adds (Ok x) before after added is = is
adds (Err (Refused e place)) before after added is = is
adds (Err Memory) before after added is = tt

-- a fault
last_line : (given : Given) (script : Bytes) (stack : List Bytes) (places : List ℕ) (start_text : Bytes) (from place : ℕ) (run : SteppedRun) (before after : Bytes)
    (p : Placed) (ps : List Placed) (rest : List Item) (e : ScriptFault) → (k : KeepsTrace given script stack places start_text from place run before)
    → placed_after from 0 (drop from script) ≡ p ∷ ps → items (drop from script) ≡ p.item ∷ rest → step given p.item k.state ≡ Err e
    → after ≡ before ++ whole_line (drop place places) p k.state (step given p.item k.state)
    → (the_run given script stack ≡ refused e place) × (after ≡ start_text ++ written places (the_trace given script stack))
unfolding written
last_line given script stack places start_text from place run before after p ps rest e k whole split is added =
    let line = whole_line (drop place places) p k.state (step given p.item k.state) in
    let text : written (drop place places) (lines given (placed_after from 0 (drop from script)) k.state) ≡ line ++ [] =
    lines_from given p ps _ k.state (step given p.item k.state) (drop place places) whole refl
    ∙ ap (λ (r : OrFault State). line ++ written (drop 1 (drop place places)) (then_lines r (λ u. lines given ps u))) is
    in (
      sym k.same ∙ steps_from given p.item rest _ place k.state (Err e) split is,
      added ∙ ap (λ (bs : Bytes). before ++ bs) (sym (append-nil line) ∙ sym text) ∙ k.told,
    )

pub stops : (given : Given) (script : Bytes) (stack : List Bytes) (places : List ℕ) (start_text : Bytes) (from place next : ℕ) (i : Item) (old new : SteppedRun) (before after : Bytes)
    (stop : RunStop) → (k : KeepsTrace given script stack places start_text from place old before) → (b : Begins script from next i)
    → items (drop from script) ≡ i ∷ items (drop next script)
    → Takes {X = Unit {0}} (Err stop) new place before after (drop place places) (record { offset = from; first = b.first; item = i }) k.state (step given i k.state)
    → Answers (Err stop) (the_run given script stack)
    × Adds {X = RunReport} (Err stop) start_text after (written places (the_trace given script stack))
stops given script stack places start_text from place next i old new before after (Refused e at) k b split takes =
    let h = last_line given script stack places start_text from place old before after (record { offset = from; first = b.first; item = i })
    (placed_after next 0 (drop next script)) (items (drop next script)) e k b.whole split takes.0 takes.2
    in
    (h.0 ∙ ap (λ (n : ℕ). refused e n) (sym takes.1), h.1)
stops given script stack places start_text from place next i old new before after Memory k b split takes = (tt, tt)

no_step : (given : Given) (e : InstrFault) (s : State) → step given (item.fault e) s ≡ Err (fault_of e)
unfolding step carry_out
no_step given e s = refl

pub first_there : (script : Bytes) (from byte : ℕ) (rest : Bytes) → drop from script ≡ byte ∷ rest → slice_index script from ≡ byte
first_there [] zero byte rest is = absurd cc
first_there [] (suc from) byte rest is = absurd cc
first_there (b ∷ script) zero byte rest is = cc
first_there (b ∷ script) (suc from) byte rest is = first_there script from byte rest is

pub unread_stops : (given : Given) (script : Bytes) (stack : List Bytes) (places : List ℕ) (start_text : Bytes) (from place : ℕ) (run : SteppedRun) (before after : Bytes)
    (e : InstrFault) → (k : KeepsTrace given script stack places start_text from place run before) → (b : Breaks script from e)
    → items (drop from script) ≡ item.fault e ∷ []
    → after ≡ before ++ (unread_text from (slice_index script from) ++ line_end (drop place places))
    → (the_run given script stack ≡ refused (fault_of e) place) × (after ≡ start_text ++ written places (the_trace given script stack))
unread_stops given script stack places start_text from place run before after e k b split added =
    let p : Placed = record { offset = from; first = b.first; item = item.fault e } in
    let is = no_step given e k.state in
    let same : line_text (line_of p k.state (step given (item.fault e) k.state)) ≡ unread_text from (slice_index script from) =
    ap (λ (r : OrFault State). line_text (line_of p k.state r)) is ∙ unread_is from b.first e ∙ ap (λ (n : ℕ). unread_text from n) (sym (first_there script from b.first b.rest b.stands))
    in
    last_line given script stack places start_text from place run before after p [] [] (fault_of e) k b.whole split is
    (added ∙ ap (λ (bs : Bytes). before ++ (bs ++ line_end (drop place places))) (sym same))
