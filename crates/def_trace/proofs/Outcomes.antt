-- What a trace says of the run's outcome.
use Rattle.std.proofs.Common.{◌≡◌, ℕ, ◌+◌, Bool, true, false, List, [], ◌∷◌, length, map, Ok, Err, arith, refl, sym, ◌∙◌, ap, if◌then◌else◌}
use Rattle.std.specs.Prelude.{reverse}
use Rattle.def_script.specs.Bytes.{Bytes}
use Rattle.def_script.specs.Item.{Item}
use Rattle.def_script.specs.Items.{items}
use Rattle.def_machine.specs.declared.ScriptFault.{ScriptFault}
use Rattle.def_machine.specs.declared.ScriptFault.TheVariants as fault
use Rattle.def_machine.specs.Faults.{OrFault, ◌>>=◌}
use Rattle.def_machine.specs.Stacks.{Pairs}
use Rattle.def_machine.specs.Machine.{Given, State, step}
use Rattle.def_machine.specs.Run.{Outcome, accepted, refused, leads, start, steps, balanced, is_clean, finish, ended, run}
use Rattle.def_trace.specs.Placed.{Placed, placed}
use Rattle.def_trace.specs.Seen.{Seen, seen, at_first}
use Rattle.def_trace.specs.Changes.{Change}
use Rattle.def_trace.specs.Trace.{Line, stepped, skipped, is_carried_out, line_of, then_lines, lines, trace}
use Rattle.def_trace.specs.Reader.{read_lines}
use Rattle.def_trace.specs.Laws.{ChecksTold, PlaceTold, is_stopped, stops_at}
use Rattle.def_trace.proofs.Places.{placed_are_items}
use Rattle.def_trace.proofs.Effects.{bound, fine, ok_is}
use Rattle.def_trace.proofs.Acts.{event_told}

-- the items of instructions
abbrev items_of : List Placed → List Item
items_of ps = map (λ (p : Placed). p.item) ps

-- ---- what was found good

finished : (s t : State) → finish s ≡ Ok t → s ≡ t
unfolding finish
finished s t is =
    let none = bound (balanced s.branches) (λ none. is_clean s.main >>= (λ one. Ok s)) t is in
    let one = bound (is_clean s.main) (λ one. Ok s) t none.next in
    ok_is s t one.next

end_checks : (r : OrFault State) (s : State) (place ops peak : ℕ) (checks : Pairs) → ((t : State) → r ≡ Ok t → s ≡ t)
    → leads r place (λ t. accepted t.ops t.peak t.checks) ≡ accepted ops peak checks → s.checks ≡ checks
end_checks (Ok t) s place ops peak checks same is = let e = same t refl in cc
end_checks (Err e) s place ops peak checks same is = absurd cc

step_checks : (given : Given) (p : Placed) (s : State) (next : OrFault State) (place ops peak : ℕ) (checks : Pairs) (more : State → Outcome) (rest : State → List Line)
    → step given p.item s ≡ next → leads next place more ≡ accepted ops peak checks
    → ((t : State) → more t ≡ accepted ops peak checks → (read_lines (seen t) (rest t)).checks ≡ checks)
    → (read_lines (seen s) (line_of p s next ∷ then_lines next rest)).checks ≡ checks
step_checks given p s (Ok t) place ops peak checks more rest is comes told =
    ap (λ (v : Seen). (read_lines v (rest t)).checks) (event_told given p.item s t is) ∙ told t comes
step_checks given p s (Err e) place ops peak checks more rest is comes told = absurd cc

good_told : (given : Given) (ps : List Placed) (s : State) (place ops peak : ℕ) (checks : Pairs) → steps given (items_of ps) place s ended ≡ accepted ops peak checks
    → (read_lines (seen s) (lines given ps s)).checks ≡ checks
unfolding steps lines
good_told given [] s place ops peak checks is = end_checks (finish s) s place ops peak checks (finished s) is
good_told given (p ∷ ps) s place ops peak checks is =
    step_checks given p s (step given p.item s) place ops peak checks (λ t. steps given (items_of ps) (place + 1) t ended) (lines given ps) refl is
    (λ t more. good_told given ps t (place + 1) ops peak checks more)

-- the state that a run starts with
abbrev first : List Bytes → State
first stack = record { main = reverse stack; alt = []; branches = []; ops = 0; peak = length (reverse stack); checks = [] }

started : (script : Bytes) (stack : List Bytes) (s : State) → start script (reverse stack) ≡ Ok s → seen s ≡ at_first stack
unfolding start
started script stack s is = begun _ _ is where
  begun : (long short : Bool)
      → (if long then Err fault.ScriptSize else if short then fine (first stack) else Err fault.ElementSize) ≡ Ok s
      → seen s ≡ at_first stack
  begun true short h = absurd cc
  begun false true h = ap seen (sym (ok_is (first stack) s h))
  begun false false h = absurd cc

pub checks_told : ChecksTold
unfolding run trace
checks_told given script stack ops peak checks is = by_start (start script (reverse stack)) refl is where
  by_start : (r : OrFault State) → start script (reverse stack) ≡ r → leads r 0 (λ s. steps given (items script) 0 s ended) ≡ accepted ops peak checks
      → (read_lines (at_first stack) (then_lines r (λ s. lines given (placed script) s))).checks ≡ checks
  by_start (Ok s) begins comes =
      ap (λ (v : Seen). (read_lines v (lines given (placed script) s)).checks) (sym (started script stack s begins))
      ∙ good_told given (placed script) s 0 ops peak checks (ap (λ (is : List Item). steps given is 0 s ended) (placed_are_items script) ∙ comes)
  by_start (Err e) begins comes = absurd cc

-- ---- where it is refused

end_place : (r : OrFault State) (place at : ℕ) (e : ScriptFault) → leads r place (λ t. accepted t.ops t.peak t.checks) ≡ refused e at → 0 + place ≡ at
end_place (Ok t) place at e is = absurd cc
end_place (Err f) place at e is = let same : place ≡ at = cc in omega arith

no_stop : (s t : State) (i : Item) (live : Bool) (cs : List Change) → is_stopped (if live then stepped cs else skipped) ≡ false
no_stop s t i true cs = refl
no_stop s t i false cs = refl

step_place : (given : Given) (p : Placed) (s : State) (next : OrFault State) (place at : ℕ) (e : ScriptFault) (more : State → Outcome) (rest : State → List Line)
    → leads next place more ≡ refused e at → ((t : State) → more t ≡ refused e at → stops_at (rest t) + (place + 1) ≡ at)
    → stops_at (line_of p s next ∷ then_lines next rest) + place ≡ at
step_place given p s (Ok t) place at e more rest comes told =
    let same : stops_at (line_of p s (Ok t) ∷ rest t) ≡ 1 + stops_at (rest t) = rw (no_stop s t p.item (is_carried_out p.item s) _) refl in
    let later = told t comes in
    omega (arith, same, later)
step_place given p s (Err f) place at e more rest comes told = let same : place ≡ at = cc in omega arith

place_from : (given : Given) (ps : List Placed) (s : State) (place at : ℕ) (e : ScriptFault) → steps given (items_of ps) place s ended ≡ refused e at
    → stops_at (lines given ps s) + place ≡ at
unfolding steps lines
place_from given [] s place at e is = end_place (finish s) place at e is
place_from given (p ∷ ps) s place at e is =
    step_place given p s (step given p.item s) place at e (λ t. steps given (items_of ps) (place + 1) t ended) (lines given ps) is
    (λ t more. place_from given ps t (place + 1) at e more)

pub place_told : PlaceTold
unfolding run trace
place_told given script stack e place is = by_start (start script (reverse stack)) is where
  by_start : (r : OrFault State) → leads r 0 (λ s. steps given (items script) 0 s ended) ≡ refused e place
      → stops_at (then_lines r (λ s. lines given (placed script) s)) ≡ place
  by_start (Ok s) comes =
      let there = place_from given (placed script) s 0 place e (ap (λ (is : List Item). steps given is 0 s ended) (placed_are_items script) ∙ comes) in
      omega arith
  by_start (Err f) comes = let same : 0 ≡ place = cc in same
