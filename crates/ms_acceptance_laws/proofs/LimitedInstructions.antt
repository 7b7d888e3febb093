-- Instructions carried out one after the other by the machine with its limits and by the one without.
use Rattle.std.proofs.Common.{◌≡◌, ℕ, ◌+◌, ◌≤◌, ◌⊎◌, inl, inr, List, [], ◌∷◌, length, map, max, All, Ok, Err, refl, sym, ◌∙◌, ap, IsTrue, add-zero, arith}
use Rattle.std.proofs.lemmas.List.Elements.{All-head, All-tail}
use Rattle.def_script.specs.Instruction.{Instruction}
use Rattle.def_script.specs.Spell.{IsShort}
use Rattle.def_script.specs.Laws.{item_of}
use Rattle.def_machine.specs.declared.ScriptFault.{ScriptFault}
use Rattle.def_machine.specs.Faults.{OrFault}
use Rattle.def_script.specs.Limits.{MAX_OPS_PER_SCRIPT, MAX_STACK_SIZE}
use Rattle.def_machine.specs.Stacks.{Pairs}
use Rattle.def_machine.specs.Machine.{Given, State, step, height}
use Rattle.def_machine.specs.Run.{Outcome, accepted, refused, leads, steps}
use Rattle.def_promises.specs.Limited.{is_limit}
use Rattle.ms_acceptance_laws.proofs.ScriptRise.{rises}
use Rattle.ms_acceptance_laws.proofs.UnlimitedMachine.{free_step, free_steps}
use Rattle.ms_acceptance_laws.proofs.PeakUnseen.{peaked, with_peak, step_peak, steps_peak}
use Rattle.ms_acceptance_laws.proofs.StepRises.{Climbs, step_climbs}
use Rattle.ms_acceptance_laws.proofs.RunHeights.{IsLow, low_start, low_next}
use Rattle.ms_acceptance_laws.proofs.LimitedSteps.{StopsStep, settled, step_bounded, step_free}
use Rattle.ms_row_laws.proofs.Outcomes.{bind_split, same_ok}

pub steps_climb : (given : Given) (is : List Instruction) (s t : State) → free_steps given is s ≡ Ok t → Climbs s t (rises is)
steps_climb given [] s t h = record { ops = omega (arith, ap (λ (u : State). u.ops) (same_ok s t h)); high = omega (arith, ap height (same_ok s t h)) }
steps_climb given (i ∷ is) s t h =
    let u = bind_split (free_step given i s) (free_steps given is) t h in
    let first = step_climbs given i s u.0 u.1 in
    let then = steps_climb given is u.0 t u.2 in
    record { ops = omega (arith, first.ops, then.ops); high = omega (arith, first.high, then.high) }

-- carried out from one state, the instructions lead to the other, up to the peak
pub record Ends (given : Given) (is : List Instruction) (s t : State) : Type 0 where
  pub peak : ℕ
  pub steps : (place : ℕ) (next : ℕ → State → Outcome) → steps given (map item_of is) place s next ≡ next (place + length (map item_of is)) (peaked peak t)

-- they stop at a limit
pub record Stops (given : Given) (is : List Instruction) (s : State) : Type 0 where
  pub fault : ScriptFault
  pub limit : IsTrue (is_limit fault)
  pub at : ℕ → ℕ
  pub steps : (place : ℕ) (next : ℕ → State → Outcome) → steps given (map item_of is) place s next ≡ refused fault (at place)

longer : (i : Instruction) (is : List Instruction) (place : ℕ) → place + 1 + length (map item_of is) ≡ place + length (map item_of (i ∷ is))
longer i is place = omega arith

free_peaked : (given : Given) (is : List Instruction) (p : ℕ) (s t : State) → free_steps given is s ≡ Ok t → free_steps given is (peaked p s) ≡ Ok (peaked p t)
free_peaked given is p s t h = steps_peak p given is s ∙ ap (with_peak p) h

pub bounded : (given : Given) (is : List Instruction) (s t : State) → All IsShort is → free_steps given is s ≡ Ok t → Ends given is s t ⊎ Stops given is s
unfolding steps
bounded given [] s t short h = inl (record { peak = s.peak; steps = λ place next. rw (← same_ok s t h, add-zero place) refl })
bounded given (i ∷ is) s t short h =
    let u = bind_split (free_step given i s) (free_steps given is) t h in
    go u.0 (step_bounded given i s u.0 (All-head IsShort i is short) u.1)
    (bounded given is (settled u.0) (peaked _ t) (All-tail IsShort i is short) (free_peaked given is _ u.0 t u.2))
  where
    go : (u : State) → (step given (item_of i) s ≡ Ok (settled u)) ⊎ StopsStep (step given (item_of i) s) u →
        Ends given is (settled u) (peaked (max u.peak (height u)) t) ⊎ Stops given is (settled u) →
        Ends given (i ∷ is) s t ⊎ Stops given (i ∷ is) s
    go u (inl e) (inl ends) = inl (record { peak = ends.peak; steps = λ place next. rw (e, ends.steps (place + 1) next, longer i is place) refl })
    go u (inl e) (inr stops) = inr (record { fault = stops.fault; limit = stops.limit; at = λ place. stops.at (place + 1); steps = λ place next. rw (e, stops.steps (place + 1) next) refl })
    go u (inr stop) rest = inr (record { fault = stop.fault; limit = stop.limit; at = λ place. place; steps = λ place next. rw (stop.stops) refl })

-- within the limits on opcodes and stacks the instructions lead to the end, up to a peak no higher than the stacks get, and no
-- lower
pub record LowEnds (given : Given) (is : List Instruction) (p : ℕ) (s t : State) (n : ℕ) : Type 0 where
  pub peak : ℕ
  pub low : peak ≤ n
  pub later : p ≤ peak
  pub top : height s ≤ p → IsLow given is s peak
  pub steps : (place : ℕ) (next : ℕ → State → Outcome) → steps given (map item_of is) place (peaked p s) next ≡ next (place + length (map item_of is)) (peaked peak t)

pub low_ends : (given : Given) (is : List Instruction) (p n : ℕ) (s t : State) → All IsShort is → free_steps given is s ≡ Ok t → IsLow given is s n → p ≤ n
    → n ≤ MAX_STACK_SIZE → t.ops ≤ MAX_OPS_PER_SCRIPT → LowEnds given is p s t n
unfolding steps
low_ends given [] p n s t short h low few room ops = record { peak = p; low = few; later = omega arith; top = λ under. under; steps = λ place next. rw (← same_ok s t h, add-zero place) refl }
low_ends given (i ∷ is) p n s t short h low few room ops =
    let u = bind_split (free_step given i s) (free_steps given is) t h in
    let then = low.1 u.0 u.1 in
    let high = low_start given is u.0 n then in
    go u.0 u.1 high (steps_climb given is u.0 t u.2)
    (step_bounded given i (peaked p s) (peaked p u.0) (All-head IsShort i is short) (step_peak p given i s ∙ ap (with_peak p) u.1))
    (low_ends given is (max p (height u.0)) n u.0 t (All-tail IsShort i is short) u.2 then (omega (arith, few, high)) room ops)
  where
    go : (u : State) → free_step given i s ≡ Ok u → height u ≤ n → Climbs u t (rises is) →
        (step given (item_of i) (peaked p s) ≡ Ok (settled (peaked p u))) ⊎ StopsStep (step given (item_of i) (peaked p s)) (peaked p u) →
        LowEnds given is (max p (height u)) u t n → LowEnds given (i ∷ is) p s t n
    go u free high climb (inl e) ends = record {
      peak = ends.peak;
      low = ends.low;
      later = omega (arith, ends.later);
      top = λ under. low_next given i is s u ends.peak (omega (arith, under, ends.later)) free (ends.top (omega arith));
      steps = λ place next. rw (e, ends.steps (place + 1) next, longer i is place) refl;
    }
    go u free high climb (inr stop) ends = absurd (elim stop.why [ inl many ↦ omega (arith, many, climb.ops, ops) | inr over ↦ omega (arith, over, high, room) ])

-- conversely, what is accepted behind instructions was reached by them on the machine without limits
pub record Reached (given : Given) (is : List Instruction) (place : ℕ) (s : State) (next : ℕ → State → Outcome) (outcome : Outcome) : Type 0 where
  pub end : State
  pub peak : ℕ
  pub free : free_steps given is s ≡ Ok end
  pub then : next (place + length (map item_of is)) (peaked peak end) ≡ outcome

free_unpeaked : (given : Given) (is : List Instruction) (p : ℕ) (s t : State) → free_steps given is (peaked p s) ≡ Ok t → (u : State) × (free_steps given is s ≡ Ok u) × (peaked p u ≡ t)
free_unpeaked given is p s t h =
    let u = bind_split (free_steps given is s) (λ u. Ok (peaked p u)) t (sym (steps_peak p given is s) ∙ h) in
    (u.0, u.1, same_ok (peaked p u.0) t u.2)

pub leads_on : (r : OrFault State) (place : ℕ) (next : State → Outcome) (ops peak : ℕ) (checks : Pairs) → leads r place next ≡ accepted ops peak checks →
    (s : State) × (r ≡ Ok s) × (next s ≡ accepted ops peak checks)
leads_on (Ok s) place next ops peak checks h = (s, refl, h)
leads_on (Err fault) place next ops peak checks h = absurd cc

pub was_reached : (given : Given) (is : List Instruction) (place : ℕ) (s : State) (next : ℕ → State → Outcome) (ops peak : ℕ) (checks : Pairs) →
    steps given (map item_of is) place s next ≡ accepted ops peak checks → Reached given is place s next (accepted ops peak checks)
unfolding steps
was_reached given [] place s next ops peak checks h = record { end = s; peak = s.peak; free = refl; then = rw (add-zero place) h }
was_reached given (i ∷ is) place s next ops peak checks h =
    let t = leads_on (step given (item_of i) s) place (λ t. steps given (map item_of is) (place + 1) t next) ops peak checks h in
    let x = was_reached given is (place + 1) t.0 next ops peak checks t.2 in
    let u = step_free given i s t.0 t.1 in
    let v = free_unpeaked given is _ u.0 x.end (ap (free_steps given is) (sym u.2) ∙ x.free) in
    record {
      end = v.0;
      peak = x.peak;
      free = rw u.1 v.1;
      then = ap (λ (n : ℕ). next n (peaked x.peak v.0)) (sym (longer i is place)) ∙ (ap (λ (w : State). next (place + 1 + length (map item_of is)) (peaked x.peak w)) v.2 ∙ x.then);
    }
