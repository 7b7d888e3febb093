-- Runs of a miniscript's Script by what it does to the main stack.
use Rattle.std.proofs.Common.{◌≡◌, ℕ, ◌+◌, ◌≤◌, ◌⊎◌, inl, inr, nat_le, nat_lt, Bool, true, false, List, [], ◌∷◌, length, map, reverse, All, Ok, Err, refl, sym, ◌∙◌, ap, if◌then◌else◌, IsTrue, le-ltb, le-leb, arith}
use Rattle.std.specs.List.{list_all}
use Rattle.std.proofs.lemmas.Bool.{cases_Bool}
use Rattle.std.proofs.lemmas.List.{reverse-reverse}
use Rattle.std.proofs.lemmas.List.Elements.{All-head, All-tail}
use Rattle.def_script.specs.Bytes.{Bytes}
use Rattle.def_script.specs.Decode.{truth}
use Rattle.def_script.specs.Instruction.{opcode_count}
use Rattle.def_script.specs.Laws.{item_of}
use Rattle.def_script.proofs.Reading.{all_short-spell}
use Rattle.def_machine.specs.declared.ScriptFault.TheVariants as fault
use Rattle.def_machine.specs.Faults.{OrFault}
use Rattle.def_script.specs.Limits.{MAX_SCRIPT_ELEMENT_SIZE, MAX_SCRIPT_SIZE, MAX_OPS_PER_SCRIPT, MAX_STACK_SIZE}
use Rattle.def_machine.specs.Stacks.{Stack, Pairs}
use Rattle.def_machine.specs.Machine.{Given, State, is_live}
use Rattle.def_machine.specs.Run.{accepted, leads, start, steps, is_clean, finish, ended, run}
use Rattle.def_machine.proofs.Joined.{spelled_run}
use Rattle.def_tree.specs.Tree.{Tree}
use Rattle.def_tree.specs.Range.{IsWritable}
use Rattle.def_emit.specs.Emit.{emit, script_of}
use Rattle.def_emit.proofs.Short.{short-emit}
use Rattle.def_promises.specs.Limited.{StopsAtLimit, StopFrom, LeaveFrom}
use Rattle.ms_acceptance_laws.proofs.StackEffects.{Left}
use Rattle.ms_acceptance_laws.proofs.TreeEffects.{den}
use Rattle.ms_acceptance_laws.proofs.UnlimitedMachine.{reached, free_steps}
use Rattle.ms_acceptance_laws.proofs.PeakUnseen.{peaked}
use Rattle.ms_acceptance_laws.proofs.InstructionEffects.{goes_from}
use Rattle.ms_acceptance_laws.proofs.ScriptEffects.{does}
use Rattle.ms_acceptance_laws.proofs.LimitedInstructions.{leads_on, bounded, low_ends, was_reached}
use Rattle.ms_acceptance_laws.proofs.RunHeights.{IsLow, low_start}
use Rattle.ms_row_laws.proofs.Outcomes.{bind_split, sure, same_ok}

-- the state at the start
abbrev pub first : Stack → State
first w = record { main = w; alt = []; branches = []; ops = 0; peak = length w; checks = [] }

-- the run of a tree's Script carries out its instructions
runs : (given : Given) (t : Tree) (stack : List Bytes) → IsWritable t →
    run given (script_of t) stack ≡ leads (start (script_of t) (reverse stack)) 0 (λ s. steps given (map item_of (emit t)) 0 s ended)
runs given t stack writable =
    let short = short-emit t writable in
    spelled_run given (emit t) stack (all_short-spell (emit t) short.all)

-- what its instructions do from the start
pub does_first : (given : Given) (t : Tree) (w : Stack) (left : Left) → den given t w ≡ Ok left → free_steps given (emit t) (first w) ≡ Ok (reached (first w) (opcode_count (emit t)) left)
does_first given t w left h = goes_from given (emit t) (den given t) (does given t) (first w) refl ∙ rw h refl

all_short : (w : Stack) → All (λ item. length item ≤ 520) w → list_all (λ x. nat_le (length x) MAX_SCRIPT_ELEMENT_SIZE) w ≡ true
all_short [] short = refl
all_short (x ∷ w) short =
    rw (le-leb (length x) 520 (All-head (λ item. length item ≤ 520) x w short)) (all_short w (All-tail (λ item. length item ≤ 520) x w short))

starts : (script : Bytes) (w : Stack) → length script ≤ 10000 → list_all (λ x. nat_le (length x) MAX_SCRIPT_ELEMENT_SIZE) w ≡ true → start script w ≡ Ok (first w)
unfolding start
starts script w small short = rw (le-ltb 10000 (length script) small, short) refl

-- at the end there is one element, which is true
ends_well : (place peak n : ℕ) (w : Stack) (left : Left) (x : Bytes) → left.main ≡ x ∷ [] → truth x ≡ true →
    ended place (peaked peak (reached (first w) n left)) ≡ accepted (n + left.log.keys) peak left.log.checks
unfolding finish
ends_well place peak n w left x one good = rw (one, good) (ap (λ (ops : ℕ). accepted ops peak left.log.checks) (omega arith))

-- within the limits it is accepted, and its peak is no higher than the stacks get, and no lower
pub accepted_run : (given : Given) (t : Tree) (w : Stack) (left : Left) (x : Bytes) (n : ℕ) → IsWritable t → length (script_of t) ≤ 10000 →
    All (λ item. length item ≤ 520) w → den given t w ≡ Ok left → left.main ≡ x ∷ [] → truth x ≡ true →
    opcode_count (emit t) + left.log.keys ≤ MAX_OPS_PER_SCRIPT → IsLow given (emit t) (first w) n → n ≤ MAX_STACK_SIZE →
    (peak : ℕ) × (peak ≤ n) × (run given (script_of t) (reverse w) ≡ accepted (opcode_count (emit t) + left.log.keys) peak left.log.checks) × IsLow given (emit t) (first w) peak
accepted_run given t w left x n writable small short h one good few low room =
    let s = short-emit t writable in
    let e =
    low_ends given (emit t) (length w) n (first w) (reached (first w) (opcode_count (emit t)) left) s.all (does_first given t w left h) low
    (omega (arith, low_start given (emit t) (first w) n low)) room (omega (arith, few)) in (
      e.peak,
      e.low,
      runs given t (reverse w) writable ∙ rw (reverse-reverse w, starts (script_of t) w small (all_short w short)) (e.steps 0 ended ∙ ends_well _ e.peak (opcode_count (emit t)) w left x one good),
      e.top (omega arith),
    )

-- an element that is too long stops it at the start
pub too_long : (given : Given) (t : Tree) (stack : List Bytes) → IsWritable t → length (script_of t) ≤ 10000 →
    list_all (λ x. nat_le (length x) MAX_SCRIPT_ELEMENT_SIZE) (reverse stack) ≡ false → StopsAtLimit t given stack
unfolding start
too_long given t stack writable small e = record {
  fault = fault.ElementSize;
  place = 0;
  limit = refl;
  run = runs given t stack writable ∙ rw (le-ltb 10000 (length (script_of t)) small, e) refl;
}

-- with no word on the limits but the size of the Script, it is accepted or stops at one
pub run_or_limit : (given : Given) (t : Tree) (stack : List Bytes) (left : Left) (x : Bytes) → IsWritable t → length (script_of t) ≤ 10000 →
    den given t (reverse stack) ≡ Ok left → left.main ≡ x ∷ [] → truth x ≡ true →
    ((ops : ℕ) × (peak : ℕ) × (run given (script_of t) stack ≡ accepted ops peak left.log.checks)) ⊎ StopsAtLimit t given stack
run_or_limit given t stack left x writable small h one good =
    elim (cases_Bool (list_all (λ x. nat_le (length x) MAX_SCRIPT_ELEMENT_SIZE) (reverse stack))) [
      | inl short ↦
          let run = runs given t stack writable ∙ ap (λ (r : OrFault State). leads r 0 (λ s. steps given (map item_of (emit t)) 0 s ended)) (starts (script_of t) (reverse stack) small short) in
          elim (bounded given (emit t) (first (reverse stack)) _ (short-emit t writable).all (does_first given t (reverse stack) left h)) [
            | inl ends ↦ inl (_, ends.peak, run ∙ ends.steps 0 ended ∙ ends_well _ ends.peak (opcode_count (emit t)) (reverse stack) left x one good)
            | inr stops ↦ inr (record { fault = stops.fault; place = stops.at 0; limit = stops.limit; run = run ∙ stops.steps 0 ended })
          ]
      | inr long ↦ inr (too_long given t stack writable small long)
    ]

-- conversely: what is accepted was at the start, went on and ended well
started : (script : Bytes) (w : Stack) (s : State) → start script w ≡ Ok s → first w ≡ s
unfolding start
started script w s h = go (nat_lt MAX_SCRIPT_SIZE (length script)) (list_all (λ x. nat_le (length x) MAX_SCRIPT_ELEMENT_SIZE) w) h
  where
    go : (large short : Bool) → (if large then Err fault.ScriptSize else if short then sure (first w) else Err fault.ElementSize) ≡ Ok s → first w ≡ s
    go true short h = absurd cc
    go false true h = same_ok (first w) s h
    go false false h = absurd cc

is_one : (main : Stack) (x : Bytes) → is_clean main ≡ Ok x → (main ≡ x ∷ []) × (truth x ≡ true)
is_one [] x h = absurd cc
is_one (y ∷ []) x h = go (truth y) refl h
  where
    go : (good : Bool) → truth y ≡ good → (if good then sure y else Err fault.EvalFalse) ≡ Ok x → (y ∷ [] ≡ x ∷ []) × (truth x ≡ true)
    go true e h = (ap (λ (z : Bytes). z ∷ []) (same_ok y x h), ap truth (sym (same_ok y x h)) ∙ e)
    go false e h = absurd cc
is_one (z ∷ y ∷ s) x h = absurd cc

outcome_is : (a b : ℕ) (p q : ℕ) (c d : Pairs) → accepted a p c ≡ accepted b q d → (a ≡ b) × (c ≡ d)
outcome_is a b p q c d h = (cc, cc)

-- what is accepted leaves one true element on the main stack
pub run_accepted : (given : Given) (t : Tree) (stack : List Bytes) (ops peak : ℕ) (checks : Pairs) → IsWritable t →
    run given (script_of t) stack ≡ accepted ops peak checks →
    (left : Left) × (x : Bytes) × (den given t (reverse stack) ≡ Ok left) × (left.main ≡ x ∷ []) × (truth x ≡ true)
    × (ops ≡ opcode_count (emit t) + left.log.keys) × (checks ≡ left.log.checks)
unfolding finish
run_accepted given t stack ops peak checks writable h =
    let s = leads_on (start (script_of t) (reverse stack)) 0 (λ s. steps given (map item_of (emit t)) 0 s ended) ops peak checks (sym (runs given t stack writable) ∙ h) in
    let same = started (script_of t) (reverse stack) s.0 s.1 in
    let r = was_reached given (emit t) 0 (first (reverse stack)) ended ops peak checks (ap (λ (s : State). steps given (map item_of (emit t)) 0 s ended) same ∙ s.2) in
    let left = bind_split (den given t (reverse stack)) _ r.end (sym (goes_from given (emit t) (den given t) (does given t) (first (reverse stack)) refl) ∙ r.free) in
    let u =
    leads_on (finish (peaked r.peak (reached (first (reverse stack)) (opcode_count (emit t)) left.0))) _ (λ t. accepted t.ops t.peak t.checks) ops peak checks
    (ap (λ (s : State). ended (0 + length (map item_of (emit t))) (peaked r.peak s)) (same_ok _ r.end left.2) ∙ r.then) in
    let x = bind_split (is_clean left.0.main) _ u.0 u.1 in
    let one = is_one left.0.main x.0 x.1 in
    let out = outcome_is _ ops _ peak _ checks (ap (λ (t : State). accepted t.ops t.peak t.checks) (same_ok _ u.0 x.2) ∙ u.2) in
    (left.0, x.0, left.1, one.0, one.1, omega (arith, out.0), sym out.1)

-- from any state whose branches are all taken, whatever comes after them, the instructions stop at a limit or leave what the
-- Script does to the main stack
pub stop_or_leave : (given : Given) (t : Tree) (s : State) (place : ℕ) (left : Left) → IsWritable t → IsTrue (is_live s) → den given t s.main ≡ Ok left →
    StopFrom t given s place ⊎ LeaveFrom t given s place left.main
stop_or_leave given t s place left writable live h =
    elim (bounded given (emit t) s (reached s (opcode_count (emit t)) left) (short-emit t writable).all (goes_from given (emit t) (den given t) (does given t) s live ∙ rw h refl)) [
      | inl ends ↦ inr (record { end = peaked ends.peak (reached s (opcode_count (emit t)) left); main = refl; steps = ends.steps place })
      | inr stops ↦ inl (record { fault = stops.fault; at = stops.at place; limit = stops.limit; steps = stops.steps place })
    ]
