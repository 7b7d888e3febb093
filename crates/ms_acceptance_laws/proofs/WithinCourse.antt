-- Instructions that keep within a course and reach its top, from a main stack and whatever the alternative stack.
use Rattle.std.proofs.Common.{◌≡◌, ℕ, ◌+◌, ◌-◌, ◌≤◌, true, List, [], ◌∷◌, ◌++◌, length, map, Ok, refl, sym, ◌∙◌, ap, subst, arith}
use Rattle.def_script.specs.Bytes.{Bytes}
use Rattle.def_script.specs.Instruction.{Instruction, push, opcode_count}
use Rattle.def_script.specs.Verify.{verified}
use Rattle.def_machine.specs.Faults.{OrFault, ◌>>=◌}
use Rattle.def_machine.specs.Stacks.{Stack}
use Rattle.def_machine.specs.Machine.{Given, State, is_live, height}
use Rattle.def_height.specs.Course.{Course, rise}
use Rattle.def_height.proofs.Courses.{ups, downs, rise_append, rise_ends}
use Rattle.ms_acceptance_laws.proofs.ScriptRise.{rises}
use Rattle.ms_acceptance_laws.proofs.StackEffects.{Left, Effect, left}
use Rattle.ms_acceptance_laws.proofs.UnlimitedMachine.{reached, free_steps}
use Rattle.ms_acceptance_laws.proofs.BranchMoves.{free_steps-append}
use Rattle.ms_acceptance_laws.proofs.FusedVerify.{fuses, closing, closes}
use Rattle.ms_acceptance_laws.proofs.InstructionEffects.{Does, all_taken, goes_from}
use Rattle.ms_acceptance_laws.proofs.RunHeights.{IsLow, low_start, low_end, low_append, low_first, low_second, low_behind, low_rises, low_verified, low_unverified}
use Rattle.ms_row_laws.proofs.RunLog.{Log}
use Rattle.ms_row_laws.proofs.Outcomes.{bind_split, same_ok}

-- from this main stack the instructions keep within a course, and where they are carried out they reach its top
pub record Keeps (given : Given) (c : List Instruction) (course : Course) (from : Stack) : Type 0 where
  pub low : (s : State) → is_live s ≡ true → s.main ≡ from → (n : ℕ) → height s + rise course ≤ n → IsLow given c s n
  pub high : (s t : State) → is_live s ≡ true → s.main ≡ from → free_steps given c s ≡ Ok t → (n : ℕ) → IsLow given c s n → height s + rise course ≤ n

-- a state with this main stack, and otherwise the stacks and branches of another
pub record Leads (s t : State) (to : Stack) : Type 0 where
  pub main : t.main ≡ to
  pub alt : t.alt ≡ s.alt
  pub branches : t.branches ≡ s.branches

-- from this main stack they keep within a course and lead to that one
pub record Follows (given : Given) (c : List Instruction) (course : Course) (from to : Stack) : Type 0 where
  pub keeps : Keeps given c course from
  pub ends : (s t : State) → is_live s ≡ true → s.main ≡ from → free_steps given c s ≡ Ok t → Leads s t to
  pub total : length from + ups course ≡ length to + downs course

pub still_live : (s t : State) (to : Stack) → Leads s t to → is_live s ≡ true → is_live t ≡ true
still_live s t to l live = ap all_taken l.branches ∙ live

-- what an effect leaves
pub does_lead : (given : Given) (c : List Instruction) (f : Effect) (from to : Stack) (log : Log) → Does given c f → f from ≡ Ok (left to log) →
    (s t : State) → is_live s ≡ true → s.main ≡ from → free_steps given c s ≡ Ok t → Leads s t to
does_lead given c f from to log x run s t live is h =
    let e : reached s (opcode_count c) (left to log) ≡ t =
    same_ok (reached s (opcode_count c) (left to log)) t
    (sym (goes_from given c f x s live ∙ ap (λ (r : OrFault Left). r >>= λ left. Ok (reached s (opcode_count c) left)) (ap f is ∙ run)) ∙ h) in
    subst (λ (u : State). Leads s u to) e (record { main = refl; alt = refl; branches = refl })

pub does_follow : (given : Given) (c : List Instruction) (f : Effect) (course : Course) (from to : Stack) (log : Log) → Does given c f → f from ≡ Ok (left to log) →
    length from + ups course ≡ length to + downs course → Keeps given c course from → Follows given c course from to
does_follow given c f course from to log x run total keeps = record { keeps = keeps; ends = does_lead given c f from to log x run; total = total }

-- one instruction, with a course that goes up or down at once
pub one_follows : (given : Given) (i : Instruction) (f : Effect) (course : Course) (from to : Stack) (log : Log) → Does given (i ∷ []) f → f from ≡ Ok (left to log) →
    length from + ups course ≡ length to + downs course → rise course ≤ ups course - downs course → Follows given (i ∷ []) course from to
one_follows given i f course from to log x run total once =
    does_follow given (i ∷ []) f course from to log x run total (record {
      low = λ s live is n h. (
        omega (arith, h),
        λ t e.
            let l = does_lead given (i ∷ []) f from to log x run s t live is (ap (λ (r : OrFault State). r >>= free_steps given []) e) in
            omega (arith, h, total, rise_ends course, ap length l.main, ap length l.alt, ap length is),
      );
      high = λ s t live is e n h.
          let l = does_lead given (i ∷ []) f from to log x run s t live is e in
          omega (arith, h.0, low_end given (i ∷ []) s t n h e, once, total, ap length l.main, ap length l.alt, ap length is);
    })

-- carried out one behind the other
pub parted : (given : Given) (c d : List Instruction) (s t : State) → free_steps given (c ++ d) s ≡ Ok t →
    (u : State) × (free_steps given c s ≡ Ok u) × (free_steps given d u ≡ Ok t)
parted given c d s t e = bind_split (free_steps given c s) (free_steps given d) t (sym (free_steps-append given c d s) ∙ e)

-- one course behind the other
pub then_keeps : {given : Given} {c d : List Instruction} {a b : Course} {from mid : Stack} → Follows given c a from mid → Keeps given d b mid → Keeps given (c ++ d) (a ++ b) from
then_keeps {given} {c} {d} {a} {b} {from} {mid} x y = record {
  low = λ s live is n h.
      low_append given c d s n (x.keeps.low s live is n (omega (arith, h, rise_append a b)))
      (λ t e.
      let l = x.ends s t live is e in
      y.low t (still_live s t mid l live) l.main n
      (omega (arith, h, rise_append a b, x.total, ap length l.main, ap length l.alt, ap length is)));
  high = λ s t live is e n h.
      let u = parted given c d s t e in
      let l = x.ends s u.0 live is u.1 in
      let former = x.keeps.high s u.0 live is u.1 n (low_first given c d s n h) in
      let latter = y.high u.0 t (still_live s u.0 mid l live) l.main u.2 n (low_second given c d s u.0 n h u.1) in
      omega (arith, former, latter, rise_append a b, x.total, ap length l.main, ap length l.alt, ap length is);
}

-- instructions that raise nothing
pub keeps_behind : (given : Given) (c d : List Instruction) (a b : Course) (from : Stack) → rises d ≡ 0 → rise b ≡ 0 → Keeps given c a from → Keeps given (c ++ d) (a ++ b) from
keeps_behind given c d a b from flat level x = record {
  low = λ s live is n h. low_behind given c d s n flat (x.low s live is n (omega (arith, h, rise_append a b)));
  high = λ s t live is e n h.
      let u = parted given c d s t e in
      let former = x.high s u.0 live is u.1 n (low_first given c d s n h) in
      omega (arith, former, level, rise_append a b, rise_ends a);
}

pub keeps_verified : (given : Given) (c : List Instruction) (a b : Course) (from : Stack) → rise b ≡ 0 → Keeps given c a from → Keeps given (verified c) (a ++ b) from
keeps_verified given c a b from level x = record {
  low = λ s live is n h. low_verified given c s n (x.low s live is n (omega (arith, h, rise_append a b)));
  high = λ s t live is e n h.
      let u = bind_split (free_steps given c s) (closing given (fuses c)) t (sym (closes given c s) ∙ e) in
      let former = x.high s u.0 live is u.1 n (low_unverified given c s n h) in
      omega (arith, former, level, rise_append a b, rise_ends a);
}

-- pushes that are carried out
high_pushes : (given : Given) (items : List Bytes) (d : List Instruction) (s : State) (n : ℕ) → is_live s ≡ true → IsLow given (map push items ++ d) s n → height s + length items ≤ n
high_pushes given [] d s n live h = omega (arith, low_start given d s n h)
high_pushes given (item ∷ items) d s n live h =
    let u : State = record s { main = item ∷ s.main } in
    let rest = high_pushes given items d u n live (h.1 u (rw live refl)) in
    omega (arith, rest)

-- pushes, and then instructions that raise nothing
pub keeps_pushes : (given : Given) (items : List Bytes) (d : List Instruction) (course : Course) (from : Stack) → rises (map push items ++ d) ≡ length items → rise course ≡ length items →
    Keeps given (map push items ++ d) course from
keeps_pushes given items d course from flat up = record {
  low = λ s live is n h. low_rises given (map push items ++ d) s n (omega (arith, h, flat, up));
  high = λ s t live is e n h. omega (arith, high_pushes given items d s n live h, up);
}

-- another spelling of the stack
pub keeps_from : {given : Given} {c : List Instruction} {course : Course} {from start : Stack} → start ≡ from → Keeps given c course from → Keeps given c course start
keeps_from {given} {c} {course} e x = subst (Keeps given c course) (sym e) x
