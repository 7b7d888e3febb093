-- IF and NOTIF with the branches behind them keep within a course.
use Rattle.std.proofs.Common.{◌≡◌, not, Bool, true, false, List, [], ◌∷◌, ◌++◌, length, if◌then◌else◌, Ok, refl, sym, ◌∙◌, ap, subst, arith}
use Rattle.std.proofs.lemmas.Bool.{false≢true}
use Rattle.def_script.specs.declared.Op.TheVariants as op
use Rattle.def_script.specs.Instruction.{Instruction, code}
use Rattle.def_machine.specs.Faults.{OrFault, ◌>>=◌}
use Rattle.def_machine.specs.Stacks.{Stack, bool_bytes}
use Rattle.def_machine.specs.Effects.{condition}
use Rattle.def_machine.specs.Machine.{Given, State, is_live}
use Rattle.def_height.specs.Course.{down, Course, rise}
use Rattle.ms_acceptance_laws.proofs.StackEffects.{Effect}
use Rattle.ms_acceptance_laws.proofs.UnlimitedMachine.{one_more, free_step, free_steps}
use Rattle.ms_acceptance_laws.proofs.InstructionEffects.{Does, all_taken, opening, side, opens}
use Rattle.ms_acceptance_laws.proofs.RunHeights.{low_end, low_first, low_second, low_behind}
use Rattle.ms_acceptance_laws.proofs.WithinCourse.{Keeps, Follows, parted}
use Rattle.ms_acceptance_laws.proofs.UntakenBranches.{Still, skips_lead, else_step, else_low}
use Rattle.ms_row_laws.proofs.Outcomes.{bind_split, same_ok}

condition_bool : (b : Bool) (m : Stack) → condition (bool_bytes b ∷ m) ≡ Ok (b, m)
unfolding condition
condition_bool true m = refl
condition_bool false m = refl

-- a branch that is opened by a truth value
record Opened (s t : State) (m : Stack) (taken : Bool) : Type 0 where
  pub main : t.main ≡ m
  pub alt : t.alt ≡ s.alt
  pub branches : t.branches ≡ taken ∷ s.branches

opened_step : (given : Given) (wanted b : Bool) (s t : State) (m : Stack) → is_live s ≡ true → s.main ≡ bool_bytes b ∷ m →
    free_step given (code (opening wanted)) s ≡ Ok t → Opened s t m (side wanted b)
opened_step given wanted b s t m live is h =
    let u : State = record (one_more s) { main = m; branches = (if wanted then b else not b) ∷ s.branches } in
    let e : u ≡ t =
    same_ok u t
    (sym (opens given wanted s.branches live s
    ∙ ap (λ (r : OrFault (Bool × Stack)). r >>= λ top. Ok (record (one_more s) { main = top.1; branches = (if wanted then top.0 else not top.0) ∷ s.branches }))
    (ap condition is ∙ condition_bool b m)) ∙ h) in
    subst (λ (u : State). Opened s u m (side wanted b)) e (record { main = refl; alt = refl; branches = refl })

open_is_live : (taken : Bool) (branches : List Bool) → taken ≡ true → all_taken branches ≡ true → all_taken (taken ∷ branches) ≡ true
open_is_live true branches e live = live
open_is_live false branches e live = absurd (false≢true e)

open_is_dead : (taken : Bool) (branches : List Bool) → taken ≡ false → all_taken (taken ∷ branches) ≡ false
open_is_dead true branches e = absurd (false≢true (sym e))
open_is_dead false branches e = refl

module _ (given : Given) (wanted b : Bool) (course : Course) (m : Stack) where
  -- the former branch, the latter skipped
  pub else_taken : (x y : List Instruction) (to : Stack) → side wanted b ≡ true → Follows given x course m to → Still given y →
      Keeps given (code (opening wanted) ∷ (x ++ code op.Else ∷ (y ++ code op.EndIf ∷ []))) (down 1 ∷ course) (bool_bytes b ∷ m)
  else_taken x y to taken p q = record {
    low = λ s live is n h. (
      omega (arith, h),
      λ u e.
          let o = opened_step given wanted b s u m live is e in
          let in_x = ap all_taken o.branches ∙ open_is_live (side wanted b) s.branches taken live in
          let low = p.keeps.low u in_x o.main n (omega (arith, h, ap length is, ap length o.main, ap length o.alt)) in
          else_low given x y u n low
          (λ t v f i.
          let l = p.ends u t in_x o.main f in
          let w = else_step given t v (side wanted b) s.branches (l.branches ∙ o.branches) i in
          q.low v (ap all_taken w.2 ∙ open_is_dead (not (side wanted b)) s.branches (ap not taken)) n
          (omega (arith, low_end given x u t n low f, ap length w.0, ap length w.1))),
    );
    high = λ s t live is e n h.
        let u = bind_split (free_step given (code (opening wanted)) s) _ t e in
        let o = opened_step given wanted b s u.0 m live is u.1 in
        let in_x = ap all_taken o.branches ∙ open_is_live (side wanted b) s.branches taken live in
        let v = parted given x (code op.Else ∷ (y ++ code op.EndIf ∷ [])) u.0 t u.2 in
        let top = p.keeps.high u.0 v.0 in_x o.main v.1 n (low_first given x (code op.Else ∷ (y ++ code op.EndIf ∷ [])) u.0 n (h.1 u.0 u.1)) in
        omega (arith, h.0, top, ap length is, ap length o.main, ap length o.alt);
  }

  -- the former skipped, and the latter branch
  pub else_passed : (x y : List Instruction) (f : Effect) → side wanted b ≡ false → Does given x f → Still given x → Keeps given y course m →
      Keeps given (code (opening wanted) ∷ (x ++ code op.Else ∷ (y ++ code op.EndIf ∷ []))) (down 1 ∷ course) (bool_bytes b ∷ m)
  else_passed x y f passed does p q = record {
    low = λ s live is n h. (
      omega (arith, h),
      λ u e.
          let o = opened_step given wanted b s u m live is e in
          let out_x = ap all_taken o.branches ∙ open_is_dead (side wanted b) s.branches passed in
          else_low given x y u n (p.low u out_x n (omega (arith, h, ap length is, ap length o.main, ap length o.alt)))
          (λ t v k i.
          let l = skips_lead given x f does u t out_x k in
          let w = else_step given t v (side wanted b) s.branches (l.branches ∙ o.branches) i in
          q.low v (ap all_taken w.2 ∙ open_is_live (not (side wanted b)) s.branches (ap not passed) live) (w.0 ∙ l.main ∙ o.main) n
          (omega (arith, h, ap length is, ap length (w.0 ∙ l.main ∙ o.main), ap length (w.1 ∙ l.alt ∙ o.alt)))),
    );
    high = λ s t live is e n h.
        let last : List Instruction = y ++ code op.EndIf ∷ [] in
        let u = bind_split (free_step given (code (opening wanted)) s) _ t e in
        let o = opened_step given wanted b s u.0 m live is u.1 in
        let out_x = ap all_taken o.branches ∙ open_is_dead (side wanted b) s.branches passed in
        let v = parted given x (code op.Else ∷ last) u.0 t u.2 in
        let l = skips_lead given x f does u.0 v.0 out_x v.1 in
        let z = bind_split (free_step given (code op.Else) v.0) (free_steps given last) t v.2 in
        let w = else_step given v.0 z.0 (side wanted b) s.branches (l.branches ∙ o.branches) z.1 in
        let r = parted given y (code op.EndIf ∷ []) z.0 t z.2 in
        let behind = low_second given x (code op.Else ∷ last) u.0 v.0 n (h.1 u.0 u.1) v.1 in
        let top =
        q.high z.0 r.0 (ap all_taken w.2 ∙ open_is_live (not (side wanted b)) s.branches (ap not passed) live) (w.0 ∙ l.main ∙ o.main) r.1 n
        (low_first given y (code op.EndIf ∷ []) z.0 n (behind.1 z.0 z.1)) in
        omega (arith, h.0, top, ap length is, ap length (w.0 ∙ l.main ∙ o.main), ap length (w.1 ∙ l.alt ∙ o.alt));
  }

  -- one branch, with none behind it
  pub only_taken : (x : List Instruction) → side wanted b ≡ true → Keeps given x course m →
      Keeps given (code (opening wanted) ∷ (x ++ code op.EndIf ∷ [])) (down 1 ∷ course) (bool_bytes b ∷ m)
  only_taken x taken p = record {
    low = λ s live is n h. (
      omega (arith, h),
      λ u e.
          let o = opened_step given wanted b s u m live is e in
          low_behind given x (code op.EndIf ∷ []) u n refl
          (p.low u (ap all_taken o.branches ∙ open_is_live (side wanted b) s.branches taken live) o.main n (omega (arith, h, ap length is, ap length o.main, ap length o.alt))),
    );
    high = λ s t live is e n h.
        let u = bind_split (free_step given (code (opening wanted)) s) _ t e in
        let o = opened_step given wanted b s u.0 m live is u.1 in
        let v = parted given x (code op.EndIf ∷ []) u.0 t u.2 in
        let top =
        p.high u.0 v.0 (ap all_taken o.branches ∙ open_is_live (side wanted b) s.branches taken live) o.main v.1 n
        (low_first given x (code op.EndIf ∷ []) u.0 n (h.1 u.0 u.1)) in
        omega (arith, h.0, top, ap length is, ap length o.main, ap length o.alt);
  }

  pub only_passed : (x : List Instruction) → side wanted b ≡ false → rise course ≡ 0 → Still given x →
      Keeps given (code (opening wanted) ∷ (x ++ code op.EndIf ∷ [])) (down 1 ∷ course) (bool_bytes b ∷ m)
  only_passed x passed level p = record {
    low = λ s live is n h. (
      omega (arith, h),
      λ u e.
          let o = opened_step given wanted b s u m live is e in
          low_behind given x (code op.EndIf ∷ []) u n refl
          (p.low u (ap all_taken o.branches ∙ open_is_dead (side wanted b) s.branches passed) n (omega (arith, h, ap length is, ap length o.main, ap length o.alt))),
    );
    high = λ s t live is e n h. omega (arith, h.0, level);
  }
