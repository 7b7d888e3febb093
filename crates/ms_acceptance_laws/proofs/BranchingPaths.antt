-- The ways of the fragments and wrappers whose Scripts branch, set the top aside, swap or add.
use Rattle.std.proofs.Common.{◌≡◌, ◌≢◌, ℕ, ◌+◌, ◌-◌, ◌≤◌, Bool, true, false, List, [], ◌∷◌, ◌++◌, length, Ok, ℤ, refl, sym, ◌∙◌, ap, subst, inl, inr, append_assoc, arith}
use Rattle.std.specs.Prelude.{◌+ℤ◌}
use Rattle.def_hash.specs.declared.HashKind.{HashKind}
use Rattle.def_hash.specs.declared.HashKind.TheVariants as hash_kind
use Rattle.def_hash.specs.Hash.{digest_of}
use Rattle.def_script.specs.declared.Op.TheVariants as op
use Rattle.def_script.specs.Bytes.{Bytes}
use Rattle.def_script.specs.Instruction.{Instruction, push, code}
use Rattle.def_script.specs.Numbers.{natural_bytes, number_bytes}
use Rattle.def_machine.specs.Faults.{OrFault, ◌>>=◌}
use Rattle.def_machine.specs.Stacks.{Stack, bool_bytes}
use Rattle.def_machine.specs.Effects.{to_alt_stack, dup, if_dup, swap, size, equal, verify, zero_not_equal, add, hash, two_numbers, operand}
use Rattle.def_machine.specs.Machine.{Given, State, is_live, act}
use Rattle.def_types.specs.declared.Base.{Base}
use Rattle.def_types.specs.declared.Base.TheVariants.{B, V, K, W}
use Rattle.def_emit.specs.Emit.{push_number, hash_opcode}
use Rattle.def_satisfaction.specs.Rows.{EMPTY, ONE, HasTop}
use Rattle.def_height.specs.Course.{up, down, Course, rise}
use Rattle.def_height.specs.Formal.{Way, then}
use Rattle.def_height.proofs.Courses.{ups, downs, rise_append, rise_ends}
use Rattle.ms_acceptance_laws.proofs.RowWays.{is, followed}
use Rattle.ms_acceptance_laws.proofs.StackEffects.{Left, Effect, both, plain, silent, pushes, left}
use Rattle.ms_acceptance_laws.proofs.StackValues.{zero_not_equal-natural}
use Rattle.ms_acceptance_laws.proofs.ForwardBases.{Beside, Short, split}
use Rattle.ms_acceptance_laws.proofs.ForwardFragments.{swapped, sized, some_length}
use Rattle.ms_acceptance_laws.proofs.UnlimitedMachine.{reached, one_more, free_step, free_steps}
use Rattle.ms_acceptance_laws.proofs.InstructionEffects.{Does, all_taken, goes_from, push_does}
use Rattle.ms_acceptance_laws.proofs.SignatureOpcodes.{equal_verify_does}
use Rattle.ms_acceptance_laws.proofs.ScriptEffects.{then_does, hash_does, if_dup_does, dup_does, swap_does, size_does, zero_not_equal_does, add_does}
use Rattle.ms_acceptance_laws.proofs.RunHeights.{low_first, low_behind}
use Rattle.ms_acceptance_laws.proofs.WithinCourse.{Keeps, Follows, does_follow, one_follows, parted, then_keeps, keeps_pushes, keeps_from}
use Rattle.ms_acceptance_laws.proofs.UntakenBranches.{Still}
use Rattle.ms_acceptance_laws.proofs.BranchCourses.{else_taken, else_passed, only_taken, only_passed}
use Rattle.ms_acceptance_laws.proofs.SimplePaths.{Path, Child, b_not_w, k_not_w, v_not_w, followed_path, on_follows, path_keeps, both_items, unit_then, unit_end, begun_path, led_path, is_path}
use Rattle.ms_row_laws.proofs.RunLog.{quiet}
use Rattle.ms_row_laws.proofs.Outcomes.{bind_split, same_ok}

-- single opcodes
module _ (given : Given) (m : Stack) where
  plain_follows : (i : Instruction) (f : Stack → OrFault Stack) (course : Course) (from to : Stack) → Does given (i ∷ []) (plain f) → f from ≡ Ok to →
      length from + ups course ≡ length to + downs course → rise course ≤ ups course - downs course → Follows given (i ∷ []) course from to
  plain_follows i f course from to does is = one_follows given i (plain f) course from to quiet does (ap (λ (r : OrFault Stack). r >>= silent) is)

  if_dup_one_follows : Follows given (code op.IfDup ∷ []) (up 1 ∷ []) (ONE ∷ m) (ONE ∷ ONE ∷ m)
  unfolding if_dup
  if_dup_one_follows = plain_follows (code op.IfDup) if_dup (up 1 ∷ []) (ONE ∷ m) (ONE ∷ ONE ∷ m) (if_dup_does given) refl (omega arith) (omega arith)

  if_dup_empty_follows : Follows given (code op.IfDup ∷ []) (up 0 ∷ []) (EMPTY ∷ m) (EMPTY ∷ m)
  unfolding if_dup
  if_dup_empty_follows = plain_follows (code op.IfDup) if_dup (up 0 ∷ []) (EMPTY ∷ m) (EMPTY ∷ m) (if_dup_does given) refl (omega arith) (omega arith)

  dup_follows : (x : Bytes) → Follows given (code op.Dup ∷ []) (up 1 ∷ []) (x ∷ m) (x ∷ x ∷ m)
  unfolding dup
  dup_follows x = plain_follows (code op.Dup) dup (up 1 ∷ []) (x ∷ m) (x ∷ x ∷ m) (dup_does given) refl (omega arith) (omega arith)

  swap_follows : (x y : Bytes) → Follows given (code op.Swap ∷ []) (up 0 ∷ []) (x ∷ y ∷ m) (y ∷ x ∷ m)
  swap_follows x y = plain_follows (code op.Swap) swap (up 0 ∷ []) (x ∷ y ∷ m) (y ∷ x ∷ m) (swap_does given) (swapped x y m) (omega arith) (omega arith)

  hash_follows : (k : HashKind) (x : Bytes) → Follows given (code (hash_opcode k) ∷ []) (up 0 ∷ []) (x ∷ m) (digest_of k x ∷ m)
  unfolding hash
  hash_follows k x = plain_follows (code (hash_opcode k)) (hash k) (up 0 ∷ []) (x ∷ m) (digest_of k x ∷ m) (hash_does given k) refl (omega arith) (omega arith)

  size_follows : (x : Bytes) → Follows given (code op.Size ∷ []) (up 1 ∷ []) (x ∷ m) (natural_bytes (length x) ∷ x ∷ m)
  size_follows x = plain_follows (code op.Size) size (up 1 ∷ []) (x ∷ m) (natural_bytes (length x) ∷ x ∷ m) (size_does given) (sized x m) (omega arith) (omega arith)

  nonzero_follows : (v : Bytes) (b : Bool) → zero_not_equal (v ∷ m) ≡ Ok (bool_bytes b ∷ m) → Follows given (code op.ZeroNotEqual ∷ []) (up 0 ∷ []) (v ∷ m) (bool_bytes b ∷ m)
  nonzero_follows v b is = plain_follows (code op.ZeroNotEqual) zero_not_equal (up 0 ∷ []) (v ∷ m) (bool_bytes b ∷ m) (zero_not_equal_does given) is (omega arith) (omega arith)

-- SIZE 32 EQUALVERIFY leaves 32 bytes as they are
measured : (x : Bytes) (m : Stack) → length x ≡ 32 →
    both (plain size) (both (pushes (natural_bytes 32)) (both (plain equal) (plain verify))) (x ∷ m) ≡ Ok (left (x ∷ m) quiet)
unfolding size equal verify
measured x m e = rw e refl

pub hash_path : (given : Given) (kind : HashKind) (value x : Bytes) (w : Stack) → length x ≡ 32 → w ≡ x ∷ [] →
    Path given B (code op.Size ∷ push_number 32 ∷ code op.EqualVerify ∷ code (hash_opcode kind) ∷ push value ∷ code op.Equal ∷ [])
    (is 1 (up 1 ∷ up 1 ∷ down 2 ∷ up 0 ∷ up 1 ∷ down 1 ∷ [])) w
hash_path given kind value x w long e =
    is_path B 1 (up 1 ∷ up 1 ∷ down 2 ∷ up 0 ∷ up 1 ∷ down 1 ∷ []) w b_not_w (ap length e) _
    (λ rest. keeps_from (ap (λ (v : Stack). v ++ rest) e)
    (then_keeps
    (does_follow given (code op.Size ∷ push_number 32 ∷ code op.EqualVerify ∷ []) _ (up 1 ∷ up 1 ∷ down 2 ∷ []) (x ∷ rest) (x ∷ rest) quiet
    (then_does given (size_does given) (then_does given (push_does given (natural_bytes 32)) (equal_verify_does given)))
    (measured x rest long) (omega arith)
    (then_keeps (size_follows given rest x) (keeps_pushes given (natural_bytes 32 ∷ []) (code op.EqualVerify ∷ []) (up 1 ∷ down 2 ∷ []) _ refl refl)))
    (then_keeps (hash_follows given rest kind x) (keeps_pushes given (value ∷ []) (code op.Equal ∷ []) (up 1 ∷ down 1 ∷ []) _ refl refl))))

-- `pk_h`
pub pk_h_path : (given : Given) (value other : Bytes) (w above below : Stack) → w ≡ above ++ below → above ≡ other ∷ [] → length below ≡ 1 →
    Path given K (code op.Dup ∷ code op.Hash160 ∷ push value ∷ code op.EqualVerify ∷ []) (is 2 (up 1 ∷ up 0 ∷ up 1 ∷ down 2 ∷ [])) w
pk_h_path given value other w above below e i one =
    is_path K 2 (up 1 ∷ up 0 ∷ up 1 ∷ down 2 ∷ []) w k_not_w (both_items w above below 1 1 2 e (ap length i) one refl) _
    (λ rest. keeps_from (ap (λ (v : Stack). v ++ rest) (e ∙ ap (λ (v : Stack). v ++ below) i))
    (then_keeps (dup_follows given (below ++ rest) other)
    (then_keeps (hash_follows given (other ∷ (below ++ rest)) hash_kind.Hash160 other) (keeps_pushes given (value ∷ []) (code op.EqualVerify ∷ []) (up 1 ∷ down 2 ∷ []) _ refl refl))))

-- `andor`
pub and_or_true_path : {given : Given} {base : Base} {cx cy cz : List Instruction} {x y : Way} {above below : Stack} → (h : Effect) (w : Stack) → (base ≢ W)
    → w ≡ above ++ below →
    Child given B true true cx x above → Path given base cy y below → Does given cz h → Still given cz →
    Path given base (cx ++ (code op.NotIf ∷ (cz ++ code op.Else ∷ (cy ++ code op.EndIf ∷ [])))) (then (followed x (down 1 ∷ [])) y) w
and_or_true_path {given} {base} {cy = cy} {cz = cz} {y = y} {below = below} h w n e p q does still =
    unit_then base w below n e p (down 1 ∷ []) y q.items _
    (λ rest. else_passed given false true y.course (below ++ rest) cz cy h refl does still (path_keeps n q rest))

pub and_or_false_path : {given : Given} {base : Base} {u b : Bool} {cx cy cz : List Instruction} {x z : Way} {above below : Stack} → (w : Stack) → (base ≢ W)
    → w ≡ above ++ below →
    Child given B true false cx x above → Child given base u b cz z below → Still given cy →
    Path given base (cx ++ (code op.NotIf ∷ (cz ++ code op.Else ∷ (cy ++ code op.EndIf ∷ [])))) (then (followed x (down 1 ∷ [])) z) w
and_or_false_path {given} {base} {cy = cy} {cz = cz} {z = z} {below = below} w n e p q still =
    unit_then base w below n e p (down 1 ∷ []) z q.items _
    (λ rest. let f = on_follows n q rest in else_taken given false false z.course (below ++ rest) cz cy f.0 refl f.1 still)

-- `or_c`
pub or_c_true_path : {given : Given} {cx cz : List Instruction} {x : Way} {w : Stack} → Child given B true true cx x w → Still given cz →
    Path given V (cx ++ (code op.NotIf ∷ (cz ++ code op.EndIf ∷ []))) (followed x (down 1 ∷ [])) w
or_c_true_path {given} {cz = cz} p still = unit_end V v_not_w p (down 1 ∷ []) _ (λ rest. only_passed given false true [] rest cz refl refl still)

pub or_c_false_path : {given : Given} {cx cz : List Instruction} {x z : Way} {above below : Stack} → (w : Stack) → w ≡ above ++ below
    → Child given B true false cx x above → Path given V cz z below →
    Path given V (cx ++ (code op.NotIf ∷ (cz ++ code op.EndIf ∷ []))) (then (followed x (down 1 ∷ [])) z) w
or_c_false_path {given} {cz = cz} {z = z} {below = below} w e p q =
    unit_then V w below v_not_w e p (down 1 ∷ []) z q.items _ (λ rest. only_taken given false false z.course (below ++ rest) cz refl (q.keeps rest))

-- `or_d`
pub or_d_true_path : {given : Given} {cx cz : List Instruction} {x : Way} {w : Stack} → Child given B true true cx x w → Still given cz →
    Path given B (cx ++ (code op.IfDup ∷ code op.NotIf ∷ (cz ++ code op.EndIf ∷ []))) (followed x (up 1 ∷ down 1 ∷ [])) w
or_d_true_path {given} {cz = cz} p still =
    unit_end B b_not_w p (up 1 ∷ down 1 ∷ []) _
    (λ rest. then_keeps (if_dup_one_follows given rest) (only_passed given false true [] (ONE ∷ rest) cz refl refl still))

pub or_d_false_path : {given : Given} {cx cz : List Instruction} {x z : Way} {above below : Stack} → (w : Stack) → w ≡ above ++ below
    → Child given B true false cx x above → Path given B cz z below →
    Path given B (cx ++ (code op.IfDup ∷ code op.NotIf ∷ (cz ++ code op.EndIf ∷ []))) (then (followed x (up 0 ∷ down 1 ∷ [])) z) w
or_d_false_path {given} {cz = cz} {z = z} {below = below} w e p q =
    unit_then B w below b_not_w e p (up 0 ∷ down 1 ∷ []) z q.items _
    (λ rest. then_keeps (if_dup_empty_follows given (below ++ rest)) (only_taken given false false z.course (below ++ rest) cz refl (q.keeps rest)))

-- `or_i`
pub or_i_true_path : {given : Given} {base : Base} {u b : Bool} {cx cz : List Instruction} {x : Way} {below : Stack} → (w above : Stack) → (base ≢ W)
    → w ≡ above ++ below → above ≡ ONE ∷ [] →
    Child given base u b cx x below → Still given cz → Path given base (code op.If ∷ (cx ++ code op.Else ∷ (cz ++ code op.EndIf ∷ [])))
    (then (is 1 (down 1 ∷ [])) x) w
or_i_true_path {given} {base} {cx = cx} {cz = cz} {x = x} {below = below} w above n e i p still =
    begun_path base w above below ONE n e i (down 1 ∷ []) x p.items _
    (λ rest. let f = on_follows n p rest in else_taken given true true x.course (below ++ rest) cx cz f.0 refl f.1 still)

pub or_i_false_path : {given : Given} {base : Base} {cx cz : List Instruction} {z : Way} {below : Stack} → (f : Effect) (w above : Stack) → (base ≢ W)
    → w ≡ above ++ below → above ≡ EMPTY ∷ [] →
    Path given base cz z below → Does given cx f → Still given cx → Path given base (code op.If ∷ (cx ++ code op.Else ∷ (cz ++ code op.EndIf ∷ [])))
    (then (is 1 (down 1 ∷ [])) z) w
or_i_false_path {given} {base} {cx} {cz} {z} {below} f w above n e i p does still =
    begun_path base w above below EMPTY n e i (down 1 ∷ []) z p.items _
    (λ rest. else_passed given true false z.course (below ++ rest) cx cz f refl does still (path_keeps n p rest))

-- `d:X`
pub wrap_d_sat_path : {given : Given} {cx : List Instruction} {x : Way} {below : Stack} → (w above : Stack) → w ≡ above ++ below → above ≡ ONE ∷ []
    → below ≡ [] → Path given V cx x below →
    Path given B (code op.Dup ∷ code op.If ∷ (cx ++ code op.EndIf ∷ [])) (then (is 1 (up 1 ∷ down 1 ∷ [])) x) w
wrap_d_sat_path {given} {cx} {x} {below} w above e i none p =
    begun_path B w above below ONE b_not_w e i (up 1 ∷ down 1 ∷ []) x p.items _
    (λ rest.
    then_keeps (dup_follows given (below ++ rest) ONE)
    (only_taken given true true x.course (ONE ∷ (below ++ rest)) cx refl
    (keeps_from (ap (λ (v : Stack). ONE ∷ (v ++ rest)) none ∙ sym (ap (λ (v : Stack). v ++ (ONE ∷ rest)) none)) (p.keeps (ONE ∷ rest)))))

pub wrap_d_dsat_path : {given : Given} {cx : List Instruction} → (w : Stack) → w ≡ EMPTY ∷ [] → Still given cx →
    Path given B (code op.Dup ∷ code op.If ∷ (cx ++ code op.EndIf ∷ [])) (is 1 (up 1 ∷ down 1 ∷ [])) w
wrap_d_dsat_path {given} {cx} w e still =
    is_path B 1 (up 1 ∷ down 1 ∷ []) w b_not_w (ap length e) _
    (λ rest. keeps_from (ap (λ (v : Stack). v ++ rest) e) (then_keeps (dup_follows given rest EMPTY) (only_passed given true false [] (EMPTY ∷ rest) cx refl refl still)))

-- `j:X`
pub wrap_j_sat_path : {given : Given} {cx : List Instruction} {x : Way} {w : Stack} → HasTop w → Short w → Path given B cx x w →
    Path given B (code op.Size ∷ code op.ZeroNotEqual ∷ code op.If ∷ (cx ++ code op.EndIf ∷ [])) (then (is 0 (up 1 ∷ up 0 ∷ down 1 ∷ [])) x) w
wrap_j_sat_path {given} {cx} {x} {w} (top, m, same, some) short p =
    let s : Short (top ∷ m) = subst Short same short in
    led_path B w b_not_w (up 1 ∷ up 0 ∷ down 1 ∷ []) x p.items _
    (λ rest.
    let e : w ++ rest ≡ top ∷ (m ++ rest) = ap (λ (v : Stack). v ++ rest) same in
    keeps_from e
    (then_keeps (size_follows given (m ++ rest) top)
    (then_keeps
    (nonzero_follows given (top ∷ (m ++ rest)) (natural_bytes (length top)) true
    (zero_not_equal-natural (length top) (top ∷ (m ++ rest)) s.0 ∙ ap (λ (c : Bool). Ok (bool_bytes c ∷ top ∷ (m ++ rest))) (some_length top some)))
    (only_taken given true true x.course (top ∷ (m ++ rest)) cx refl (keeps_from (sym e) (p.keeps rest))))))

pub wrap_j_dsat_path : {given : Given} {cx : List Instruction} → (w : Stack) → w ≡ EMPTY ∷ [] → Still given cx →
    Path given B (code op.Size ∷ code op.ZeroNotEqual ∷ code op.If ∷ (cx ++ code op.EndIf ∷ [])) (is 1 (up 1 ∷ up 0 ∷ down 1 ∷ [])) w
wrap_j_dsat_path {given} {cx} w e still =
    is_path B 1 (up 1 ∷ up 0 ∷ down 1 ∷ []) w b_not_w (ap length e) _
    (λ rest. keeps_from (ap (λ (v : Stack). v ++ rest) e)
    (then_keeps (size_follows given rest EMPTY)
    (then_keeps (nonzero_follows given (EMPTY ∷ rest) EMPTY false (zero_not_equal-natural 0 (EMPTY ∷ rest) (omega arith))) (only_passed given true false [] (EMPTY ∷ rest) cx refl refl still))))

-- `a:X`
record IsAside (s t : State) (x : Bytes) (m : Stack) : Type 0 where
  pub main : t.main ≡ m
  pub alt : t.alt ≡ x ∷ s.alt
  pub branches : t.branches ≡ s.branches

aside_step : (given : Given) (s t : State) (x : Bytes) (m : Stack) → is_live s ≡ true → s.main ≡ x ∷ m → free_step given (code op.ToAltStack) s ≡ Ok t → IsAside s t x m
unfolding act to_alt_stack
aside_step given s t x m live is h =
    let u : State = record (one_more s) { main = m; alt = x ∷ s.alt } in
    let step : free_step given (code op.ToAltStack) s ≡ Ok u =
    rw live (ap (λ (main : Stack). to_alt_stack main s.alt >>= λ stacks. Ok (record (one_more s) { main = stacks.0; alt = stacks.1 })) is) in
    subst (λ (v : State). IsAside s v x m) (same_ok u t (sym step ∙ h)) (record { main = refl; alt = refl; branches = refl })

pub wrap_a_path : {given : Given} {cx : List Instruction} {v : Way} {w : Stack} → Path given B cx v w →
    Path given W (code op.ToAltStack ∷ (cx ++ code op.FromAltStack ∷ [])) (then (is 0 (up 0 ∷ [])) (followed v (up 0 ∷ []))) w
wrap_a_path {given} {cx} {v} {w} p = record {
  items = omega (arith, p.items);
  keeps = λ x rest. record {
    low = λ s live at n h. (
      omega (arith, h),
      λ t e.
          let o = aside_step given s t x (w ++ rest) live at e in
          low_behind given cx (code op.FromAltStack ∷ []) t n refl
          ((p.keeps rest).low t (ap all_taken o.branches ∙ live) o.main n
          (omega (arith, h, rise_append v.course (up 0 ∷ []), ap length at, ap length o.main, ap length o.alt))),
    );
    high = λ s t live at e n h.
        let u = bind_split (free_step given (code op.ToAltStack) s) _ t e in
        let o = aside_step given s u.0 x (w ++ rest) live at u.1 in
        let r = parted given cx (code op.FromAltStack ∷ []) u.0 t u.2 in
        let top = (p.keeps rest).high u.0 r.0 (ap all_taken o.branches ∙ live) o.main r.1 n
        (low_first given cx (code op.FromAltStack ∷ []) u.0 n (h.1 u.0 u.1)) in
        omega (arith, top, rise_append v.course (up 0 ∷ []), rise_ends v.course, ap length at, ap length o.main, ap length o.alt);
  };
}

-- `s:X`
pub wrap_s_path : {given : Given} {cx : List Instruction} {v : Way} {w : Stack} → (item : Bytes) → w ≡ item ∷ [] → Path given B cx v w
    → Path given W (code op.Swap ∷ cx) (then (is 0 (up 0 ∷ [])) v) w
wrap_s_path {given} item e p = record {
  items = omega (arith, p.items);
  keeps = λ x rest. keeps_from (ap (λ (v : Stack). x ∷ (v ++ rest)) e) (then_keeps (swap_follows given rest x item) (keeps_from (sym (ap (λ (v : Stack). v ++ (x ∷ rest)) e)) (p.keeps (x ∷ rest))));
}

-- the first child of a threshold, and those behind it
pub first_path : {given : Given} {b : Bool} {cx c : List Instruction} {x y : Way} {above below : Stack} → (w : Stack) → w ≡ above ++ below →
    Child given B true b cx x above → Path given W c y below → Path given B (cx ++ c) (then (followed x []) y) w
first_path {b = b} {c = c} {y = y} {below = below} w e p q = unit_then B w below b_not_w e p [] y q.items c (λ rest. q.keeps (bool_bytes b) rest)

-- ADD leaves one element of two
two_on : (x v : Bytes) (s r : Stack) → Beside x v s r → (y : Bytes) × (z : Bytes) × (r ≡ y ∷ z ∷ s)
two_on x v s r (inl e) = (x, v, e)
two_on x v s r (inr e) = (v, x, e)

sum_leaves : (y x : Bytes) (m end : Stack) → add (y ∷ x ∷ m) ≡ Ok end → (z : Bytes) × (end ≡ z ∷ m)
unfolding add two_numbers
sum_leaves y x m end h =
    let taken = bind_split (two_numbers (y ∷ x ∷ m)) _ end h in
    let b = bind_split (operand 4 y) _ taken.0 taken.1 in
    let a = bind_split (operand 4 x) _ taken.0 b.2 in
    let z : Bytes = number_bytes (taken.0.0 +ℤ taken.0.1) in
    (z, sym (same_ok (z ∷ taken.0.2) end taken.2) ∙ ap (λ (s : Stack). z ∷ s) (sym (ap (λ (t : ℤ × ℤ × Stack). t.2) (same_ok (a.0, b.0, m) taken.0 a.2))))

record IsSum (s t : State) (m : Stack) : Type 0 where
  pub sum : Bytes
  pub main : t.main ≡ sum ∷ m
  pub alt : t.alt ≡ s.alt
  pub branches : t.branches ≡ s.branches

add_step : (given : Given) (s t : State) (y x : Bytes) (m : Stack) → is_live s ≡ true → s.main ≡ y ∷ x ∷ m → free_step given (code op.Add) s ≡ Ok t → IsSum s t m
add_step given s t y x m live is h =
    let moved : (plain add s.main >>= λ left. Ok (reached s 1 left)) ≡ Ok t =
    sym (goes_from given (code op.Add ∷ []) (plain add) (add_does given) s live) ∙ ap (λ (r : OrFault State). r >>= free_steps given []) h in
    let l = bind_split (plain add s.main) _ t moved in
    let m = bind_split (add s.main) _ l.0 l.1 in
    let z = sum_leaves y x _ m.0 (sym (ap add is) ∙ m.1) in
    let e = same_ok (reached s 1 l.0) t l.2 in
    record {
      sum = z.0;
      main = sym (ap (λ (v : State). v.main) e) ∙ sym (ap (λ (v : Left). v.main) (same_ok _ l.0 m.2)) ∙ z.1;
      alt = sym (ap (λ (v : State). v.alt) e);
      branches = sym (ap (λ (v : State). v.branches) e);
    }

add_keeps : (given : Given) (d : List Instruction) (course : Course) (y x : Bytes) (m : Stack) → ((z : Bytes) → Keeps given d course (z ∷ m))
    → Keeps given (code op.Add ∷ d) (down 1 ∷ course) (y ∷ x ∷ m)
add_keeps given d course y x m p = record {
  low = λ s live is n h. (
    omega (arith, h),
    λ t e.
        let o = add_step given s t y x m live is e in
        (p o.sum).low t (ap all_taken o.branches ∙ live) o.main n (omega (arith, h, ap length is, ap length o.main, ap length o.alt)),
  );
  high = λ s t live is e n h.
      let u = bind_split (free_step given (code op.Add) s) (free_steps given d) t e in
      let o = add_step given s u.0 y x m live is u.1 in
      let top = (p o.sum).high u.0 t (ap all_taken o.branches ∙ live) o.main u.2 n (h.1 u.0 u.1) in
      omega (arith, h.0, top, ap length is, ap length o.main, ap length o.alt);
}

-- a further child, and those behind it
pub added_path : {given : Given} {u b : Bool} {cx c : List Instruction} {x y : Way} {above below : Stack} → (w : Stack) → w ≡ above ++ below →
    Child given W u b cx x above → Path given W c y below → Path given W (cx ++ code op.Add ∷ c) (then (followed x (down 1 ∷ [])) y) w
added_path {given} {cx = cx} {c = c} {x = x} {y = y} {above = above} {below = below} w e p q = record {
  items = both_items w above below x.items y.items (x.items + 0 + y.items) e p.items q.items (omega arith);
  keeps = λ a rest.
      let i = p.follows a (below ++ rest) in
      let two = two_on a i.0 (below ++ rest) i.1 i.2 in
      keeps_from (ap (λ (v : Stack). a ∷ v) (split w above below rest e))
      (subst (λ (course : Course). Keeps given (cx ++ code op.Add ∷ c) course (a ∷ (above ++ (below ++ rest))))
      (sym (append_assoc x.course (down 1 ∷ []) y.course))
      (then_keeps i.3 (keeps_from two.2 (add_keeps given c y.course two.0 two.1 (below ++ rest) (λ z. q.keeps z rest)))));
}

-- no children
pub none_path : (given : Given) (w : Stack) → w ≡ [] → Path given W [] (is 0 []) w
none_path given w e = record {
  items = ap length e;
  keeps = λ x rest. record { low = λ s live at n h. omega (arith, h); high = λ s t live at e n h. omega (arith, h) };
}

-- and the comparison with the number of those that must be satisfied
pub thresh_path : {given : Given} {c : List Instruction} {v : Way} {w : Stack} → (k : ℕ) (p : Path given B c v w)
    → ((rest : Stack) → (top : Bytes) × Follows given c v.course (w ++ rest) (top ∷ rest)) →
    Path given B (c ++ push_number k ∷ code op.Equal ∷ []) (followed v (up 1 ∷ down 1 ∷ [])) w
thresh_path {given} {v = v} {w = w} k p follows =
    followed_path B v w (up 1 ∷ down 1 ∷ []) _ b_not_w p.items
    (λ rest. then_keeps (follows rest).1 (keeps_pushes given (natural_bytes k ∷ []) (code op.Equal ∷ []) (up 1 ∷ down 1 ∷ []) _ refl refl))
