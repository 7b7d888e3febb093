-- Instructions of a branch that isn't taken raise nothing.
use Rattle.std.proofs.Common.{◌≡◌, ℕ, ◌+◌, ◌≤◌, not, Bool, true, false, List, [], ◌∷◌, ◌++◌, length, map, Ok, refl, sym, ◌∙◌, ap, subst, arith}
use Rattle.def_hash.specs.declared.HashKind.{HashKind}
use Rattle.def_hash.specs.declared.HashKind.TheVariants as hash_kind
use Rattle.def_script.specs.declared.Op.{Op}
use Rattle.def_script.specs.declared.Op.TheVariants as op
use Rattle.def_script.specs.Bytes.{Bytes}
use Rattle.def_script.specs.Instruction.{Instruction, push, code, opcode_count}
use Rattle.def_script.specs.Verify.{verified}
use Rattle.def_machine.specs.Faults.{◌>>=◌}
use Rattle.def_machine.specs.Machine.{Given, State, is_live, is_branching, height, act, open_branch, turned}
use Rattle.def_tree.specs.declared.Two.TheVariants as kind
use Rattle.def_tree.specs.declared.Wrapper.TheVariants as wrapper
use Rattle.def_tree.specs.Tree.{Tree, Trees, Key, just_0, just_1, pk_k, pk_h, older, after, hash, and_or, two, thresh, multi, wrap, none, more}
use Rattle.def_emit.specs.Emit.{hash_opcode, emit, emit_sum, emit_added}
use Rattle.ms_acceptance_laws.proofs.ScriptRise.{rises}
use Rattle.ms_acceptance_laws.proofs.StackEffects.{Effect}
use Rattle.ms_acceptance_laws.proofs.TreeEffects.{den, den_sum}
use Rattle.ms_acceptance_laws.proofs.UnlimitedMachine.{one_more, free_step, free_steps}
use Rattle.ms_acceptance_laws.proofs.InstructionEffects.{Does, all_taken, opening, skips_from}
use Rattle.ms_acceptance_laws.proofs.ScriptEffects.{and_or_script, or_c_script, or_d_script, or_i_script, does, does_sum}
use Rattle.ms_acceptance_laws.proofs.RunHeights.{IsLow, low_append, low_next, low_end, low_behind, low_verified}
use Rattle.ms_acceptance_laws.proofs.WithinCourse.{Leads}
use Rattle.ms_row_laws.proofs.Outcomes.{same_ok}

-- where a branch isn't taken, the stacks stay as high as they are
pub record Still (given : Given) (c : List Instruction) : Type 0 where
  pub low : (s : State) → is_live s ≡ false → (n : ℕ) → height s ≤ n → IsLow given c s n

-- the stacks and branches that skipped instructions leave
pub skips_lead : (given : Given) (c : List Instruction) (f : Effect) → Does given c f → (s t : State) → is_live s ≡ false → free_steps given c s ≡ Ok t → Leads s t s.main
skips_lead given c f x s t dead h =
    let e : record s { ops = s.ops + opcode_count c } ≡ t = same_ok (record s { ops = s.ops + opcode_count c }) t (sym (skips_from given c f x s dead) ∙ h) in
    subst (λ (u : State). Leads s u s.main) e (record { main = refl; alt = refl; branches = refl })

-- ELSE
pub else_step : (given : Given) (s t : State) (taken : Bool) (branches : List Bool) → s.branches ≡ taken ∷ branches → free_step given (code op.Else) s ≡ Ok t →
    (t.main ≡ s.main) × (t.alt ≡ s.alt) × (t.branches ≡ not taken ∷ branches)
unfolding act turned
else_step given s t taken branches is h =
    let e : record (one_more s) { branches = not taken ∷ branches } ≡ t =
    same_ok (record (one_more s) { branches = not taken ∷ branches }) t
    (sym (ap (λ (b : List Bool). turned b >>= λ branches. Ok (record (one_more s) { branches = branches })) is) ∙ h) in
    (sym (ap (λ (u : State). u.main) e), sym (ap (λ (u : State). u.alt) e), sym (ap (λ (u : State). u.branches) e))

-- two branches, one behind the other
pub else_low : (given : Given) (x y : List Instruction) (s : State) (n : ℕ) → IsLow given x s n →
    ((t u : State) → free_steps given x s ≡ Ok t → free_step given (code op.Else) t ≡ Ok u → IsLow given y u n) →
    IsLow given (x ++ code op.Else ∷ (y ++ code op.EndIf ∷ [])) s n
else_low given x y s n p q =
    low_append given x (code op.Else ∷ (y ++ code op.EndIf ∷ [])) s n p
    (λ t e. (low_end given x s t n p e, λ u f. low_behind given y (code op.EndIf ∷ []) u n refl (q t u e f)))

module _ (given : Given) where
  -- a step that is skipped
  abbrev Skipped : Instruction → Type 0
  Skipped i = (s : State) → is_live s ≡ false → (ops : ℕ) × (free_step given i s ≡ Ok (record s { ops = ops }))

  push_skipped : (bytes : Bytes) → Skipped (push bytes)
  push_skipped bytes s dead = (s.ops, rw dead refl)

  code_skipped : (op : Op) → is_branching op ≡ false → Skipped (code op)
  code_skipped op is s dead = (s.ops + 1, rw (is, dead) refl)

  still_next : (i : Instruction) (c : List Instruction) → Skipped i → Still given c → Still given (i ∷ c)
  still_next i c step x = record {
    low = λ s dead n h.
        let k = step s dead in
        low_next given i c s (record s { ops = k.0 }) n h k.1 (x.low (record s { ops = k.0 }) dead n h);
  }

  still_nothing : Still given []
  still_nothing = record { low = λ s dead n h. h }

  still_append : (c d : List Instruction) (f : Effect) → Does given c f → Still given c → Still given d → Still given (c ++ d)
  still_append c d f does x y = record {
    low = λ s dead n h.
        low_append given c d s n (x.low s dead n h)
        (λ t e.
        let l = skips_lead given c f does s t dead e in
        y.low t (ap all_taken l.branches ∙ dead) n (omega (arith, h, ap length l.main, ap length l.alt)));
  }

  unopened : (wanted : Bool) (s : State) → is_live s ≡ false → free_step given (code (opening wanted)) s ≡ Ok (record s { branches = false ∷ s.branches; ops = s.ops + 1 })
  unfolding act open_branch
  unopened true s dead = rw dead refl
  unopened false s dead = rw dead refl

  still_else : (wanted : Bool) (x y : List Instruction) (f : Effect) → Does given x f → Still given x → Still given y →
      Still given (code (opening wanted) ∷ (x ++ code op.Else ∷ (y ++ code op.EndIf ∷ [])))
  still_else wanted x y f does p q = record {
    low = λ s dead n h.
        let u : State = record s { branches = false ∷ s.branches; ops = s.ops + 1 } in
        low_next given (code (opening wanted)) (x ++ code op.Else ∷ (y ++ code op.EndIf ∷ [])) s u n h (unopened wanted s dead)
        (else_low given x y u n (p.low u refl n h)
        (λ t v e i.
        let l = skips_lead given x f does u t refl e in
        let w = else_step given t v false s.branches l.branches i in
        q.low v (ap all_taken w.2 ∙ dead) n (omega (arith, h, ap length l.main, ap length l.alt, ap length w.0, ap length w.1))));
  }

  still_only : (wanted : Bool) (x : List Instruction) → Still given x → Still given (code (opening wanted) ∷ (x ++ code op.EndIf ∷ []))
  still_only wanted x p = record {
    low = λ s dead n h.
        let u : State = record s { branches = false ∷ s.branches; ops = s.ops + 1 } in
        low_next given (code (opening wanted)) (x ++ code op.EndIf ∷ []) s u n h (unopened wanted s dead)
        (low_behind given x (code op.EndIf ∷ []) u n refl (p.low u refl n h));
  }

  still_behind : (c d : List Instruction) → rises d ≡ 0 → Still given c → Still given (c ++ d)
  still_behind c d flat x = record { low = λ s dead n h. low_behind given c d s n flat (x.low s dead n h) }

  still_verified : (c : List Instruction) → Still given c → Still given (verified c)
  still_verified c x = record { low = λ s dead n h. low_verified given c s n (x.low s dead n h) }

  still_code : (op : Op) (c : List Instruction) → is_branching op ≡ false → Still given c → Still given (code op ∷ c)
  still_code op c is x = still_next (code op) c (code_skipped op is) x

  still_push : (bytes : Bytes) (c : List Instruction) → Still given c → Still given (push bytes ∷ c)
  still_push bytes c x = still_next (push bytes) c (push_skipped bytes) x

  still_pushes : (keys : List Key) (c : List Instruction) → Still given c → Still given (map push keys ++ c)
  still_pushes [] c x = x
  still_pushes (key ∷ keys) c x = still_push key (map push keys ++ c) (still_pushes keys c x)

  hash_is_no_branch : (kind : HashKind) → is_branching (hash_opcode kind) ≡ false
  hash_is_no_branch hash_kind.Sha256 = refl
  hash_is_no_branch other = refl

  mutual
    pub still : (t : Tree) → Still given (emit t)
    still just_0 = still_push _ [] still_nothing
    still just_1 = still_push _ [] still_nothing
    still (pk_k key) = still_push key [] still_nothing
    still (pk_h key) = still_code op.Dup _ refl (still_code op.Hash160 _ refl (still_push _ _ (still_code op.EqualVerify _ refl still_nothing)))
    still (older n) = still_push _ _ (still_code op.CheckSequenceVerify _ refl still_nothing)
    still (after n) = still_push _ _ (still_code op.CheckLockTimeVerify _ refl still_nothing)
    still (hash kind value) =
        still_code op.Size _ refl (still_push _ _ (still_code op.EqualVerify _ refl
        (still_code (hash_opcode kind) _ (hash_is_no_branch kind) (still_push value _ (still_code op.Equal _ refl still_nothing)))))
    still (and_or x y z) =
        subst (Still given) (and_or_script x y z)
        (still_append (emit x) _ (den given x) (does given x) (still x) (still_else false (emit z) (emit y) (den given z) (does given z) (still z) (still y)))
    still (two kind.AndV x y) = still_append (emit x) (emit y) (den given x) (does given x) (still x) (still y)
    still (two kind.AndB x y) = still_behind (emit x ++ emit y) _ refl (still_append (emit x) (emit y) (den given x) (does given x) (still x) (still y))
    still (two kind.OrB x y) = still_behind (emit x ++ emit y) _ refl (still_append (emit x) (emit y) (den given x) (does given x) (still x) (still y))
    still (two kind.OrC x y) =
        subst (Still given) (or_c_script x y)
        (still_append (emit x) _ (den given x) (does given x) (still x) (still_only false (emit y) (still y)))
    still (two kind.OrD x y) =
        subst (Still given) (or_d_script x y)
        (still_append (emit x) _ (den given x) (does given x) (still x) (still_code op.IfDup _ refl (still_only false (emit y) (still y))))
    still (two kind.OrI x y) = subst (Still given) (or_i_script x y) (still_else true (emit x) (emit y) (den given x) (does given x) (still x) (still y))
    still (thresh k xs) =
        still_append (emit_sum xs) _ (den_sum given xs) (does_sum given xs) (still_sum xs) (still_push _ _ (still_code op.Equal _ refl still_nothing))
    still (multi k keys) = still_push _ _ (still_pushes keys _ (still_push _ _ (still_code op.CheckMultiSig _ refl still_nothing)))
    still (wrap wrapper.A x) = still_code op.ToAltStack _ refl (still_behind (emit x) _ refl (still x))
    still (wrap wrapper.S x) = still_code op.Swap _ refl (still x)
    still (wrap wrapper.C x) = still_behind (emit x) _ refl (still x)
    still (wrap wrapper.D x) = still_code op.Dup _ refl (still_only true (emit x) (still x))
    still (wrap wrapper.V x) = still_verified (emit x) (still x)
    still (wrap wrapper.J x) = still_code op.Size _ refl (still_code op.ZeroNotEqual _ refl (still_only true (emit x) (still x)))
    still (wrap wrapper.N x) = still_behind (emit x) _ refl (still x)

    still_sum : (xs : Trees) → Still given (emit_sum xs)
    still_sum none = still_nothing
    still_sum (more x xs) = still_append (emit x) (emit_added xs) (den given x) (does given x) (still x) (still_added xs)

    still_added : (xs : Trees) → Still given (emit_added xs)
    still_added none = still_nothing
    still_added (more x xs) = still_append (emit x) _ (den given x) (does given x) (still x) (still_code op.Add _ refl (still_added xs))
