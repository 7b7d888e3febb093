-- What instructions do on the machine without limits: an effect on the main stack where all branches are taken, and
-- nothing where one isn't.
use Rattle.std.proofs.Common.{◌≡◌, ℕ, ◌+◌, not, Bool, true, false, List, [], ◌∷◌, ◌++◌, if◌then◌else◌, Ok, Err, refl, sym, ◌∙◌, ap, subst, append-nil, add-zero, add_assoc, arith}
use Rattle.std.specs.List.{list_all}
use Rattle.def_script.specs.declared.Op.{Op}
use Rattle.def_script.specs.declared.Op.TheVariants as op
use Rattle.def_script.specs.Bytes.{Bytes}
use Rattle.def_script.specs.Instruction.{Instruction, push, code, opcode_count}
use Rattle.def_machine.specs.Faults.{OrFault, ◌>>=◌}
use Rattle.def_machine.specs.Stacks.{Stack}
use Rattle.def_machine.specs.Effects.{condition, to_alt_stack, from_alt_stack}
use Rattle.def_machine.specs.Machine.{Given, State, on_main, is_live, is_branching, opened, open_branch, turned, closed, act}
use Rattle.def_height.proofs.Opcodes.{opcodes_append}
use Rattle.ms_acceptance_laws.proofs.StackEffects.{Left, Effect, both, silent, plain, pushes, choose, chosen, aside, put_back}
use Rattle.ms_acceptance_laws.proofs.UnlimitedMachine.{reached, affect, free_act, free_step, free_steps, one_more}
use Rattle.ms_acceptance_laws.proofs.BranchMoves.{free_steps-append, at, Moves, then_moves, moves_as, silent_both, both_silent, plain_moves, main_moves, silent_moves}
use Rattle.ms_row_laws.proofs.Outcomes.{bind_same, bind_ok}

-- all branches are taken
abbrev pub all_taken : List Bool → Bool
all_taken branches = list_all (λ taken. taken) branches

-- instructions do an effect where all branches are taken, and nothing where one isn't. Their opcodes are counted at any
-- rate, and the branches and the alternative stack are left as they were
pub record Does (given : Given) (c : List Instruction) (f : Effect) : Type 0 where
  pub goes : (branches : List Bool) → all_taken branches ≡ true → Moves (free_steps given c) f (opcode_count c) branches branches
  pub skips : (branches : List Bool) → all_taken branches ≡ false → Moves (free_steps given c) silent (opcode_count c) branches branches

-- IF opens a branch that is taken where the top is true, and NOTIF one that is taken where it is false
abbrev pub opening : Bool → Op
opening true = op.If
opening false = op.NotIf

-- whether the branch opened is taken
abbrev pub side : (wanted top : Bool) → Bool
side wanted top = if wanted then top else not top

-- an effect where a branch is taken, and none where it isn't
abbrev when : Bool → Effect → Effect
when true f = f
when false f = silent

-- one effect in a branch that is taken, and the other in one that isn't
abbrev either : Effect → Effect → Bool → Effect
either f g true = f
either f g false = g

module _ (given : Given) where
  cons_moves : (i : Instruction) (c : List Instruction) (f g : Effect) (n m : ℕ) (from mid to : List Bool) →
      Moves (free_step given i) f n from mid → Moves (free_steps given c) g m mid to → Moves (free_steps given (i ∷ c)) (both f g) (n + m) from to
  cons_moves i c f g n m from mid to x y = then_moves (free_step given i) (free_steps given c) f g n m from mid to x y

  pub one_moves : (i : Instruction) (f : Effect) (n : ℕ) (from to : List Bool) → Moves (free_step given i) f n from to → Moves (free_steps given (i ∷ [])) f n from to
  one_moves i f n from to x = moves_as _ _ f f n n from to (λ s. bind_ok (free_step given i s)) (λ main. refl) refl x

  append_moves : (c d : List Instruction) (f g : Effect) (n m : ℕ) (from mid to : List Bool) →
      Moves (free_steps given c) f n from mid → Moves (free_steps given d) g m mid to → Moves (free_steps given (c ++ d)) (both f g) (n + m) from to
  append_moves c d f g n m from mid to x y =
      moves_as _ _ (both f g) (both f g) (n + m) (n + m) from to (free_steps-append given c d) (λ main. refl) refl (then_moves (free_steps given c) (free_steps given d) f g n m from mid to x y)

  -- the same instructions and the same effect
  pub does_as : (c d : List Instruction) (f g : Effect) → c ≡ d → ((main : Stack) → f main ≡ g main) → Does given c f → Does given d g
  does_as c d f g same alike x = subst (λ (e : List Instruction). Does given e g) same (record {
    goes = λ branches live. moves_as _ _ f g _ _ branches branches (λ s. refl) alike refl (x.goes branches live);
    skips = x.skips;
  })

  pub both_does : (c d : List Instruction) (f g : Effect) → Does given c f → Does given d g → Does given (c ++ d) (both f g)
  both_does c d f g x y = record {
    goes = λ branches live.
        moves_as _ _ (both f g) (both f g) _ _ branches branches (λ s. refl) (λ main. refl) (sym (opcodes_append c d))
        (append_moves c d f g _ _ branches branches branches (x.goes branches live) (y.goes branches live));
    skips = λ branches dead.
        moves_as _ _ (both silent silent) silent _ _ branches branches (λ s. refl) (λ main. refl) (sym (opcodes_append c d))
        (append_moves c d silent silent _ _ branches branches branches (x.skips branches dead) (y.skips branches dead));
  }

  -- an opcode that isn't IF, NOTIF, ELSE or ENDIF
  pub code_skips : (op : Op) (branches : List Bool) → is_branching op ≡ false → all_taken branches ≡ false → Moves (free_steps given (code op ∷ [])) silent 1 branches branches
  code_skips op branches is dead = one_moves (code op) silent 1 branches branches (silent_moves 1 branches branches (free_step given (code op)) (λ s. rw (is, dead) refl))

  pub code_does : (op : Op) (f : Stack → OrFault Stack) → is_branching op ≡ false → ((s : State) → free_act given op s ≡ on_main f s) → Does given (code op ∷ []) (plain f)
  code_does op f is acts = record {
    goes = λ branches live. one_moves (code op) (plain f) 1 branches branches (plain_moves f 1 branches (free_step given (code op)) (λ s. rw (is, live) (acts (at (one_more s) branches))));
    skips = λ branches dead. code_skips op branches is dead;
  }

  pub push_does : (bytes : Bytes) → Does given (push bytes ∷ []) (pushes bytes)
  push_does bytes = record {
    goes = λ branches live. one_moves (push bytes) (pushes bytes) 0 branches branches
        (main_moves (λ main. bytes ∷ main) 0 branches branches (free_step given (push bytes)) (λ s. rw (live, add-zero s.ops) refl));
    skips = λ branches dead. one_moves (push bytes) silent 0 branches branches (silent_moves 0 branches branches (free_step given (push bytes)) (λ s. rw (dead, add-zero s.ops) refl));
  }

  pub nothing_does : Does given [] silent
  nothing_does = record {
    goes = λ branches live. silent_moves 0 branches branches (free_steps given []) (λ s. rw (add-zero s.ops) refl);
    skips = λ branches dead. silent_moves 0 branches branches (free_steps given []) (λ s. rw (add-zero s.ops) refl);
  }

  -- ELSE and ENDIF
  else_moves : (taken : Bool) (branches : List Bool) → Moves (free_step given (code op.Else)) silent 1 (taken ∷ branches) (not taken ∷ branches)
  unfolding act turned
  else_moves taken branches = silent_moves 1 (taken ∷ branches) (not taken ∷ branches) (free_step given (code op.Else)) (λ s. refl)

  end_moves : (taken : Bool) (branches : List Bool) → Moves (free_steps given (code op.EndIf ∷ [])) silent 1 (taken ∷ branches) branches
  unfolding act closed
  end_moves taken branches = one_moves (code op.EndIf) silent 1 (taken ∷ branches) branches (silent_moves 1 (taken ∷ branches) branches (free_step given (code op.EndIf)) (λ s. refl))

  -- IF and NOTIF
  unopened_moves : (wanted : Bool) (branches : List Bool) → all_taken branches ≡ false → Moves (free_step given (code (opening wanted))) silent 1 branches (false ∷ branches)
  unfolding act open_branch
  unopened_moves true branches dead = silent_moves 1 branches (false ∷ branches) (free_step given (code op.If)) (λ s. rw dead refl)
  unopened_moves false branches dead = silent_moves 1 branches (false ∷ branches) (free_step given (code op.NotIf)) (λ s. rw dead refl)

  pub opens : (wanted : Bool) (branches : List Bool) → all_taken branches ≡ true → (s : State) → free_step given (code (opening wanted)) (at s branches) ≡ opened true wanted (at (one_more s) branches)
  unfolding act open_branch
  opens true branches live s = rw live refl
  opens false branches live s = rw live refl

  choice_moves : (wanted : Bool) (c : List Instruction) (h : Bool → Effect) (n : ℕ) (branches : List Bool) → all_taken branches ≡ true →
      ((taken : Bool) → Moves (free_steps given c) (h taken) n (taken ∷ branches) branches) →
      Moves (free_steps given (code (opening wanted) ∷ c)) (choose (h (side wanted true)) (h (side wanted false))) (1 + n) branches branches
  choice_moves wanted c h n branches live x = record { moves = λ s. ap (λ (r : OrFault State). r >>= free_steps given c) (opens wanted branches live s) ∙ go s (condition s.main) }
    where
      same : (s : State) (taken : Bool) (main : Stack) → free_steps given c (at (record s { main = main; ops = s.ops + 1 }) (taken ∷ branches))
          ≡ (h taken main >>= λ left. Ok (at (reached s (1 + n) left) branches))
      same s taken main =
          (x taken).moves (record s { main = main; ops = s.ops + 1 })
          ∙ bind_same (h taken main) _ _ (λ left. rw (add_assoc s.ops 1 n) refl)

      go : (s : State) (r : OrFault (Bool × Stack)) →
          ((r >>= λ top. Ok (record (at (one_more s) branches) { main = top.1; branches = side wanted top.0 ∷ branches })) >>= free_steps given c)
          ≡ ((r >>= chosen (h (side wanted true)) (h (side wanted false))) >>= λ left. Ok (at (reached s (1 + n) left) branches))
      go s (Ok (true, main)) = same s (side wanted true) main
      go s (Ok (false, main)) = same s (side wanted false) main
      go s (Err e) = refl

  -- in a further branch, taken or not
  when_moves : (c : List Instruction) (f : Effect) → Does given c f → (taken : Bool) (branches : List Bool) → all_taken branches ≡ true →
      Moves (free_steps given c) (when taken f) (opcode_count c) (taken ∷ branches) (taken ∷ branches)
  when_moves c f x true branches live = x.goes (true ∷ branches) live
  when_moves c f x false branches live = x.skips (false ∷ branches) refl

  -- IF or NOTIF with ELSE
  pub else_does : (wanted : Bool) (x y : List Instruction) (f g : Effect) → Does given x f → Does given y g →
      Does given (code (opening wanted) ∷ (x ++ code op.Else ∷ (y ++ code op.EndIf ∷ []))) (choose (either f g (side wanted true)) (either f g (side wanted false)))
  else_does wanted x y f g i j = record {
    goes = λ branches live.
        moves_as _ _ _ _ _ _ branches branches (λ s. refl) (λ main. refl) (ap (λ (n : ℕ). 1 + n) counts)
        (choice_moves wanted rest (either f g) (opcode_count x + (1 + (opcode_count y + 1))) branches live (λ taken.
        moves_as _ _ _ _ _ _ (taken ∷ branches) branches (λ s. refl) (alike taken) refl
        (append_moves x _ (when taken f) _ _ _ (taken ∷ branches) (taken ∷ branches) branches (when_moves x f i taken branches live)
        (cons_moves (code op.Else) _ silent _ 1 _ (taken ∷ branches) (not taken ∷ branches) branches (else_moves taken branches)
        (append_moves y _ (when (not taken) g) silent _ 1 (not taken ∷ branches) (not taken ∷ branches) branches (when_moves y g j (not taken) branches live)
        (end_moves (not taken) branches))))));
    skips = λ branches dead.
        moves_as _ _ _ silent _ _ branches branches (λ s. refl) (λ main. refl) (ap (λ (n : ℕ). 1 + n) counts)
        (cons_moves (code (opening wanted)) rest silent _ 1 _ branches (false ∷ branches) branches (unopened_moves wanted branches dead)
        (append_moves x _ silent _ _ _ (false ∷ branches) (false ∷ branches) branches (i.skips (false ∷ branches) refl)
        (cons_moves (code op.Else) _ silent _ 1 _ (false ∷ branches) (true ∷ branches) branches (else_moves false branches)
        (append_moves y _ silent silent _ 1 (true ∷ branches) (true ∷ branches) branches (j.skips (true ∷ branches) dead)
        (end_moves true branches)))));
  }
    where
      rest : List Instruction
      rest = x ++ code op.Else ∷ (y ++ code op.EndIf ∷ [])

      counts : opcode_count x + (1 + (opcode_count y + 1)) ≡ opcode_count rest
      counts = omega (arith, opcodes_append x (code op.Else ∷ (y ++ code op.EndIf ∷ [])), opcodes_append y (code op.EndIf ∷ []))

      alike : (taken : Bool) (main : Stack) → both (when taken f) (both silent (both (when (not taken) g) silent)) main ≡ either f g taken main
      alike true main = both_silent f main
      alike false main = silent_both (both silent (both g silent)) main ∙ silent_both (both g silent) main ∙ both_silent g main

  -- IF or NOTIF without ELSE
  pub only_does : (wanted : Bool) (x : List Instruction) (f : Effect) → Does given x f →
      Does given (code (opening wanted) ∷ (x ++ code op.EndIf ∷ [])) (choose (either f silent (side wanted true)) (either f silent (side wanted false)))
  only_does wanted x f i = record {
    goes = λ branches live.
        moves_as _ _ _ _ _ _ branches branches (λ s. refl) (λ main. refl) (ap (λ (n : ℕ). 1 + n) (sym (opcodes_append x (code op.EndIf ∷ []))))
        (choice_moves wanted _ (either f silent) (opcode_count x + 1) branches live (λ taken.
        moves_as _ _ _ _ _ _ (taken ∷ branches) branches (λ s. refl) (alike taken) refl
        (append_moves x _ (when taken f) silent _ 1 (taken ∷ branches) (taken ∷ branches) branches (when_moves x f i taken branches live)
        (end_moves taken branches))));
    skips = λ branches dead.
        moves_as _ _ _ silent _ _ branches branches (λ s. refl) (λ main. refl) (ap (λ (n : ℕ). 1 + n) (sym (opcodes_append x (code op.EndIf ∷ []))))
        (cons_moves (code (opening wanted)) _ silent _ 1 _ branches (false ∷ branches) branches (unopened_moves wanted branches dead)
        (append_moves x _ silent silent _ 1 (false ∷ branches) (false ∷ branches) branches (i.skips (false ∷ branches) refl)
        (end_moves false branches)));
  }
    where
      alike : (taken : Bool) (main : Stack) → both (when taken f) silent main ≡ either f silent taken main
      alike true main = both_silent f main
      alike false main = refl

  -- an opcode with an effect that may log
  pub effect_does : (op : Op) (f : Effect) → is_branching op ≡ false → ((s : State) → free_act given op s ≡ affect f s) → Does given (code op ∷ []) f
  effect_does op f is acts = record {
    goes = λ branches live. one_moves (code op) f 1 branches branches
        (record { moves = λ s. rw (is, live) (acts (at (one_more s) branches) ∙ bind_same (f s.main) _ _ (λ left. rw (add-zero (s.ops + 1)) refl)) });
    skips = λ branches dead. code_skips op branches is dead;
  }

  -- the top is set aside on the alternative stack
  pub aside_does : (x : List Instruction) (f : Effect) → Does given x f → Does given (code op.ToAltStack ∷ (x ++ code op.FromAltStack ∷ [])) (aside f)
  unfolding act to_alt_stack from_alt_stack
  aside_does x f i = record {
    goes = λ branches live. record { moves = λ s. go branches live s s.main };
    skips = λ branches dead.
        moves_as _ _ (both silent (both silent silent)) silent _ _ branches branches (λ s. refl) (λ main. refl) (ap (λ (n : ℕ). 1 + n) (sym (opcodes_append x (code op.FromAltStack ∷ []))))
        (cons_moves (code op.ToAltStack) _ silent (both silent silent) 1 _ branches branches branches
        (silent_moves 1 branches branches (free_step given (code op.ToAltStack)) (λ s. rw dead refl))
        (append_moves x _ silent silent _ 1 branches branches branches (i.skips branches dead) (code_skips op.FromAltStack branches refl dead)));
  }
    where
      last : (branches : List Bool) → all_taken branches ≡ true → (s : State) (top : Bytes) (main : Stack) (r : OrFault Left) →
          ((r >>= λ left. Ok (at (reached (record s { main = main; alt = top ∷ s.alt; ops = s.ops + 1 }) (opcode_count x) left) branches)) >>= free_steps given (code op.FromAltStack ∷ []))
          ≡ ((r >>= λ left. Ok (put_back top left)) >>= λ left. Ok (at (reached s (1 + (opcode_count x + 1)) left) branches))
      last branches live s top main (Ok left) =
          let count : s.ops + 1 + opcode_count x + left.log.keys + 1 ≡ s.ops + (1 + (opcode_count x + 1)) + left.log.keys = omega arith in
          rw (live, count) refl
      last branches live s top main (Err e) = refl

      go : (branches : List Bool) → all_taken branches ≡ true → (s : State) (main : Stack) →
          free_steps given (code op.ToAltStack ∷ (x ++ code op.FromAltStack ∷ [])) (at (record s { main = main }) branches)
          ≡ (aside f main >>= λ left. Ok (at (reached s (1 + opcode_count (x ++ code op.FromAltStack ∷ [])) left) branches))
      go branches live s [] = rw live refl
      go branches live s (top ∷ main) =
          rw (live, opcodes_append x (code op.FromAltStack ∷ []))
          (free_steps-append given x (code op.FromAltStack ∷ []) (at (record s { main = main; alt = top ∷ s.alt; ops = s.ops + 1 }) branches)
          ∙ ap (λ (r : OrFault State). r >>= free_steps given (code op.FromAltStack ∷ [])) ((i.goes branches live).moves (record s { main = main; alt = top ∷ s.alt; ops = s.ops + 1 }))
          ∙ last branches live s top main (f main))

-- from any state
pub goes_from : (given : Given) (c : List Instruction) (f : Effect) → Does given c f → (s : State) → is_live s ≡ true →
    free_steps given c s ≡ (f s.main >>= λ left. Ok (reached s (opcode_count c) left))
goes_from given c f x s live = (x.goes s.branches live).moves s

pub skips_from : (given : Given) (c : List Instruction) (f : Effect) → Does given c f → (s : State) → is_live s ≡ false →
    free_steps given c s ≡ Ok (record s { ops = s.ops + opcode_count c })
skips_from given c f x s dead = (x.skips s.branches dead).moves s ∙ rw (add-zero (s.ops + opcode_count c), append-nil s.checks) refl
