-- A run that is accepted is accepted with the same counts where more signatures are good: a signature that isn't empty is
-- good, or refuses the run, and the tries of CHECKMULTISIG end no later.
use Rattle.std.proofs.Common.{◌≡◌, inl, inr, ℕ, ◌+◌, ◌≤◌, ◌||◌, nat_lt, Bool, true, false, not, List, [], ◌∷◌, ◌++◌, length, max, reverse, if◌then◌else◌, Some, None, Ok, Err, refl, sym, ◌∙◌, ap, subst, IsTrue, arith, append_assoc, length-append, le-ltb}
use Rattle.std.specs.Prelude.{Option}
use Rattle.std.specs.List.{list_all}
use Rattle.std.proofs.lemmas.Bool.{cases_Bool, false≢true, ltb-false, and_parts}
use Rattle.def_hash.specs.declared.HashKind.TheVariants as kind
use Rattle.def_script.specs.Bytes.{Bytes}
use Rattle.def_script.specs.Item.{Item}
use Rattle.def_script.specs.Item as item
use Rattle.def_script.specs.Items.{items}
use Rattle.def_script.specs.Key.{is_key}
use Rattle.def_script.specs.declared.Op.{Op}
use Rattle.def_script.specs.declared.Op.TheVariants as op
use Rattle.def_machine.specs.declared.Locks.{Locks}
use Rattle.def_machine.specs.declared.ScriptFault.{ScriptFault}
use Rattle.def_machine.specs.declared.ScriptFault.TheVariants as fault
use Rattle.def_machine.specs.Effects.{verify, condition, to_alt_stack, from_alt_stack, if_dup, dup, swap, size, equal, zero_not_equal, add, bool_and, bool_or, hash, check_sig, lock}
use Rattle.def_machine.specs.Faults.{OrFault, ◌>>=◌}
use Rattle.def_script.specs.Limits.{MAX_SCRIPT_ELEMENT_SIZE, MAX_PUBKEYS_PER_MULTISIG, MAX_STACK_SIZE}
use Rattle.def_machine.specs.Locks.{after_holds, older_holds}
use Rattle.def_machine.specs.Machine.{Given, State, on_main, on_both, on_checks, on_multi, on_branches, opened, open_branch, turned, closed, act, only_if, is_branching, is_live, count_op, pushed, carry_out, height, settle, step}
use Rattle.def_machine.specs.MultiSig.{is_good, one_try, tries, count, some_off, one_off, within_op_limit, verdict, null_dummy, check_multi_sig}
use Rattle.def_machine.specs.Run.{Outcome, accepted, refused, leads, start, steps, is_clean, balanced, finish, ended, run}
use Rattle.def_machine.specs.Stacks.{Stack, Pairs, Checker, is_empty, bool_bytes}

abbrev sure : {A : Type 0} → A → OrFault A
sure a = Ok a

same_ok : {A : Type 0} (a b : A) → sure a ≡ Ok b → a ≡ b
same_ok a b h = cc

-- what follows an Ok
bind_split : {A B : Type 0} (r : OrFault A) (f : A → OrFault B) (b : B) → (r >>= f) ≡ Ok b → (a : A) × (r ≡ Ok a) × (f a ≡ Ok b)
bind_split (Ok a) f b h = (a, refl, h)
bind_split (Err e) f b h = absurd cc

-- what holds behind a step that both take
same_first : {A B C : Type 0} (r : OrFault A) (f : A → OrFault B) (g : A → OrFault C) (end : B) (Q : OrFault C → Type 0) → (r >>= f) ≡ Ok end
    → ((a : A) → f a ≡ Ok end → Q (g a)) → Q (r >>= g)
same_first (Ok a) f g end Q h k = k a h
same_first (Err e) f g end Q h k = absurd cc

-- and what leads to an end
goes_to : {A B : Type 0} (r : OrFault A) (f : A → OrFault B) (a : A) (end : OrFault B) → r ≡ Ok a → f a ≡ end → (r >>= f) ≡ end
goes_to (Ok b) f a end h k = let same : b ≡ a = same_ok b a h in subst (λ x. f x ≡ end) (sym same) k
goes_to (Err e) f a end h k = absurd cc

-- the pairs that tries found, where they passed
abbrev passed : Pairs → OrFault (Option Pairs)
passed found = Ok (Some found)

abbrev failed : OrFault (Option Pairs)
failed = Ok None

-- a try that passes or fails in the end was made, or there were too few keys
tried : (over form good : Bool) (next : Bool → OrFault (Option Pairs)) (found : Pairs) → one_try over form good next ≡ passed found
    → (over ≡ false) × (form ≡ true) × (next good ≡ passed found)
tried true form good next found h = absurd cc
tried false false good next found h = absurd cc
tried false true good next found h = (refl, refl, h)

failed_try : (over form : Bool) (next other : Bool → OrFault (Option Pairs)) → one_try over form false next ≡ failed
    → (next false ≡ failed → other false ≡ failed) → one_try over form false other ≡ failed
failed_try true form next other h k = refl
failed_try false false next other h k = absurd cc
failed_try false true next other h k = k h

empty_is_bad : (checker : Checker) (key sig : Bytes) → is_empty sig ≡ true → is_good checker key sig ≡ false
empty_is_bad checker key sig e = rw e refl

-- a try that is made
abbrev left : (good : Bool) → (sig : Bytes) → (sigs : Stack) → Stack
left good sig sigs = if good then sigs else sig ∷ sigs

abbrev found_by : (good : Bool) → (key sig : Bytes) → Pairs → Pairs
found_by good key sig found = if good then found ++ (key, sig) ∷ [] else found

one_more : (checker : Checker) (keys : Stack) (key sig : Bytes) (sigs : Stack) (found : Pairs) (end : OrFault (Option Pairs))
    → nat_lt (length (key ∷ keys)) (length (sig ∷ sigs)) ≡ false → is_key key ≡ true
    → tries checker keys (left (is_good checker key sig) sig sigs) (found_by (is_good checker key sig) key sig found) ≡ end
    → tries checker (key ∷ keys) (sig ∷ sigs) found ≡ end
unfolding tries
one_more checker keys key sig sigs found end few form h = rw (few, form) h

-- fewer signatures
few_left : (keys first front later : Stack) → first ≡ front ++ later → nat_lt (length keys) (length first) ≡ false → nat_lt (length keys) (length later) ≡ false
few_left keys first front later e few =
    let whole : length first ≡ length front + length later = ap (λ (w : Stack). length w) e ∙ length-append front later in
    let enough : length first ≤ length keys = ltb-false (length keys) (length first) few in
    le-ltb (length keys) (length later) (omega (arith, whole, enough))

module _ (small large : Checker) (more : (key sig : Bytes) → IsTrue (small key sig) → IsTrue (large key sig)) where
  good_stays : (key sig : Bytes) → is_good small key sig ≡ true → is_good large key sig ≡ true
  good_stays key sig h =
      let both = and_parts (not (is_empty sig)) (small key sig) h in
      rw (both.0, more key sig both.1) refl

  -- the tries of these keys that pass do so where more is good, with no more signatures left
  abbrev Pass : (keys : Stack) → Type 0
  Pass keys =
      (first later front : Stack) (a b found : Pairs) → first ≡ front ++ later → tries small keys first a ≡ passed found
      → (all : Pairs) × (tries large keys later b ≡ passed all)

  next_tries : (keys : Stack) → Pass keys → (key x sig : Bytes) (first later front : Stack) (a b found : Pairs) (s l : Bool)
      → is_good small key x ≡ s → is_good large key sig ≡ l → x ∷ first ≡ front ++ sig ∷ later
      → tries small keys (left s x first) (found_by s key x a) ≡ passed found
      → (all : Pairs) × (tries large keys (left l sig later) (found_by l key sig b) ≡ passed all)
  next_tries keys again key x sig first later [] a b found true true i k e h = again first later [] (a ++ (key, x) ∷ []) (b ++ (key, sig) ∷ []) found (cc) h
  next_tries keys again key x sig first later (y ∷ front) a b found true true i k e h =
      let rest : first ≡ front ++ sig ∷ later = cc in
      again first later (front ++ sig ∷ []) (a ++ (key, x) ∷ []) (b ++ (key, sig) ∷ []) found (rest ∙ sym (append_assoc front (sig ∷ []) later)) h
  next_tries keys again key x sig first later [] a b found true false i k e h =
      let same : x ≡ sig = cc in
      absurd (false≢true (sym k ∙ good_stays key sig (subst (λ y. is_good small key y ≡ true) same i)))
  next_tries keys again key x sig first later (y ∷ front) a b found true false i k e h = again first (sig ∷ later) front (a ++ (key, x) ∷ []) b found (cc) h
  next_tries keys again key x sig first later front a b found false true i k e h =
      again (x ∷ first) later (front ++ sig ∷ []) a (b ++ (key, sig) ∷ []) found (e ∙ sym (append_assoc front (sig ∷ []) later)) h
  next_tries keys again key x sig first later front a b found false false i k e h = again (x ∷ first) (sig ∷ later) front a b found e h

  passes : (keys : Stack) → Pass keys
  unfolding tries
  passes keys first [] front a b found e h = (b, refl)
  passes [] [] (sig ∷ later) [] a b found e h = absurd cc
  passes [] [] (sig ∷ later) (y ∷ front) a b found e h = absurd cc
  passes [] (x ∷ first) (sig ∷ later) front a b found e h = absurd cc
  passes (key ∷ keys) [] (sig ∷ later) [] a b found e h = absurd cc
  passes (key ∷ keys) [] (sig ∷ later) (y ∷ front) a b found e h = absurd cc
  passes (key ∷ keys) (x ∷ first) (sig ∷ later) front a b found e h =
      let made = tried (nat_lt (length (key ∷ keys)) (length (x ∷ first))) (is_key key) (is_good small key x) _ found h in
      let few = few_left (key ∷ keys) (x ∷ first) front (sig ∷ later) e made.0 in
      let next = next_tries keys (passes keys) key x sig first later front a b found (is_good small key x) (is_good large key sig) refl refl e made.2 in
      (next.0, one_more large keys key sig later b (passed next.0) few made.1 next.1)

  -- empty signatures are good nowhere
  fails : (keys sigs : Stack) (a b : Pairs) → list_all is_empty sigs ≡ true → tries small keys sigs a ≡ failed → tries large keys sigs b ≡ failed
  unfolding tries
  fails keys [] a b empty h = absurd cc
  fails [] (sig ∷ sigs) a b empty h = refl
  fails (key ∷ keys) (sig ∷ sigs) a b empty h =
      let both = and_parts (is_empty sig) (list_all is_empty sigs) empty in
      let bad_small = empty_is_bad small key sig both.0 in
      let bad_large = empty_is_bad large key sig both.0 in
      let over = nat_lt (length (key ∷ keys)) (length (sig ∷ sigs)) in
      let was : one_try over (is_key key) false (λ good. tries small keys (if good then sigs else sig ∷ sigs) (if good then a ++ (key, sig) ∷ [] else a))
      ≡ failed = rw (sym bad_small) h in
      rw bad_large (failed_try over (is_key key) _ _ was (fails keys (sig ∷ sigs) a b empty))

  -- the tests of CHECKSIG and CHECKMULTISIG, whatever was found before
  sig_stays : (s : Stack) (end : Stack × Pairs) (a b : Pairs) → check_sig small s a ≡ Ok end → (c : Pairs) × (check_sig large s b ≡ Ok (end.0, c))
  unfolding check_sig
  sig_stays [] end a b h = absurd cc
  sig_stays (key ∷ []) end a b h = absurd cc
  sig_stays (key ∷ sig ∷ s) end a b h =
      elim (cases_Bool (is_key key)) [
        | inr formless ↦ absurd (let never = rw formless at h in cc)
        | inl form ↦ elim (cases_Bool (is_empty sig)) [
          | inl empty ↦
              let was = rw (form, empty) at h in
              let same = same_ok (bool_bytes false ∷ s, a) end was in
              (b, rw (form, empty) (ap (λ (l : Stack × Pairs). sure (l.0, b)) same))
          | inr full ↦ elim (cases_Bool (small key sig)) [
            | inl good ↦
                let was = rw (form, full, good) at h in
                let same = same_ok (bool_bytes true ∷ s, a ++ (key, sig) ∷ []) end was in
                (b ++ (key, sig) ∷ [], rw (form, full, more key sig good) (ap (λ (l : Stack × Pairs). sure (l.0, b ++ (key, sig) ∷ [])) same))
            | inr bad ↦ absurd (let never = rw (form, full, bad) at h in cc)
          ]
        ]
      ]

  verdict_stays : (keys sigs : Stack) (tried_small : Option Pairs) (verdict_small : Bool × Pairs) → tries small keys sigs [] ≡ Ok tried_small
      → verdict sigs tried_small ≡ Ok verdict_small
      → (t : Option Pairs) × (c : Pairs) × (tries large keys sigs [] ≡ Ok t) × (verdict sigs t ≡ Ok (verdict_small.0, c))
  unfolding verdict
  verdict_stays keys sigs (Some found) v t e =
      let all = passes keys sigs sigs [] [] [] found refl t in
      let same = same_ok (true, found) v e in
      (Some all.0, all.0, all.1, ap (λ (w : Bool × Pairs). sure (w.0, all.0)) same)
  verdict_stays keys sigs None v t e =
      elim (cases_Bool (list_all is_empty sigs)) [
        | inl empty ↦
            let was = rw empty at e in
            let none : List (Bytes × Bytes) = [] in
            let same = same_ok (false, none) v was in
            (None, [], fails keys sigs [] [] empty t, rw empty (ap (λ (w : Bool × Pairs). sure (w.0, none)) same))
        | inr full ↦ absurd (let never = rw full at e in cc)
      ]

  -- the end of CHECKMULTISIG, from the tries on
  abbrev judged : (checker : Checker) → (keys sigs below : Stack) → (extra : Bytes) → (ops : ℕ) → (checks : Pairs) → OrFault (Stack × ℕ × Pairs)
  judged checker keys sigs below extra ops checks =
      tries checker keys sigs [] >>= λ tried. verdict sigs tried >>= λ passed. null_dummy extra >>= λ empty.
      Ok (bool_bytes passed.0 ∷ below, ops, checks ++ passed.1)

  judged_is : (checker : Checker) (keys sigs below : Stack) (extra : Bytes) (ops : ℕ) (checks : Pairs) (t : Option Pairs) (v : Bool × Pairs) (none : Bytes)
      → tries checker keys sigs [] ≡ Ok t → verdict sigs t ≡ Ok v → null_dummy extra ≡ Ok none
      → judged checker keys sigs below extra ops checks ≡ Ok (bool_bytes v.0 ∷ below, ops, checks ++ v.1)
  judged_is checker keys sigs below extra ops checks t v none i j k = rw (i, j, k) refl

  -- with the same stack and count
  abbrev Leaves : (end : Stack × ℕ × Pairs) → OrFault (Stack × ℕ × Pairs) → Type 0
  Leaves end left = (c : Pairs) × (left ≡ Ok (end.0, end.1, c))

  judged_stays : (keys sigs below : Stack) (extra : Bytes) (ops : ℕ) (end : Stack × ℕ × Pairs) (a b : Pairs)
      → judged small keys sigs below extra ops a ≡ Ok end → Leaves end (judged large keys sigs below extra ops b)
  judged_stays keys sigs below extra ops end a b h =
      let tried = bind_split (tries small keys sigs []) _ end h in
      let passed = bind_split (verdict sigs tried.0) _ end tried.2 in
      let dummy = bind_split (null_dummy extra) _ end passed.2 in
      let v = verdict_stays keys sigs tried.0 passed.0 tried.1 passed.1 in
      let same = same_ok (bool_bytes passed.0.0 ∷ below, ops, a ++ passed.0.1) end dummy.2 in
      let last = ap (λ (l : Stack × ℕ × Pairs). sure (l.0, l.1, b ++ v.1)) same in
      (b ++ v.1, judged_is large keys sigs below extra ops b v.0 (passed.0.0, v.1) dummy.0 v.2 v.3 dummy.1 ∙ last)

  multi_stays : (s : Stack) (ops : ℕ) (end : Stack × ℕ × Pairs) (a b : Pairs) → check_multi_sig small s ops a ≡ Ok end
      → Leaves end (check_multi_sig large s ops b)
  unfolding check_multi_sig
  multi_stays s ops end a b h =
      same_first (count MAX_PUBKEYS_PER_MULTISIG fault.KeyCount s) _ _ end (Leaves end) h
      (λ n h. same_first (within_op_limit (ops + n.0)) _ _ end (Leaves end) h
      (λ total h. same_first (some_off n.0 n.1) _ _ end (Leaves end) h
      (λ keys h. same_first (count n.0 fault.SigCount keys.1) _ _ end (Leaves end) h
      (λ m h. same_first (some_off m.0 m.1) _ _ end (Leaves end) h
      (λ sigs h. same_first (one_off sigs.1) _ _ end (Leaves end) h
      (λ extra h. judged_stays keys.0 sigs.0 extra.1 extra.0 total end a b h))))))

  -- ---- the machine, whatever was found before

  module _ (locks : Locks) where
    abbrev given : Checker → Given
    given checker = record { checker = checker; locks = locks }

    abbrev found : Pairs → State → State
    found c s = record s { checks = c }

    -- the same state, but for what was found
    abbrev Reaches : State → OrFault State → Type 0
    Reaches end r = (c : Pairs) × (r ≡ Ok (found c end))

    abbrev Stays : (OrFault State) → (Pairs → OrFault State) → Type 0
    Stays r q = (end : State) (c : Pairs) → r ≡ Ok end → Reaches end (q c)

    -- an effect that leaves the checks alone
    keeps : {A : Type 0} (r : OrFault A) (h : A → State) (end : State) (c : Pairs) → (r >>= λ a. Ok (h a)) ≡ Ok end
        → Reaches end (r >>= λ a. Ok (found c (h a)))
    keeps (Ok a) h end c e = (c, ap (λ (s : State). sure (found c s)) (same_ok (h a) end e))
    keeps (Err fault) h end c e = absurd cc

    main : (f : Stack → OrFault Stack) (s : State) → Stays (on_main f s) (λ c. on_main f (found c s))
    main f s end c e = keeps (f s.main) (λ main. record s { main = main }) end c e

    both : (f : Stack → Stack → OrFault (Stack × Stack)) (s : State) → Stays (on_both f s) (λ c. on_both f (found c s))
    both f s end c e = keeps (f s.main s.alt) (λ stacks. record s { main = stacks.0; alt = stacks.1 }) end c e

    branches : (f : List Bool → OrFault (List Bool)) (s : State) → Stays (on_branches f s) (λ c. on_branches f (found c s))
    branches f s end c e = keeps (f s.branches) (λ branches. record s { branches = branches }) end c e

    opens : (live wanted : Bool) (s : State) → Stays (opened live wanted s) (λ c. opened live wanted (found c s))
    opens true wanted s end c e =
        keeps (condition s.main) (λ top. record s { main = top.1; branches = (if wanted then top.0 else not top.0) ∷ s.branches }) end c e
    opens false wanted s end c e = (c, ap (λ (s : State). sure (found c s)) (same_ok (record s { branches = false ∷ s.branches }) end e))

    -- one effect after the other
    both_stay : (r : OrFault State) (q : Pairs → OrFault State) (f g : State → OrFault State) → Stays r q → ((s : State) → Stays (f s) (λ c. g (found c s)))
        → Stays (r >>= f) (λ c. q c >>= g)
    both_stay r q f g first later end c e =
        let middle = bind_split r f end e in
        let one = first middle.0 c middle.1 in
        let two = later middle.0 end one.0 middle.2 in
        (two.0, goes_to (q c) g (found one.0 middle.0) (Ok (found two.0 end)) one.1 two.1)

    sig : (s : State) → Stays (on_checks (check_sig small) s) (λ c. on_checks (check_sig large) (found c s))
    sig s end c e =
        let checked = bind_split (check_sig small s.main s.checks) _ end e in
        let stays = sig_stays s.main checked.0 s.checks c checked.1 in
        let same = same_ok (record s { main = checked.0.0; checks = checked.0.1 }) end checked.2 in
        (stays.0, goes_to (check_sig large s.main c) _ (checked.0.0, stays.0) _ stays.1 (ap (λ (t : State). sure (found stays.0 t)) same))

    multi : (s : State) → Stays (on_multi (check_multi_sig small) s) (λ c. on_multi (check_multi_sig large) (found c s))
    multi s end c e =
        let checked = bind_split (check_multi_sig small s.main s.ops s.checks) _ end e in
        let stays = multi_stays s.main s.ops checked.0 s.checks c checked.1 in
        let same = same_ok (record s { main = checked.0.0; ops = checked.0.1; checks = checked.0.2 }) end checked.2 in
        (stays.0, goes_to (check_multi_sig large s.main s.ops c) _ (checked.0.0, checked.0.1, stays.0) _ stays.1 (ap (λ (t : State). sure (found stays.0 t)) same))

    acts : (op : Op) (s : State) → Stays (act (given small) op s) (λ c. act (given large) op (found c s))
    unfolding act open_branch
    acts op.If s = opens (is_live s) true s
    acts op.NotIf s = opens (is_live s) false s
    acts op.Else s = branches turned s
    acts op.EndIf s = branches closed s
    acts op.Verify s = main verify s
    acts op.ToAltStack s = both to_alt_stack s
    acts op.FromAltStack s = both from_alt_stack s
    acts op.IfDup s = main if_dup s
    acts op.Dup s = main dup s
    acts op.Swap s = main swap s
    acts op.Size s = main size s
    acts op.Equal s = main equal s
    acts op.EqualVerify s = both_stay _ (λ c. on_main equal (found c s)) (on_main verify) (on_main verify) (main equal s) (main verify)
    acts op.ZeroNotEqual s = main zero_not_equal s
    acts op.Add s = main add s
    acts op.BoolAnd s = main bool_and s
    acts op.BoolOr s = main bool_or s
    acts op.Ripemd160 s = main (hash kind.Ripemd160) s
    acts op.Sha256 s = main (hash kind.Sha256) s
    acts op.Hash160 s = main (hash kind.Hash160) s
    acts op.Hash256 s = main (hash kind.Hash256) s
    acts op.CheckSig s = sig s
    acts op.CheckSigVerify s = both_stay _ (λ c. on_checks (check_sig large) (found c s)) (on_main verify) (on_main verify) (sig s) (main verify)
    acts op.CheckMultiSig s = multi s
    acts op.CheckMultiSigVerify s = both_stay _ (λ c. on_multi (check_multi_sig large) (found c s)) (on_main verify) (on_main verify) (multi s) (main verify)
    acts op.CheckLockTimeVerify s = main (lock (λ n. after_holds n locks)) s
    acts op.CheckSequenceVerify s = main (lock (λ n. older_holds n locks)) s

    acts_if : (b : Bool) (op : Op) (s : State) → Stays (only_if b (act (given small) op) s) (λ c. only_if b (act (given large) op) (found c s))
    acts_if true op s end c e = acts op s end c e
    acts_if false op s end c e = (c, ap (λ (t : State). sure (found c t)) (same_ok s end e))

    push_stays : (b : Bool) (bytes : Bytes) (minimal : Bool) (s : State) → Stays (only_if b (pushed bytes minimal) s) (λ c. only_if b (pushed bytes minimal) (found c s))
    unfolding pushed
    push_stays true bytes true s end c e = (c, ap (λ (t : State). sure (found c t)) (same_ok (record s { main = bytes ∷ s.main }) end e))
    push_stays true bytes false s end c e = absurd cc
    push_stays false bytes minimal s end c e = (c, ap (λ (t : State). sure (found c t)) (same_ok s end e))

    short_stays : (long : Bool) (f : OrFault State) (g : Pairs → OrFault State) → Stays f g
        → Stays (if long then Err fault.ElementSize else f) (λ c. if long then Err fault.ElementSize else g c)
    short_stays true f g stays end c e = absurd cc
    short_stays false f g stays end c e = stays end c e

    carries : (i : Item) (s : State) → Stays (carry_out (given small) i s) (λ c. carry_out (given large) i (found c s))
    unfolding carry_out
    carries (item.fault why) s end c e = absurd cc
    carries (item.push bytes minimal) s end c e =
        short_stays (nat_lt MAX_SCRIPT_ELEMENT_SIZE (length bytes)) (only_if (is_live s) (pushed bytes minimal) s)
        (λ c. only_if (is_live s) (pushed bytes minimal) (found c s)) (push_stays (is_live s) bytes minimal s) end c e
    carries (item.code op) s end c e =
        both_stay (count_op s) (λ c. count_op (found c s)) (λ t. only_if (is_branching op || is_live t) (act (given small) op) t)
        (λ t. only_if (is_branching op || is_live t) (act (given large) op) t)
        (λ end c e. keeps (within_op_limit (s.ops + 1)) (λ ops. record s { ops = ops }) end c e)
        (λ t. acts_if (is_branching op || is_live t) op t) end c e

    settle_if : (b : Bool) (s : State) → Stays (if b then Err fault.StackSize else Ok s) (λ c. if b then Err fault.StackSize else Ok (found c s))
    settle_if true s end c e = absurd cc
    settle_if false s end c e = (c, ap (λ (t : State). sure (found c t)) (same_ok s end e))

    settles : (s : State) → Stays (settle s) (λ c. settle (found c s))
    unfolding settle
    settles s = settle_if (nat_lt MAX_STACK_SIZE (height s)) (record s { peak = max s.peak (height s) })

    step_stays : (i : Item) (s : State) → Stays (step (given small) i s) (λ c. step (given large) i (found c s))
    unfolding step
    step_stays i s = both_stay (carry_out (given small) i s) (λ c. carry_out (given large) i (found c s)) settle settle (carries i s) settles

    -- ---- runs

    -- accepted with these counts
    abbrev Accepts : (ops peak : ℕ) → Outcome → Type 0
    Accepts ops peak o = (c : Pairs) × (o ≡ accepted ops peak c)

    no_refusal : (why : ScriptFault) (place ops peak : ℕ) → ¬ Accepts ops peak (refused why place)
    no_refusal why place ops peak a = let never = a.1 in cc

    next_stays : (r q : OrFault State) (place ops peak : ℕ) (next other : State → Outcome) → (c : Pairs)
        → ((end : State) → r ≡ Ok end → Reaches end q) → ((s : State) (d : Pairs) → Accepts ops peak (next s) → Accepts ops peak (other (found d s)))
        → Accepts ops peak (leads r place next) → Accepts ops peak (leads q place other)
    next_stays (Ok s) q place ops peak next other c stays later a =
        let there = stays s refl in
        let same : q ≡ Ok (found there.0 s) = there.1 in
        rw same (later s there.0 a)
    next_stays (Err why) q place ops peak next other c stays later a = absurd (no_refusal why place ops peak a)

    ends : (place ops peak : ℕ) (s : State) (d : Pairs) → Accepts ops peak (ended place s) → Accepts ops peak (ended place (found d s))
    unfolding finish
    ends place ops peak s d a =
        next_stays (finish s) (finish (found d s)) place ops peak (λ t. accepted t.ops t.peak t.checks) (λ t. accepted t.ops t.peak t.checks) d
        (λ end e. finish_stays end e) (λ t c b. (c, same_counts t c b)) a
      where
        finish_stays : (end : State) → finish s ≡ Ok end → Reaches end (finish (found d s))
        finish_stays end e =
            let none = bind_split (balanced s.branches) _ end e in
            let one = bind_split (is_clean s.main) _ end none.2 in
            let same = same_ok s end one.2 in
            (d, goes_to (balanced s.branches) _ none.0 _ none.1 (goes_to (is_clean s.main) _ one.0 _ one.1 (ap (λ (t : State). sure (found d t)) same)))

        same_counts : (t : State) (c : Pairs) → Accepts ops peak (accepted t.ops t.peak t.checks) → accepted t.ops t.peak c ≡ accepted ops peak c
        same_counts t c b = let e = b.1 in cc

    steps_stay : (is : List Item) (place ops peak : ℕ) (s : State) (d : Pairs) → Accepts ops peak (steps (given small) is place s ended)
        → Accepts ops peak (steps (given large) is place (found d s) ended)
    unfolding steps
    steps_stay [] place ops peak s d a = ends place ops peak s d a
    steps_stay (i ∷ is) place ops peak s d a =
        next_stays (step (given small) i s) (step (given large) i (found d s)) place ops peak (λ t. steps (given small) is (place + 1) t ended)
        (λ t. steps (given large) is (place + 1) t ended) d (λ end e. step_stays i s end d e) (steps_stay is (place + 1) ops peak) a

    started : (r : OrFault State) (ops peak : ℕ) (is : List Item) → Accepts ops peak (leads r 0 (λ s. steps (given small) is 0 s ended))
        → Accepts ops peak (leads r 0 (λ s. steps (given large) is 0 s ended))
    started (Ok s) ops peak is a = steps_stay is 0 ops peak s s.checks a
    started (Err why) ops peak is a = absurd (no_refusal why 0 ops peak a)

    -- a run that is accepted is accepted with these counts where more is good
    pub run_stays : (script : Bytes) (stack : List Bytes) (ops peak : ℕ) (checks : Pairs) → run (given small) script stack ≡ accepted ops peak checks
        → (others : Pairs) × (run (given large) script stack ≡ accepted ops peak others)
    unfolding run
    run_stays script stack ops peak checks e = started (start script (reverse stack)) ops peak (items script) (checks, e)
