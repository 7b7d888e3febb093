-- How CHECKMULTISIG goes on from signatures in the order of their keys, and from empty strings alone.
use Rattle.std.proofs.Common.{◌≡◌, ℕ, zero, suc, ◌+◌, ◌^◌, ◌<◌, ◌≤◌, Bool, true, false, IsTrue, List, [], ◌∷◌, ◌++◌, length, reverse, replicate, All, Option, Some, None, Ok, refl, sym, ◌∙◌, ap, subst, arith}
use Rattle.std.proofs.lemmas.Bool.{le-ltb, le-leb}
use Rattle.std.proofs.lemmas.List.{append_assoc, length-append, length-reverse, length-replicate}
use Rattle.std.proofs.Math.Seq.{take-append_seam, drop-append_seam}
use Rattle.def_script.specs.Bytes.{Bytes}
use Rattle.def_script.specs.Numbers.{natural_bytes}
use Rattle.def_script.specs.Key.{is_key}
use Rattle.def_machine.specs.declared.ScriptFault.{ScriptFault}
use Rattle.def_machine.specs.Stacks.{Stack, Pairs, Checker, bool_bytes}
use Rattle.def_machine.specs.MultiSig.{count, some_off, one_off, tries, verdict, null_dummy}
use Rattle.def_tree.specs.Tree.{Key}
use Rattle.def_choice.proofs.Weights.{reverse-cons}
use Rattle.def_satisfaction.specs.Rows.{EMPTY, AreSignatures}
use Rattle.ms_acceptance_laws.proofs.StackEffects.{Effect, both, pushes, left}
use Rattle.ms_acceptance_laws.proofs.TreeEffects.{pushes_all, checks_multi_sig}
use Rattle.ms_row_laws.proofs.RowLogs.{found_in, multi_log}
use Rattle.ms_acceptance_laws.proofs.StackValues.{one_number-natural}
use Rattle.ms_acceptance_laws.proofs.ForwardBases.{EndsB, both_ok, relog, bool_value}
use Rattle.ms_row_laws.proofs.RunLog.{Log, quiet, then_log, quiet_left, log_of}
use Rattle.ms_row_laws.proofs.MultisigTries.{reversed_forms, all_empty, empties_split, good_tries, empty_tries}

-- the pushes of keys
pub pushed_all : (keys : List Bytes) (m : Stack) → pushes_all keys m ≡ Ok (left (reverse keys ++ m) quiet)
pushed_all [] m = refl
pushed_all (key ∷ keys) m =
    both_ok (pushes key) (pushes_all keys) m (key ∷ m) (reverse (key ∷ keys) ++ m) quiet quiet refl
    (pushed_all keys (key ∷ m) ∙ ap (λ v. Ok (left v quiet)) (sym (ap (λ v. v ++ m) (reverse-cons key keys) ∙ append_assoc (reverse keys) (key ∷ []) m)))

-- a number of keys or signatures, and so many of them
pub count_run : (most n : ℕ) (fault : ScriptFault) (s : Stack) → n ≤ most → n < 2 ^ 31 → count most fault (natural_bytes n ∷ s) ≡ Ok (n, s)
unfolding count
count_run most n fault s low small = rw (one_number-natural n s small, le-leb n most low) refl

pub some_off_run : (xs rest : Stack) (n : ℕ) → length xs ≡ n → some_off n (xs ++ rest) ≡ Ok (xs, rest)
unfolding some_off
some_off_run xs rest n e =
    let l = length-append xs rest in
    subst (λ k. some_off k (xs ++ rest) ≡ Ok (xs, rest)) e
    (rw (le-ltb (length (xs ++ rest)) (length xs) (omega arith), take-append_seam xs rest, drop-append_seam xs rest) refl)

-- the whole
multi_run : (checker : Checker) (keys sigs rest : Stack) (k : ℕ) (t : Option Pairs) (b : Bool) (found : Pairs) → length keys ≤ 20 → k ≤ length keys → length sigs
    ≡ k → tries checker (reverse keys) sigs [] ≡ Ok t → verdict sigs t ≡ Ok (b, found)
    → checks_multi_sig checker (natural_bytes (length keys) ∷ (reverse keys ++ (natural_bytes k ∷ (sigs ++ (EMPTY ∷ rest)))))
    ≡ Ok (left (bool_bytes b ∷ rest) (log_of (length keys) found))
unfolding checks_multi_sig one_off null_dummy
multi_run checker keys sigs rest k t b found few low e tried passed =
    let n = length-reverse keys in
    rw (
      count_run 20 (length keys) _ (reverse keys ++ (natural_bytes k ∷ (sigs ++ (EMPTY ∷ rest)))) few (omega arith),
      some_off_run (reverse keys) (natural_bytes k ∷ (sigs ++ (EMPTY ∷ rest))) (length keys) n,
      count_run (length keys) k _ (sigs ++ (EMPTY ∷ rest)) low (omega arith),
      some_off_run sigs (EMPTY ∷ rest) k e,
      tried,
      passed,
    ) refl

verdict_empty : (n : ℕ) → verdict (replicate n EMPTY) None ≡ Ok (false, [])
unfolding verdict
verdict_empty n = rw (all_empty n) refl

verdict_found : (sigs : Stack) (found : Pairs) → verdict sigs (Some found) ≡ Ok (true, found)
unfolding verdict
verdict_found sigs found = refl

-- the stack under the number of keys
stack_is : (sigs w below rest : Stack) → below ≡ EMPTY ∷ [] → w ≡ sigs ++ below → w ++ rest ≡ sigs ++ (EMPTY ∷ rest)
stack_is sigs w below rest i e = ap (λ v. v ++ rest) (e ∙ ap (λ v. sigs ++ v) i) ∙ append_assoc sigs (EMPTY ∷ []) rest

abbrev pub multi_effect : Checker → (k : ℕ) → List Key → Effect
multi_effect checker k keys = both (pushes (natural_bytes k)) (both (pushes_all keys) (both (pushes (natural_bytes (length keys))) (checks_multi_sig checker)))

multi_steps : (checker : Checker) (k : ℕ) (keys : List Key) (m end : Stack) (l : Log)
    → checks_multi_sig checker (natural_bytes (length keys) ∷ (reverse keys ++ (natural_bytes k ∷ m))) ≡ Ok (left end l) → multi_effect checker k keys m
    ≡ Ok (left end l)
multi_steps checker k keys m end l e =
    let third = relog _ end (then_log quiet l) l (quiet_left l)
    (both_ok (pushes (natural_bytes (length keys))) (checks_multi_sig checker) (reverse keys ++ (natural_bytes k ∷ m))
    (natural_bytes (length keys) ∷ (reverse keys ++ (natural_bytes k ∷ m))) end quiet l refl e) in
    let second = relog _ end (then_log quiet l) l (quiet_left l)
    (both_ok (pushes_all keys) (both (pushes (natural_bytes (length keys))) (checks_multi_sig checker)) (natural_bytes k ∷ m)
    (reverse keys ++ (natural_bytes k ∷ m)) end quiet l (pushed_all keys (natural_bytes k ∷ m)) third) in
    relog _ end (then_log quiet l) l (quiet_left l)
    (both_ok (pushes (natural_bytes k)) (both (pushes_all keys) (both (pushes (natural_bytes (length keys))) (checks_multi_sig checker))) m (natural_bytes k ∷ m) end quiet l refl second)

pub multi_sat_ends : (checker : Checker) (k : ℕ) (keys : List Key) (sigs w below rest : Stack) → length keys ≤ 20 → k ≤ length keys
    → All (λ key. IsTrue (is_key key)) keys → below ≡ EMPTY ∷ [] → w ≡ sigs ++ below → length sigs ≡ k → AreSignatures checker (reverse keys) sigs
    → EndsB true true (multi_effect checker k keys) w rest (multi_log checker keys sigs)
multi_sat_ends checker k keys sigs w below rest few low forms i e n h =
    let all = good_tries checker (reverse keys) sigs [] (reversed_forms keys forms) h in
    let run = multi_run checker keys sigs rest k (Some all.0) true all.0 few low n all.1 (verdict_found sigs all.0) in (
      bool_bytes true,
      bool_value true true,
      ap (multi_effect checker k keys) (stack_is sigs w below rest i e)
          ∙ multi_steps checker k keys (sigs ++ (EMPTY ∷ rest)) (bool_bytes true ∷ rest) (log_of (length keys) all.0) run
          ∙ ap (λ t. Ok (left (bool_bytes true ∷ rest) (log_of (length keys) (found_in t)))) (sym all.1),
    )

pub multi_dsat_ends : (checker : Checker) (k : ℕ) (keys : List Key) (w rest : Stack) → 1 ≤ k → length keys ≤ 20 → k ≤ length keys
    → All (λ key. IsTrue (is_key key)) keys → w ≡ replicate (k + 1) EMPTY → EndsB true false (multi_effect checker k keys) w rest (log_of (length keys) [])
multi_dsat_ends checker zero keys w rest some few low forms e = absurd (omega arith)
multi_dsat_ends checker (suc k) keys w rest some few low forms e =
    let tried = empty_tries checker (reverse keys) k [] (reversed_forms keys forms) in
    let run = multi_run checker keys (replicate (suc k) EMPTY) rest (suc k) None false [] few low (length-replicate (suc k) EMPTY) tried (verdict_empty (suc k)) in (
      bool_bytes false,
      bool_value true false,
      ap (multi_effect checker (suc k) keys) (stack_is (replicate (suc k) EMPTY) w (EMPTY ∷ []) rest refl (e ∙ empties_split (suc k)))
          ∙ multi_steps checker (suc k) keys (replicate (suc k) EMPTY ++ (EMPTY ∷ rest)) (bool_bytes false ∷ rest) (log_of (length keys) []) run,
    )
