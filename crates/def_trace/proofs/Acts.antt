-- What each opcode changes, and so each step.
use Rattle.std.proofs.Common.{◌≡◌, ℕ, ◌+◌, ◌||◌, ◌&&◌, not, nat_lt, max, Bool, true, false, List, [], ◌∷◌, ◌++◌, length, map, take, drop, Ok, refl, sym, ◌∙◌, ap, subst, if◌then◌else◌}
use Rattle.std.specs.List.{list_all}
use Rattle.std.proofs.Math.Bool.{and-true}
use Rattle.std.proofs.lemmas.List.{append-nil}
use Rattle.def_hash.specs.declared.HashKind.TheVariants as kind
use Rattle.def_script.specs.declared.Op.{Op}
use Rattle.def_script.specs.declared.Op.TheVariants as op
use Rattle.def_script.specs.Bytes.{Bytes}
use Rattle.def_script.specs.Item.{Item}
use Rattle.def_script.specs.Item as item
use Rattle.def_script.specs.Limits.{MAX_SCRIPT_ELEMENT_SIZE, MAX_STACK_SIZE}
use Rattle.def_machine.specs.declared.ScriptFault.TheVariants as fault
use Rattle.def_machine.specs.Faults.{OrFault, ◌>>=◌}
use Rattle.def_machine.specs.Locks.{after_holds, older_holds}
use Rattle.def_machine.specs.Stacks.{Stack, Pairs, Checker}
use Rattle.def_machine.specs.Effects.{verify, condition, to_alt_stack, from_alt_stack, if_dup, dup, swap, size, equal, zero_not_equal, add, bool_and, bool_or, hash, check_sig, lock}
use Rattle.def_machine.specs.MultiSig.{within_op_limit, check_multi_sig}
use Rattle.def_machine.specs.Machine.{Given, State, on_main, on_both, on_checks, on_multi, on_branches, is_live, is_branching, opened as the_opened, open_branch, turned as the_turned, closed as the_closed, act, only_if, pushed as the_pushed, count_op, carry_out, height, settle, step}
use Rattle.def_trace.specs.Seen.{Seen, seen}
use Rattle.def_trace.specs.Changes.{Change, pushed, alt_pushed, opened, opcode_puts, alt_changes, branch_changes, changes}
use Rattle.def_trace.specs.Trace.{stepped, skipped, is_carried_out, event_of}
use Rattle.def_trace.specs.Reader.{changed, changed_by, turn_first, own_push, after_event}
use Rattle.def_trace.specs.Laws.{Passed}
use Rattle.def_trace.proofs.Told.{Trades, Tells, told}
use Rattle.def_trace.proofs.Effects.{bound, ok_is, unless, provided, takes, verify_trades, verified_trades, condition_takes, to_alt_moves, from_alt_moves, if_dup_trades, dup_trades, swap_trades, size_trades, equal_trades, hash_trades, zero_not_equal_trades, add_trades, bool_and_trades, bool_or_trades, lock_trades, Checks, check_sig_checks, check_multi_sig_checks}

-- ---- what an opcode of a kind leaves alone

-- an opcode changes neither the alternative stack nor the branches
abbrev IsPlain : Op → Type 0
IsPlain o = (alt : Stack) (branches : List Bool) → (alt_changes o alt ≡ []) × (branch_changes o branches ≡ [])

same_alt : (u : Seen) (alt : Stack) → alt ≡ u.alt → u ≡ record u { alt = alt }
same_alt u alt is = ap (λ (a : Stack). record u { alt = a }) (sym is)

same_branches : (u : Seen) (branches : List Bool) → branches ≡ u.branches → u ≡ record u { branches = branches }
same_branches u branches is = ap (λ (b : List Bool). record u { branches = b }) (sym is)

plain : (o : Op) (v w : Seen) (found : Pairs) → IsPlain o → Trades (opcode_puts o (length v.main) (length w.main)) v.main w.main → w.alt ≡ v.alt → w.branches ≡ v.branches
    → w.checks ≡ v.checks ++ found → Tells o v w
plain o v w found is main alt branches checks =
    record {
      main = main;
      alt = λ u same. ap (λ (cs : List Change). changed_by u cs) (is w.alt w.branches).0 ∙ same_alt u w.alt (alt ∙ sym same);
      branches = λ u same. ap (λ (cs : List Change). changed_by u cs) (is w.alt w.branches).1 ∙ same_branches u w.branches (branches ∙ sym same);
      found = found;
      checks = checks;
    }

-- ---- effects on parts of the machine

on_main_leaves : (f : Stack → OrFault Stack) (s t : State) → on_main f s ≡ Ok t → (main : Stack) × (f s.main ≡ Ok main) × (t ≡ record s { main = main })
on_main_leaves f s t is =
    let h = bound (f s.main) (λ main. Ok (record s { main = main })) t is in
    (h.first, h.is, sym (ok_is _ t h.next))

-- an opcode that only trades elements of the main stack
main_tells : (o : Op) (puts : ℕ) (f : Stack → OrFault Stack) (s t : State) → IsPlain o → ((n : ℕ) → opcode_puts o (length s.main) n ≡ puts)
    → ((a b : Stack) → f a ≡ Ok b → Trades puts a b) → on_main f s ≡ Ok t → Tells o (seen s) (seen t)
main_tells o puts f s t is many trades done =
    let h = on_main_leaves f s t done in
    let P : State → Type 0 = λ u. Tells o (seen s) (seen u) in
    let Q : ℕ → Type 0 = λ n. Trades n s.main h.0 in
    subst P (sym h.2)
    (plain o (seen s) (seen (record s { main = h.0 })) [] is (subst Q (sym (many (length h.0))) (trades s.main h.0 h.1)) refl refl
    (sym (append-nil s.checks)))

-- the same with VERIFY behind it
verify_tells : (o : Op) (f : Stack → OrFault Stack) (s t : State) → IsPlain o → ((n : ℕ) → opcode_puts o (length s.main) n ≡ 0)
    → ((a b : Stack) → f a ≡ Ok b → Trades 1 a b) → (on_main f s >>= on_main verify) ≡ Ok t → Tells o (seen s) (seen t)
verify_tells o f s t is many trades done =
    let h = bound (on_main f s) (on_main verify) t done in
    let one = on_main_leaves f s h.first h.is in
    let two = on_main_leaves verify h.first t h.next in
    let whole : t ≡ record s { main = two.0 } = two.2 ∙ ap (λ (u : State). record u { main = two.0 }) one.2 in
    let there : verify one.0 ≡ Ok two.0 = ap (λ (u : State). verify u.main) (sym one.2) ∙ two.1 in
    let P : State → Type 0 = λ u. Tells o (seen s) (seen u) in
    let Q : ℕ → Type 0 = λ n. Trades n s.main two.0 in
    subst P (sym whole)
    (plain o (seen s) (seen (record s { main = two.0 })) [] is
    (subst Q (sym (many (length two.0))) (verified_trades s.main one.0 two.0 (trades s.main one.0 one.1) there)) refl refl
    (sym (append-nil s.checks)))

-- signatures are checked
record Checked (s t : State) : Type 0 where
  pub alt : t.alt ≡ s.alt
  pub branches : t.branches ≡ s.branches
  pub checked : Checks s.main s.checks t.main t.checks

sig_checked : (checker : Checker) (s t : State) → on_checks (check_sig checker) s ≡ Ok t → Checked s t
sig_checked checker s t is =
    let h = bound (check_sig checker s.main s.checks) (λ left. Ok (record s { main = left.0; checks = left.1 })) t is in
    let P : State → Type 0 = λ u. Checked s u in
    subst P (ok_is (record s { main = h.first.0; checks = h.first.1 }) t h.next)
    (record { alt = refl; branches = refl; checked = check_sig_checks checker s.main s.checks h.first h.is })

multi_checked : (checker : Checker) (s t : State) → on_multi (check_multi_sig checker) s ≡ Ok t → Checked s t
multi_checked checker s t is =
    let h = bound (check_multi_sig checker s.main s.ops s.checks) (λ left. Ok (record s { main = left.0; ops = left.1; checks = left.2 })) t is in
    let P : State → Type 0 = λ u. Checked s u in
    subst P (ok_is (record s { main = h.first.0; ops = h.first.1; checks = h.first.2 }) t h.next)
    (record { alt = refl; branches = refl; checked = check_multi_sig_checks checker s.main s.ops s.checks h.first h.is })

checked_tells : (o : Op) (s t : State) → IsPlain o → ((n : ℕ) → opcode_puts o (length s.main) n ≡ 1) → Checked s t → Tells o (seen s) (seen t)
checked_tells o s t is many h =
    let Q : ℕ → Type 0 = λ n. Trades n s.main t.main in
    plain o (seen s) (seen t) h.checked.found is (subst Q (sym (many (length t.main))) h.checked.main) h.alt h.branches h.checked.more

-- and VERIFY is done behind that
check_verify_tells : (o : Op) (s u t : State) → IsPlain o → ((n : ℕ) → opcode_puts o (length s.main) n ≡ 0) → Checked s u → on_main verify u ≡ Ok t
    → Tells o (seen s) (seen t)
check_verify_tells o s u t is many h done =
    let v = on_main_leaves verify u t done in
    let P : State → Type 0 = λ x. Tells o (seen s) (seen x) in
    let Q : ℕ → Type 0 = λ n. Trades n s.main v.0 in
    let w : State = record u { main = v.0 } in
    subst P (sym v.2)
    (plain o (seen s) (seen w) h.checked.found is (subst Q (sym (many (length v.0))) (verified_trades s.main u.main v.0 h.checked.main v.1)) h.alt h.branches
    h.checked.more)

-- ---- branches

-- the innermost branch is the one that was opened
open_told : (u w : Seen) (taken : Bool) (outer : List Bool) → w.branches ≡ taken ∷ outer → u.branches ≡ outer
    → changed_by u (map opened (take 1 w.branches)) ≡ record u { branches = w.branches }
open_told u w taken outer now was =
    ap (λ (bs : List Bool). changed_by u (map opened (take 1 bs))) now
    ∙ ap (λ (bs : List Bool). record u { branches = bs }) (ap (λ (bs : List Bool). taken ∷ bs) was ∙ sym now)

pub record Opens (s t : State) : Type 0 where
  pub main : Trades 0 s.main t.main
  pub alt : t.alt ≡ s.alt
  pub checks : t.checks ≡ s.checks
  pub taken : Bool
  pub branches : t.branches ≡ taken ∷ s.branches
  pub live : is_live t ≡ taken

opens_by : (live wanted : Bool) (s t : State) → is_live s ≡ live → the_opened live wanted s ≡ Ok t → Opens s t
opens_by true wanted s t live is =
    let h = bound (condition s.main) _ t is in
    let was = condition_takes s.main h.first h.is in
    let value = if wanted then h.first.0 else not h.first.0 in
    let P : State → Type 0 = λ u. Opens s u in
    subst P (ok_is (record s { main = h.first.1; branches = value ∷ s.branches }) t h.next)
    (record { main = takes s.main h.first.1 (was.0 ∷ []) was.1; alt = refl; checks = refl; taken = value; branches = refl; live = ap (λ (b : Bool). value && b) live ∙ and-true value })
opens_by false wanted s t live is =
    let P : State → Type 0 = λ u. Opens s u in
    subst P (ok_is (record s { branches = false ∷ s.branches }) t is)
    (record { main = takes s.main s.main [] refl; alt = refl; checks = refl; taken = false; branches = refl; live = refl })

pub opens : (wanted : Bool) (s t : State) → open_branch wanted s ≡ Ok t → Opens s t
unfolding open_branch
opens wanted s t is = opens_by (is_live s) wanted s t refl is

if_tells : (s t : State) → Opens s t → Tells op.If (seen s) (seen t)
if_tells s t h =
    record {
      main = h.main;
      alt = λ u same. same_alt u t.alt (h.alt ∙ sym same);
      branches = λ u same. open_told u (seen t) h.taken s.branches h.branches same;
      found = [];
      checks = h.checks ∙ sym (append-nil s.checks);
    }

not_if_tells : (s t : State) → Opens s t → Tells op.NotIf (seen s) (seen t)
not_if_tells s t h =
    record {
      main = h.main;
      alt = λ u same. same_alt u t.alt (h.alt ∙ sym same);
      branches = λ u same. open_told u (seen t) h.taken s.branches h.branches same;
      found = [];
      checks = h.checks ∙ sym (append-nil s.checks);
    }

turns : (bs cs : List Bool) → the_turned bs ≡ Ok cs → turn_first bs ≡ cs
unfolding the_turned
turns [] cs is = absurd cc
turns (b ∷ bs) cs is = ok_is (not b ∷ bs) cs is

else_tells : (s t : State) → on_branches the_turned s ≡ Ok t → Tells op.Else (seen s) (seen t)
else_tells s t is =
    let h = bound (the_turned s.branches) (λ branches. Ok (record s { branches = branches })) t is in
    let P : State → Type 0 = λ u. Tells op.Else (seen s) (seen u) in
    subst P (ok_is (record s { branches = h.first }) t h.next)
    (record {
      main = takes s.main s.main [] refl;
      alt = λ u same. same_alt u s.alt (sym same);
      branches = λ u same. ap (λ (bs : List Bool). record u { branches = bs }) (ap turn_first same ∙ turns s.branches h.first h.is);
      found = [];
      checks = sym (append-nil s.checks);
    })

closes : (bs cs : List Bool) → the_closed bs ≡ Ok cs → drop 1 bs ≡ cs
unfolding the_closed
closes [] cs is = absurd cc
closes (b ∷ bs) cs is = ok_is bs cs is

end_if_tells : (s t : State) → on_branches the_closed s ≡ Ok t → Tells op.EndIf (seen s) (seen t)
end_if_tells s t is =
    let h = bound (the_closed s.branches) (λ branches. Ok (record s { branches = branches })) t is in
    let P : State → Type 0 = λ u. Tells op.EndIf (seen s) (seen u) in
    subst P (ok_is (record s { branches = h.first }) t h.next)
    (record {
      main = takes s.main s.main [] refl;
      alt = λ u same. same_alt u s.alt (sym same);
      branches = λ u same.
          ap (λ (bs : List Bool). record u { branches = bs }) (ap (λ (bs : List Bool). drop 1 bs) same ∙ closes s.branches h.first h.is);
      found = [];
      checks = sym (append-nil s.checks);
    })

-- ---- the alternative stack

to_alt_tells : (s t : State) → on_both to_alt_stack s ≡ Ok t → Tells op.ToAltStack (seen s) (seen t)
to_alt_tells s t is =
    let h = bound (to_alt_stack s.main s.alt) (λ stacks. Ok (record s { main = stacks.0; alt = stacks.1 })) t is in
    let moved = to_alt_moves s.main s.alt h.first h.is in
    let P : State → Type 0 = λ u. Tells op.ToAltStack (seen s) (seen u) in
    subst P (ok_is (record s { main = h.first.0; alt = h.first.1 }) t h.next)
    (record {
      main = takes s.main h.first.0 (moved.0 ∷ []) moved.1;
      alt = λ u same.
          ap (λ (alt : Stack). changed_by u (map alt_pushed (take 1 alt))) moved.2
          ∙ ap (λ (alt : Stack). record u { alt = alt }) (ap (λ (alt : Stack). moved.0 ∷ alt) same ∙ sym moved.2);
      branches = λ u same. same_branches u s.branches (sym same);
      found = [];
      checks = sym (append-nil s.checks);
    })

from_alt_tells : (s t : State) → on_both from_alt_stack s ≡ Ok t → Tells op.FromAltStack (seen s) (seen t)
from_alt_tells s t is =
    let h = bound (from_alt_stack s.main s.alt) (λ stacks. Ok (record s { main = stacks.0; alt = stacks.1 })) t is in
    let moved = from_alt_moves s.main s.alt h.first h.is in
    let P : State → Type 0 = λ u. Tells op.FromAltStack (seen s) (seen u) in
    subst P (ok_is (record s { main = h.first.0; alt = h.first.1 }) t h.next)
    (record {
      main = record { up = moved.0 ∷ []; gone = []; rest = s.main; now = moved.1; was = refl; put = refl };
      alt = λ u same.
          ap (λ (alt : Stack). record u { alt = alt }) (ap (λ (alt : Stack). drop 1 alt) (same ∙ moved.2));
      branches = λ u same. same_branches u s.branches (sym same);
      found = [];
      checks = sym (append-nil s.checks);
    })

if_dup_tells : (s t : State) → on_main if_dup s ≡ Ok t → Tells op.IfDup (seen s) (seen t)
if_dup_tells s t is =
    let h = on_main_leaves if_dup s t is in
    let P : State → Type 0 = λ u. Tells op.IfDup (seen s) (seen u) in
    subst P (sym h.2)
    (plain op.IfDup (seen s) (seen (record s { main = h.0 })) [] (λ alt branches. (refl, refl)) (if_dup_trades s.main h.0 h.1) refl refl (sym (append-nil s.checks)))

-- ---- each opcode

pub acted : (given : Given) (o : Op) (s t : State) → act given o s ≡ Ok t → Tells o (seen s) (seen t)
unfolding act
acted given op.If s t is = if_tells s t (opens true s t is)
acted given op.NotIf s t is = not_if_tells s t (opens false s t is)
acted given op.Else s t is = else_tells s t is
acted given op.EndIf s t is = end_if_tells s t is
acted given op.Verify s t is = main_tells op.Verify 0 verify s t (λ alt branches. (refl, refl)) (λ n. refl) verify_trades is
acted given op.ToAltStack s t is = to_alt_tells s t is
acted given op.FromAltStack s t is = from_alt_tells s t is
acted given op.IfDup s t is = if_dup_tells s t is
acted given op.Dup s t is = main_tells op.Dup 1 dup s t (λ alt branches. (refl, refl)) (λ n. refl) dup_trades is
acted given op.Swap s t is = main_tells op.Swap 2 swap s t (λ alt branches. (refl, refl)) (λ n. refl) swap_trades is
acted given op.Size s t is = main_tells op.Size 1 size s t (λ alt branches. (refl, refl)) (λ n. refl) size_trades is
acted given op.Equal s t is = main_tells op.Equal 1 equal s t (λ alt branches. (refl, refl)) (λ n. refl) equal_trades is
acted given op.EqualVerify s t is = verify_tells op.EqualVerify equal s t (λ alt branches. (refl, refl)) (λ n. refl) equal_trades is
acted given op.ZeroNotEqual s t is = main_tells op.ZeroNotEqual 1 zero_not_equal s t (λ alt branches. (refl, refl)) (λ n. refl) zero_not_equal_trades is
acted given op.Add s t is = main_tells op.Add 1 add s t (λ alt branches. (refl, refl)) (λ n. refl) add_trades is
acted given op.BoolAnd s t is = main_tells op.BoolAnd 1 bool_and s t (λ alt branches. (refl, refl)) (λ n. refl) bool_and_trades is
acted given op.BoolOr s t is = main_tells op.BoolOr 1 bool_or s t (λ alt branches. (refl, refl)) (λ n. refl) bool_or_trades is
acted given op.Ripemd160 s t is = main_tells op.Ripemd160 1 (hash kind.Ripemd160) s t (λ alt branches. (refl, refl)) (λ n. refl) (hash_trades kind.Ripemd160) is
acted given op.Sha256 s t is = main_tells op.Sha256 1 (hash kind.Sha256) s t (λ alt branches. (refl, refl)) (λ n. refl) (hash_trades kind.Sha256) is
acted given op.Hash160 s t is = main_tells op.Hash160 1 (hash kind.Hash160) s t (λ alt branches. (refl, refl)) (λ n. refl) (hash_trades kind.Hash160) is
acted given op.Hash256 s t is = main_tells op.Hash256 1 (hash kind.Hash256) s t (λ alt branches. (refl, refl)) (λ n. refl) (hash_trades kind.Hash256) is
acted given op.CheckSig s t is = checked_tells op.CheckSig s t (λ alt branches. (refl, refl)) (λ n. refl) (sig_checked given.checker s t is)
acted given op.CheckSigVerify s t is =
    let h = bound (on_checks (check_sig given.checker) s) (on_main verify) t is in
    check_verify_tells op.CheckSigVerify s h.first t (λ alt branches. (refl, refl)) (λ n. refl) (sig_checked given.checker s h.first h.is) h.next
acted given op.CheckMultiSig s t is = checked_tells op.CheckMultiSig s t (λ alt branches. (refl, refl)) (λ n. refl) (multi_checked given.checker s t is)
acted given op.CheckMultiSigVerify s t is =
    let h = bound (on_multi (check_multi_sig given.checker) s) (on_main verify) t is in
    check_verify_tells op.CheckMultiSigVerify s h.first t (λ alt branches. (refl, refl)) (λ n. refl) (multi_checked given.checker s h.first h.is) h.next
acted given op.CheckLockTimeVerify s t is = main_tells op.CheckLockTimeVerify 0 (lock (λ n. after_holds n given.locks)) s t (λ alt branches. (refl, refl)) (λ n. refl) (lock_trades _) is
acted given op.CheckSequenceVerify s t is = main_tells op.CheckSequenceVerify 0 (lock (λ n. older_holds n given.locks)) s t (λ alt branches. (refl, refl)) (λ n. refl) (lock_trades _) is

-- ---- a step

settled : (s t : State) → settle s ≡ Ok t → seen t ≡ seen s
unfolding settle
settled s t is =
    ap seen (sym (ok_is (record s { peak = max s.peak (height s) }) t (unless (nat_lt MAX_STACK_SIZE (height s)) fault.StackSize _ t is)))

counted : (s t : State) → count_op s ≡ Ok t → seen t ≡ seen s
counted s t is =
    let h = bound (within_op_limit (s.ops + 1)) (λ ops. Ok (record s { ops = ops })) t is in
    ap seen (sym (ok_is (record s { ops = h.first }) t h.next))

-- an instruction that is carried out, or passed over
by_live : (live : Bool) (f : State → OrFault State) (s t : State) → live ≡ false → only_if live f s ≡ Ok t → seen t ≡ seen s
by_live true f s t dead is = absurd cc
by_live false f s t dead is = ap seen (sym (ok_is s t is))

by_done : (live : Bool) (f : State → OrFault State) (s t : State) → live ≡ true → only_if live f s ≡ Ok t → f s ≡ Ok t
by_done true f s t live is = is
by_done false f s t live is = absurd cc

-- both tests see the branches alone
live_is : (o : Op) (s t : State) → seen t ≡ seen s → (is_branching o || is_live t) ≡ (is_branching o || is_live s)
live_is o s t same = ap (λ (v : Seen). is_branching o || list_all (λ taken. taken) v.branches) same

pub passed : Passed
unfolding step carry_out
passed given (item.fault e) s t dead is = absurd cc
passed given (item.push bytes minimal) s t dead is =
    let h = bound (carry_out given (item.push bytes minimal) s) settle t is in
    settled h.first t h.next
    ∙ by_live (is_live s) (the_pushed bytes minimal) s h.first dead
    (unless (nat_lt MAX_SCRIPT_ELEMENT_SIZE (length bytes)) fault.ElementSize _ h.first h.is)
passed given (item.code o) s t dead is =
    let h = bound (carry_out given (item.code o) s) settle t is in
    let u = bound (count_op s) _ h.first h.is in
    let same = counted s u.first u.is in
    settled h.first t h.next
    ∙ by_live (is_branching o || is_live u.first) (act given o) u.first h.first (live_is o s u.first same ∙ dead) u.next ∙ same

push_told : (bytes : Bytes) (minimal : Bool) (s t : State) → the_pushed bytes minimal s ≡ Ok t → seen t ≡ changed (seen s) (pushed bytes)
unfolding the_pushed
push_told bytes minimal s t is = ap seen (sym (ok_is (record s { main = bytes ∷ s.main }) t (provided minimal fault.NonMinimalPush _ t is)))

-- an opcode's step that is carried out: what is seen before and behind its act is what is seen before and behind the step
pub record Carried (given : Given) (o : Op) (s t : State) : Type 0 where
  pub before : State
  pub after : State
  pub was : seen before ≡ seen s
  pub acts : act given o before ≡ Ok after
  pub now : seen t ≡ seen after

pub opcode_carried : (given : Given) (o : Op) (s t : State) → is_carried_out (item.code o) s ≡ true → step given (item.code o) s ≡ Ok t → Carried given o s t
unfolding step carry_out
opcode_carried given o s t live is =
    let h = bound (carry_out given (item.code o) s) settle t is in
    let u = bound (count_op s) _ h.first h.is in
    let was = counted s u.first u.is in
    record {
      before = u.first;
      after = h.first;
      was = was;
      acts = by_done (is_branching o || is_live u.first) (act given o) u.first h.first (live_is o s u.first was ∙ live) u.next;
      now = settled h.first t h.next;
    }

carried : (given : Given) (i : Item) (s t : State) → is_carried_out i s ≡ true → step given i s ≡ Ok t
    → changed_by (seen s) (own_push i ++ changes i (seen s) (seen t)) ≡ seen t
unfolding step carry_out changes
carried given (item.fault e) s t live is = absurd cc
carried given (item.push bytes minimal) s t live is =
    let h = bound (carry_out given (item.push bytes minimal) s) settle t is in
    let done =
    by_done (is_live s) (the_pushed bytes minimal) s h.first live
    (unless (nat_lt MAX_SCRIPT_ELEMENT_SIZE (length bytes)) fault.ElementSize _ h.first h.is)
    in
    sym (settled h.first t h.next ∙ push_told bytes minimal s h.first done)
carried given (item.code o) s t live is =
    let c = opcode_carried given o s t live is in
    let P : Seen → Type 0 = λ v. changed_by v (changes (item.code o) v (seen t)) ≡ seen t in
    let Q : Seen → Type 0 = λ w. changed_by (seen c.before) (changes (item.code o) (seen c.before) w) ≡ w in
    subst P c.was (subst Q (sym c.now) (told o (seen c.before) (seen c.after) (acted given o c.before c.after c.acts)))

by_event : (given : Given) (i : Item) (s t : State) (live : Bool) → is_carried_out i s ≡ live → step given i s ≡ Ok t
    → after_event (seen s) i (if live then stepped (changes i (seen s) (seen t)) else skipped) ≡ seen t
by_event given i s t true live is = carried given i s t live is
by_event given i s t false dead is = sym (passed given i s t dead is)

pub event_told : (given : Given) (i : Item) (s t : State) → step given i s ≡ Ok t → after_event (seen s) i (event_of i s (Ok t)) ≡ seen t
event_told given i s t is = by_event given i s t (is_carried_out i s) refl is
