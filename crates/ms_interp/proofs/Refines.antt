-- The machine as the code keeps it does what the machine does.
use Rattle.std.proofs.Common.{◌≡◌, ℕ, suc, max, nat_lt, add-one, ◌+◌, ◌<◌, ◌==◌, ◌||◌, ◌&&◌, not, Bool, true, false, List, [], ◌∷◌, length, Option, Some, None, Ok, Err, arith, refl, ap, if◌then◌else◌}
use Rattle.std.specs.List.{list_all}
use Rattle.std.proofs.lemmas.Bool.{eq-eqb, ne_eqb}
use Rattle.def_hash.specs.declared.HashKind.TheVariants as kind
use Rattle.def_script.specs.declared.Op.{Op}
use Rattle.def_script.specs.declared.Op.TheVariants as op
use Rattle.def_script.specs.Bytes.{Bytes}
use Rattle.def_script.specs.Item.{Item}
use Rattle.def_script.specs.Item as item
use Rattle.def_machine.specs.declared.ScriptFault.TheVariants as fault
use Rattle.def_machine.specs.Faults.{OrFault, ◌>>=◌}
use Rattle.def_machine.specs.Locks.{after_holds, older_holds}
use Rattle.def_machine.specs.Stacks.{Stack, Pairs}
use Rattle.def_machine.specs.Effects.{verify, condition, to_alt_stack, from_alt_stack, if_dup, dup, swap, size, equal, zero_not_equal, add, bool_and, bool_or, hash, check_sig, lock}
use Rattle.def_machine.specs.MultiSig.{within_op_limit, check_multi_sig}
use Rattle.def_machine.specs.Machine.{Given, State, height, is_live, is_branching, on_main as the_on_main, on_both as the_on_both, on_checks as the_on_checks, on_multi as the_on_multi, on_branches as the_on_branches, opened as the_opened, open_branch as the_open_branch, turned as the_turned, closed as the_closed, act as the_act, only_if as the_only_if, pushed as the_pushed, count_op as the_count_op, carry_out as the_carry_out, settle as the_settle, step as the_step}
use Rattle.def_machine.specs.Run.{Outcome, leads as the_leads, finish as the_finish, balanced as the_balanced, is_clean, ended as the_ended, steps as the_steps}
use Rattle.ms_interp.specs.declared.branches.Branches.{Branches}
use Rattle.ms_interp.specs.declared.machine.Machine.{Machine}
use Rattle.ms_interp.specs.Scaffolding.Branches.{first_with, first_false, first_outside, first_turned, branches_of, is_none, with_branch, turned, closed, balanced}
use Rattle.ms_interp.specs.Scaffolding.Compact.{machine_of, on_main, on_both, on_checks, on_multi, on_branches, opened, open_branch, act, only_if, pushed, carry_push, count_op, carry_op, carry_out, settle, step, leads, finish, ended, steps}

-- a state as the code keeps it, or the fault
abbrev pub seen : OrFault State → OrFault Machine
seen (Ok s) = Ok (machine_of s)
seen (Err e) = Err e

-- what follows alike is seen alike
bind_is : {A : Type 0} (r : OrFault A) (f : A → Machine) (g : A → State) → ((a : A) → f a ≡ machine_of (g a))
    → (r >>= (λ a. Ok (f a))) ≡ seen (r >>= (λ a. Ok (g a)))
bind_is (Ok a) f g same = rw (same a) refl
bind_is (Err e) f g same = refl

then_is : (r : OrFault State) (f : Machine → OrFault Machine) (g : State → OrFault State) → ((s : State) → f (machine_of s) ≡ seen (g s))
    → (seen r >>= f) ≡ seen (r >>= g)
then_is (Ok s) f g same = same s
then_is (Err e) f g same = refl

-- the effects on parts
main_is : (f : Stack → OrFault Stack) (s : State) → on_main f (machine_of s) ≡ seen (the_on_main f s)
main_is f s = bind_is (f s.main) (λ main. record (machine_of s) { main = main }) (λ main. record s { main = main }) (λ main. refl)

both_is : (f : Stack → Stack → OrFault (Stack × Stack)) (s : State) → on_both f (machine_of s) ≡ seen (the_on_both f s)
both_is f s =
    bind_is (f s.main s.alt) (λ stacks. record (machine_of s) { main = stacks.0; alt = stacks.1 }) (λ stacks. record s { main = stacks.0; alt = stacks.1 }) (λ stacks. refl)

checks_is : (f : Stack → Pairs → OrFault (Stack × Pairs)) (s : State) → on_checks f (machine_of s) ≡ seen (the_on_checks f s)
checks_is f s =
    bind_is (f s.main s.checks) (λ left. record (machine_of s) { main = left.0; checks = left.1 }) (λ left. record s { main = left.0; checks = left.1 }) (λ left. refl)

multi_is : (f : Stack → ℕ → Pairs → OrFault (Stack × ℕ × Pairs)) (s : State) → on_multi f (machine_of s) ≡ seen (the_on_multi f s)
multi_is f s =
    bind_is (f s.main s.ops s.checks) (λ left. record (machine_of s) { main = left.0; ops = left.1; checks = left.2 })
    (λ left. record s { main = left.0; ops = left.1; checks = left.2 }) (λ left. refl)

-- the open branches
live_with : (taken : Bool) (first : Option ℕ) (depth : ℕ) (live : Bool) → is_none first ≡ live → is_none (first_with taken first depth) ≡ (taken && live)
live_with true (Some place) depth live e = e
live_with true None depth live e = e
live_with false (Some place) depth live e = refl
live_with false None depth live e = refl

pub live_is : (branches : List Bool) → is_none (first_false branches) ≡ list_all (λ taken. taken) branches
live_is [] = refl
live_is (taken ∷ branches) = live_with taken (first_false branches) (length branches) _ (live_is branches)

-- the place lies inside
place_with : (taken : Bool) (first : Option ℕ) (depth place : ℕ) → ((i : ℕ) → first ≡ Some i → i < depth) → first_with taken first depth ≡ Some place → place < suc depth
place_with taken (Some i) depth place inside e =
    let low : i < depth = inside i refl in
    let same : i ≡ place = cc in
    omega arith
place_with true None depth place inside e = absurd cc
place_with false None depth place inside e = let same : depth ≡ place = cc in omega arith

place_is : (branches : List Bool) (place : ℕ) → first_false branches ≡ Some place → place < length branches
place_is [] place e = absurd cc
place_is (taken ∷ branches) place e = place_with taken (first_false branches) (length branches) place (λ i. place_is branches i) e

outside_is : (taken : Bool) (first : Option ℕ) (depth : ℕ) → ((i : ℕ) → first ≡ Some i → i < depth) → first_outside depth (first_with taken first depth) ≡ first
outside_is taken (Some i) depth inside =
    let low : i < depth = inside i refl in
    let other : (i == depth) ≡ false = ne_eqb i depth (λ e. omega arith) in
    rw other refl
outside_is true None depth inside = refl
outside_is false None depth inside = rw (eq-eqb depth depth refl) refl

turned_is : (taken : Bool) (first : Option ℕ) (depth : ℕ) → ((i : ℕ) → first ≡ Some i → i < depth) → first_turned depth (first_with taken first depth) ≡ first_with (not taken) first depth
turned_is taken (Some i) depth inside =
    let low : i < depth = inside i refl in
    let other : (i == depth) ≡ false = ne_eqb i depth (λ e. omega arith) in
    rw other refl
turned_is true None depth inside = refl
turned_is false None depth inside = rw (eq-eqb depth depth refl) refl

-- branches as two numbers, or the fault
abbrev kept : OrFault (List Bool) → OrFault Branches
kept (Ok branches) = Ok (branches_of branches)
kept (Err e) = Err e

turn_is : (branches : List Bool) → turned (branches_of branches) ≡ kept (the_turned branches)
unfolding the_turned
turn_is [] = refl
turn_is (taken ∷ branches) = rw (turned_is taken (first_false branches) (length branches) (λ i. place_is branches i)) refl

close_is : (branches : List Bool) → closed (branches_of branches) ≡ kept (the_closed branches)
unfolding the_closed
close_is [] = refl
close_is (taken ∷ branches) = rw (outside_is taken (first_false branches) (length branches) (λ i. place_is branches i)) refl

branches_with : (s : State) (r : OrFault Branches) (r' : OrFault (List Bool)) → r ≡ kept r'
    → (r >>= (λ branches. Ok (record (machine_of s) { branches = branches }))) ≡ seen (r' >>= (λ branches. Ok (record s { branches = branches })))
branches_with s r (Ok branches) e = rw e refl
branches_with s r (Err fault) e = rw e refl

branches_is : (f : Branches → OrFault Branches) (g : List Bool → OrFault (List Bool)) (s : State) → f (branches_of s.branches) ≡ kept (g s.branches)
    → on_branches f (machine_of s) ≡ seen (the_on_branches g s)
branches_is f g s e = branches_with s (f (branches_of s.branches)) (g s.branches) e

with_branch_is : (taken : Bool) (branches : List Bool) → with_branch taken (branches_of branches) ≡ branches_of (taken ∷ branches)
with_branch_is taken branches = rw (add-one (length branches)) refl

opened_is : (live wanted : Bool) (s : State) → opened live wanted (machine_of s) ≡ seen (the_opened live wanted s)
opened_is true wanted s =
    bind_is (condition s.main)
    (λ top. record (machine_of s) { main = top.1; branches = with_branch (if wanted then top.0 else not top.0) (branches_of s.branches) })
    (λ top. record s { main = top.1; branches = (if wanted then top.0 else not top.0) ∷ s.branches })
    (λ top. ap (λ (b : Branches). record (machine_of s) { main = top.1; branches = b }) (with_branch_is (if wanted then top.0 else not top.0) s.branches))
opened_is false wanted s = ap (λ (b : Branches). Ok (record (machine_of s) { branches = b })) (with_branch_is false s.branches)

open_is : (wanted : Bool) (s : State) → open_branch wanted (machine_of s) ≡ seen (the_open_branch wanted s)
unfolding open_branch the_open_branch
open_is wanted s = rw (live_is s.branches) (opened_is (is_live s) wanted s)

verify_after : (r : OrFault State) (r' : OrFault Machine) → r' ≡ seen r → (r' >>= on_main verify) ≡ seen (r >>= the_on_main verify)
verify_after r r' e = rw e (then_is r (on_main verify) (the_on_main verify) (main_is verify))

act_is : (given : Given) (op : Op) (s : State) → act given op (machine_of s) ≡ seen (the_act given op s)
unfolding act the_act
act_is given op.If s = open_is true s
act_is given op.NotIf s = open_is false s
act_is given op.Else s = branches_is turned the_turned s (turn_is s.branches)
act_is given op.EndIf s = branches_is closed the_closed s (close_is s.branches)
act_is given op.Verify s = main_is verify s
act_is given op.ToAltStack s = both_is to_alt_stack s
act_is given op.FromAltStack s = both_is from_alt_stack s
act_is given op.IfDup s = main_is if_dup s
act_is given op.Dup s = main_is dup s
act_is given op.Swap s = main_is swap s
act_is given op.Size s = main_is size s
act_is given op.Equal s = main_is equal s
act_is given op.EqualVerify s = verify_after (the_on_main equal s) (on_main equal (machine_of s)) (main_is equal s)
act_is given op.ZeroNotEqual s = main_is zero_not_equal s
act_is given op.Add s = main_is add s
act_is given op.BoolAnd s = main_is bool_and s
act_is given op.BoolOr s = main_is bool_or s
act_is given op.Ripemd160 s = main_is (hash kind.Ripemd160) s
act_is given op.Sha256 s = main_is (hash kind.Sha256) s
act_is given op.Hash160 s = main_is (hash kind.Hash160) s
act_is given op.Hash256 s = main_is (hash kind.Hash256) s
act_is given op.CheckSig s = checks_is (check_sig given.checker) s
act_is given op.CheckSigVerify s = verify_after (the_on_checks (check_sig given.checker) s) (on_checks (check_sig given.checker) (machine_of s)) (checks_is (check_sig given.checker) s)
act_is given op.CheckMultiSig s = multi_is (check_multi_sig given.checker) s
act_is given op.CheckMultiSigVerify s = verify_after (the_on_multi (check_multi_sig given.checker) s) (on_multi (check_multi_sig given.checker) (machine_of s))
    (multi_is (check_multi_sig given.checker) s)
act_is given op.CheckLockTimeVerify s = main_is (lock (λ n. after_holds n given.locks)) s
act_is given op.CheckSequenceVerify s = main_is (lock (λ n. older_holds n given.locks)) s

only_if_is : (b : Bool) (f : Machine → OrFault Machine) (g : State → OrFault State) (s : State) → f (machine_of s) ≡ seen (g s)
    → only_if b f (machine_of s) ≡ seen (the_only_if b g s)
only_if_is true f g s same = same
only_if_is false f g s same = refl

pushed_is : (bytes : Bytes) (minimal : Bool) (s : State) → pushed bytes minimal (machine_of s) ≡ seen (the_pushed bytes minimal s)
unfolding pushed the_pushed
pushed_is bytes true s = refl
pushed_is bytes false s = refl

count_is : (s : State) → count_op (machine_of s) ≡ seen (the_count_op s)
count_is s = bind_is (within_op_limit (s.ops + 1)) (λ ops. record (machine_of s) { ops = ops }) (λ ops. record s { ops = ops }) (λ ops. refl)

if_is : (b : Bool) (e : OrFault State) (e' : OrFault Machine) (r : OrFault State) (r' : OrFault Machine) → e' ≡ seen e → r' ≡ seen r
    → (if b then e' else r') ≡ seen (if b then e else r)
if_is true e e' r r' first second = first
if_is false e e' r r' first second = second

carry_is : (given : Given) (item : Item) (s : State) → carry_out given item (machine_of s) ≡ seen (the_carry_out given item s)
unfolding carry_out carry_push carry_op the_carry_out
carry_is given (item.fault e) s = refl
carry_is given (item.push bytes minimal) s =
    if_is (nat_lt 520 (length bytes)) (Err fault.ElementSize) (Err fault.ElementSize) (the_only_if (is_live s) (the_pushed bytes minimal) s)
    (only_if (is_none (first_false s.branches)) (pushed bytes minimal) (machine_of s)) refl
    (rw (live_is s.branches) (only_if_is (is_live s) (pushed bytes minimal) (the_pushed bytes minimal) s (pushed_is bytes minimal s)))
carry_is given (item.code op) s =
    rw (count_is s)
    (then_is (the_count_op s) (λ t. only_if (is_branching op || is_none t.branches.first_false) (act given op) t) (λ t. the_only_if (is_branching op || is_live t) (the_act given op) t)
    (λ t. rw (live_is t.branches) (only_if_is (is_branching op || is_live t) (act given op) (the_act given op) t (act_is given op t))))

settle_is : (s : State) → settle (machine_of s) ≡ seen (the_settle s)
unfolding settle the_settle
settle_is s =
    if_is (nat_lt 1000 (height s)) (Err fault.StackSize) (Err fault.StackSize) (Ok (record s { peak = max s.peak (height s) }))
    (Ok (record (machine_of s) { peak = max s.peak (height s) })) refl refl

pub step_is : (given : Given) (item : Item) (s : State) → step given item (machine_of s) ≡ seen (the_step given item s)
unfolding step the_step
step_is given item s = rw (carry_is given item s) (then_is (the_carry_out given item s) settle the_settle settle_is)

clean_is : (main : Stack) (s : State) → (is_clean main >>= (λ one. Ok (machine_of s))) ≡ seen (is_clean main >>= (λ one. Ok s))
clean_is main s = bind_is (is_clean main) (λ one. machine_of s) (λ one. s) (λ one. refl)

finish_at : (branches : List Bool) (s : State)
    → (balanced (branches_of branches) >>= (λ none. is_clean s.main >>= (λ one. Ok (machine_of s)))) ≡ seen (the_balanced branches >>= (λ none. is_clean s.main >>= (λ one. Ok s)))
finish_at [] s = clean_is s.main s
finish_at (taken ∷ branches) s =
    let open_one : (suc (length branches) == 0) ≡ false = ne_eqb _ 0 (λ e. omega arith) in
    rw open_one refl

finish_is : (s : State) → finish (machine_of s) ≡ seen (the_finish s)
unfolding finish the_finish
finish_is s = finish_at s.branches s

leads_is : (r : OrFault State) (place : ℕ) (f : Machine → Outcome) (g : State → Outcome) → ((s : State) → f (machine_of s) ≡ g s) → leads (seen r) place f ≡ the_leads r place g
leads_is (Ok s) place f g same = same s
leads_is (Err e) place f g same = refl

-- the same end
pub ended_is : (place : ℕ) (s : State) → ended place (machine_of s) ≡ the_ended place s
ended_is place s = rw (finish_is s) (leads_is (the_finish s) place _ _ (λ t. refl))

-- the same outcome
pub steps_is : (given : Given) (items : List Item) (place : ℕ) (s : State) → steps given items place (machine_of s) ≡ the_steps given items place s the_ended
unfolding steps the_steps
steps_is given [] place s = ended_is place s
steps_is given (item ∷ items) place s = rw (step_is given item s) (leads_is (the_step given item s) place _ _ (λ t. steps_is given items (place + 1) t))
