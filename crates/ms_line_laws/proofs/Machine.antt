-- A run over byte strings: all that stands on the stacks is bytes, and so is each pair that is found good.
use Rattle.std.proofs.Common.{ℕ, zero, suc, pos, negsuc, ◌+ℤ◌, ◌+◌, ◌-◌, ◌==◌, ◌||◌, ◌&&◌, not, Bool, true, false, List, [], ◌∷◌, ◌++◌, length, take, drop, reverse, Option, Some, None, Ok, Err, arith, if◌then◌else◌}
use Rattle.std.specs.Prelude.{⊤, max, nat_lt, nat_le}
use Rattle.std.specs.List.{list_all}
use Rattle.def_hash.specs.declared.HashKind.{HashKind}
use Rattle.def_hash.specs.declared.HashKind.TheVariants as kind
use Rattle.def_hash.proofs.Lengths.{digest_has_bytes}
use Rattle.def_script.specs.declared.Op.{Op}
use Rattle.def_script.specs.declared.Op.TheVariants as op
use Rattle.def_script.specs.declared.InstrFault.TheVariants as unread
use Rattle.def_script.specs.Bytes.{Bytes, IsBytes}
use Rattle.def_script.specs.Numbers.{number_bytes}
use Rattle.def_script.specs.Decode.{truth}
use Rattle.def_script.specs.Item.{Item}
use Rattle.def_script.specs.Item as item
use Rattle.def_script.specs.Items.{ItemReading, op_of_byte, is_minimal_push, read_op, push_size, read_sized, first_item, followed, items_after, items}
use Rattle.def_script.specs.Key.{is_key}
use Rattle.def_script.specs.Limits.{MAX_SCRIPT_SIZE, MAX_SCRIPT_ELEMENT_SIZE, MAX_STACK_SIZE, MAX_NUMBER_SIZE, MAX_LOCK_SIZE, MAX_PUBKEYS_PER_MULTISIG}
use Rattle.def_machine.specs.declared.ScriptFault.{ScriptFault}
use Rattle.def_machine.specs.declared.ScriptFault.TheVariants as fault
use Rattle.def_machine.specs.Faults.{OrFault, ◌>>=◌}
use Rattle.def_machine.specs.Locks.{after_holds, older_holds}
use Rattle.def_machine.specs.Stacks.{Stack, Pairs, Checker, is_empty, bool_bytes}
use Rattle.def_machine.specs.Effects.{verify, condition, to_alt_stack, from_alt_stack, if_dup, dup, swap, size, equal, operand, one_number, two_numbers, zero_not_equal, add, bool_and, bool_or, hash, check_sig, non_negative, lock}
use Rattle.def_machine.specs.MultiSig.{within, count, some_off, one_off, within_op_limit, one_try, is_good, tries, verdict, null_dummy, check_multi_sig}
use Rattle.def_machine.specs.Machine.{Given, State, on_main, on_both, on_checks, on_multi, on_branches, is_live, is_branching, opened, open_branch, turned, closed, act, only_if, pushed, count_op, carry_out, height, settle, step}
use Rattle.def_machine.specs.Run.{Outcome, accepted, refused, leads, start, steps, balanced, is_clean, finish, ended, run}
use Rattle.def_lines.proofs.Lists.{Every, every_joined, every_taken, every_dropped, every_turned}
use Rattle.ms_line_laws.proofs.Scripts.{no_bytes, more_bytes, integer_is_bytes}

abbrev pub AreBytes : Stack → Type 0
AreBytes stack = Every IsBytes stack

abbrev pub ArePairs : Pairs → Type 0
ArePairs pairs = Every (λ pair. IsBytes pair.0 × IsBytes pair.1) pairs

pub record HasBytes (s : State) : Type 0 where
  pub main : AreBytes s.main
  pub alt : AreBytes s.alt
  pub checks : ArePairs s.checks

-- what holds of a value, where there is no fault
abbrev pub Gives : {A : Type 0} → (A → Type 0) → OrFault A → Type 0
Gives P (Ok x) = P x
Gives P (Err e) = ⊤

pub then_gives : {A B : Type 0} (P : A → Type 0) (Q : B → Type 0) (r : OrFault A) (next : A → OrFault B) → Gives P r → ((x : A) → P x → Gives Q (next x))
    → Gives Q (r >>= next)
then_gives P Q (Ok x) next h on = on x h
then_gives P Q (Err e) next h on = tt

-- a part of which nothing has to be known
pub behind : {A B : Type 0} (Q : B → Type 0) (r : OrFault A) (next : A → OrFault B) → ((x : A) → Gives Q (next x)) → Gives Q (r >>= next)
behind Q (Ok x) next on = on x
behind Q (Err e) next on = tt

pub by_test : {A : Type 0} (P : A → Type 0) (b : Bool) (x y : OrFault A) → Gives P x → Gives P y → Gives P (if b then x else y)
by_test P true x y p q = p
by_test P false x y p q = q

-- ---- effects on the main stack

pub bool_is_bytes : (b : Bool) → IsBytes (bool_bytes b)
bool_is_bytes true = more_bytes 1 [] (omega arith) no_bytes
bool_is_bytes false = no_bytes

abbrev Keeps : (Stack → OrFault Stack) → Type 0
Keeps effect = (main : Stack) → AreBytes main → Gives AreBytes (effect main)

verify_keeps : Keeps verify
unfolding verify
verify_keeps [] h = tt
verify_keeps (x ∷ s) h = by_test AreBytes (truth x) (Ok s) (Err fault.Verify) h.1 tt

abbrev IsBelow : Bool × Stack → Type 0
IsBelow top = AreBytes top.1

condition_keeps : (main : Stack) → AreBytes main → Gives IsBelow (condition main)
unfolding condition
condition_keeps [] h = tt
condition_keeps ([] ∷ s) h = h.1
condition_keeps ((b ∷ []) ∷ s) h = by_test IsBelow (b == 1) (Ok (true, s)) (Err fault.MinimalIf) h.1 tt
condition_keeps ((b ∷ c ∷ bytes) ∷ s) h = tt

abbrev AreBoth : Stack × Stack → Type 0
AreBoth stacks = AreBytes stacks.0 × AreBytes stacks.1

to_alt_keeps : (main alt : Stack) → AreBytes main → AreBytes alt → Gives AreBoth (to_alt_stack main alt)
unfolding to_alt_stack
to_alt_keeps [] alt h i = tt
to_alt_keeps (x ∷ s) alt h i = (h.1, (h.0, i))

from_alt_keeps : (main alt : Stack) → AreBytes main → AreBytes alt → Gives AreBoth (from_alt_stack main alt)
unfolding from_alt_stack
from_alt_keeps main [] h i = tt
from_alt_keeps main (x ∷ alt) h i = ((i.0, h), i.1)

if_dup_keeps : Keeps if_dup
unfolding if_dup
if_dup_keeps [] h = tt
if_dup_keeps (x ∷ s) h = by_test AreBytes (truth x) (Ok (x ∷ x ∷ s)) (Ok (x ∷ s)) (h.0, h) h

dup_keeps : Keeps dup
unfolding dup
dup_keeps [] h = tt
dup_keeps (x ∷ s) h = (h.0, h)

swap_keeps : Keeps swap
unfolding swap
swap_keeps [] h = tt
swap_keeps (y ∷ []) h = tt
swap_keeps (y ∷ x ∷ s) h = (h.1.0, (h.0, h.1.1))

size_keeps : Keeps size
unfolding size
size_keeps [] h = tt
size_keeps (x ∷ s) h = (integer_is_bytes (pos (length x)), h)

equal_keeps : Keeps equal
unfolding equal
equal_keeps [] h = tt
equal_keeps (y ∷ []) h = tt
equal_keeps (y ∷ x ∷ s) h = (bool_is_bytes _, h.1.1)

one_number_keeps : (main : Stack) → AreBytes main → Gives (λ taken. AreBytes taken.1) (one_number main)
unfolding one_number
one_number_keeps [] h = tt
one_number_keeps (x ∷ s) h = behind (λ taken. AreBytes taken.1) (operand MAX_NUMBER_SIZE x) (λ a. Ok (a, s)) (λ a. h.1)

two_numbers_keep : (main : Stack) → AreBytes main → Gives (λ taken. AreBytes taken.2) (two_numbers main)
unfolding two_numbers
two_numbers_keep [] h = tt
two_numbers_keep (y ∷ []) h = tt
two_numbers_keep (y ∷ x ∷ s) h =
    behind (λ taken. AreBytes taken.2) (operand MAX_NUMBER_SIZE y) (λ b. operand MAX_NUMBER_SIZE x >>= (λ a. Ok (a, b, s)))
    (λ b. behind (λ taken. AreBytes taken.2) (operand MAX_NUMBER_SIZE x) (λ a. Ok (a, b, s)) (λ a. h.1.1))

zero_not_equal_keeps : Keeps zero_not_equal
unfolding zero_not_equal
zero_not_equal_keeps main h = then_gives (λ taken. AreBytes taken.1) AreBytes (one_number main) _ (one_number_keeps main h) (λ taken k. (bool_is_bytes _, k))

add_keeps : Keeps add
unfolding add
add_keeps main h = then_gives (λ taken. AreBytes taken.2) AreBytes (two_numbers main) _ (two_numbers_keep main h) (λ taken k. (integer_is_bytes (taken.0 +ℤ taken.1), k))

bool_and_keeps : Keeps bool_and
unfolding bool_and
bool_and_keeps main h = then_gives (λ taken. AreBytes taken.2) AreBytes (two_numbers main) _ (two_numbers_keep main h) (λ taken k. (bool_is_bytes _, k))

bool_or_keeps : Keeps bool_or
unfolding bool_or
bool_or_keeps main h = then_gives (λ taken. AreBytes taken.2) AreBytes (two_numbers main) _ (two_numbers_keep main h) (λ taken k. (bool_is_bytes _, k))

hash_keeps : (kind : HashKind) → Keeps (hash kind)
unfolding hash
hash_keeps kind [] h = tt
hash_keeps kind (x ∷ s) h = (digest_has_bytes kind x, h.1)

lock_keeps : (holds : ℕ → Bool) → Keeps (lock holds)
unfolding lock
lock_keeps holds [] h = tt
lock_keeps holds (x ∷ s) h =
    behind AreBytes (operand MAX_LOCK_SIZE x) _ (λ z. behind AreBytes (non_negative z) _ (λ n. by_test AreBytes (holds n) (Ok (x ∷ s)) (Err fault.UnmetLock) h tt))

-- ---- signatures

abbrev IsChecked : Stack × Pairs → Type 0
IsChecked left = AreBytes left.0 × ArePairs left.1

check_sig_keeps : (checker : Checker) (main : Stack) (checks : Pairs) → AreBytes main → ArePairs checks → Gives IsChecked (check_sig checker main checks)
unfolding check_sig
check_sig_keeps checker [] checks h c = tt
check_sig_keeps checker (key ∷ []) checks h c = tt
check_sig_keeps checker (key ∷ sig ∷ s) checks h c =
    by_test IsChecked (not (is_key key)) (Err fault.KeyForm) _ tt
    (by_test IsChecked (is_empty sig) (Ok (bool_bytes false ∷ s, checks)) _ ((bool_is_bytes false, h.1.1), c)
    (by_test IsChecked (checker key sig) (Ok (bool_bytes true ∷ s, checks ++ (key, sig) ∷ [])) (Err fault.NullFail)
    ((bool_is_bytes true, h.1.1), every_joined _ checks ((key, sig) ∷ []) c ((h.0, h.1.0), tt)) tt))

abbrev ArePairsIfAny : Option Pairs → Type 0
ArePairsIfAny None = ⊤
ArePairsIfAny (Some found) = ArePairs found

one_try_keeps : (over form good : Bool) (next : Bool → OrFault (Option Pairs)) → ((b : Bool) → Gives ArePairsIfAny (next b)) → Gives ArePairsIfAny (one_try over form good next)
one_try_keeps true form good next h = tt
one_try_keeps false false good next h = tt
one_try_keeps false true good next h = h good

tries_keep : (checker : Checker) (keys sigs : Stack) (found : Pairs) → AreBytes keys → AreBytes sigs → ArePairs found → Gives ArePairsIfAny (tries checker keys sigs found)
unfolding tries
tries_keep checker keys [] found k s f = f
tries_keep checker [] (sig ∷ sigs) found k s f = tt
tries_keep checker (key ∷ keys) (sig ∷ sigs) found k s f =
    one_try_keeps (nat_lt (length (key ∷ keys)) (length (sig ∷ sigs))) (is_key key) (is_good checker key sig) _
    (λ good. on good (tries_keep checker keys sigs (found ++ (key, sig) ∷ []) k.1 s.1 (every_joined _ found ((key, sig) ∷ []) f ((k.0, s.0), tt)))
    (tries_keep checker keys (sig ∷ sigs) found k.1 s f))
  where
    on : (good : Bool) → Gives ArePairsIfAny (tries checker keys sigs (found ++ (key, sig) ∷ [])) → Gives ArePairsIfAny (tries checker keys (sig ∷ sigs) found)
        → Gives ArePairsIfAny (tries checker keys (if good then sigs else sig ∷ sigs) (if good then found ++ (key, sig) ∷ [] else found))
    on true first second = first
    on false first second = second

verdict_keeps : (sigs : Stack) (tried : Option Pairs) → ArePairsIfAny tried → Gives (λ passed. ArePairs passed.1) (verdict sigs tried)
unfolding verdict
verdict_keeps sigs (Some found) h = h
verdict_keeps sigs None h = by_test (λ passed. ArePairs passed.1) (list_all is_empty sigs) (Ok (false, [])) (Err fault.NullFail) tt tt

count_keeps : (most : ℕ) (e : ScriptFault) (main : Stack) → AreBytes main → Gives (λ n. AreBytes n.1) (count most e main)
unfolding count
count_keeps most e main h =
    then_gives (λ taken. AreBytes taken.1) (λ n. AreBytes n.1) (one_number main) _ (one_number_keeps main h)
    (λ taken k. behind (λ n. AreBytes n.1) (within most e taken.0) _ (λ n. k))

some_off_keeps : (n : ℕ) (main : Stack) → AreBytes main → Gives AreBoth (some_off n main)
unfolding some_off
some_off_keeps n main h =
    by_test AreBoth (nat_lt (length main) n) (Err fault.StackUnderflow) (Ok (take n main, drop n main)) tt (every_taken IsBytes n main h, every_dropped IsBytes n main h)

one_off_keeps : (main : Stack) → AreBytes main → Gives (λ extra. AreBytes extra.1) (one_off main)
unfolding one_off
one_off_keeps [] h = tt
one_off_keeps (x ∷ s) h = h.1

abbrev IsManyChecked : Stack × ℕ × Pairs → Type 0
IsManyChecked left = AreBytes left.0 × ArePairs left.2

check_multi_sig_keeps : (checker : Checker) (main : Stack) (ops : ℕ) (checks : Pairs) → AreBytes main → ArePairs checks
    → Gives IsManyChecked (check_multi_sig checker main ops checks)
unfolding check_multi_sig
check_multi_sig_keeps checker main ops checks h c =
    then_gives (λ n. AreBytes n.1) IsManyChecked (count MAX_PUBKEYS_PER_MULTISIG fault.KeyCount main) _ (count_keeps MAX_PUBKEYS_PER_MULTISIG fault.KeyCount main h)
    (λ n below. behind IsManyChecked (within_op_limit (ops + n.0)) _
    (λ total. then_gives AreBoth IsManyChecked (some_off n.0 n.1) _ (some_off_keeps n.0 n.1 below)
    (λ keys k. then_gives (λ m. AreBytes m.1) IsManyChecked (count n.0 fault.SigCount keys.1) _ (count_keeps n.0 fault.SigCount keys.1 k.1)
    (λ m under. then_gives AreBoth IsManyChecked (some_off m.0 m.1) _ (some_off_keeps m.0 m.1 under)
    (λ sigs s. then_gives (λ extra. AreBytes extra.1) IsManyChecked (one_off sigs.1) _ (one_off_keeps sigs.1 s.1)
    (λ extra e. then_gives ArePairsIfAny IsManyChecked (tries checker keys.0 sigs.0 []) _ (tries_keep checker keys.0 sigs.0 [] k.0 s.0 tt)
    (λ tried t. then_gives (λ passed. ArePairs passed.1) IsManyChecked (verdict sigs.0 tried) _ (verdict_keeps sigs.0 tried t)
    (λ passed p. behind IsManyChecked (null_dummy extra.0) _
    (λ empty. ((bool_is_bytes passed.0, e), every_joined _ checks passed.1 c p))))))))))

-- ---- effects on the machine

main_holds : (effect : Stack → OrFault Stack) → Keeps effect → (s : State) → HasBytes s → Gives HasBytes (on_main effect s)
main_holds effect keeps s h =
    then_gives AreBytes HasBytes (effect s.main) _ (keeps s.main h.main) (λ main k. record { main = k; alt = h.alt; checks = h.checks })

both_hold : (effect : Stack → Stack → OrFault (Stack × Stack)) → ((main alt : Stack) → AreBytes main → AreBytes alt → Gives AreBoth (effect main alt))
    → (s : State) → HasBytes s → Gives HasBytes (on_both effect s)
both_hold effect keeps s h =
    then_gives AreBoth HasBytes (effect s.main s.alt) _ (keeps s.main s.alt h.main h.alt) (λ stacks k. record { main = k.0; alt = k.1; checks = h.checks })

checks_hold : (checker : Checker) (s : State) → HasBytes s → Gives HasBytes (on_checks (check_sig checker) s)
checks_hold checker s h =
    then_gives IsChecked HasBytes (check_sig checker s.main s.checks) _ (check_sig_keeps checker s.main s.checks h.main h.checks)
    (λ left k. record { main = k.0; alt = h.alt; checks = k.1 })

multi_holds : (checker : Checker) (s : State) → HasBytes s → Gives HasBytes (on_multi (check_multi_sig checker) s)
multi_holds checker s h =
    then_gives IsManyChecked HasBytes (check_multi_sig checker s.main s.ops s.checks) _ (check_multi_sig_keeps checker s.main s.ops s.checks h.main h.checks)
    (λ left k. record { main = k.0; alt = h.alt; checks = k.1 })

branches_hold : (effect : List Bool → OrFault (List Bool)) (s : State) → HasBytes s → Gives HasBytes (on_branches effect s)
branches_hold effect s h = behind HasBytes (effect s.branches) _ (λ branches. record { main = h.main; alt = h.alt; checks = h.checks })

opened_holds : (live wanted : Bool) (s : State) → HasBytes s → Gives HasBytes (opened live wanted s)
opened_holds true wanted s h =
    then_gives IsBelow HasBytes (condition s.main) _ (condition_keeps s.main h.main) (λ top k. record { main = k; alt = h.alt; checks = h.checks })
opened_holds false wanted s h = record { main = h.main; alt = h.alt; checks = h.checks }

open_holds : (wanted : Bool) (s : State) → HasBytes s → Gives HasBytes (open_branch wanted s)
unfolding open_branch
open_holds wanted s h = opened_holds (is_live s) wanted s h

act_holds : (given : Given) (o : Op) (s : State) → HasBytes s → Gives HasBytes (act given o s)
unfolding act
act_holds given op.If s h = open_holds true s h
act_holds given op.NotIf s h = open_holds false s h
act_holds given op.Else s h = branches_hold turned s h
act_holds given op.EndIf s h = branches_hold closed s h
act_holds given op.Verify s h = main_holds verify verify_keeps s h
act_holds given op.ToAltStack s h = both_hold to_alt_stack to_alt_keeps s h
act_holds given op.FromAltStack s h = both_hold from_alt_stack from_alt_keeps s h
act_holds given op.IfDup s h = main_holds if_dup if_dup_keeps s h
act_holds given op.Dup s h = main_holds dup dup_keeps s h
act_holds given op.Swap s h = main_holds swap swap_keeps s h
act_holds given op.Size s h = main_holds size size_keeps s h
act_holds given op.Equal s h = main_holds equal equal_keeps s h
act_holds given op.EqualVerify s h =
    then_gives HasBytes HasBytes (on_main equal s) (on_main verify) (main_holds equal equal_keeps s h) (λ t k. main_holds verify verify_keeps t k)
act_holds given op.ZeroNotEqual s h = main_holds zero_not_equal zero_not_equal_keeps s h
act_holds given op.Add s h = main_holds add add_keeps s h
act_holds given op.BoolAnd s h = main_holds bool_and bool_and_keeps s h
act_holds given op.BoolOr s h = main_holds bool_or bool_or_keeps s h
act_holds given op.Ripemd160 s h = main_holds (hash kind.Ripemd160) (hash_keeps kind.Ripemd160) s h
act_holds given op.Sha256 s h = main_holds (hash kind.Sha256) (hash_keeps kind.Sha256) s h
act_holds given op.Hash160 s h = main_holds (hash kind.Hash160) (hash_keeps kind.Hash160) s h
act_holds given op.Hash256 s h = main_holds (hash kind.Hash256) (hash_keeps kind.Hash256) s h
act_holds given op.CheckSig s h = checks_hold given.checker s h
act_holds given op.CheckSigVerify s h =
    then_gives HasBytes HasBytes (on_checks (check_sig given.checker) s) (on_main verify) (checks_hold given.checker s h) (λ t k. main_holds verify verify_keeps t k)
act_holds given op.CheckMultiSig s h = multi_holds given.checker s h
act_holds given op.CheckMultiSigVerify s h =
    then_gives HasBytes HasBytes (on_multi (check_multi_sig given.checker) s) (on_main verify) (multi_holds given.checker s h) (λ t k. main_holds verify verify_keeps t k)
act_holds given op.CheckLockTimeVerify s h = main_holds (lock (λ n. after_holds n given.locks)) (lock_keeps (λ n. after_holds n given.locks)) s h
act_holds given op.CheckSequenceVerify s h = main_holds (lock (λ n. older_holds n given.locks)) (lock_keeps (λ n. older_holds n given.locks)) s h

-- ---- steps

-- what an instruction pushes is bytes
abbrev pub IsItem : Item → Type 0
IsItem (item.push bytes minimal) = IsBytes bytes
IsItem (item.code op) = ⊤
IsItem (item.fault fault) = ⊤

only_if_holds : (b : Bool) (next : State → OrFault State) (s : State) → HasBytes s → Gives HasBytes (next s) → Gives HasBytes (only_if b next s)
only_if_holds true next s h n = n
only_if_holds false next s h n = h

pushed_holds : (bytes : Bytes) (minimal : Bool) (s : State) → IsBytes bytes → HasBytes s → Gives HasBytes (pushed bytes minimal s)
unfolding pushed
pushed_holds bytes minimal s b h =
    by_test HasBytes minimal (Ok (record s { main = bytes ∷ s.main })) (Err fault.NonMinimalPush) (record { main = (b, h.main); alt = h.alt; checks = h.checks }) tt

carried_out_holds : (given : Given) (i : Item) (s : State) → IsItem i → HasBytes s → Gives HasBytes (carry_out given i s)
unfolding carry_out
carried_out_holds given (item.fault e) s i h = tt
carried_out_holds given (item.push bytes minimal) s i h =
    by_test HasBytes (nat_lt MAX_SCRIPT_ELEMENT_SIZE (length bytes)) (Err fault.ElementSize) (only_if (is_live s) (pushed bytes minimal) s) tt
    (only_if_holds (is_live s) (pushed bytes minimal) s h (pushed_holds bytes minimal s i h))
carried_out_holds given (item.code o) s i h =
    then_gives HasBytes HasBytes (count_op s) _
    (behind HasBytes (within_op_limit (s.ops + 1)) _ (λ ops. record { main = h.main; alt = h.alt; checks = h.checks }))
    (λ t k. only_if_holds (is_branching o || is_live t) (act given o) t k (act_holds given o t k))

settled_holds : (s : State) → HasBytes s → Gives HasBytes (settle s)
unfolding settle
settled_holds s h =
    let raised : HasBytes (record s { peak = max s.peak (height s) }) = record { main = h.main; alt = h.alt; checks = h.checks } in
    by_test HasBytes (nat_lt MAX_STACK_SIZE (height s)) (Err fault.StackSize) (Ok (record s { peak = max s.peak (height s) })) tt raised

pub step_holds : (given : Given) (i : Item) (s : State) → IsItem i → HasBytes s → Gives HasBytes (step given i s)
unfolding step
step_holds given i s is h = then_gives HasBytes HasBytes (carry_out given i s) settle (carried_out_holds given i s is h) (λ t k. settled_holds t k)

pub start_holds : (script : Bytes) (stack : Stack) → AreBytes stack → Gives HasBytes (start script stack)
unfolding start
start_holds script stack h =
    by_test HasBytes (nat_lt MAX_SCRIPT_SIZE (length script)) (Err fault.ScriptSize) _ tt
    (by_test HasBytes _ (Ok _) (Err fault.ElementSize) (record { main = h; alt = tt; checks = tt }) tt)

-- ---- runs

-- each pair that an accepted run found good
abbrev pub ArePairsFound : Outcome → Type 0
ArePairsFound (accepted ops peak checks) = ArePairs checks
ArePairsFound (refused fault place) = ⊤

leads_find : (r : OrFault State) (place : ℕ) (next : State → Outcome) → Gives HasBytes r → ((s : State) → HasBytes s → ArePairsFound (next s)) → ArePairsFound (leads r place next)
leads_find (Ok s) place next h on = on s h
leads_find (Err e) place next h on = tt

finished_holds : (s : State) → HasBytes s → Gives HasBytes (finish s)
unfolding finish
finished_holds s h =
    behind HasBytes (balanced s.branches) (λ none. is_clean s.main >>= (λ one. Ok s)) (λ none. behind HasBytes (is_clean s.main) (λ one. Ok s) (λ one. h))

ended_finds : (place : ℕ) (s : State) → HasBytes s → ArePairsFound (ended place s)
ended_finds place s h = leads_find (finish s) place _ (finished_holds s h) (λ t k. k.checks)

steps_find : (given : Given) (is : List Item) (place : ℕ) (s : State) → Every IsItem is → HasBytes s → ArePairsFound (steps given is place s ended)
unfolding steps
steps_find given [] place s all h = ended_finds place s h
steps_find given (i ∷ is) place s all h =
    leads_find (step given i s) place _ (step_holds given i s all.0 h) (λ t k. steps_find given is (place + 1) t all.1 k)

-- ---- what is read from bytes

pub taken_bytes : (n : ℕ) (bytes : Bytes) → IsBytes bytes → IsBytes (take n bytes)
taken_bytes zero bytes h = no_bytes
taken_bytes (suc n) [] h = no_bytes
taken_bytes (suc n) (b ∷ bytes) h = more_bytes b (take n bytes) (h 0) (taken_bytes n bytes (λ i. h (suc i)))

pub dropped_bytes : (n : ℕ) (bytes : Bytes) → IsBytes bytes → IsBytes (drop n bytes)
dropped_bytes zero bytes h = h
dropped_bytes (suc n) [] h = no_bytes
dropped_bytes (suc n) (b ∷ bytes) h = dropped_bytes n bytes (λ i. h (suc i))

-- what is read is an item, where anything is
abbrev pub IsItemRead : ItemReading → Type 0
IsItemRead (Ok read) = IsItem read.0
IsItemRead (Err fault) = ⊤

read_test : (b : Bool) (x y : ItemReading) → IsItemRead x → IsItemRead y → IsItemRead (if b then x else y)
read_test true x y p q = p
read_test false x y p q = q

op_is_read : (o : Option Op) → IsItemRead (read_op o)
op_is_read None = tt
op_is_read (Some o) = tt

sized_is_read : (first : ℕ) (size : Option (ℕ × ℕ)) (rest : Bytes) → IsBytes rest → IsItemRead (read_sized first size rest)
sized_is_read first (Some size) rest h =
    let bytes = take size.1 (drop size.0 rest) in
    read_test (nat_lt (length rest) (size.0 + size.1)) (Err unread.Truncated) (Ok (item.push bytes (is_minimal_push first bytes), size.0 + size.1)) tt
    (taken_bytes size.1 (drop size.0 rest) (dropped_bytes size.0 rest h))
sized_is_read first None rest h =
    read_test (first == 0x4f) (Ok (item.push (number_bytes (negsuc 0)) true, 0)) _ (integer_is_bytes (negsuc 0))
    (read_test (nat_le 0x51 first && nat_le first 0x60) (Ok (item.push (number_bytes (pos (first - 0x50))) true, 0)) (read_op (op_of_byte first))
    (integer_is_bytes (pos (first - 0x50))) (op_is_read (op_of_byte first)))

pub first_is_read : (first : ℕ) (rest : Bytes) → IsBytes rest → IsItemRead (first_item first rest)
unfolding first_item
first_is_read first rest h = sized_is_read first (push_size first rest) rest h

followed_are : (r : ItemReading) (next : ℕ → List Item) → IsItemRead r → ((n : ℕ) → Every IsItem (next n)) → Every IsItem (followed r next)
followed_are (Ok read) next h on = (h, on read.1)
followed_are (Err fault) next h on = (tt, tt)

items_are : (skipped : ℕ) (bytes : Bytes) → IsBytes bytes → Every IsItem (items_after skipped bytes)
unfolding items_after
items_are skipped [] h = tt
items_are zero (b ∷ bytes) h =
    let rest : IsBytes bytes = λ i. h (suc i) in
    followed_are (first_item b bytes) (λ taken. items_after taken bytes) (first_is_read b bytes rest) (λ taken. items_are taken bytes rest)
items_are (suc skipped) (b ∷ bytes) h = items_are skipped bytes (λ i. h (suc i))

pub run_finds : (given : Given) (script : Bytes) (stack : List Bytes) → IsBytes script → Every IsBytes stack → ArePairsFound (run given script stack)
unfolding run
run_finds given script stack s h =
    leads_find (start script (reverse stack)) 0 _ (start_holds script (reverse stack) (every_turned IsBytes stack h))
    (λ t k. steps_find given (items script) 0 t (items_are 0 script s) k)
