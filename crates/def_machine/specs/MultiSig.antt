-- CHECKMULTISIG (Bitcoin Core: `OP_CHECKMULTISIG` in `EvalScript`; BIP 146, NULLFAIL; BIP 147,
-- NULLDUMMY). The top stands first, so the last key and the last signature do.
use Rattle.std.specs.Prelude.{ℕ, ◌+◌, ◌&&◌, not, nat_lt, nat_le, ℤ, pos, negsuc, Bool, true, false, [], ◌∷◌, ◌++◌, length, take, drop, if◌then◌else◌, Option, Some, None, Ok, Err}
use Rattle.std.specs.List.{list_all}
use Rattle.def_script.specs.Bytes.{Bytes}
use Rattle.def_machine.specs.declared.ScriptFault.{ScriptFault}
use Rattle.def_machine.specs.declared.ScriptFault.TheVariants as fault
use Rattle.def_script.specs.Limits.{MAX_OPS_PER_SCRIPT, MAX_PUBKEYS_PER_MULTISIG}
use Rattle.def_machine.specs.Faults.{OrFault, ◌>>=◌}
use Rattle.def_machine.specs.Stacks.{Stack, Pairs, Checker, is_empty, bool_bytes}
use Rattle.def_script.specs.Key.{is_key}
use Rattle.def_machine.specs.Effects.{one_number}

-- a count from 0 to the most, or the given fault
abbrev pub within : (most : ℕ) → ScriptFault → ℤ → OrFault ℕ
within most e (pos n) = if nat_le n most then Ok n else Err e
within most e (negsuc n) = Err e

-- takes a count
unfoldable pub count : (most : ℕ) → ScriptFault → Stack → OrFault (ℕ × Stack)
count most e main = do
  taken ← one_number main
  n ← within most e taken.0
  Ok (n, taken.1)

-- takes so many elements
unfoldable pub some_off : ℕ → Stack → OrFault (Stack × Stack)
some_off n main = if nat_lt (length main) n then Err fault.StackUnderflow else Ok (take n main, drop n main)

-- takes one element
unfoldable pub one_off : Stack → OrFault (Bytes × Stack)
one_off [] = Err fault.StackUnderflow
one_off (x ∷ s) = Ok (x, s)

-- a number of opcodes within the limit
unfoldable pub within_op_limit : ℕ → OrFault ℕ
within_op_limit ops = if nat_lt MAX_OPS_PER_SCRIPT ops then Err fault.OpCount else Ok ops

-- a try: it isn't made where more signatures than keys are left; then the key must have its form;
-- then the pair is good or not
abbrev pub one_try : (over form good : Bool) → (Bool → OrFault (Option Pairs)) → OrFault (Option Pairs)
one_try true form good next = Ok None
one_try false false good next = Err fault.KeyForm
one_try false true good next = next good

-- the pair is good: an empty signature is never asked for
abbrev pub is_good : Checker → (key sig : Bytes) → Bool
is_good checker key sig = not (is_empty sig) && checker key sig

-- the tries, each of the first key left with the first signature left. A try passes the key, and a
-- good one the signature too. They give the pairs found good, in the order in which they were
-- found, where no signature is left
unfoldable pub tries : Checker → (keys sigs : Stack) → (found : Pairs) → OrFault (Option Pairs)
tries checker keys [] found = Ok (Some found)
tries checker [] (sig ∷ sigs) found = Ok None
tries checker (key ∷ keys) (sig ∷ sigs) found =
    one_try (nat_lt (length (key ∷ keys)) (length (sig ∷ sigs))) (is_key key) (is_good checker key sig)
    (λ good. tries checker keys (if good then sigs else sig ∷ sigs) (if good then found ++ (key, sig) ∷ [] else found))

-- whether the tries passed, and the pairs found good; after a failure all signatures must be empty
unfoldable pub verdict : (sigs : Stack) → Option Pairs → OrFault (Bool × Pairs)
verdict sigs (Some found) = Ok (true, found)
verdict sigs None = if list_all is_empty sigs then Ok (false, []) else Err fault.NullFail

-- the extra element must be empty
unfoldable pub null_dummy : Bytes → OrFault Bytes
null_dummy extra = if is_empty extra then Ok extra else Err fault.NullDummy

-- CHECKMULTISIG takes the number of keys, the keys, the number of signatures, the signatures and
-- one element more, with the number of opcodes and the checks passed so far
unfoldable pub check_multi_sig : Checker → Stack → (ops : ℕ) → (checks : Pairs) → OrFault (Stack × ℕ × Pairs)
check_multi_sig checker main ops checks = do
  n ← count MAX_PUBKEYS_PER_MULTISIG fault.KeyCount main
  total ← within_op_limit (ops + n.0)
  keys ← some_off n.0 n.1
  m ← count n.0 fault.SigCount keys.1
  sigs ← some_off m.0 m.1
  extra ← one_off sigs.1
  tried ← tries checker keys.0 sigs.0 []
  passed ← verdict sigs.0 tried
  empty ← null_dummy extra.0
  Ok (bool_bytes passed.0 ∷ extra.1, total, checks ++ passed.1)
