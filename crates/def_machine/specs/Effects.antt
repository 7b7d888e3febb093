-- What the opcodes do to the stacks (Bitcoin Core: `EvalScript` in script/interpreter.cpp). The top
-- stands first.
use Rattle.std.specs.Prelude.{ℕ, ◌==◌, ◌&&◌, ◌||◌, not, ℤ, pos, negsuc, ◌+ℤ◌, Bool, true, false, [], ◌∷◌, ◌++◌, length, if◌then◌else◌, Result, Ok, Err}
use Rattle.std.specs.Str.{bytes_eq}
use Rattle.def_hash.specs.declared.HashKind.{HashKind}
use Rattle.def_hash.specs.Hash.{digest_of}
use Rattle.def_script.specs.declared.NumFault.{NumFault}
use Rattle.def_script.specs.Bytes.{Bytes}
use Rattle.def_script.specs.Numbers.{number_bytes}
use Rattle.def_script.specs.Decode.{num_decode, truth, is_nonzero}
use Rattle.def_machine.specs.declared.ScriptFault.TheVariants as fault
use Rattle.def_script.specs.Limits.{MAX_NUMBER_SIZE, MAX_LOCK_SIZE}
use Rattle.def_machine.specs.Faults.{OrFault, ◌>>=◌}
use Rattle.def_machine.specs.Stacks.{Stack, Pairs, Checker, is_empty, bool_bytes}
use Rattle.def_script.specs.Key.{is_key}

-- VERIFY takes the top, which must be true
unfoldable pub verify : Stack → OrFault Stack
verify [] = Err fault.StackUnderflow
verify (x ∷ s) = if truth x then Ok s else Err fault.Verify

-- IF and NOTIF take the top, which must be empty or the byte 1 (Bitcoin Core:
-- `SCRIPT_VERIFY_MINIMALIF`)
unfoldable pub condition : Stack → OrFault (Bool × Stack)
condition [] = Err fault.StackUnderflow
condition ([] ∷ s) = Ok (false, s)
condition ((b ∷ []) ∷ s) = if b == 1 then Ok (true, s) else Err fault.MinimalIf
condition ((b ∷ c ∷ bytes) ∷ s) = Err fault.MinimalIf

-- TOALTSTACK moves the top to the alternative stack
unfoldable pub to_alt_stack : (main alt : Stack) → OrFault (Stack × Stack)
to_alt_stack [] alt = Err fault.StackUnderflow
to_alt_stack (x ∷ s) alt = Ok (s, x ∷ alt)

-- FROMALTSTACK moves it back
unfoldable pub from_alt_stack : (main alt : Stack) → OrFault (Stack × Stack)
from_alt_stack main [] = Err fault.AltUnderflow
from_alt_stack main (x ∷ alt) = Ok (x ∷ main, alt)

-- IFDUP copies the top where it is true
unfoldable pub if_dup : Stack → OrFault Stack
if_dup [] = Err fault.StackUnderflow
if_dup (x ∷ s) = if truth x then Ok (x ∷ x ∷ s) else Ok (x ∷ s)

-- DUP copies the top
unfoldable pub dup : Stack → OrFault Stack
dup [] = Err fault.StackUnderflow
dup (x ∷ s) = Ok (x ∷ x ∷ s)

-- SWAP exchanges the upper two
unfoldable pub swap : Stack → OrFault Stack
swap [] = Err fault.StackUnderflow
swap (y ∷ []) = Err fault.StackUnderflow
swap (y ∷ x ∷ s) = Ok (x ∷ y ∷ s)

-- SIZE pushes the length of the top as a number and leaves the top
unfoldable pub size : Stack → OrFault Stack
size [] = Err fault.StackUnderflow
size (x ∷ s) = Ok (number_bytes (pos (length x)) ∷ x ∷ s)

-- EQUAL takes two and pushes whether they are equal
unfoldable pub equal : Stack → OrFault Stack
equal [] = Err fault.StackUnderflow
equal (y ∷ []) = Err fault.StackUnderflow
equal (y ∷ x ∷ s) = Ok (bool_bytes (bytes_eq x y) ∷ s)

-- a number of at most so many bytes in its shortest spelling
abbrev pub in_form : Result ℤ NumFault → OrFault ℤ
in_form (Ok z) = Ok z
in_form (Err e) = Err fault.NumberForm

unfoldable pub operand : (most : ℕ) → Bytes → OrFault ℤ
operand most x = in_form (num_decode most x)

-- takes a number
unfoldable pub one_number : Stack → OrFault (ℤ × Stack)
one_number [] = Err fault.StackUnderflow
one_number (x ∷ s) = do
  a ← operand MAX_NUMBER_SIZE x
  Ok (a, s)

-- takes two numbers
unfoldable pub two_numbers : Stack → OrFault (ℤ × ℤ × Stack)
two_numbers [] = Err fault.StackUnderflow
two_numbers (y ∷ []) = Err fault.StackUnderflow
two_numbers (y ∷ x ∷ s) = do
  b ← operand MAX_NUMBER_SIZE y
  a ← operand MAX_NUMBER_SIZE x
  Ok (a, b, s)

-- 0NOTEQUAL takes a number and pushes whether it isn't zero
unfoldable pub zero_not_equal : Stack → OrFault Stack
zero_not_equal main = do
  taken ← one_number main
  Ok (bool_bytes (is_nonzero taken.0) ∷ taken.1)

-- ADD takes two numbers and pushes the sum
unfoldable pub add : Stack → OrFault Stack
add main = do
  taken ← two_numbers main
  Ok (number_bytes (taken.0 +ℤ taken.1) ∷ taken.2)

-- BOOLAND takes two numbers and pushes whether both aren't zero
unfoldable pub bool_and : Stack → OrFault Stack
bool_and main = do
  taken ← two_numbers main
  Ok (bool_bytes (is_nonzero taken.0 && is_nonzero taken.1) ∷ taken.2)

-- BOOLOR takes two numbers and pushes whether one isn't zero
unfoldable pub bool_or : Stack → OrFault Stack
bool_or main = do
  taken ← two_numbers main
  Ok (bool_bytes (is_nonzero taken.0 || is_nonzero taken.1) ∷ taken.2)

-- RIPEMD160, SHA256, HASH160 and HASH256 replace the top by its hash
unfoldable pub hash : HashKind → Stack → OrFault Stack
hash kind [] = Err fault.StackUnderflow
hash kind (x ∷ s) = Ok (digest_of kind x ∷ s)

-- CHECKSIG takes the key and the signature below it, with the checks passed so far: the key must
-- have its form, an empty signature fails and asks nothing, and another must pass (BIP 146,
-- NULLFAIL)
unfoldable pub check_sig : Checker → Stack → Pairs → OrFault (Stack × Pairs)
check_sig checker [] checks = Err fault.StackUnderflow
check_sig checker (key ∷ []) checks = Err fault.StackUnderflow
check_sig checker (key ∷ sig ∷ s) checks =
    if not (is_key key) then Err fault.KeyForm
    else if is_empty sig then Ok (bool_bytes false ∷ s, checks)
    else if checker key sig then Ok (bool_bytes true ∷ s, checks ++ (key, sig) ∷ [])
    else Err fault.NullFail

-- a lock isn't negative
abbrev pub non_negative : ℤ → OrFault ℕ
non_negative (pos n) = Ok n
non_negative (negsuc n) = Err fault.NegativeLock

-- CHECKLOCKTIMEVERIFY and CHECKSEQUENCEVERIFY read the top, whose lock must hold, and leave it
unfoldable pub lock : (ℕ → Bool) → Stack → OrFault Stack
lock holds [] = Err fault.StackUnderflow
lock holds (x ∷ s) = do
  z ← operand MAX_LOCK_SIZE x
  n ← non_negative z
  if holds n then Ok (x ∷ s) else Err fault.UnmetLock
