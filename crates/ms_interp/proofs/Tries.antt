-- The tries of CHECKMULTISIG, one after the other.
use Rattle.std.proofs.Common.{◌≡◌, ℕ, ◌+◌, ◌-◌, ◌<◌, ◌≤◌, nat_lt, true, false, [], ◌∷◌, ◌++◌, length, drop, get_or, Some, None, Ok, Err, arith, refl, sym, ap, length-drop, drop-cons, add-one, if◌then◌else◌}
use Rattle.std.proofs.lemmas.Bool.{lt-ltb, le-ltb}
use Rattle.std.proofs.lemmas.List.{drop_all}
use Rattle.def_script.specs.Bytes.{Bytes}
use Rattle.def_machine.specs.declared.ScriptFault.TheVariants as fault
use Rattle.def_machine.specs.Stacks.{Stack, Pairs, Checker}
use Rattle.def_script.specs.Key.{is_key}
use Rattle.def_machine.specs.MultiSig.{is_good, one_try, tries}

-- no signature is left
pub tries-done : (checker : Checker) (keys sigs : Stack) (i j : ℕ) (found : Pairs) → length sigs ≤ j → tries checker (drop i keys) (drop j sigs) found ≡ Ok (Some found)
unfolding tries
tries-done checker keys sigs i j found none = rw (drop_all j sigs none) refl

-- more signatures than keys are left
over : (checker : Checker) (keys sigs : Stack) (found : Pairs) → length keys < length sigs → tries checker keys sigs found ≡ Ok None
unfolding tries
over checker keys [] found more = absurd (omega arith)
over checker [] (sig ∷ sigs) found more = refl
over checker (key ∷ keys) (sig ∷ sigs) found more =
    let is : nat_lt (length (key ∷ keys)) (length (sig ∷ sigs)) ≡ true = lt-ltb _ _ more in
    rw is refl

pub tries-over : (checker : Checker) (keys sigs : Stack) (i j : ℕ) (found : Pairs) → length keys - i < length sigs - j
    → tries checker (drop i keys) (drop j sigs) found ≡ Ok None
tries-over checker keys sigs i j found more = over checker (drop i keys) (drop j sigs) found (omega (arith, length-drop i keys, length-drop j sigs))

-- a try
one : (checker : Checker) (keys sigs : Stack) (key sig : Bytes) (found : Pairs) → length sigs ≤ length keys
    → tries checker (key ∷ keys) (sig ∷ sigs) found
    ≡ one_try false (is_key key) (is_good checker key sig)
    (λ good. tries checker keys (if good then sigs else sig ∷ sigs) (if good then found ++ (key, sig) ∷ [] else found))
unfolding tries
one checker keys sigs key sig found enough =
    let is : nat_lt (length (key ∷ keys)) (length (sig ∷ sigs)) ≡ false = le-ltb _ _ (omega arith) in
    rw is refl

rest : (xs : Stack) (i : ℕ) (x : Bytes) → i < length xs → x ≡ get_or xs i [] → drop i xs ≡ x ∷ drop (i + 1) xs
rest xs i x there is = rw (is, add-one) (drop-cons xs i [] there)

module _ (checker : Checker) (keys sigs : Stack) (i j : ℕ) (found : Pairs) (key sig : Bytes) (key_is : key ≡ get_or keys i []) (sig_is : sig ≡ get_or sigs j [])
    (there : j < length sigs) (enough : length sigs - j ≤ length keys - i) where
  tried : tries checker (drop i keys) (drop j sigs) found
      ≡ one_try false (is_key key) (is_good checker key sig)
      (λ good. tries checker (drop (i + 1) keys) (if good then drop (j + 1) sigs else sig ∷ drop (j + 1) sigs) (if good then found ++ (key, sig) ∷ [] else found))
  tried =
      let these : length (drop (j + 1) sigs) ≤ length (drop (i + 1) keys) = omega (arith, length-drop (j + 1) sigs, length-drop (i + 1) keys) in
      let first : i < length keys = omega arith in
      rw (rest keys i key first key_is, rest sigs j sig there sig_is) (one checker (drop (i + 1) keys) (drop (j + 1) sigs) key sig found these)

  -- the key must have its form
  pub tries-form : is_key key ≡ false → tries checker (drop i keys) (drop j sigs) found ≡ Err fault.KeyForm
  tries-form form = rw (tried, form) refl

  -- a good pair passes both
  pub tries-good : is_key key ≡ true → is_good checker key sig ≡ true
      → tries checker (drop (i + 1) keys) (drop (j + 1) sigs) (found ++ (key, sig) ∷ []) ≡ tries checker (drop i keys) (drop j sigs) found
  tries-good form good = sym (rw (tried, form, good) refl)

  -- another passes the key
  pub tries-bad : is_key key ≡ true → is_good checker key sig ≡ false → tries checker (drop (i + 1) keys) (drop j sigs) found ≡ tries checker (drop i keys) (drop j sigs) found
  tries-bad form bad = sym (rw (tried, form, bad) (ap (λ (left : Stack). tries checker (drop (i + 1) keys) left found) (sym (rest sigs j sig there sig_is))))
