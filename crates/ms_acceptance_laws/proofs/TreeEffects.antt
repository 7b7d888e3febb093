-- What the Script of a miniscript does to the main stack, without the limits of the interpreter.
use Rattle.std.specs.Prelude.{List, [], ◌∷◌, length, Ok}
use Rattle.def_hash.specs.declared.HashKind.TheVariants as hash_kind
use Rattle.def_hash.specs.Hash.{hash160}
use Rattle.def_script.specs.Bytes.{Bytes}
use Rattle.def_script.specs.Numbers.{natural_bytes}
use Rattle.def_machine.specs.declared.ScriptFault.TheVariants as fault
use Rattle.def_script.specs.Limits.{MAX_PUBKEYS_PER_MULTISIG}
use Rattle.def_machine.specs.Locks.{after_holds, older_holds}
use Rattle.def_machine.specs.Faults.{OrFault, ◌>>=◌}
use Rattle.def_machine.specs.Stacks.{Stack, Pairs, Checker, bool_bytes}
use Rattle.def_machine.specs.Effects.{verify, if_dup, dup, swap, size, equal, zero_not_equal, add, bool_and, bool_or, hash, check_sig, lock}
use Rattle.def_machine.specs.MultiSig.{count, some_off, one_off, tries, verdict, null_dummy}
use Rattle.def_machine.specs.Machine.{Given}
use Rattle.def_tree.specs.declared.Two.TheVariants as kind
use Rattle.def_tree.specs.declared.Wrapper.TheVariants as wrapper
use Rattle.def_tree.specs.Tree.{Tree, Trees, just_0, just_1, pk_k, pk_h, older, after, hash as hash_of, and_or, two, thresh, multi, wrap, none, more}
use Rattle.ms_acceptance_laws.proofs.StackEffects.{Left, Effect, both, silent, plain, pushes, choose, aside}

-- CHECKSIG
abbrev pub with_checks : Stack × Pairs → OrFault Left
with_checks left = Ok (record { main = left.0; log = record { keys = 0; checks = left.1 } })

abbrev pub checks_sig : Checker → Effect
checks_sig checker main = check_sig checker main [] >>= with_checks

-- CHECKMULTISIG, as `check_multi_sig` of the machine without a count of opcodes
unfoldable pub checks_multi_sig : Checker → Effect
checks_multi_sig checker main = do
  n ← count MAX_PUBKEYS_PER_MULTISIG fault.KeyCount main
  keys ← some_off n.0 n.1
  m ← count n.0 fault.SigCount keys.1
  sigs ← some_off m.0 m.1
  extra ← one_off sigs.1
  tried ← tries checker keys.0 sigs.0 []
  passed ← verdict sigs.0 tried
  empty ← null_dummy extra.0
  Ok (record { main = bool_bytes passed.0 ∷ extra.1; log = record { keys = n.0; checks = passed.1 } })

-- each string is put on the stack
abbrev pub pushes_all : List Bytes → Effect
pushes_all [] = silent
pushes_all (bytes ∷ rest) = both (pushes bytes) (pushes_all rest)

abbrev mutual
  pub den : Given → Tree → Effect
  den given just_0 = pushes (natural_bytes 0)
  den given just_1 = pushes (natural_bytes 1)
  den given (pk_k key) = pushes key
  den given (pk_h key) =
      both (plain dup) (both (plain (hash hash_kind.Hash160)) (both (pushes (hash160 key)) (both (plain equal) (plain verify))))
  den given (older n) = both (pushes (natural_bytes n)) (plain (lock (λ m. older_holds m given.locks)))
  den given (after n) = both (pushes (natural_bytes n)) (plain (lock (λ m. after_holds m given.locks)))
  den given (hash_of kind value) =
      both (plain size) (both (pushes (natural_bytes 32)) (both (both (plain equal) (plain verify))
      (both (plain (hash kind)) (both (pushes value) (plain equal)))))
  den given (and_or x y z) = both (den given x) (choose (den given y) (den given z))
  den given (two kind.AndV x y) = both (den given x) (den given y)
  den given (two kind.AndB x y) = both (den given x) (both (den given y) (plain bool_and))
  den given (two kind.OrB x y) = both (den given x) (both (den given y) (plain bool_or))
  den given (two kind.OrC x y) = both (den given x) (choose silent (den given y))
  den given (two kind.OrD x y) = both (den given x) (both (plain if_dup) (choose silent (den given y)))
  den given (two kind.OrI x y) = choose (den given x) (den given y)
  den given (thresh k xs) = both (den_sum given xs) (both (pushes (natural_bytes k)) (plain equal))
  den given (multi k keys) =
      both (pushes (natural_bytes k)) (both (pushes_all keys) (both (pushes (natural_bytes (length keys))) (checks_multi_sig given.checker)))
  den given (wrap wrapper.A x) = aside (den given x)
  den given (wrap wrapper.S x) = both (plain swap) (den given x)
  den given (wrap wrapper.C x) = both (den given x) (checks_sig given.checker)
  den given (wrap wrapper.D x) = both (plain dup) (choose (den given x) silent)
  den given (wrap wrapper.V x) = both (den given x) (plain verify)
  den given (wrap wrapper.J x) = both (plain size) (both (plain zero_not_equal) (choose (den given x) silent))
  den given (wrap wrapper.N x) = both (den given x) (plain zero_not_equal)

  pub den_sum : Given → Trees → Effect
  den_sum given none = silent
  den_sum given (more x xs) = both (den given x) (den_added given xs)

  pub den_added : Given → Trees → Effect
  den_added given none = silent
  den_added given (more x xs) = both (den given x) (both (plain add) (den_added given xs))
