-- A miniscript's Script does its effect on the machine without limits.
use Rattle.std.proofs.Common.{◌≡◌, true, false, List, [], ◌∷◌, ◌++◌, map, length, sym, refl, ◌∙◌, append_assoc}
use Rattle.def_hash.specs.declared.HashKind.{HashKind}
use Rattle.def_hash.specs.declared.HashKind.TheVariants as hash_kind
use Rattle.def_hash.specs.Hash.{hash160}
use Rattle.def_script.specs.declared.Op.TheVariants as op
use Rattle.def_script.specs.Instruction.{Instruction, push, code}
use Rattle.def_script.specs.Numbers.{natural_bytes}
use Rattle.def_machine.specs.Locks.{after_holds, older_holds}
use Rattle.def_machine.specs.Effects.{if_dup, dup, swap, size, equal, zero_not_equal, add, bool_and, bool_or, hash, lock}
use Rattle.def_machine.specs.Machine.{Given, act}
use Rattle.def_tree.specs.declared.Two.TheVariants as kind
use Rattle.def_tree.specs.declared.Wrapper.TheVariants as wrapper
use Rattle.def_tree.specs.Tree.{Tree, Trees, Key, just_0, just_1, pk_k, pk_h, older, after, hash as hash_of, and_or, two, thresh, multi, wrap, none, more}
use Rattle.def_emit.specs.Emit.{hash_opcode, emit, emit_sum, emit_added}
use Rattle.ms_acceptance_laws.proofs.StackEffects.{Effect, both, plain}
use Rattle.ms_acceptance_laws.proofs.TreeEffects.{den, den_sum, den_added, pushes_all}
use Rattle.ms_acceptance_laws.proofs.InstructionEffects.{Does, does_as, both_does, code_does, push_does, nothing_does, else_does, only_does, aside_does}
use Rattle.ms_acceptance_laws.proofs.SignatureOpcodes.{check_sig_does, check_multi_sig_does, equal_verify_does}
use Rattle.ms_acceptance_laws.proofs.FusedVerify.{verified_does}

-- Scripts with branches, in the parts that are carried out one after the other
pub and_or_script : (x y z : Tree) → emit x ++ (code op.NotIf ∷ (emit z ++ code op.Else ∷ (emit y ++ code op.EndIf ∷ []))) ≡ emit (and_or x y z)
and_or_script x y z =
    sym (append_assoc (emit x ++ code op.NotIf ∷ emit z) (code op.Else ∷ emit y) (code op.EndIf ∷ [])
    ∙ append_assoc (emit x) (code op.NotIf ∷ emit z) (code op.Else ∷ (emit y ++ code op.EndIf ∷ [])))

pub or_c_script : (x y : Tree) → emit x ++ (code op.NotIf ∷ (emit y ++ code op.EndIf ∷ [])) ≡ emit (two kind.OrC x y)
or_c_script x y = sym (append_assoc (emit x) (code op.NotIf ∷ emit y) (code op.EndIf ∷ []))

pub or_d_script : (x y : Tree) → emit x ++ (code op.IfDup ∷ code op.NotIf ∷ (emit y ++ code op.EndIf ∷ [])) ≡ emit (two kind.OrD x y)
or_d_script x y = sym (append_assoc (emit x) (code op.IfDup ∷ code op.NotIf ∷ emit y) (code op.EndIf ∷ []))

pub or_i_script : (x y : Tree) → code op.If ∷ (emit x ++ code op.Else ∷ (emit y ++ code op.EndIf ∷ [])) ≡ emit (two kind.OrI x y)
or_i_script x y = sym (append_assoc (code op.If ∷ emit x) (code op.Else ∷ emit y) (code op.EndIf ∷ []))

module _ (given : Given) where
  -- one after the other
  pub then_does : {c d : List Instruction} {f g : Effect} → Does given c f → Does given d g → Does given (c ++ d) (both f g)
  then_does {c} {d} {f} {g} x y = both_does given c d f g x y

  same_script : {c d : List Instruction} {f : Effect} → c ≡ d → Does given c f → Does given d f
  same_script {c} {d} {f} same x = does_as given c d f f same (λ main. refl) x

  pushes_does : (keys : List Key) → Does given (map push keys) (pushes_all keys)
  pushes_does [] = nothing_does given
  pushes_does (key ∷ keys) = then_does (push_does given key) (pushes_does keys)

  pub hash_does : (kind : HashKind) → Does given (code (hash_opcode kind) ∷ []) (plain (hash kind))
  unfolding act
  hash_does hash_kind.Sha256 = code_does given op.Sha256 (hash hash_kind.Sha256) refl (λ s. refl)
  hash_does hash_kind.Hash256 = code_does given op.Hash256 (hash hash_kind.Hash256) refl (λ s. refl)
  hash_does hash_kind.Ripemd160 = code_does given op.Ripemd160 (hash hash_kind.Ripemd160) refl (λ s. refl)
  hash_does hash_kind.Hash160 = code_does given op.Hash160 (hash hash_kind.Hash160) refl (λ s. refl)

  pub if_dup_does : Does given (code op.IfDup ∷ []) (plain if_dup)
  unfolding act
  if_dup_does = code_does given op.IfDup if_dup refl (λ s. refl)

  pub dup_does : Does given (code op.Dup ∷ []) (plain dup)
  unfolding act
  dup_does = code_does given op.Dup dup refl (λ s. refl)

  pub swap_does : Does given (code op.Swap ∷ []) (plain swap)
  unfolding act
  swap_does = code_does given op.Swap swap refl (λ s. refl)

  pub size_does : Does given (code op.Size ∷ []) (plain size)
  unfolding act
  size_does = code_does given op.Size size refl (λ s. refl)

  pub zero_not_equal_does : Does given (code op.ZeroNotEqual ∷ []) (plain zero_not_equal)
  unfolding act
  zero_not_equal_does = code_does given op.ZeroNotEqual zero_not_equal refl (λ s. refl)

  pub add_does : Does given (code op.Add ∷ []) (plain add)
  unfolding act
  add_does = code_does given op.Add add refl (λ s. refl)

  mutual
    unfolding act

    pub does : (t : Tree) → Does given (emit t) (den given t)
    does just_0 = push_does given _
    does just_1 = push_does given _
    does (pk_k key) = push_does given key
    does (pk_h key) =
        then_does dup_does (then_does (hash_does hash_kind.Hash160) (then_does (push_does given (hash160 key)) (equal_verify_does given)))
    does (older n) = then_does (push_does given (natural_bytes n)) (code_does given op.CheckSequenceVerify (lock (λ n. older_holds n given.locks)) refl (λ s. refl))
    does (after n) = then_does (push_does given (natural_bytes n)) (code_does given op.CheckLockTimeVerify (lock (λ n. after_holds n given.locks)) refl (λ s. refl))
    does (hash_of kind value) =
        then_does size_does (then_does (push_does given (natural_bytes 32)) (then_does (equal_verify_does given)
        (then_does (hash_does kind) (then_does (push_does given value) (code_does given op.Equal equal refl (λ s. refl))))))
    does (and_or x y z) =
        same_script (and_or_script x y z)
        (then_does (does x) (else_does given false (emit z) (emit y) (den given z) (den given y) (does z) (does y)))
    does (two kind.AndV x y) = then_does (does x) (does y)
    does (two kind.AndB x y) = same_script (sym (append_assoc (emit x) (emit y) _)) (then_does (does x) (then_does (does y) (code_does given op.BoolAnd bool_and refl (λ s. refl))))
    does (two kind.OrB x y) = same_script (sym (append_assoc (emit x) (emit y) _)) (then_does (does x) (then_does (does y) (code_does given op.BoolOr bool_or refl (λ s. refl))))
    does (two kind.OrC x y) =
        same_script (or_c_script x y)
        (then_does (does x) (only_does given false (emit y) (den given y) (does y)))
    does (two kind.OrD x y) =
        same_script (or_d_script x y)
        (then_does (does x) (then_does if_dup_does (only_does given false (emit y) (den given y) (does y))))
    does (two kind.OrI x y) =
        same_script (or_i_script x y)
        (else_does given true (emit x) (emit y) (den given x) (den given y) (does x) (does y))
    does (thresh k xs) = then_does (does_sum xs) (then_does (push_does given (natural_bytes k)) (code_does given op.Equal equal refl (λ s. refl)))
    does (multi k keys) =
        then_does (push_does given (natural_bytes k)) (then_does (pushes_does keys) (then_does (push_does given (natural_bytes (length keys))) (check_multi_sig_does given)))
    does (wrap wrapper.A x) = aside_does given (emit x) (den given x) (does x)
    does (wrap wrapper.S x) = then_does swap_does (does x)
    does (wrap wrapper.C x) = then_does (does x) (check_sig_does given)
    does (wrap wrapper.D x) = then_does dup_does (only_does given true (emit x) (den given x) (does x))
    does (wrap wrapper.V x) = verified_does given (emit x) (den given x) (does x)
    does (wrap wrapper.J x) = then_does size_does (then_does zero_not_equal_does (only_does given true (emit x) (den given x) (does x)))
    does (wrap wrapper.N x) = then_does (does x) zero_not_equal_does

    pub does_sum : (xs : Trees) → Does given (emit_sum xs) (den_sum given xs)
    does_sum none = nothing_does given
    does_sum (more x xs) = then_does (does x) (does_added xs)

    pub does_added : (xs : Trees) → Does given (emit_added xs) (den_added given xs)
    does_added none = nothing_does given
    does_added (more x xs) = then_does (does x) (then_does add_does (does_added xs))
