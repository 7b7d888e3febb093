-- The translation of a miniscript tree to Script (BIP 379, translation table). `[X]` of that table is
-- `emit x` here, and `<n>` is `push_number n`.
use Rattle.std.specs.Prelude.{ℕ, List, [], ◌∷◌, ◌++◌, length, map}
use Rattle.def_hash.specs.declared.HashKind.{HashKind}
use Rattle.def_hash.specs.declared.HashKind.TheVariants as hash_kind
use Rattle.def_hash.specs.Hash.{hash160}
use Rattle.def_script.specs.declared.Op.{Op}
use Rattle.def_script.specs.declared.Op.TheVariants as op
use Rattle.def_script.specs.Bytes.{Bytes}
use Rattle.def_script.specs.Instruction.{Instruction, push, code}
use Rattle.def_script.specs.Numbers.{natural_bytes}
use Rattle.def_script.specs.Spell.{spell}
use Rattle.def_script.specs.Verify.{verified}
use Rattle.def_tree.specs.declared.Two.TheVariants as kind
use Rattle.def_tree.specs.declared.Wrapper.TheVariants as wrapper
use Rattle.def_tree.specs.Tree.{Tree, Trees, just_0, just_1, pk_k, pk_h, older, after, hash, and_or, two, thresh, multi, wrap, none, more}

-- the push of a number in its shortest form
abbrev pub push_number : ℕ → Instruction
push_number n = push (natural_bytes n)

-- the opcode of a hash function
abbrev pub hash_opcode : HashKind → Op
hash_opcode hash_kind.Sha256 = op.Sha256
hash_opcode hash_kind.Hash256 = op.Hash256
hash_opcode hash_kind.Ripemd160 = op.Ripemd160
hash_opcode hash_kind.Hash160 = op.Hash160

-- the Script of a tree, as instructions
abbrev mutual
  pub emit : Tree → List Instruction
  emit just_0 = push_number 0 ∷ []
  emit just_1 = push_number 1 ∷ []
  emit (pk_k key) = push key ∷ []
  emit (pk_h key) = code op.Dup ∷ code op.Hash160 ∷ push (hash160 key) ∷ code op.EqualVerify ∷ []
  emit (older n) = push_number n ∷ code op.CheckSequenceVerify ∷ []
  emit (after n) = push_number n ∷ code op.CheckLockTimeVerify ∷ []
  emit (hash kind value) = code op.Size ∷ push_number 32 ∷ code op.EqualVerify ∷ code (hash_opcode kind) ∷ push value ∷ code op.Equal ∷ []
  emit (and_or x y z) = emit x ++ code op.NotIf ∷ emit z ++ code op.Else ∷ emit y ++ code op.EndIf ∷ []
  emit (two kind.AndV x y) = emit x ++ emit y
  emit (two kind.AndB x y) = emit x ++ emit y ++ code op.BoolAnd ∷ []
  emit (two kind.OrB x y) = emit x ++ emit y ++ code op.BoolOr ∷ []
  emit (two kind.OrC x y) = emit x ++ code op.NotIf ∷ emit y ++ code op.EndIf ∷ []
  emit (two kind.OrD x y) = emit x ++ code op.IfDup ∷ code op.NotIf ∷ emit y ++ code op.EndIf ∷ []
  emit (two kind.OrI x y) = code op.If ∷ emit x ++ code op.Else ∷ emit y ++ code op.EndIf ∷ []
  emit (thresh k xs) = emit_sum xs ++ push_number k ∷ code op.Equal ∷ []
  emit (multi k keys) = push_number k ∷ map push keys ++ push_number (length keys) ∷ code op.CheckMultiSig ∷ []
  emit (wrap wrapper.A x) = code op.ToAltStack ∷ emit x ++ code op.FromAltStack ∷ []
  emit (wrap wrapper.S x) = code op.Swap ∷ emit x
  emit (wrap wrapper.C x) = emit x ++ code op.CheckSig ∷ []
  emit (wrap wrapper.D x) = code op.Dup ∷ code op.If ∷ emit x ++ code op.EndIf ∷ []
  emit (wrap wrapper.V x) = verified (emit x)
  emit (wrap wrapper.J x) = code op.Size ∷ code op.ZeroNotEqual ∷ code op.If ∷ emit x ++ code op.EndIf ∷ []
  emit (wrap wrapper.N x) = emit x ++ code op.ZeroNotEqual ∷ []

  -- the children of a threshold: the first one, and then each further one with ADD behind it
  pub emit_sum : Trees → List Instruction
  emit_sum none = []
  emit_sum (more x xs) = emit x ++ emit_added xs

  pub emit_added : Trees → List Instruction
  emit_added none = []
  emit_added (more x xs) = emit x ++ code op.Add ∷ emit_added xs

-- the Script of a tree, as bytes
abbrev pub script_of : Tree → Bytes
script_of tree = spell (emit tree)
