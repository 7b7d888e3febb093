-- The instructions of a tree, the last one first, in front of others.
use Rattle.std.proofs.Common.{◌≡◌, List, [], ◌∷◌, ◌++◌, length, map, reverse, append_assoc, refl, sym, ◌∙◌, ap, arith}
use Rattle.std.proofs.lemmas.Grind.{reverse_onto}
use Rattle.def_hash.specs.Hash.{hash160}
use Rattle.def_script.specs.declared.Op.TheVariants as op
use Rattle.def_script.specs.Instruction.{Instruction, push, code}
use Rattle.def_script.specs.Verify.{verified}
use Rattle.def_tree.specs.declared.Two.TheVariants as kind
use Rattle.def_tree.specs.declared.Wrapper.TheVariants as wrapper
use Rattle.def_tree.specs.Tree.{Tree, Trees, just_0, just_1, pk_k, pk_h, older, after, hash, and_or, two, thresh, multi, wrap, none, more}
use Rattle.def_emit.specs.Emit.{push_number, hash_opcode, emit, emit_sum, emit_added}
use Rattle.def_emit.proofs.Behind.{has_first}

-- instructions backwards, in front of others
abbrev pub back : List Instruction → List Instruction → List Instruction
back [] is = is
back (i ∷ l) is = back l (i ∷ is)

pub back_reverse : (l is : List Instruction) → back l is ≡ reverse l ++ is
back_reverse [] is = refl
back_reverse (i ∷ l) is = back_reverse l (i ∷ is) ∙ sym (rw (reverse_onto l i [], append_assoc) refl)

-- VERIFY behind the instructions
abbrev pub fused : List Instruction → List Instruction
fused (code op.Equal ∷ is) = code op.EqualVerify ∷ is
fused (code op.CheckSig ∷ is) = code op.CheckSigVerify ∷ is
fused (code op.CheckMultiSig ∷ is) = code op.CheckMultiSigVerify ∷ is
fused is = code op.Verify ∷ is

abbrev mutual
  pub onto : Tree → List Instruction → List Instruction
  onto just_0 is = push_number 0 ∷ is
  onto just_1 is = push_number 1 ∷ is
  onto (pk_k key) is = push key ∷ is
  onto (pk_h key) is = code op.EqualVerify ∷ push (hash160 key) ∷ code op.Hash160 ∷ code op.Dup ∷ is
  onto (older n) is = code op.CheckSequenceVerify ∷ push_number n ∷ is
  onto (after n) is = code op.CheckLockTimeVerify ∷ push_number n ∷ is
  onto (hash kind value) is = code op.Equal ∷ push value ∷ code (hash_opcode kind) ∷ code op.EqualVerify ∷ push_number 32 ∷ code op.Size ∷ is
  onto (and_or x y z) is = code op.EndIf ∷ onto y (code op.Else ∷ onto z (code op.NotIf ∷ onto x is))
  onto (two kind.AndV x y) is = onto y (onto x is)
  onto (two kind.AndB x y) is = code op.BoolAnd ∷ onto y (onto x is)
  onto (two kind.OrB x z) is = code op.BoolOr ∷ onto z (onto x is)
  onto (two kind.OrC x z) is = code op.EndIf ∷ onto z (code op.NotIf ∷ onto x is)
  onto (two kind.OrD x z) is = code op.EndIf ∷ onto z (code op.NotIf ∷ code op.IfDup ∷ onto x is)
  onto (two kind.OrI x z) is = code op.EndIf ∷ onto z (code op.Else ∷ onto x (code op.If ∷ is))
  onto (thresh k xs) is = code op.Equal ∷ push_number k ∷ onto_sum xs is
  onto (multi k keys) is = code op.CheckMultiSig ∷ push_number (length keys) ∷ back (map push keys) (push_number k ∷ is)
  onto (wrap wrapper.A x) is = code op.FromAltStack ∷ onto x (code op.ToAltStack ∷ is)
  onto (wrap wrapper.S x) is = onto x (code op.Swap ∷ is)
  onto (wrap wrapper.C x) is = code op.CheckSig ∷ onto x is
  onto (wrap wrapper.D x) is = code op.EndIf ∷ onto x (code op.If ∷ code op.Dup ∷ is)
  onto (wrap wrapper.V x) is = fused (onto x is)
  onto (wrap wrapper.J x) is = code op.EndIf ∷ onto x (code op.If ∷ code op.ZeroNotEqual ∷ code op.Size ∷ is)
  onto (wrap wrapper.N x) is = code op.ZeroNotEqual ∷ onto x is

  pub onto_sum : Trees → List Instruction → List Instruction
  onto_sum none is = is
  onto_sum (more x xs) is = onto_added xs (onto x is)

  pub onto_added : Trees → List Instruction → List Instruction
  onto_added none is = is
  onto_added (more x xs) is = onto_added xs (code op.Add ∷ onto x is)

-- these are a tree's instructions backwards
back_append : (a b is : List Instruction) → back (a ++ b) is ≡ back b (back a is)
back_append [] b is = refl
back_append (i ∷ a) b is = back_append a b (i ∷ is)

fused_last : (i : Instruction) (is : List Instruction) → fused (i ∷ is) ≡ back (verified (i ∷ [])) is
fused_last i is = grind arith

fused_back : (i : Instruction) (l is : List Instruction) → fused (back (i ∷ l) is) ≡ back (verified (i ∷ l)) is
fused_back i [] is = fused_last i is
fused_back i (j ∷ l) is = fused_back j l (i ∷ is)

mutual
  pub onto_back : (t : Tree) (is : List Instruction) → onto t is ≡ back (emit t) is
  onto_back (and_or x y z) is = simp (back_append, onto_back x, onto_back y, onto_back z)
  onto_back (two kind.AndV x y) is = simp (back_append, onto_back x, onto_back y)
  onto_back (two b x y) is = simp (back_append, onto_back x, onto_back y)
  onto_back (thresh k xs) is = simp (back_append, onto_sum_back xs)
  onto_back (multi k keys) is = simp back_append
  onto_back (wrap wrapper.V x) is =
      let h = has_first x in
      ap fused (onto_back x is) ∙ ap (λ l. fused (back l is)) h.whole ∙ fused_back h.first h.rest is ∙ ap (λ l. back (verified l) is) (sym h.whole)
  onto_back (wrap w x) is = simp (back_append, onto_back x)
  onto_back leaf is = refl

  onto_sum_back : (xs : Trees) (is : List Instruction) → onto_sum xs is ≡ back (emit_sum xs) is
  onto_sum_back none is = refl
  onto_sum_back (more x xs) is = simp (back_append, onto_back x, onto_added_back xs)

  onto_added_back : (xs : Trees) (is : List Instruction) → onto_added xs is ≡ back (emit_added xs) is
  onto_added_back none is = refl
  onto_added_back (more x xs) is = simp (back_append, onto_back x, onto_added_back xs)
