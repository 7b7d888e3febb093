-- How many opcodes the fragments have.
use Rattle.std.proofs.Common.{◌≡◌, ℕ, ◌+◌, ◌≤◌, List, [], ◌∷◌, ◌++◌, length, map, Option, Some, None, refl, arith}
use Rattle.def_script.specs.declared.Op.{Op}
use Rattle.def_script.specs.declared.Op.TheVariants as op
use Rattle.def_script.specs.Bytes.{Bytes}
use Rattle.def_script.specs.Instruction.{Instruction, push, code, opcode_count}
use Rattle.def_script.specs.Verify.{verify_form, verified_op, verified}
use Rattle.def_tree.specs.declared.Two.TheVariants as kind
use Rattle.def_tree.specs.declared.Wrapper.TheVariants as wrapper
use Rattle.def_tree.specs.Tree.{Key, Tree, Trees, and_or, two, thresh, multi, wrap, more}
use Rattle.def_emit.specs.Emit.{push_number, emit, emit_sum, emit_added}

abbrev pub ops : Tree → ℕ
ops t = opcode_count (emit t)

pub opcodes_append : (a b : List Instruction) → opcode_count (a ++ b) ≡ opcode_count a + opcode_count b
opcodes_append [] b = omega arith
opcodes_append (push bytes ∷ a) b = opcodes_append a b
opcodes_append (code last ∷ a) b = omega (arith, opcodes_append a b)

verified_one : (last : Op) (form : Option Op) → 1 ≤ opcode_count (verified_op last form)
verified_one last None = omega arith
verified_one last (Some form) = omega arith

-- VERIFY takes no opcode away
pub opcodes_verified : (c : List Instruction) → opcode_count c ≤ opcode_count (verified c)
opcodes_verified [] = omega arith
opcodes_verified (push bytes ∷ []) = omega arith
opcodes_verified (code last ∷ []) = verified_one last (verify_form last)
opcodes_verified (push bytes ∷ second ∷ rest) = opcodes_verified (second ∷ rest)
opcodes_verified (code first ∷ second ∷ rest) = omega (arith, opcodes_verified (second ∷ rest))

opcodes_pushed : (keys : List Bytes) (rest : List Instruction) → opcode_count (map push keys ++ rest) ≡ opcode_count rest
opcodes_pushed [] rest = refl
opcodes_pushed (key ∷ keys) rest = opcodes_pushed keys rest

pub ops_multi : (k : ℕ) (keys : List Key) → ops (multi k keys) ≡ 1
ops_multi k keys = opcodes_pushed keys (push_number (length keys) ∷ code op.CheckMultiSig ∷ [])

pub ops_and_or : (x y z : Tree) → ops (and_or x y z) ≡ ops x + ops y + ops z + 3
ops_and_or x y z = omega (
  arith,
  opcodes_append (emit x ++ (code op.NotIf ∷ emit z) ++ (code op.Else ∷ emit y)) (code op.EndIf ∷ []),
  opcodes_append (emit x ++ (code op.NotIf ∷ emit z)) (code op.Else ∷ emit y),
  opcodes_append (emit x) (code op.NotIf ∷ emit z),
)

pub ops_and_v : (x y : Tree) → ops (two kind.AndV x y) ≡ ops x + ops y
ops_and_v x y = opcodes_append (emit x) (emit y)

pub ops_and_b : (x y : Tree) → ops (two kind.AndB x y) ≡ ops x + ops y + 1
ops_and_b x y = omega (arith, opcodes_append (emit x ++ emit y) (code op.BoolAnd ∷ []), opcodes_append (emit x) (emit y))

pub ops_or_b : (x y : Tree) → ops (two kind.OrB x y) ≡ ops x + ops y + 1
ops_or_b x y = omega (arith, opcodes_append (emit x ++ emit y) (code op.BoolOr ∷ []), opcodes_append (emit x) (emit y))

pub ops_or_c : (x y : Tree) → ops (two kind.OrC x y) ≡ ops x + ops y + 2
ops_or_c x y = omega (arith, opcodes_append (emit x ++ (code op.NotIf ∷ emit y)) (code op.EndIf ∷ []), opcodes_append (emit x) (code op.NotIf ∷ emit y))

pub ops_or_d : (x y : Tree) → ops (two kind.OrD x y) ≡ ops x + ops y + 3
ops_or_d x y = omega (arith, opcodes_append (emit x ++ (code op.IfDup ∷ code op.NotIf ∷ emit y)) (code op.EndIf ∷ []), opcodes_append (emit x) (code op.IfDup ∷ code op.NotIf ∷ emit y))

pub ops_or_i : (x y : Tree) → ops (two kind.OrI x y) ≡ ops x + ops y + 3
ops_or_i x y = omega (arith, opcodes_append (emit x ++ (code op.Else ∷ emit y)) (code op.EndIf ∷ []), opcodes_append (emit x) (code op.Else ∷ emit y))

pub ops_thresh : (k : ℕ) (xs : Trees) → ops (thresh k xs) ≡ opcode_count (emit_sum xs) + 1
ops_thresh k xs = opcodes_append (emit_sum xs) (push_number k ∷ code op.Equal ∷ [])

pub ops_sum : (x : Tree) (xs : Trees) → opcode_count (emit_sum (more x xs)) ≡ ops x + opcode_count (emit_added xs)
ops_sum x xs = opcodes_append (emit x) (emit_added xs)

pub ops_added : (x : Tree) (xs : Trees) → opcode_count (emit_added (more x xs)) ≡ ops x + opcode_count (emit_added xs) + 1
ops_added x xs = omega (arith, opcodes_append (emit x) (code op.Add ∷ emit_added xs))

pub ops_a : (x : Tree) → ops (wrap wrapper.A x) ≡ ops x + 2
ops_a x = omega (arith, opcodes_append (emit x) (code op.FromAltStack ∷ []))

pub ops_c : (x : Tree) → ops (wrap wrapper.C x) ≡ ops x + 1
ops_c x = opcodes_append (emit x) (code op.CheckSig ∷ [])

pub ops_d : (x : Tree) → ops (wrap wrapper.D x) ≡ ops x + 3
ops_d x = omega (arith, opcodes_append (emit x) (code op.EndIf ∷ []))

pub ops_j : (x : Tree) → ops (wrap wrapper.J x) ≡ ops x + 4
ops_j x = omega (arith, opcodes_append (emit x) (code op.EndIf ∷ []))

pub ops_n : (x : Tree) → ops (wrap wrapper.N x) ≡ ops x + 1
ops_n x = opcodes_append (emit x) (code op.ZeroNotEqual ∷ [])
