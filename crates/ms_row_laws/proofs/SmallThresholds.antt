-- Thresholds with so few children that their sums are numbers.
use Rattle.std.proofs.Common.{ℕ, ◌+◌, ◌^◌, ◌<◌, ◌≤◌, inl, inr, arith}
use Rattle.std.specs.Prelude.{⊤}
use Rattle.def_tree.specs.declared.Two.TheVariants as kind
use Rattle.def_tree.specs.declared.Wrapper.TheVariants as wrapper
use Rattle.def_machine.specs.Stacks.{Stack}
use Rattle.def_tree.specs.Tree.{Tree, Trees, and_or, two, thresh, wrap, none, more}
use Rattle.def_tree.specs.Range.{count}
use Rattle.def_emit.specs.Emit.{emit, emit_sum, emit_added}
use Rattle.def_script.specs.Instruction.{opcode_count}
use Rattle.def_satisfaction.specs.Setting.{Setting}
use Rattle.def_satisfaction.specs.Rows.{parts}
use Rattle.def_height.proofs.Opcodes.{opcodes_verified, ops_and_or, ops_and_v, ops_and_b, ops_or_b, ops_or_c, ops_or_d, ops_or_i, ops_thresh, ops_sum, ops_added, ops_a, ops_c, ops_d, ops_j, ops_n}

abbrev mutual
  pub Few : Tree → Type 0
  Few (and_or x y z) = Few x × Few y × Few z
  Few (two kind x y) = Few x × Few y
  Few (thresh k xs) = (count xs < 2 ^ 30) × AllFew xs
  Few (wrap wrapper x) = Few x
  Few tree = ⊤

  pub AllFew : Trees → Type 0
  AllFew none = ⊤
  AllFew (more x xs) = Few x × AllFew xs

-- no more children are satisfied than there are
pub parts_few : (s : Setting) (xs : Trees) (n : ℕ) (w : Stack) → parts s xs n w → n ≤ count xs
parts_few s none n w r = let e = r.0 in omega arith
parts_few s (more x xs) n w (inl r) = let l = parts_few s xs r.0 r.2.0 r.2.2 in let e = r.1 in omega arith
parts_few s (more x xs) n w (inr r) = let l = parts_few s xs n r.0 r.2 in omega arith

-- behind each child but the first stands an opcode
few_added : (xs : Trees) → count xs ≤ opcode_count (emit_added xs)
few_added none = omega arith
few_added (more x xs) =
    let e = ops_added x xs in
    let i = few_added xs in
    omega arith

few_summed : (xs : Trees) → count xs ≤ opcode_count (emit_sum xs) + 1
few_summed none = omega arith
few_summed (more x xs) =
    let e = ops_sum x xs in
    let i = few_added xs in
    omega arith

-- a Script with few opcodes is that of a miniscript with few children
mutual
  pub few_opcodes : (t : Tree) → opcode_count (emit t) < 2 ^ 29 → Few t
  few_opcodes (and_or x y z) low =
      let e = ops_and_or x y z in
      (few_opcodes x (omega arith), few_opcodes y (omega arith), few_opcodes z (omega arith))
  few_opcodes (two kind.AndV x y) low = let e = ops_and_v x y in (few_opcodes x (omega arith), few_opcodes y (omega arith))
  few_opcodes (two kind.AndB x y) low = let e = ops_and_b x y in (few_opcodes x (omega arith), few_opcodes y (omega arith))
  few_opcodes (two kind.OrB x y) low = let e = ops_or_b x y in (few_opcodes x (omega arith), few_opcodes y (omega arith))
  few_opcodes (two kind.OrC x y) low = let e = ops_or_c x y in (few_opcodes x (omega arith), few_opcodes y (omega arith))
  few_opcodes (two kind.OrD x y) low = let e = ops_or_d x y in (few_opcodes x (omega arith), few_opcodes y (omega arith))
  few_opcodes (two kind.OrI x y) low = let e = ops_or_i x y in (few_opcodes x (omega arith), few_opcodes y (omega arith))
  few_opcodes (thresh k xs) low =
      let e = ops_thresh k xs in
      let i = few_summed xs in
      (omega arith, few_sum xs (omega arith))
  few_opcodes (wrap wrapper.A x) low = let e = ops_a x in few_opcodes x (omega arith)
  few_opcodes (wrap wrapper.S x) low = few_opcodes x (omega arith)
  few_opcodes (wrap wrapper.C x) low = let e = ops_c x in few_opcodes x (omega arith)
  few_opcodes (wrap wrapper.D x) low = let e = ops_d x in few_opcodes x (omega arith)
  few_opcodes (wrap wrapper.V x) low = let e = opcodes_verified (emit x) in few_opcodes x (omega arith)
  few_opcodes (wrap wrapper.J x) low = let e = ops_j x in few_opcodes x (omega arith)
  few_opcodes (wrap wrapper.N x) low = let e = ops_n x in few_opcodes x (omega arith)
  few_opcodes tree low = tt

  few_sum : (xs : Trees) → opcode_count (emit_sum xs) < 2 ^ 29 → AllFew xs
  few_sum none low = tt
  few_sum (more x xs) low = let e = ops_sum x xs in (few_opcodes x (omega arith), few_rest xs (omega arith))

  few_rest : (xs : Trees) → opcode_count (emit_added xs) < 2 ^ 29 → AllFew xs
  few_rest none low = tt
  few_rest (more x xs) low = let e = ops_added x xs in (few_opcodes x (omega arith), few_rest xs (omega arith))
