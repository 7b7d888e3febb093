-- A tree is hardly larger than its Script has instructions.
use Rattle.std.proofs.Common.{◌≡◌, ℕ, ◌+◌, ◌*◌, ◌≤◌, List, [], ◌∷◌, length, map, if◌then◌else◌, arith}
use Rattle.def_script.specs.declared.Op.TheVariants as op
use Rattle.def_script.specs.Instruction.{Instruction, push, code}
use Rattle.def_tree.specs.declared.Two.TheVariants as kind
use Rattle.def_tree.specs.declared.Wrapper.TheVariants as wrapper
use Rattle.def_tree.specs.Tree.{Tree, Trees, Key, and_or, two, thresh, multi, wrap, none, more}
use Rattle.def_tree.specs.InRange.{measure, measure_of}
use Rattle.def_emit.specs.Emit.{push_number}
use Rattle.ms_decode_laws.proofs.Onto.{back, fused, onto, onto_sum, onto_added}
use Rattle.ms_decode_laws.proofs.Low.{head_fuses}

-- 1 where VERIFY would be fused
abbrev pub spare : List Instruction → ℕ
spare l = if head_fuses l then 1 else 0

-- of instructions with others behind them
pub record Few (size : ℕ) (l whole : List Instruction) : Type 0 where
  pub few : size + 1 + spare whole + 3 * length l ≤ 3 * length whole

-- VERIFY behind it is an instruction, or is fused
fused_few : (size : ℕ) (l whole : List Instruction) → Few size l whole → Few (size + 1) l (fused whole)
fused_few size l whole h = record { few = grind (arith, h.few) }

length-back : (keys : List Key) (l : List Instruction) → length (back (map push keys) l) ≡ length keys + length l
length-back [] l = omega arith
length-back (key ∷ keys) l = omega (arith, length-back keys (push key ∷ l))

mutual
  pub few_of : (t : Tree) (l : List Instruction) → Few (measure t) l (onto t l)
  few_of (and_or x y z) l =
      record { few = omega (arith, (few_of x l).few, (few_of z (code op.NotIf ∷ onto x l)).few, (few_of y (code op.Else ∷ onto z (code op.NotIf ∷ onto x l))).few) }
  few_of (two kind.OrC x y) l = record { few = omega (arith, (few_of x l).few, (few_of y (code op.NotIf ∷ onto x l)).few) }
  few_of (two kind.OrD x y) l = record { few = omega (arith, (few_of x l).few, (few_of y (code op.NotIf ∷ code op.IfDup ∷ onto x l)).few) }
  few_of (two kind.OrI x y) l = record { few = omega (arith, (few_of x (code op.If ∷ l)).few, (few_of y (code op.Else ∷ onto x (code op.If ∷ l))).few) }
  few_of (two b x y) l = record { few = omega (arith, (few_of x l).few, (few_of y (onto x l)).few) }
  few_of (thresh k xs) l = record { few = omega (arith, few_sum xs l) }
  few_of (multi k keys) l = record { few = omega (arith, length-back keys (push_number k ∷ l)) }
  few_of (wrap wrapper.A x) l = record { few = omega (arith, (few_of x (code op.ToAltStack ∷ l)).few) }
  few_of (wrap wrapper.S x) l = record { few = omega (arith, (few_of x (code op.Swap ∷ l)).few) }
  few_of (wrap wrapper.D x) l = record { few = omega (arith, (few_of x (code op.If ∷ code op.Dup ∷ l)).few) }
  few_of (wrap wrapper.V x) l = fused_few (measure x) l (onto x l) (few_of x l)
  few_of (wrap wrapper.J x) l = record { few = omega (arith, (few_of x (code op.If ∷ code op.ZeroNotEqual ∷ code op.Size ∷ l)).few) }
  few_of (wrap w x) l = record { few = omega (arith, (few_of x l).few) }
  few_of leaf l = record { few = omega arith }

  few_sum : (xs : Trees) (l : List Instruction) → measure_of xs + 3 * length l ≤ 3 * length (onto_sum xs l)
  few_sum none l = omega arith
  few_sum (more x xs) l = omega (arith, (few_of x l).few, few_added xs (onto x l))

  few_added : (xs : Trees) (l : List Instruction) → measure_of xs + 3 * length l ≤ 3 * length (onto_added xs l)
  few_added none l = omega arith
  few_added (more x xs) l = omega (arith, (few_of x l).few, few_added xs (code op.Add ∷ onto x l))
