-- What Scripts come to.
use Rattle.std.proofs.Common.{◌≡◌, ℕ, ◌+◌, ◌<◌, List, [], ◌∷◌, ◌++◌, length, get_or, drop, refl, sym, ◌∙◌, ap, drop-cons, add-one}
use Rattle.def_script.specs.declared.Op.{Op}
use Rattle.def_script.specs.declared.Op.TheVariants as op
use Rattle.def_script.specs.Instruction.{Instruction, push, code}
use Rattle.def_script.specs.Verify.{verify_form, verified_op, verified}
use Rattle.def_tree.specs.Tree.{Tree}
use Rattle.def_emit.specs.Emit.{emit, emit_added}
use Rattle.def_emit.proofs.Behind.{has_first}
use Rattle.ms_tree.specs.declared.tree.Tree as code_tree
use Rattle.ms_tree.specs.Shape.{shape, shapes}
use Rattle.ms_extent.specs.declared.extent.Extent.{Extent}
use Rattle.ms_extent.specs.Extent.{extended, extended_by, extended_verify}

-- one Script behind another
pub counted_behind : (e : Extent) (xs ys : List Instruction) → extended_by e (xs ++ ys) ≡ extended_by (extended_by e xs) ys
counted_behind e [] ys = refl
counted_behind e (x ∷ xs) ys = counted_behind (extended e x) xs ys

-- VERIFY behind an opcode
verify_op : (e : Extent) (op : Op) → extended_by e (verified_op op (verify_form op)) ≡ extended_verify (extended e (code op))
verify_op e op.Equal = refl
verify_op e op.CheckSig = refl
verify_op e op.CheckMultiSig = refl
verify_op e other = refl

-- VERIFY behind a Script that isn't empty
verify_script : (e : Extent) (x : Instruction) (xs : List Instruction) → extended_by e (verified (x ∷ xs)) ≡ extended_verify (extended_by e (x ∷ xs))
verify_script e (push bytes) [] = refl
verify_script e (code op) [] = verify_op e op
verify_script e x (y ∷ ys) = verify_script (extended e x) y ys

-- VERIFY behind a tree's Script
pub verify_behind : (e : Extent) (t : Tree) → extended_by e (verified (emit t)) ≡ extended_verify (extended_by e (emit t))
verify_behind e t =
    let h = has_first t in
    ap (λ l. extended_by e (verified l)) h.whole ∙ verify_script e h.first h.rest ∙ ap (λ l. extended_verify (extended_by e l)) (sym h.whole)

-- the child of a threshold that a loop is at, and those after it
pub others_left : (e : Extent) (xs : List code_tree.Tree) (i : ℕ) (x : code_tree.Tree) → i < length xs → x ≡ get_or xs i x
    → extended_by (extended (extended_by e (emit (shape x))) (code op.Add)) (emit_added (shapes (drop (i + 1) xs))) ≡ extended_by e (emit_added (shapes (drop i xs)))
others_left e xs i x below at =
    rw (rest-cons xs i x below, ← at) (sym (counted_behind e (emit (shape x)) (code op.Add ∷ emit_added (shapes (drop (i + 1) xs)))))
  where
    rest-cons : (xs : List code_tree.Tree) (i : ℕ) (d : code_tree.Tree) → i < length xs → drop i xs ≡ get_or xs i d ∷ drop (i + 1) xs
    rest-cons xs i d there = rw add-one (drop-cons xs i d there)
