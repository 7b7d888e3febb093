-- VERIFY behind the Script of a tree.
use Rattle.std.proofs.Common.{◌≡◌, List, ◌++◌}
use Rattle.def_script.specs.Instruction.{Instruction}
use Rattle.def_script.specs.Verify.{verified}
use Rattle.def_tree.specs.declared.Wrapper.TheVariants as wrapper
use Rattle.def_tree.specs.Tree.{Tree, wrap}
use Rattle.def_emit.specs.Emit.{emit}
use Rattle.def_emit.proofs.Behind.{verified-emit}

-- it is fused with the last opcode where that has a VERIFY form, which is what `v` makes
pub verify_behind : (front : List Instruction) (t : Tree) → verified (front ++ emit t) ≡ front ++ emit (wrap wrapper.V t)
verify_behind front t = verified-emit front t
