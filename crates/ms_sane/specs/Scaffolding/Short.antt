-- What is known of a tree before its satisfactions are counted.
use Rattle.std.specs.Prelude.{◌≡◌, ◌*◌, ◌≤◌, Ok, length}
use Rattle.def_tree.specs.Tree.{Tree}
use Rattle.def_tree.specs.InRange.{measure}
use Rattle.def_types.specs.declared.Base.TheVariants.{B}
use Rattle.def_types.specs.Correctness.{correctness_of}
use Rattle.def_emit.specs.Emit.{emit, script_of}
use Rattle.def_script.specs.Instruction.{opcode_count}
use Rattle.def_sane.specs.declared.Rules.{Rules}
use Rattle.def_sane.specs.Unfit.{size_limit}
use Rattle.ms_extent.specs.declared.extent.Extent.{Extent}
use Rattle.ms_sane.specs.declared.valid.Short.{Short}

-- what the tree's Script comes to
pub record IsExtent (tree : Tree) (extent : Extent) : Type 0 where
  pub bytes : extent.bytes ≡ length (script_of tree)
  pub opcodes : extent.opcodes ≡ opcode_count (emit tree)
  pub few : extent.opcodes ≤ 8 * measure tree

-- it has this type, its top is B, and its Script comes to this and isn't too large under these rules
pub record IsShortOf (rules : Rules) (tree : Tree) (short : Short) : Type 0 where
  pub typed : correctness_of tree ≡ Ok short.ty
  pub top : short.ty.base ≡ B
  pub extent : IsExtent tree short.extent
  pub size : short.extent.bytes ≤ size_limit rules
