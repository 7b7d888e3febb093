use Rattle.std.proofs.Common.{◌≡◌, ◌∙◌, ap, refl, arith}
use Rattle.def_emit.specs.Emit.{emit}
use Rattle.def_script.specs.Instruction.{opcode_count}
use Rattle.ms_tree.specs.Shape.{shape}
use Rattle.ms_extent.specs.declared.extent.Extent.{Extent}
use Rattle.ms_extent.proofs.Room.{bytes_of_script, opcodes_of_script, few_opcodes}
use Rattle.ms_extent.proofs.length.script_extent.Goals as goal

pub returns-clause-bytes : goal.returns-clause-bytes
returns-clause-bytes c = ap (λ (e : Extent). e.bytes) c.extent.ensures ∙ bytes_of_script _ (shape c.args.tree.now) refl c.requires

pub returns-clause-count : goal.returns-clause-count
returns-clause-count c = ap (λ (e : Extent). e.opcodes) c.extent.ensures ∙ opcodes_of_script _ (shape c.args.tree.now) refl c.requires

pub returns-clause-few : goal.returns-clause-few
returns-clause-few c =
    let count : c.extent.result.opcodes ≡ opcode_count (emit (shape c.args.tree.now)) = returns-clause-count c in
    omega (arith, count, few_opcodes (shape c.args.tree.now))
