-- What the interpreter asks of the Script of a miniscript, whatever policy asks besides.
use Rattle.std.proofs.Common.{◌≡◌, ◌+◌, ◌≤◌, length, arith}
use Rattle.def_script.specs.Limits.{MAX_SCRIPT_SIZE, MAX_OPS_PER_SCRIPT}
use Rattle.def_tree.specs.Tree.{Tree}
use Rattle.def_types.specs.declared.Base.TheVariants.{B}
use Rattle.def_types.specs.Typed.{type_of, IsTyped}
use Rattle.def_emit.specs.Emit.{emit, script_of}
use Rattle.def_script.specs.Instruction.{opcode_count}
use Rattle.def_limits.specs.Scaffolding.Most.{most_sat, number_of, limits_of}
use Rattle.def_sane.specs.declared.Rules.TheVariants.{Consensus}
use Rattle.def_sane.specs.Unfit.{IsValidUnder}
use Rattle.def_sane.proofs.Meanings.{valid_means_under}
use Rattle.ms_row_laws.proofs.SmallThresholds.{Few, few_opcodes}

-- the tree has a correctness type, its base is B, its Script isn't too long, and its ops are no more than a run may have
pub record IsWithinConsensus (tree : Tree) : Type 0 where
  pub typed : IsTyped tree
  pub base : (type_of tree).base ≡ B
  pub size : length (script_of tree) ≤ MAX_SCRIPT_SIZE
  pub ops : (limits_of tree).ops ≤ MAX_OPS_PER_SCRIPT

-- a miniscript that is valid under consensus is within them
pub valid_consensus : (tree : Tree) → IsValidUnder Consensus tree → IsWithinConsensus tree
valid_consensus tree valid =
    let means = (valid_means_under Consensus tree).0 valid in
    record { typed = means.0; base = means.1; size = means.2; ops = means.3 }

-- no threshold has too many children
pub few_children : (tree : Tree) → IsWithinConsensus tree → Few tree
few_children tree c =
    let ops : opcode_count (emit tree) + number_of (λ x. x.keys) (most_sat tree) ≤ 201 = c.ops in
    few_opcodes tree (omega (arith, ops))
