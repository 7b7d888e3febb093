-- What a Script comes to, instruction by instruction, as the code counts it: up to the last value of
-- 64 bits.
use Rattle.std.specs.Prelude.{ℕ, ◌+◌, ◌-◌, ◌^◌, min, false, is_some, List, [], ◌∷◌, length, if◌then◌else◌}
use Rattle.def_script.specs.Instruction.{Instruction, push, code}
use Rattle.def_script.specs.Spell.{shortest_push}
use Rattle.def_script.specs.Verify.{verify_form}
use Rattle.ms_extent.specs.declared.extent.Extent.{Extent}

abbrev pub capped_u64 : ℕ → ℕ
capped_u64 n = min n (2 ^ 64 - 1)

-- an instruction behind the others
abbrev pub extended : Extent → Instruction → Extent
extended e (push bytes) = record { bytes = capped_u64 (e.bytes + length (shortest_push bytes)); opcodes = e.opcodes; fuses = false }
extended e (code op) = record { bytes = capped_u64 (e.bytes + 1); opcodes = capped_u64 (e.opcodes + 1); fuses = is_some (verify_form op) }

-- instructions behind the others, one after the other
abbrev pub extended_by : Extent → List Instruction → Extent
extended_by e [] = e
extended_by e (first ∷ rest) = extended_by (extended e first) rest

-- VERIFY behind the others: as an opcode of its own, or by the form of the last one that does it too
abbrev pub extended_verify : Extent → Extent
extended_verify e = record {
  bytes = if e.fuses then e.bytes else capped_u64 (e.bytes + 1);
  opcodes = if e.fuses then e.opcodes else capped_u64 (e.opcodes + 1);
  fuses = false;
}
