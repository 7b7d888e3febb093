-- How much higher a Script can make the stacks.
use Rattle.std.specs.Prelude.{ℕ, ◌+◌, List, [], ◌∷◌}
use Rattle.def_script.specs.declared.Op.{Op}
use Rattle.def_script.specs.declared.Op.TheVariants as op
use Rattle.def_script.specs.Instruction.{Instruction, push, code}

-- DUP, IFDUP and SIZE leave one element more than they find
abbrev pub rise_of : Op → ℕ
rise_of op.Dup = 1
rise_of op.IfDup = 1
rise_of op.Size = 1
rise_of other = 0

abbrev pub rise : Instruction → ℕ
rise (push bytes) = 1
rise (code op) = rise_of op

abbrev pub rises : List Instruction → ℕ
rises [] = 0
rises (i ∷ rest) = rise i + rises rest
