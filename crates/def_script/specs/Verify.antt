-- VERIFY behind a Script (BIP 379, translation table, `v:X`; Bitcoin Core, `CheckSigVerify` and the like).
use Rattle.std.specs.Prelude.{Option, Some, None, List, [], ◌∷◌}
use Rattle.def_script.specs.declared.Op.{Op}
use Rattle.def_script.specs.declared.Op.TheVariants as op
use Rattle.def_script.specs.Instruction.{Instruction, push, code}

-- EQUAL, CHECKSIG and CHECKMULTISIG have a form that does VERIFY too
abbrev pub verify_form : Op → Option Op
verify_form op.Equal = Some op.EqualVerify
verify_form op.CheckSig = Some op.CheckSigVerify
verify_form op.CheckMultiSig = Some op.CheckMultiSigVerify
verify_form other = None

-- an opcode with VERIFY: its form that does so, or VERIFY behind it
abbrev pub verified_op : Op → Option Op → List Instruction
verified_op last None = code last ∷ code op.Verify ∷ []
verified_op last (Some form) = code form ∷ []

-- a last instruction with VERIFY
abbrev pub verified_last : Instruction → List Instruction
verified_last (push bytes) = push bytes ∷ code op.Verify ∷ []
verified_last (code last) = verified_op last (verify_form last)

-- a Script with VERIFY at its end
abbrev pub verified : List Instruction → List Instruction
verified [] = code op.Verify ∷ []
verified (last ∷ []) = verified_last last
verified (first ∷ second ∷ rest) = first ∷ verified (second ∷ rest)
