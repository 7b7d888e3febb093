-- Which pairs of a key and a signature consensus takes (Bitcoin Core: `GenericTransactionSignatureChecker::CheckECDSASignature`).
use Rattle.std.specs.Prelude.{Bool, true, false}
use Rattle.def_script.specs.Bytes.{Bytes}
use Rattle.def_machine.specs.Stacks.{Checker}
use Rattle.def_curve.specs.declared.Judgement.{Judgement}
use Rattle.def_curve.specs.declared.Judgement.TheVariants.{Bad, High, Good}
use Rattle.def_curve.specs.Judgement.{judge}
use Rattle.def_spend.specs.Fields.{last_byte}
use Rattle.def_spend.specs.Input.{Spend}
use Rattle.def_verify.specs.ConsensusHash.{consensus_hash}

-- the judgement of a signature by a key, for what consensus has it sign
abbrev pub judged_in : Spend → (script : Bytes) → (key sig : Bytes) → Judgement
judged_in spend script key sig = judge key (consensus_hash (last_byte sig) spend script) sig

-- a high s is taken too: nodes don't relay it
abbrev pub is_taken : Judgement → Bool
is_taken Bad = false
is_taken High = true
is_taken Good = true

-- the pairs that are good in the run of this Script
abbrev pub consensus_check : Spend → (script : Bytes) → Checker
consensus_check spend script key sig = is_taken (judged_in spend script key sig)
