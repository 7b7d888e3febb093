-- What is run, and what is said of it, as contracts see it.
use Rattle.std.specs.Prelude.{◌-◌, List, length, map, take, Result, Ok, Err}
use Rattle.std.specs.Borrow.{Bor}
use Rattle.def_script.specs.Bytes.{Bytes}
use Rattle.def_verify.specs.declared.Flaw.{Flaw}
use Rattle.def_verify.specs.Final.{Execution}
use Rattle.def_verify.specs.Verdict.{Verdict as TheVerdict}
use Rattle.def_verify.specs.Verdict as the
use Rattle.ms_input.specs.declared.utxo.code.ScriptCode.{ScriptCode}
use Rattle.ms_input.specs.declared.utxo.code.ScriptCode.TheVariants as code
use Rattle.ms_input.specs.Spending.{code_seen}
use Rattle.ms_input.specs.declared.verify.verdict.Verdict.{Verdict}
use Rattle.ms_input.specs.declared.verify.verdict.Verdict.TheVariants as verdict

-- the items that lie in bytes
abbrev pub items_in : List (Bor Bytes) → List Bytes
items_in = map (λ item. item.now)

-- the items that are the stack
abbrev pub code_stack : ScriptCode → List Bytes → List Bytes
code_stack (code.Witness script) items = take (length items - 1) items
code_stack (code.KeyHash script) items = items

-- what is run, of these items of a final witness
abbrev pub execution_seen : Result ScriptCode Flaw → (items : List Bytes) → Result Execution Flaw
execution_seen (Ok code) items = Ok (code_seen code, code_stack code items)
execution_seen (Err flaw) items = Err flaw

abbrev pub verdict_seen : Verdict → TheVerdict
verdict_seen (verdict.Flawed flaw) = the.flawed flaw
verdict_seen (verdict.Valid code checks) = the.valid (code_seen code) checks
