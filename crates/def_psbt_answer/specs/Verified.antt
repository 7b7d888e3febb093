-- What `verify` prints of an input.
use Rattle.std.specs.Prelude.{◌++◌, List, [], codes, decimal, flat_map, if◌then◌else◌, Some}
use Rattle.def_script.specs.Bytes.{Bytes}
use Rattle.def_spend.specs.Input.{Spend}
use Rattle.def_spend.specs.Reading.{Input}
use Rattle.def_verify.specs.declared.Flaw.{Flaw}
use Rattle.def_verify.specs.declared.Flaw.TheVariants as flaw
use Rattle.def_verify.specs.Check.{judged_in}
use Rattle.def_verify.specs.Verdict.{Verdict, not_final, flawed, valid, verdict_of, is_unknown}
use Rattle.def_answer.specs.Lines.{line}
use Rattle.def_answer.specs.Run.{script_fault_name}
use Rattle.def_psbt_answer.specs.Names.{state_name}
use Rattle.def_psbt_answer.specs.Lines.{signature_line}

-- a flaw: a fault of a run with its place
abbrev pub flaw_text : Flaw → Bytes
flaw_text flaw.NoUtxo = codes "NoUtxo"
flaw_text flaw.WrongUtxo = codes "WrongUtxo"
flaw_text flaw.OtherOutput = codes "OtherOutput"
flaw_text flaw.ScriptSig = codes "ScriptSig"
flaw_text flaw.WrongScript = codes "WrongScript"
flaw_text flaw.ItemCount = codes "ItemCount"
flaw_text (flaw.Refused fault place) = script_fault_name fault ++ codes " at " ++ decimal place

abbrev pub flaw_word : Flaw → Bytes
flaw_word flaw = if is_unknown flaw then codes "unknown " else codes "invalid "

abbrev pub verdict_text : Verdict → Bytes
verdict_text (not_final state) = codes "open " ++ state_name state
verdict_text (flawed flaw) = flaw_word flaw ++ flaw_text flaw
verdict_text (valid script checks) = codes "valid"

-- a pair that passed: its key, the number of the signature's last byte, and the judgement for what that signs
abbrev pub passed_line : Spend → (script : Bytes) → Bytes × Bytes → Bytes
passed_line spend script pair = signature_line pair (Some (judged_in spend script pair.0 pair.1))

abbrev pub passed_lines : Spend → Verdict → Bytes
passed_lines spend (valid script checks) = flat_map (passed_line spend script) checks
passed_lines spend other = []

abbrev pub verdict_lines : Spend → Verdict → Bytes
verdict_lines spend verdict =
    line (codes "input " ++ decimal spend.number ++ codes " " ++ verdict_text verdict) ++ passed_lines spend verdict

abbrev pub input_verdict : Input → Bytes
input_verdict input = verdict_lines input.spend (verdict_of input)

unfoldable pub verify_report : List Input → Bytes
verify_report inputs = flat_map input_verdict inputs
