-- What a proof unfolds so that an answer that is written out computes.
use Rattle.std.specs.Prelude.{⊤}
use Rattle.std.specs.Fmt.{digits}
use Rattle.def_hash.specs.Hash.{hash256}
use Rattle.def_types.proofs.Rows.{correctness_rows, malleability_rows}
use Rattle.def_files.proofs.OnLiterals.{files_on_literals}
use Rattle.def_satisfaction.proofs.Computing.{computing}
use Rattle.def_limits.proofs.Greatest.{limits_exist}
use Rattle.def_sane.specs.TheLimits.{the_limits}
use Rattle.def_height.proofs.Found.{height_exists}
use Rattle.def_plan.specs.PlanFile.{plan_file_of}
use Rattle.def_policy.specs.LeastKeys.{least_keys}
use Rattle.def_answer.specs.TheHeight.{the_height}
use Rattle.def_answer.specs.Script.{script_report}
use Rattle.def_answer.specs.Asm.{asm_report}
use Rattle.def_answer.specs.Outline.{outline_report, unfit_report}
use Rattle.def_answer.specs.Check.{check_report}
use Rattle.def_answer.specs.Satisfy.{satisfy_report}
use Rattle.def_answer.specs.Run.{run_report}
use Rattle.def_answer.specs.Policy.{policy_report}
use Rattle.def_answer.specs.Plan.{plan_report}
use Rattle.def_answer.specs.Audit.{audit_report}
use Rattle.def_trace.proofs.Computing.{traces}
use Rattle.def_answer.specs.Trace.{trace_report}
use Rattle.def_answer.specs.Decode.{decode_report}
use Rattle.def_answer.specs.Answer.{gen_reply}
use Rattle.def_answer.specs.Gen.{gen_report}
use Rattle.ms_decode_laws.specs.Scaffolding.Reader.{natural_of, fits}
use Rattle.ms_answer_laws.proofs.Decided.{decided}
use Rattle.ms_answer_laws.proofs.Forms.{children_of}

unfoldable pub answers_on_literals : ⊤
unfolding script_report asm_report outline_report unfit_report check_report satisfy_report run_report policy_report plan_report audit_report trace_report
    traces plan_file_of decode_report decided natural_of fits the_limits limits_exist the_height height_exists least_keys gen_report
    gen_reply computing hash256 correctness_rows malleability_rows files_on_literals children_of digits
answers_on_literals = tt
