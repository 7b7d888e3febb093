use Rattle.ms_answer_laws.proofs.laws.sources.Goals as goal
use Rattle.ms_answer_laws.proofs.Early.{long_asset_file, long_run_file, long_plan_file, long_audit_file, long_trace_file, long_text_trace_file}
use Rattle.ms_answer_laws.proofs.Sources.{answer_without_source, status_without_source, status_with_source}

pub returns : goal.returns
returns c = record {
  without = answer_without_source;
  status_without = status_without_source;
  status_with = status_with_source;
  long_asset_file = long_asset_file;
  long_run_file = long_run_file;
  long_plan_file = long_plan_file;
  long_audit_file = long_audit_file;
  long_trace_file = long_trace_file;
  long_text_trace_file = long_text_trace_file;
}
