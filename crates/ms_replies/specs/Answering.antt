-- What the calls answer.
use Rattle.std.specs.Prelude.{◌≡◌, Result, IfOk}
use Rattle.std.specs.String.{string_bytes}
use Rattle.def_answer.specs.Reply.{Reply, reply}
use Rattle.ms_report.specs.declared.answer.Answer.{Answer}

-- this reply; only want of memory may come in its place
abbrev pub RepliesWith : {E : Type 0} → Result Answer E → Reply → Type 0
RepliesWith result r = IfOk result (λ answer. reply answer.status (string_bytes answer.report) ≡ r)
