-- What a replay comes to.
use Rattle.std.specs.Prelude.{◌≡◌, ℕ}
use Rattle.def_machine.specs.Stacks.{Pairs}
use Rattle.def_machine.specs.Run.{Outcome, accepted}
use Rattle.ms_interp.specs.declared.report.RunReport.{RunReport}
use Rattle.ms_witness.specs.Replaying.{Replayed, ran}

-- the outcome of a run is that it is accepted, with this report
abbrev pub IsReportOf : Outcome → RunReport → Type 0
IsReportOf outcome report = outcome ≡ accepted report.ops report.peak report.checks

-- the replay comes to a run, which is accepted
pub record IsAccepting (replayed : Replayed) : Type 0 where
  pub ops : ℕ
  pub peak : ℕ
  pub checks : Pairs
  pub is : replayed ≡ ran (accepted ops peak checks)
