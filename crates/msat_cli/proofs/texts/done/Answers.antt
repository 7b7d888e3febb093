use Rattle.std.proofs.Common.{Ok, refl, sym, subst}
use Rattle.std.specs.String.{string_bytes}
use Rattle.def_answer.specs.declared.status.Status.TheVariants as status
use Rattle.msat_cli.specs.Scaffolding.Steps.{AsDone}
use Rattle.msat_cli.proofs.texts.done.Goals as goal

pub returns-in-Ok : goal.returns-in-Ok
returns-in-Ok c =
    subst (λ report. AsDone string_bytes report (Ok (record { status = status.Done; report = c.in-Ok.report }))) (sym c.in-Ok.is)
    (record { status = status.Done; report = c.in-Ok.report }, refl, refl)
