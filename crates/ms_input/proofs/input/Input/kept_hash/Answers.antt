use Rattle.std.proofs.Common.{◌≡◌, subst, ◌∙◌}
use Rattle.def_spend.specs.Reading.{script_code}
use Rattle.ms_input.specs.Seen.{Seen}
use Rattle.ms_input.specs.Scaffolding.Kept.{asked_by}
use Rattle.ms_input.proofs.JudgedBy.{asked_kept}
use Rattle.ms_input.proofs.input.Input.kept_hash.Goals as goal

pub returns-then-number-asked_type : goal.returns-then-number-asked_type
returns-then-number-asked_type c =
    let i = c.self.inside in
    let spend = c.args.self.now.spend in
    let asked = subst (λ (s : Seen). i.asked_hash ≡ asked_by i.verification (script_code s.spend) s.spend) c.self.view_is c.self.invariant.asked_is in
    asked_kept i.verification (script_code spend) spend i.asked_hash c.args.number asked (c.if-number-asked_type.true ∙ c.asked_type.ensures)
