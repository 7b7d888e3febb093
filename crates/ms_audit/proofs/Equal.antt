-- What `==` says of two steps.
use Rattle.std.proofs.Common.{◌≡◌, ℕ, ◌&&◌, Bool, nat_eq, ap, ◌∙◌, Decides}
use Rattle.std.proofs.Math.Bool.{beq}
use Rattle.std.specs.Cmp.{booleans_Decides}
use Rattle.std.proofs.lemmas.Bool.Decides.{Decides-and, Decides-eqb}
use Rattle.def_audit.specs.declared.Step.{Step}
use Rattle.def_audit.specs.contracts.StepPartialEq.TheImpl.{eq-value}

step : ℕ → Bool → Bool → Step
step node sat extra = record { node = node; sat = sat; extra = extra }

same_fields : (a b : Step) → (a.node ≡ b.node) × ((a.sat ≡ b.sat) × (a.extra ≡ b.extra)) → a ≡ b
unfolding step
same_fields a b e =
    ap (λ node. step node a.sat a.extra) e.0
    ∙ ap (λ sat. step b.node sat a.extra) e.1.0
    ∙ ap (λ extra. step b.node b.sat extra) e.1.1

pub step_decides : (a b : Step) → Decides (eq-value.it a b) (a ≡ b)
step_decides a b =
    let each =
    Decides-and (nat_eq a.node b.node) (beq a.sat b.sat && beq a.extra b.extra) (Decides-eqb a.node b.node)
    (Decides-and (beq a.sat b.sat) (beq a.extra b.extra) (booleans_Decides a.sat b.sat) (booleans_Decides a.extra b.extra))
    in (
      λ e. same_fields a b (each.0 e),
      λ e. each.1 (ap (λ (s : Step). s.node) e, (ap (λ (s : Step). s.sat) e, ap (λ (s : Step). s.extra) e)),
    )
