use Rattle.std.proofs.Common.{ℕ, List, sym, ◌∙◌, ap}
use Rattle.std.specs.List.{flat_map}
use Rattle.ms_calls.specs.TextReply.{told}
use Rattle.ms_calls.proofs.AskedLemmas.{asked_same}
use Rattle.ms_calls.proofs.planning.asked_of_plan.Goals as goal

pub returns-in-Ok : goal.returns-in-Ok
returns-in-Ok c =
    ap told (asked_same c.args.plan.now c.plan.inside.keys c.plan.inside.weight c.in-Ok.keys.items (sym c.plan.view_is)
    (c.in-Ok.ensures ∙ ap (λ (keys : List (List ℕ)). flat_map (λ (key : List ℕ). key) keys) c.as_slice.ensures))
