use Rattle.std.proofs.Common.{◌≡◌, List, IfOk, sym, subst, append_assoc}
use Rattle.std.proofs.lemmas.Result.{IfOk-weaker}
use Rattle.std.specs.String.{string_bytes}
use Rattle.def_script.specs.Bytes.{Bytes}
use Rattle.def_choice.specs.Cheapest.{cheapest}
use Rattle.def_answer.specs.Gen.{cheapest_line}
use Rattle.ms_tree.specs.Shape.{shape}
use Rattle.ms_generator.proofs.GeneratorLemmas.{light, found}
use Rattle.ms_generator.proofs.generator.cheapest_line.Goals as goal

pub weight-weight-requires : goal.weight-weight-requires
weight-weight-requires c =
    light (shape c.args.valid.now.tree) c.args.assets.now c.in-Some.stack c.args.valid.now.in_range c.args.valid.now.valid_by_consensus c.are_assets.ensures.held
    (c.in_ok-stack.ensures.lightest.is c.in-Some.stack c.in-Some.is)

pub returns-clause-line : goal.returns-clause-line
returns-clause-line c =
    let chosen = found (cheapest (shape c.args.valid.now.tree) c.args.assets.now) _ c.in-Some.stack c.in_ok-stack.ensures.choice c.in-Some.is in
    subst (λ (stack : List Bytes). IfOk c.format.result (λ line. string_bytes line ≡ cheapest_line stack)) (sym chosen)
    (IfOk-weaker c.format.result _ (λ line. string_bytes line ≡ cheapest_line c.in-Some.stack)
    (λ s e. simp append_assoc (rw (c.len-items.ensures, c.weight-weight.ensures) at e)) c.format.ensures.ok)
