use Rattle.std.proofs.Common.{◌≡◌, List, IfOk, sym, subst, append_assoc}
use Rattle.std.proofs.lemmas.Result.{IfOk-weaker}
use Rattle.std.specs.String.{string_bytes}
use Rattle.def_script.specs.Bytes.{Bytes}
use Rattle.def_choice.specs.Strict.{strict}
use Rattle.def_answer.specs.Gen.{strict_line}
use Rattle.def_answer.specs.Satisfy.{outcome_with}
use Rattle.ms_tree.specs.Shape.{shape}
use Rattle.ms_generator.proofs.GeneratorLemmas.{light, found, strict_sat}
use Rattle.ms_generator.proofs.generator.strict_line.Goals as goal

pub weight-weight-requires : goal.weight-weight-requires
weight-weight-requires c =
    light (shape c.args.sane.now.valid.tree) c.args.assets.now c.in-Some.stack c.args.sane.now.valid.in_range c.args.sane.now.valid.valid_by_consensus
    c.are_assets.ensures.held
    (strict_sat (shape c.args.sane.now.valid.tree) c.args.assets.now _ c.in-Some.stack c.args.sane.now.valid.in_range c.are_assets.ensures.held c.in_ok-stack.ensures.choice c.in-Some.is)

pub returns-clause-line : goal.returns-clause-line
returns-clause-line c =
    let chosen = found (strict (shape c.args.sane.now.valid.tree) c.args.assets.now) _ c.in-Some.stack c.in_ok-stack.ensures.choice c.in-Some.is in
    subst (λ (stack : List Bytes). IfOk c.format.result (λ line. string_bytes line ≡ strict_line stack (outcome_with (shape c.args.sane.now.valid.tree) c.args.assets.now stack)))
    (sym chosen)
    (IfOk-weaker c.format.result _ (λ line. string_bytes line ≡ strict_line c.in-Some.stack (outcome_with (shape c.args.sane.now.valid.tree) c.args.assets.now c.in-Some.stack))
    (λ s e. simp append_assoc (rw (c.len-items.ensures, c.weight-weight.ensures, c.in_ok-peak.ensures) at e)) c.format.ensures.ok)
