use Rattle.std.proofs.Common.{◌++◌, ◌∙◌, sym, ap, subst}
use Rattle.ms_chosen.specs.Scaffolding.Children.{children_of_keys, lengths_of_keys}
use Rattle.ms_chosen.specs.Scaffolding.Table.{IsFound}
use Rattle.ms_chosen.proofs.Pushed.{multi_pushed, on_ok}
use Rattle.ms_chosen.proofs.satisfy.push_multi.Goals as goal

pub returns-in_ok-push-in-Some : goal.returns-in_ok-push-in-Some
returns-in_ok-push-in-Some c =
    let assets = c.args.assets.now in
    let keys = c.args.keys.now in
    on_ok c.push_signatures.result _ _
    (λ pushed. λ k found.
    let choice = subst (IsFound (lengths_of_keys assets keys) (children_of_keys assets keys) k) c.in-Some.is found in
    multi_pushed assets k keys c.args.stack.now c.push_signatures.new.stack
    (λ v is. pushed v (sym choice.set ∙ is) ∙ ap (λ s. s ++ v) c.in_ok-push-in-Some.ensures.ok))
    c.push_signatures.ensures

pub returns-in-None : goal.returns-in-None
returns-in-None c = λ k found.
    let assets = c.args.assets.now in
    let keys = c.args.keys.now in
    let none = subst (IsFound (lengths_of_keys assets keys) (children_of_keys assets keys) k) c.in-None.is found in
    multi_pushed assets k keys c.args.stack.now c.args.stack.now (λ v is. absurd (let never : ⊥ = cc in never))
