use Rattle.std.proofs.Common.{IfSome, subst, sym}
use Rattle.std.proofs.lemmas.Bool.{both_ways}
use Rattle.ms_tree.specs.Shape.{shape}
use Rattle.ms_reading.specs.Candidates.{IsOnly}
use Rattle.ms_decode.proofs.Misfits.{tried_misfit}
use Rattle.ms_decode.proofs.decoding.decode.Goals as goal

pub returns-in-Err-Unfit-clause-none : goal.returns-in-Err-Unfit-clause-none
returns-in-Err-Unfit-clause-none c =
    let only = subst (λ o. IfSome o (λ tree. IsOnly c.args.keys.now c.args.script.now (shape tree))) c.in-Some.is c.in_ok-tree.ensures.only in
    λ e. only.none (tried_misfit c.args.script.now (shape c.in-Some.tree) c.in-Err-Unfit.field-0 c.in-Err-Unfit.ensures.unfit (λ memory. cc))

pub returns-then-branch-clause-some : goal.returns-then-branch-clause-some
returns-then-branch-clause-some c =
    let valid = c.in-Ok.valid in
    let found = subst (λ o. IfSome o (λ tree. IsOnly c.args.keys.now c.args.script.now (shape tree))) c.in-Some.is c.in_ok-tree.ensures.only in
    let only = subst (λ t. IsOnly c.args.keys.now c.args.script.now (shape t)) (sym c.in-Ok.ensures.tree) found in
    only.decoded (c.in-Ok.ensures.valid, (c.in_ok-is_script_of.ensures).0 c.if-branch.true)

pub returns-then-branch-clause-alike : goal.returns-then-branch-clause-alike
returns-then-branch-clause-alike c =
    let found = subst (λ o. IfSome o (λ tree. IsOnly c.args.keys.now c.args.script.now (shape tree))) c.in-Some.is c.in_ok-tree.ensures.only in
    let only = subst (λ t. IsOnly c.args.keys.now c.args.script.now (shape t)) (sym c.in-Ok.ensures.tree) found in
    only.alike (c.in-Ok.ensures.valid, (c.in_ok-is_script_of.ensures).0 c.if-branch.true)

pub returns-clause-none : goal.returns-clause-none
returns-clause-none c =
    let found = subst (λ o. IfSome o (λ tree. IsOnly c.args.keys.now c.args.script.now (shape tree))) c.in-Some.is c.in_ok-tree.ensures.only in
    let only = subst (λ t. IsOnly c.args.keys.now c.args.script.now (shape t)) (sym c.in-Ok.ensures.tree) found in
    λ e. only.none (λ s. both_ways c.in_ok-is_script_of.field-0 c.if-branch.false ((c.in_ok-is_script_of.ensures).1 s.1))
