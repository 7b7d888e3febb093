use Rattle.std.proofs.Common.{◌∙◌, ◌++◌, sym, ap, subst}
use Rattle.def_assets.specs.Assets.{sig_of}
use Rattle.def_choice.specs.Least.{item}
use Rattle.ms_chosen.specs.Scaffolding.Pushed.{IsPushed}
use Rattle.ms_choice.specs.Marks.{takes}
use Rattle.ms_chosen.proofs.Pushed.{signed_at, signed_done}
use Rattle.ms_chosen.proofs.satisfy.push_signatures.Goals as goal
use Rattle.ms_chosen.proofs.satisfy.push_signatures.Goals.{then-is_taken+in_ok-push_signature, else-is_taken}

pub loop-place-preserved : goal.loop-place-preserved
loop-place-preserved c = λ whole is.
    let assets = c.args.assets.now in
    let keys = c.args.keys.now in
    let last = c.args.choice.now.last in
    let i = c.loop-place.place in
    let key = c.index-keys-place.result in
    let whole_stack = c.args.stack.now ++ whole in
    let taken = c.is_taken.ensures ∙ ap (λ costs. takes last i costs.sat costs.dsat) c.of_key.ensures.costs in
    let left = c.loop-place.invariant whole is in
    elim c.if-is_taken.branch [
      | then-is_taken+in_ok-push_signature w ↦
          signed_at last assets keys i key c.is_taken.result whole_stack c.loop-place.stack c.if-is_taken.stack c.loop-place-test.true c.index-keys-place.is left taken
          (λ yes. subst (λ s. IsPushed (item (sig_of assets key)) c.loop-place.stack s) (sym w.stack-is) w.in_ok-push_signature.ensures)
          (λ no. absurd (let yes = w.if-is_taken.true in let never : ⊥ = cc in never))
      | else-is_taken w ↦
          signed_at last assets keys i key c.is_taken.result whole_stack c.loop-place.stack c.if-is_taken.stack c.loop-place-test.true c.index-keys-place.is left taken
          (λ yes. absurd (let no = w.if-is_taken.false in let never : ⊥ = cc in never)) (λ no. w.stack-is)
    ]

pub returns : goal.returns
returns c = λ signatures is.
    signed_done c.args.choice.now.last c.args.assets.now c.args.keys.now c.loop-place.place (c.args.stack.now ++ signatures) c.loop-place.stack c.loop-place-test.false
    (c.loop-place.invariant signatures is)
