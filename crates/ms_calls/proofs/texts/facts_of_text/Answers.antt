use Rattle.std.proofs.Common.{◌≡◌, sym, subst}
use Rattle.std.proofs.lemmas.Result.{err_from_is_err_and}
use Rattle.def_sane.specs.Unfit.{first_unfit_under, IsSaneUnder}
use Rattle.ms_tree.specs.Shape.{shape}
use Rattle.ms_calls.specs.Facts.{facts_of}
use Rattle.ms_calls.specs.TextReply.{told, unless_unfit}
use Rattle.ms_calls.proofs.FactLemmas.{known_facts}
use Rattle.ms_calls.proofs.TextLemmas.{finds_of_misfit}
use Rattle.ms_calls.proofs.texts.facts_of_text.Goals as goal

pub returns-in_err-sane : goal.returns-in_err-sane
returns-in_err-sane c =
    let p = err_from_is_err_and c.from_residual.result c.from_residual.ensures.1 in
    rw (p.1, p.2) (finds_of_misfit _ _ _ c.in_err-sane.field-0.0 c.in_err-sane.ensures.stop)

pub returns : goal.returns
returns c =
    let sane = c.in_ok-sane.sane in
    let offsets = c.args.text.now.offsets.items in
    subst (λ tree. unless_unfit (first_unfit_under c.args.rules (shape tree)) offsets (told (facts_of (shape tree))) ≡ told c.new.result)
    c.in_ok-sane.ensures.tree
    (known_facts c.args.rules (shape sane.valid.tree) sane.valid.ty sane.malleability_of sane.valid.limits c.height-height.result offsets c.new.result
    (subst (λ tree. IsSaneUnder c.args.rules (shape tree)) (sym c.in_ok-sane.ensures.tree) c.in_ok-sane.ensures.sane)
    sane.valid.typed sane.malleability_typed sane.valid.limited c.height-height.ensures.height c.new.ensures)
